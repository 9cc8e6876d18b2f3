-- What a refusal of a part says of the whole.
use Rattle.std.proofs.Common.{◌≡◌, sym, ap, subst, ℕ, Result, Ok, Err}
use Rattle.std.specs.Prelude.{IsErrAnd}
use Rattle.core_syntax.specs.declared.span.Span.{Span}
use Rattle.name_resolve.specs.declared.errors.NameRefusal.{NameRefusal}
use Rattle.name_resolve.specs.declared.errors.NameRefusal.TheVariants.{Refused, Memory}
use Rattle.name_resolve.specs.Reading.{Read, mapped, with, both, three}
use Rattle.name_resolve.specs.Answers.{Refuses, Answers}

-- a refusal of the first of some parts is theirs, and one of what is read of a part
pub refuses-mapped : {A B : Type 0} (e : NameRefusal) (f : A → B) (r : Read A) → Refuses e r → Refuses e (mapped f r)
refuses-mapped (Refused n at) f r h = ap (mapped f) h
refuses-mapped Memory f r h = tt

pub refuses-with : {A B : Type 0} (e : NameRefusal) (r : Read A) (f : A → Read B) → Refuses e r → Refuses e (with r f)
refuses-with (Refused n at) r f h = ap (λ x. with x f) h
refuses-with Memory r f h = tt

pub refuses-both : {A B C : Type 0} (e : NameRefusal) (f : A → B → C) (r : Read A) (s : Read B) → Refuses e r → Refuses e (both f r s)
refuses-both (Refused n at) f r s h = ap (λ x. both f x s) h
refuses-both Memory f r s h = tt

pub refuses-three : {A B C D : Type 0} (e : NameRefusal) (f : A → B → C → D) (r : Read A) (s : Read B) (t : Read C) → Refuses e r → Refuses e (three f r s t)
refuses-three (Refused n at) f r s t h = ap (λ x. three f x s t) h
refuses-three Memory f r s t h = tt

-- an equal reading is refused and answered alike
pub same_refusal : {A : Type 0} (e : NameRefusal) (r s : Read A) → r ≡ s → Refuses e s → Refuses e r
same_refusal e r s p h = subst (Refuses e) (sym p) h

pub same_answer : {V A : Type 0} (view : V → A) (answer : Result V NameRefusal) (r s : Read A) → r ≡ s → Answers view answer s → Answers view answer r
same_answer view answer r s e h = subst (Answers view answer) (sym e) h

-- a refusal of this number at this place
pub is_refused : {A : Type 0} (e : NameRefusal) (n : ℕ) (at : Span) (r : Read A) → e ≡ Refused n at → r ≡ Err (n, at) → Refuses e r
is_refused e n at r p q = subst (λ e'. Refuses e' r) (sym p) q

-- want of memory refuses nothing
pub no_memory : {A : Type 0} (e : NameRefusal) (r : Read A) → e ≡ Memory → Refuses e r
no_memory e r p = subst (λ e'. Refuses e' r) (sym p) tt

-- the answer of a `?` carries the refusal on
pub carried : {V A : Type 0} (view : V → A) (answer : Result V NameRefusal) (e : NameRefusal) (r : Read A) → IsErrAnd answer (λ x. x ≡ e) → Refuses e r → Answers view answer r
carried view (Ok v) e r h k = absurd h
carried view (Err x) e r h k = subst (λ y. Refuses y r) (sym h) k
