-- What is written, and what is refused of it.
use Rattle.std.proofs.Common.{◌≡◌, sym, ap, ◌∙◌, subst, ℕ, List, [], Some, true, false, inl}
use Rattle.core_syntax.specs.declared.span.Span.{Span}
use Rattle.core_syntax.specs.declared.index.Sort.{Sort}
use Rattle.core_syntax.specs.declared.ty.Ty.{Ty as Tree}
use Rattle.core_syntax.specs.Syntax.{Ty, ty_at}
use Rattle.core_syntax.specs.Lists.{onto}
use Rattle.core_syntax.specs.Sorts.{refuse_unless, first_of_two}
use Rattle.core_syntax.specs.Kinds.{IsWellFormed, is_atom_kind, kind_blame, atom_kind_blame}
use Rattle.core_syntax.specs.NormTypes.{norm_ty, measure_ty}
use Rattle.core_syntax.specs.Refine.{ty_of}
use Rattle.core_syntax.specs.Typing.{Context}
use Rattle.core_syntax.specs.Blame.{measure, tested, written, written_atom, ◌then◌}
use Rattle.core_syntax.proofs.TyRows.{at_ty_form}
use Rattle.kind_check.proofs.FormedLemmas.{formed_to}
use Rattle.type_check.specs.declared.refusal.TypeRefusal.{TypeRefusal}
use Rattle.type_check.specs.declared.refusal.TypeRefusal.TheVariants.{Refused}
use Rattle.type_check.specs.Found.{Refuses}
use Rattle.type_check.specs.Written.{HasScope, Tells, IsNormalOf, IsNormalAtomOf}
use Rattle.type_check.proofs.exits.Refusing.{in_later}
use Rattle.std.specs.Prelude.{Result, Ok, Err}

-- what is formed in a scope is formed in a context of it
pub formed_in : (types : ℕ) (sorts : List Sort) (Γ : Context) → HasScope types sorts Γ → (t : Ty) → IsWellFormed types (onto sorts []) t → IsWellFormed Γ.types Γ.sorts t
formed_in types sorts Γ scope t h =
    subst (λ n. IsWellFormed n Γ.sorts t) (sym scope.types_are) (subst (λ ss. IsWellFormed types ss t) (sym scope.sorts_are) h)

-- a type that is blamed
pub ill_formed : (types : ℕ) (sorts : List Sort) (Γ : Context) → HasScope types sorts Γ → (t : Ty) (n : ℕ) (at : Span) → Some (n, at) ≡ kind_blame (onto sorts []) t → Refuses (written Γ t) (Refused n at)
ill_formed types sorts Γ scope t n at e = inl (ap (λ ss. kind_blame ss t) scope.sorts_are ∙ sym e)

-- a type that is formed, and then measured
pub formed : (types : ℕ) (sorts : List Sort) (Γ : Context) → HasScope types sorts Γ → (t : Tree) → IsWellFormed types (onto sorts []) (ty_of t) → (r : Result Tree TypeRefusal)
    → Tells (measure (measure_ty (ty_of t)) t.at) (λ n. ty_of n ≡ norm_ty (ty_of t)) r → Tells (written Γ (ty_of t)) (IsNormalOf Γ (ty_of t)) r
formed types sorts Γ scope t h (Ok n) told = ((formed_to Γ.types Γ.sorts (ty_of t) well, told.0), (well, told.1))
  where
    well : IsWellFormed Γ.types Γ.sorts (ty_of t)
    well = formed_in types sorts Γ scope (ty_of t) h
formed types sorts Γ scope t h (Err r) told =
    in_later (tested (kind_blame Γ.sorts (ty_of t))) (measure (measure_ty (ty_of t)) (ty_at (ty_of t))) r
    (formed_to Γ.types Γ.sorts (ty_of t) (formed_in types sorts Γ scope (ty_of t) h))
    (subst (λ at. Refuses (measure (measure_ty (ty_of t)) at) r) (sym (at_ty_form t.at t.form)) told)

-- an array type in an atom type's place
pub no_atom : (Γ : Context) (t : Ty) (at : Span) → is_atom_kind t ≡ false → at ≡ ty_at t → Refuses (written_atom Γ t) (Refused 15 at)
no_atom Γ t at e place = inl (subst (λ at. atom_kind_blame Γ.sorts t ≡ Some (15, at)) (sym place) (ap (λ b. first_of_two (refuse_unless b 15 (ty_at t)) (kind_blame Γ.sorts t)) e))

-- another type there is as it is written elsewhere
pub an_atom : (Γ : Context) (t : Ty) → is_atom_kind t ≡ true → (r : Result Tree TypeRefusal) → Tells (written Γ t) (IsNormalOf Γ t) r → Tells (written_atom Γ t) (IsNormalAtomOf Γ t) r
an_atom Γ t atom (Ok n) told = ((blame ∙ told.0.0, told.0.1), ((atom, told.1.0), told.1.1))
  where
    blame : atom_kind_blame Γ.sorts t ≡ kind_blame Γ.sorts t
    blame = ap (λ b. first_of_two (refuse_unless b 15 (ty_at t)) (kind_blame Γ.sorts t)) atom
an_atom Γ t atom (Err r) told =
    subst (λ o. Refuses (tested o then measure (measure_ty t) (ty_at t)) r) (sym (ap (λ b. first_of_two (refuse_unless b 15 (ty_at t)) (kind_blame Γ.sorts t)) atom)) told

-- the same scope by equal lists
pub rescoped : (types : ℕ) (sorts now : List Sort) (Γ : Context) → now ≡ sorts → HasScope types sorts Γ → HasScope types now Γ
rescoped types sorts now Γ e scope = subst (λ ss. HasScope types ss Γ) (sym e) scope
