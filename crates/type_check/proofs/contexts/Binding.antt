-- Contexts under binders: they stay alike and ready, and they are those of the state with the binders in it.
use Rattle.std.proofs.Common.{◌≡◌, refl, sym, ◌∙◌, ap, subst, ℕ, zero, suc, ◌+◌, ◌-◌, ◌<◌, ◌≤◌, ◌^◌, arith, List, [], ◌∷◌, ◌++◌, length, Some}
use Rattle.std.proofs.lemmas.List.{length-append}
use Rattle.std.specs.Prelude.{slice_get}
use Rattle.core_syntax.specs.declared.index.Sort.{Sort}
use Rattle.core_syntax.specs.declared.ty.Ty.{Ty as Tree}
use Rattle.core_syntax.specs.Syntax.{Ty}
use Rattle.core_syntax.specs.Lists.{onto, each, Each, EachTwo}
use Rattle.core_syntax.specs.Refine.{ty_of}
use Rattle.core_syntax.specs.Subst.{ty_under_index, ty_under_type}
use Rattle.core_syntax.specs.TypeEqual.{Same}
use Rattle.core_syntax.specs.Typing.{Context, times, under_types, under_sorts, under_terms}
use Rattle.type_check.specs.declared.state.Bound.{Bound}
use Rattle.type_check.specs.Contexts.{Like, IsSound, IsReady}
use Rattle.type_check.specs.State.{State, bound_at, further, seen, context_of, IsOlder, IsSteady}
use Rattle.type_check.proofs.substitution.PutSorted.{NumbersSorted, formed_renamed}
use Rattle.type_check.proofs.substitution.Renamed.{same_renamed, array_renamed, arrays_renamed, further_none, further_again, indices_further, types_further}

-- ---- lists

pub each_each : {A B : Type 0} (P : A → Type 0) (Q : B → Type 0) (f : A → B) → ((a : A) → P a → Q (f a)) → (xs : List A) → Each P xs → Each Q (each f xs)
each_each P Q f h [] p = tt
each_each P Q f h (x ∷ xs) p = (h x p.0, each_each P Q f h xs p.1)

pub two_each : {A : Type 0} (R : A → A → Type 0) (f : A → A) → ((a b : A) → R a b → R (f a) (f b)) → (xs ys : List A) → EachTwo R xs ys → EachTwo R (each f xs) (each f ys)
two_each R f h [] [] p = tt
two_each R f h [] (y ∷ ys) p = absurd p
two_each R f h (x ∷ xs) [] p = absurd p
two_each R f h (x ∷ xs) (y ∷ ys) p = (h x y p.0, two_each R f h xs ys p.1)

pub two_onto : {A : Type 0} (R : A → A → Type 0) (zs bs xs ys : List A) → EachTwo R zs bs → EachTwo R xs ys → EachTwo R (onto zs xs) (onto bs ys)
two_onto R [] [] xs ys h p = p
two_onto R [] (b ∷ bs) xs ys h p = absurd h
two_onto R (a ∷ zs) [] xs ys h p = absurd h
two_onto R (a ∷ zs) (b ∷ bs) xs ys h p = two_onto R zs bs (a ∷ xs) (b ∷ ys) h.1 (h.0, p)

pub each_onto : {A : Type 0} (P : A → Type 0) (zs xs : List A) → Each P zs → Each P xs → Each P (onto zs xs)
each_onto P [] xs h p = p
each_onto P (a ∷ zs) xs h p = each_onto P zs (a ∷ xs) h.1 (h.0, p)

pub onto_append : {A : Type 0} (zs bs xs : List A) → onto (zs ++ bs) xs ≡ onto bs (onto zs xs)
onto_append [] bs xs = refl
onto_append (a ∷ zs) bs xs = onto_append zs bs (a ∷ xs)

pub onto_length : {A : Type 0} (zs xs : List A) → length (onto zs xs) ≡ length zs + length xs
onto_length [] xs = let e : length xs ≡ 0 + length xs = omega arith in e
onto_length (a ∷ zs) xs = onto_length zs (a ∷ xs) ∙ (let e : length zs + suc (length xs) ≡ suc (length zs) + length xs = omega arith in e)

pub each_length : {A B : Type 0} (f : A → B) (xs : List A) → length (each f xs) ≡ length xs
each_length f [] = refl
each_length f (x ∷ xs) = ap suc (each_length f xs)

pub each_of_onto : {A B : Type 0} (f : A → B) (zs xs : List A) → each f (onto zs xs) ≡ onto (each f zs) (each f xs)
each_of_onto f [] xs = refl
each_of_onto f (a ∷ zs) xs = each_of_onto f zs (a ∷ xs)

-- ---- alike

pub like_types : (n : ℕ) (Γ N : Context) → Like Γ N → Like (under_types n Γ) (under_types n N)
like_types n Γ N h = record {
  types = ap (λ k. n + k) h.types;
  sorts = h.sorts;
  defs = h.defs;
  terms = two_each Same (times n ty_under_type) (under n) Γ.terms N.terms h.terms;
}
  where
    under : (n : ℕ) (t u : Ty) → Same t u → Same (times n ty_under_type t) (times n ty_under_type u)
    under zero t u s = s
    under (suc n) t u s = same_renamed (λ k. k) suc (times n ty_under_type t) (times n ty_under_type u) (under n t u s)

pub like_sorts : (ss : List Sort) (Γ N : Context) → Like Γ N → Like (under_sorts ss Γ) (under_sorts ss N)
like_sorts ss Γ N h = record {
  types = h.types;
  sorts = ap (onto ss) h.sorts;
  defs = h.defs;
  terms = two_each Same (times (length ss) ty_under_index) (under (length ss)) Γ.terms N.terms h.terms;
}
  where
    under : (n : ℕ) (t u : Ty) → Same t u → Same (times n ty_under_index t) (times n ty_under_index u)
    under zero t u s = s
    under (suc n) t u s = same_renamed suc (λ k. k) (times n ty_under_index t) (times n ty_under_index u) (under n t u s)

pub like_terms : (ts us : List Ty) (Γ N : Context) → EachTwo Same ts us → Like Γ N → Like (under_terms ts Γ) (under_terms us N)
like_terms ts us Γ N s h = record { types = h.types; sorts = h.sorts; defs = h.defs; terms = two_onto Same ts us Γ.terms N.terms s h.terms }

-- ---- ready

pub get_behind : {A : Type 0} (zs ys : List A) (k : ℕ) (a : A) → slice_get ys k ≡ Some a → slice_get (onto zs ys) (length zs + k) ≡ Some a
get_behind [] ys k a e = subst (λ m. slice_get ys m ≡ Some a) (let f : k ≡ 0 + k = omega arith in f) e
get_behind (z ∷ zs) ys k a e = subst (λ m. slice_get (onto zs (z ∷ ys)) m ≡ Some a) (let f : length zs + suc k ≡ suc (length zs) + k = omega arith in f) (get_behind zs (z ∷ ys) (suc k) a e)

-- a type under binders more is sound there
pub sound_further : (ss : List Sort) (n m : ℕ) (rs : List Sort) (t : Ty) → IsSound m rs t → IsSound (n + m) (onto ss rs) (further (length ss) n t)
sound_further ss n m rs t h = record {
  formed = formed_renamed (λ k. length ss + k) (λ k. n + k) m (n + m) rs (onto ss rs) (get_behind ss rs) (λ k lt. omega arith) t h.formed;
  top = array_renamed (λ k. length ss + k) (λ k. n + k) t h.top;
  inside = arrays_renamed (λ k. length ss + k) (λ k. n + k) t h.inside;
}

pub ready_types : (n : ℕ) (N : Context) → IsReady N → n + N.types < 2 ^ 31 → IsReady (under_types n N)
ready_types n N h few = record {
  defs = h.defs;
  terms = each_each (IsSound N.types N.sorts) (IsSound (n + N.types) N.sorts) (times n ty_under_type) (λ t s. subst (IsSound (n + N.types) N.sorts) (sym (types_further n t)) (sound_further [] n N.types N.sorts t s)) N.terms h.terms;
  types_few = few;
  sorts_few = h.sorts_few;
  terms_few = let e = each_length (times n ty_under_type) N.terms in let l = h.terms_few in omega (arith, e, l);
}

pub ready_sorts : (ss : List Sort) (N : Context) → IsReady N → length ss + length N.sorts < 2 ^ 31 → IsReady (under_sorts ss N)
ready_sorts ss N h few = record {
  defs = h.defs;
  terms = each_each (IsSound N.types N.sorts) (IsSound N.types (onto ss N.sorts)) (times (length ss) ty_under_index)
      (λ t s. subst (IsSound N.types (onto ss N.sorts)) (sym (indices_further (length ss) t)) (subst (λ m. IsSound m (onto ss N.sorts) (further (length ss) 0 t)) (let e : 0 + N.types ≡ N.types = omega arith in e) (sound_further ss 0 N.types N.sorts t s))) N.terms h.terms;
  types_few = h.types_few;
  sorts_few = let e = onto_length ss N.sorts in omega (arith, e);
  terms_few = let e = each_length (times (length ss) ty_under_index) N.terms in let l = h.terms_few in omega (arith, e, l);
}

pub ready_terms : (ts : List Ty) (N : Context) → IsReady N → Each (IsSound N.types N.sorts) ts → length ts + length N.terms < 2 ^ 31 → IsReady (under_terms ts N)
ready_terms ts N h s few = record {
  defs = h.defs;
  terms = each_onto (IsSound N.types N.sorts) ts N.terms s h.terms;
  types_few = h.types_few;
  sorts_few = h.sorts_few;
  terms_few = let e = onto_length ts N.terms in omega (arith, e);
}

-- ---- the context of a state with binders more

each_eq : {A B : Type 0} (P : A → Type 0) (f g : A → B) → ((a : A) → P a → f a ≡ g a) → (xs : List A) → Each P xs → each f xs ≡ each g xs
each_eq P f g h [] p = refl
each_eq P f g h (x ∷ xs) p = λ i. h x p.0 i ∷ each_eq P f g h xs p.1 i

each_again : {A B C : Type 0} (g : B → C) (f : A → B) (xs : List A) → each g (each f xs) ≡ each (λ x. g (f x)) xs
each_again g f [] = refl
each_again g f (x ∷ xs) = ap (λ ys. g (f x) ∷ ys) (each_again g f xs)

module _ (s : State) (older : Each (IsOlder s.types (length s.sorts)) s.terms) where
  older_onto : Each (IsOlder s.types (length s.sorts)) (onto s.terms [])
  older_onto = each_onto (IsOlder s.types (length s.sorts)) s.terms [] older tt

  pub context_types : (n : ℕ) → context_of (record s { types = n + s.types }) ≡ under_types n (context_of s)
  context_types n = λ i. record { defs = each ty_of s.defs; types = n + s.types; sorts = onto s.sorts []; terms = terms i }
    where
      at : (b : Bound) → IsOlder s.types (length s.sorts) b → seen (n + s.types) (length s.sorts) b ≡ times n ty_under_type (seen s.types (length s.sorts) b)
      at b o =
          let k = o.0 in
          let e : (n + s.types) - b.types ≡ n + (s.types - b.types) = omega (arith, k) in
          let f : length s.sorts - b.indices ≡ 0 + (length s.sorts - b.indices) = omega arith in
          (λ i. further (f i) (e i) (ty_of b.ty))
          ∙ sym (further_again (length s.sorts - b.indices) (s.types - b.types) 0 n (ty_of b.ty))
          ∙ sym (types_further n (seen s.types (length s.sorts) b))

      terms : each (seen (n + s.types) (length s.sorts)) (onto s.terms []) ≡ each (times n ty_under_type) (each (seen s.types (length s.sorts)) (onto s.terms []))
      terms = each_eq (IsOlder s.types (length s.sorts)) (seen (n + s.types) (length s.sorts)) (λ b. times n ty_under_type (seen s.types (length s.sorts) b)) at (onto s.terms []) older_onto
          ∙ sym (each_again (times n ty_under_type) (seen s.types (length s.sorts)) (onto s.terms []))

  pub context_sorts : (ss : List Sort) → context_of (record s { sorts = s.sorts ++ ss }) ≡ under_sorts ss (context_of s)
  context_sorts ss = λ i. record { defs = each ty_of s.defs; types = s.types; sorts = onto_append s.sorts ss [] i; terms = terms i }
    where
      at : (b : Bound) → IsOlder s.types (length s.sorts) b → seen s.types (length (s.sorts ++ ss)) b ≡ times (length ss) ty_under_index (seen s.types (length s.sorts) b)
      at b o =
          let k = o.1 in
          let l = length-append s.sorts ss in
          let e : length (s.sorts ++ ss) - b.indices ≡ length ss + (length s.sorts - b.indices) = omega (arith, k, l) in
          let f : s.types - b.types ≡ 0 + (s.types - b.types) = omega arith in
          (λ i. further (e i) (f i) (ty_of b.ty))
          ∙ sym (further_again (length s.sorts - b.indices) (s.types - b.types) (length ss) 0 (ty_of b.ty))
          ∙ sym (indices_further (length ss) (seen s.types (length s.sorts) b))

      terms : each (seen s.types (length (s.sorts ++ ss))) (onto s.terms []) ≡ each (times (length ss) ty_under_index) (each (seen s.types (length s.sorts)) (onto s.terms []))
      terms = each_eq (IsOlder s.types (length s.sorts)) (seen s.types (length (s.sorts ++ ss))) (λ b. times (length ss) ty_under_index (seen s.types (length s.sorts) b)) at (onto s.terms []) older_onto
          ∙ sym (each_again (times (length ss) ty_under_index) (seen s.types (length s.sorts)) (onto s.terms []))

seen_here : (s : State) (t : Tree) → seen s.types (length s.sorts) (bound_at s t) ≡ ty_of t
seen_here s t =
    let e : length s.sorts - length s.sorts ≡ 0 = omega arith in
    let f : s.types - s.types ≡ 0 = omega arith in
    (λ i. further (e i) (f i) (ty_of t)) ∙ further_none (ty_of t)

pub context_terms : (s : State) (ts : List Tree) → context_of (record s { terms = s.terms ++ each (bound_at s) ts }) ≡ under_terms (each ty_of ts) (context_of s)
context_terms s ts = λ i. record { defs = each ty_of s.defs; types = s.types; sorts = onto s.sorts []; terms = terms i }
  where
    here : (ts : List Tree) → each (seen s.types (length s.sorts)) (each (bound_at s) ts) ≡ each ty_of ts
    here [] = refl
    here (t ∷ ts) = λ i. seen_here s t i ∷ here ts i

    terms : each (seen s.types (length s.sorts)) (onto (s.terms ++ each (bound_at s) ts) []) ≡ onto (each ty_of ts) (each (seen s.types (length s.sorts)) (onto s.terms []))
    terms = ap (each (seen s.types (length s.sorts))) (onto_append s.terms (each (bound_at s) ts) [])
        ∙ each_of_onto (seen s.types (length s.sorts)) (each (bound_at s) ts) (onto s.terms [])
        ∙ ap (λ us. onto us (each (seen s.types (length s.sorts)) (onto s.terms []))) (here ts)
