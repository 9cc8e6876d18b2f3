-- Lists of trees that are made item by item from a list of trees.
use Rattle.std.proofs.Common.{◌≡◌, ◌∙◌, refl, sym, ap, ℕ, ◌+◌, ◌<◌, List, [], ◌∷◌, ◌++◌, length, take, get_or}
use Rattle.std.proofs.lemmas.List.{take_more}
use Rattle.core_syntax.specs.declared.index.Index.{Index as IndexTree}
use Rattle.core_syntax.specs.declared.ty.Ty.{Ty as Tree}
use Rattle.core_syntax.specs.Refine.{index_of, indices_of, ty_of, tys_of}
use Rattle.core_syntax.specs.Syntax.{Index, Indices, end, more, Ty, Tys, no_tys, more_tys}

abbrev tys_then : Tys → Ty → Tys
tys_then no_tys u = more_tys u no_tys
tys_then (more_tys t ts) u = more_tys t (tys_then ts u)

then_tys : (xs : List Tree) (x : Tree) → tys_of (xs ++ x ∷ []) ≡ tys_then (tys_of xs) (ty_of x)
then_tys [] x = refl
then_tys (y ∷ xs) x = ap (more_tys (ty_of y)) (then_tys xs x)

-- a function on lists of types that takes each by itself
module _ (f : Ty → Ty) (all : Tys → Tys) (none : all no_tys ≡ no_tys) (some : (t : Ty) (ts : Tys) → all (more_tys t ts) ≡ more_tys (f t) (all ts)) where
  all_then : (ts : Tys) (u : Ty) → all (tys_then ts u) ≡ tys_then (all ts) (f u)
  all_then no_tys u = some u no_tys ∙ ap (more_tys (f u)) none ∙ ap (λ ts. tys_then ts (f u)) (sym none)
  all_then (more_tys t ts) u = some t (tys_then ts u) ∙ ap (more_tys (f t)) (all_then ts u) ∙ ap (λ us. tys_then us (f u)) (sym (some t ts))

  pub tys_made : (xs made new : List Tree) (k : ℕ) (x y : Tree) → k < length xs → x ≡ get_or xs k x → new ≡ made ++ y ∷ [] → ty_of y ≡ f (ty_of x) →
      tys_of made ≡ all (tys_of (take k xs)) → tys_of new ≡ all (tys_of (take (k + 1) xs))
  tys_made xs made new k x y lt is e one before =
      ap tys_of e ∙ then_tys made y ∙ (λ i. tys_then (before i) (one i)) ∙ sym (all_then (tys_of (take k xs)) (ty_of x))
      ∙ ap all (sym (then_tys (take k xs) x) ∙ ap tys_of (ap (λ z. take k xs ++ z ∷ []) is ∙ sym (take_more xs k x lt)))

abbrev indices_then : Indices → Index → Indices
indices_then end j = more j end
indices_then (more i is) j = more i (indices_then is j)

then_indices : (xs : List IndexTree) (x : IndexTree) → indices_of (xs ++ x ∷ []) ≡ indices_then (indices_of xs) (index_of x)
then_indices [] x = refl
then_indices (y ∷ xs) x = ap (more (index_of y)) (then_indices xs x)

-- and one on lists of indices
module _ (f : Index → Index) (all : Indices → Indices) (none : all end ≡ end) (some : (i : Index) (is : Indices) → all (more i is) ≡ more (f i) (all is)) where
  each_then : (is : Indices) (j : Index) → all (indices_then is j) ≡ indices_then (all is) (f j)
  each_then end j = some j end ∙ ap (more (f j)) none ∙ ap (λ is. indices_then is (f j)) (sym none)
  each_then (more i is) j = some i (indices_then is j) ∙ ap (more (f i)) (each_then is j) ∙ ap (λ js. indices_then js (f j)) (sym (some i is))

  pub indices_made : (xs made new : List IndexTree) (k : ℕ) (x y : IndexTree) → k < length xs → x ≡ get_or xs k x → new ≡ made ++ y ∷ [] → index_of y ≡ f (index_of x) →
      indices_of made ≡ all (indices_of (take k xs)) → indices_of new ≡ all (indices_of (take (k + 1) xs))
  indices_made xs made new k x y lt is e one before =
      ap indices_of e ∙ then_indices made y ∙ (λ i. indices_then (before i) (one i)) ∙ sym (each_then (indices_of (take k xs)) (index_of x))
      ∙ ap all (sym (then_indices (take k xs) x) ∙ ap indices_of (ap (λ z. take k xs ++ z ∷ []) is ∙ sym (take_more xs k x lt)))
