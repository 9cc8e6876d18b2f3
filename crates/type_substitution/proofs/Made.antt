-- Lists of trees that are made item by item from a list of trees.
use Rattle.std.proofs.Common.{◌≡◌, ◌∙◌, refl, sym, ap, ℕ, ◌+◌, ◌<◌, List, [], ◌∷◌, ◌++◌, length, take, get_or}
use Rattle.std.proofs.lemmas.List.{take_more}
use Rattle.core_syntax.specs.declared.index.Index.{Index as IndexTree}
use Rattle.core_syntax.specs.declared.ty.Ty.{Ty as Tree}
use Rattle.core_syntax.specs.Refine.{index_of, indices_of, ty_of, tys_of}
use Rattle.core_syntax.specs.declared.term.TermExpr.{TermExpr}
use Rattle.core_syntax.specs.declared.term.TermAtom.{TermAtom}
use Rattle.core_syntax.specs.Lists.{each}
use Rattle.core_syntax.specs.RefineTerms.{TypedCell, term_of, terms_of, cell_of, cells_of}
use Rattle.core_syntax.specs.Subst.{Fates, index_put, indices_put, ty_put, tys_put}
use Rattle.core_syntax.specs.Syntax.{Index, Indices, end, more, index_items, Ty, Tys, no_tys, more_tys, ty_items}
use Rattle.core_syntax.specs.Terms.{Terms, no_terms, more_terms, Cells, no_cells, more_cells}
use Rattle.core_syntax.specs.Typed.{typed, TypedTerm}

abbrev tys_then : Tys → Ty → Tys
tys_then no_tys u = more_tys u no_tys
tys_then (more_tys t ts) u = more_tys t (tys_then ts u)

then_tys : (xs : List Tree) (x : Tree) → tys_of (xs ++ x ∷ []) ≡ tys_then (tys_of xs) (ty_of x)
then_tys [] x = refl
then_tys (y ∷ xs) x = ap (more_tys (ty_of y)) (then_tys xs x)

-- a function on lists of types that takes each by itself
module _ (f : Ty → Ty) (all : Tys → Tys) (none : all no_tys ≡ no_tys) (some : (t : Ty) (ts : Tys) → all (more_tys t ts) ≡ more_tys (f t) (all ts)) where
  all_then : (ts : Tys) (u : Ty) → all (tys_then ts u) ≡ tys_then (all ts) (f u)
  all_then no_tys u = some u no_tys ∙ ap (more_tys (f u)) none ∙ ap (λ ts. tys_then ts (f u)) (sym none)
  all_then (more_tys t ts) u = some t (tys_then ts u) ∙ ap (more_tys (f t)) (all_then ts u) ∙ ap (λ us. tys_then us (f u)) (sym (some t ts))

  pub tys_made : (xs made new : List Tree) (k : ℕ) (x y : Tree) → k < length xs → x ≡ get_or xs k x → new ≡ made ++ y ∷ [] → ty_of y ≡ f (ty_of x) →
      tys_of made ≡ all (tys_of (take k xs)) → tys_of new ≡ all (tys_of (take (k + 1) xs))
  tys_made xs made new k x y lt is e one before =
      ap tys_of e ∙ then_tys made y ∙ (λ i. tys_then (before i) (one i)) ∙ sym (all_then (tys_of (take k xs)) (ty_of x))
      ∙ ap all (sym (then_tys (take k xs) x) ∙ ap tys_of (ap (λ z. take k xs ++ z ∷ []) is ∙ sym (take_more xs k x lt)))

abbrev indices_then : Indices → Index → Indices
indices_then end j = more j end
indices_then (more i is) j = more i (indices_then is j)

then_indices : (xs : List IndexTree) (x : IndexTree) → indices_of (xs ++ x ∷ []) ≡ indices_then (indices_of xs) (index_of x)
then_indices [] x = refl
then_indices (y ∷ xs) x = ap (more (index_of y)) (then_indices xs x)

-- and one on lists of indices
module _ (f : Index → Index) (all : Indices → Indices) (none : all end ≡ end) (some : (i : Index) (is : Indices) → all (more i is) ≡ more (f i) (all is)) where
  each_then : (is : Indices) (j : Index) → all (indices_then is j) ≡ indices_then (all is) (f j)
  each_then end j = some j end ∙ ap (more (f j)) none ∙ ap (λ is. indices_then is (f j)) (sym none)
  each_then (more i is) j = some i (indices_then is j) ∙ ap (more (f i)) (each_then is j) ∙ ap (λ js. indices_then js (f j)) (sym (some i is))

  pub indices_made : (xs made new : List IndexTree) (k : ℕ) (x y : IndexTree) → k < length xs → x ≡ get_or xs k x → new ≡ made ++ y ∷ [] → index_of y ≡ f (index_of x) →
      indices_of made ≡ all (indices_of (take k xs)) → indices_of new ≡ all (indices_of (take (k + 1) xs))
  indices_made xs made new k x y lt is e one before =
      ap indices_of e ∙ then_indices made y ∙ (λ i. indices_then (before i) (one i)) ∙ sym (each_then (indices_of (take k xs)) (index_of x))
      ∙ ap all (sym (then_indices (take k xs) x) ∙ ap indices_of (ap (λ z. take k xs ++ z ∷ []) is ∙ sym (take_more xs k x lt)))

abbrev pub terms_then : Terms typed → TypedTerm → Terms typed
terms_then no_terms u = more_terms u no_terms
terms_then (more_terms t ts) u = more_terms t (terms_then ts u)

pub then_terms : (xs : List TermExpr) (x : TermExpr) → terms_of (xs ++ x ∷ []) ≡ terms_then (terms_of xs) (term_of x)
then_terms [] x = refl
then_terms (y ∷ xs) x = ap (more_terms (term_of y)) (then_terms xs x)

-- one on lists of terms
module _ (f : TypedTerm → TypedTerm) (all : Terms typed → Terms typed) (none : all no_terms ≡ no_terms) (some : (t : TypedTerm) (ts : Terms typed) → all (more_terms t ts) ≡ more_terms (f t) (all ts)) where
  terms_all_then : (ts : Terms typed) (u : TypedTerm) → all (terms_then ts u) ≡ terms_then (all ts) (f u)
  terms_all_then no_terms u = some u no_terms ∙ ap (more_terms (f u)) none ∙ ap (λ ts. terms_then ts (f u)) (sym none)
  terms_all_then (more_terms t ts) u = some t (terms_then ts u) ∙ ap (more_terms (f t)) (terms_all_then ts u) ∙ ap (λ us. terms_then us (f u)) (sym (some t ts))

  pub terms_made : (xs made new : List TermExpr) (k : ℕ) (x y : TermExpr) → k < length xs → x ≡ get_or xs k x → new ≡ made ++ y ∷ [] → term_of y ≡ f (term_of x) →
      terms_of made ≡ all (terms_of (take k xs)) → terms_of new ≡ all (terms_of (take (k + 1) xs))
  terms_made xs made new k x y lt is e one before =
      ap terms_of e ∙ then_terms made y ∙ (λ i. terms_then (before i) (one i)) ∙ sym (terms_all_then (terms_of (take k xs)) (term_of x))
      ∙ ap all (sym (then_terms (take k xs) x) ∙ ap terms_of (ap (λ z. take k xs ++ z ∷ []) is ∙ sym (take_more xs k x lt)))

abbrev pub cells_then : Cells typed → TypedCell → Cells typed
cells_then no_cells a = more_cells a no_cells
cells_then (more_cells b xs) a = more_cells b (cells_then xs a)

pub then_cells : (xs : List TermAtom) (x : TermAtom) → cells_of (xs ++ x ∷ []) ≡ cells_then (cells_of xs) (cell_of x)
then_cells [] x = refl
then_cells (y ∷ xs) x = ap (more_cells (cell_of y)) (then_cells xs x)

-- and one on lists of atoms
module _ (f : TypedCell → TypedCell) (all : Cells typed → Cells typed) (none : all no_cells ≡ no_cells) (some : (a : TypedCell) (xs : Cells typed) → all (more_cells a xs) ≡ more_cells (f a) (all xs)) where
  cells_all_then : (xs : Cells typed) (a : TypedCell) → all (cells_then xs a) ≡ cells_then (all xs) (f a)
  cells_all_then no_cells a = some a no_cells ∙ ap (more_cells (f a)) none ∙ ap (λ xs. cells_then xs (f a)) (sym none)
  cells_all_then (more_cells b xs) a = some b (cells_then xs a) ∙ ap (more_cells (f b)) (cells_all_then xs a) ∙ ap (λ us. cells_then us (f a)) (sym (some b xs))

  pub cells_made : (xs made new : List TermAtom) (k : ℕ) (x y : TermAtom) → k < length xs → x ≡ get_or xs k x → new ≡ made ++ y ∷ [] → cell_of y ≡ f (cell_of x) →
      cells_of made ≡ all (cells_of (take k xs)) → cells_of new ≡ all (cells_of (take (k + 1) xs))
  cells_made xs made new k x y lt is e one before =
      ap cells_of e ∙ then_cells made y ∙ (λ i. cells_then (before i) (one i)) ∙ sym (cells_all_then (cells_of (take k xs)) (cell_of x))
      ∙ ap all (sym (then_cells (take k xs) x) ∙ ap cells_of (ap (λ z. take k xs ++ z ∷ []) is ∙ sym (take_more xs k x lt)))

-- ---- lists of trees as lists

indices_each : (xs : List IndexTree) → index_items (indices_of xs) ≡ each index_of xs
indices_each [] = refl
indices_each (x ∷ xs) = ap (λ is. index_of x ∷ is) (indices_each xs)

indices_put_each : (σ : Fates Index) (xs : List IndexTree) → index_items (indices_put σ (indices_of xs)) ≡ each (index_put σ) (each index_of xs)
indices_put_each σ [] = refl
indices_put_each σ (x ∷ xs) = ap (λ is. index_put σ (index_of x) ∷ is) (indices_put_each σ xs)

pub each_index_put : (σ : Fates Index) (xs ys : List IndexTree) → indices_of ys ≡ indices_put σ (indices_of xs) → each index_of ys ≡ each (index_put σ) (each index_of xs)
each_index_put σ xs ys e = sym (indices_each ys) ∙ ap index_items e ∙ indices_put_each σ xs

tys_each : (xs : List Tree) → ty_items (tys_of xs) ≡ each ty_of xs
tys_each [] = refl
tys_each (x ∷ xs) = ap (λ ts. ty_of x ∷ ts) (tys_each xs)

tys_put_each : (σ : Fates Index) (τ : Fates Ty) (xs : List Tree) → ty_items (tys_put σ τ (tys_of xs)) ≡ each (ty_put σ τ) (each ty_of xs)
tys_put_each σ τ [] = refl
tys_put_each σ τ (x ∷ xs) = ap (λ ts. ty_put σ τ (ty_of x) ∷ ts) (tys_put_each σ τ xs)

pub each_ty_put : (σ : Fates Index) (τ : Fates Ty) (xs ys : List Tree) → tys_of ys ≡ tys_put σ τ (tys_of xs) → each ty_of ys ≡ each (ty_put σ τ) (each ty_of xs)
each_ty_put σ τ xs ys e = sym (tys_each ys) ∙ ap ty_items e ∙ tys_put_each σ τ xs
