-- The nested applications of folds.
use Rattle.std.proofs.Common.{◌≡◌, refl, sym, ◌∙◌, ap, ℕ, zero, suc, ◌+◌, ◌*◌, ◌≤◌, ◌<◌, arith, take, drop, List, [], ◌∷◌}
use Rattle.std.proofs.lemmas.List.{drop-drop}
use Rattle.core_syntax.specs.Arrays.{Arrayed}
use Rattle.core_syntax.specs.Lists.{product}
use Rattle.core_syntax.specs.Move.{Goes}
use Rattle.core_syntax.specs.RefineTerms.{TypedCell}
use Rattle.core_syntax.specs.Rules.{array_term_of, fold_from, fold_term, reduce_term}
use Rattle.core_syntax.specs.Syntax.{Ty, Index}
use Rattle.core_syntax.specs.Terms.{TApp, more_terms, no_terms, scalar_of}
use Rattle.core_syntax.specs.Typed.{atom_type, typed_rules, TypedTerm}
use Rattle.typed_prims.specs.Folds.{cells_of, item_terms}

-- the item at a place, before those behind it
items_from : (n : Ty) (count k : ℕ) (dims : List ℕ) (xs : List TypedCell) → k < count
    → drop k (item_terms n count dims xs) ≡ array_term_of typed_rules n dims (take (product dims) (drop (k * product dims) xs)) ∷ drop (k + 1) (item_terms n count dims xs)
items_from n zero k dims xs h = absurd (omega (arith, h))
items_from n (suc m) zero dims xs h =
    ap (λ j. array_term_of typed_rules n dims (take (product dims) (drop j xs)) ∷ item_terms n m dims (drop (product dims) xs)) (let e : 0 ≡ 0 * product dims = omega arith in e)
items_from n (suc m) (suc k) dims xs h =
    let size = product dims in
    let next : k + 1 ≡ suc k = omega arith in
    let more : suc (suc k) ≡ suc k + 1 = omega arith in
    let there : size + k * size ≡ suc k * size = omega arith in
    items_from n m k dims (drop size xs) (omega (arith, h))
    ∙ (λ i. array_term_of typed_rules n dims (take size ((drop-drop (k * size) size xs ∙ ap (λ j. drop j xs) there) i)) ∷ drop (next i) (item_terms n m dims (drop size xs)))
    ∙ ap (λ j. array_term_of typed_rules n dims (take size (drop (suc k * size) xs)) ∷ drop j (item_terms n (suc m) dims xs)) more

-- behind the last there is none
items_end : (n : Ty) (count k : ℕ) (dims : List ℕ) (xs : List TypedCell) → count ≤ k → drop k (item_terms n count dims xs) ≡ []
items_end n zero zero dims xs h = refl
items_end n zero (suc k) dims xs h = refl
items_end n (suc m) zero dims xs h = absurd (omega (arith, h))
items_end n (suc m) (suc k) dims xs h = items_end n m k dims (drop (product dims) xs) (omega (arith, h))

module _ (f : TypedCell) (cs : List Index) (r : Ty) where
  -- an application more
  pub nested_more : (n : Ty) (count k : ℕ) (dims : List ℕ) (xs : List TypedCell) (acc more whole : TypedTerm) → k < count
      → fold_term typed_rules f cs r acc (drop k (item_terms n count dims xs)) ≡ whole
      → more ≡ TApp (scalar_of f) (more_terms acc (more_terms (array_term_of typed_rules n dims (take (product dims) (drop (k * product dims) xs))) no_terms)) cs r
      → fold_term typed_rules f cs r more (drop (k + 1) (item_terms n count dims xs)) ≡ whole
  nested_more n count k dims xs acc more whole h before is =
      ap (λ t. fold_term typed_rules f cs r t (drop (k + 1) (item_terms n count dims xs))) is ∙ sym (ap (fold_term typed_rules f cs r acc) (items_from n count k dims xs h)) ∙ before

  -- all of them
  pub nested_end : (n : Ty) (count k : ℕ) (dims : List ℕ) (xs : List TypedCell) (acc whole : TypedTerm) → count ≤ k → fold_term typed_rules f cs r acc (drop k (item_terms n count dims xs)) ≡ whole → acc ≡ whole
  nested_end n count k dims xs acc whole h before = sym (ap (fold_term typed_rules f cs r acc) (items_end n count k dims xs h)) ∙ before

-- `reduce` with its type arguments and the shape of its cells
pub reduce_gives : (f : TypedCell) (us : List Ty) (s : Index) (count : ℕ) (dims : List ℕ) (xs : List TypedCell) (a : Ty) (cs : List Index) (t : TypedTerm) → 0 < count → a ≡ typed_rules.typed_result us 0 s → cs ≡ s ∷ s ∷ []
    → t ≡ array_term_of typed_rules (atom_type a) dims (take (product dims) (drop (0 * product dims) xs))
    → Goes (fold_term typed_rules f cs a t (drop 1 (item_terms (atom_type a) count dims xs))) ≡ reduce_term typed_rules f us s (cells_of count dims xs)
reduce_gives f us s zero dims xs a cs t h ea ec et = absurd (omega (arith, h))
reduce_gives f us s (suc m) dims xs a cs t h ea ec et =
    let start : 0 * product dims ≡ 0 = omega arith in
    let first : t ≡ array_term_of typed_rules (atom_type a) dims (take (product dims) xs) = et ∙ ap (λ j. array_term_of typed_rules (atom_type a) dims (take (product dims) (drop j xs))) start in
    (λ i. Goes (fold_term typed_rules f (ec i) a (first i) (item_terms (atom_type a) m dims (drop (product dims) xs))))
    ∙ ap (λ b. Goes (fold_term typed_rules f (s ∷ s ∷ []) b (array_term_of typed_rules (atom_type b) dims (take (product dims) xs)) (item_terms (atom_type b) m dims (drop (product dims) xs)))) ea

-- `fold` with its own
pub fold_gives : (f : TypedCell) (us : List Ty) (s z : Index) (count : ℕ) (dims : List ℕ) (xs : List TypedCell) (first : Arrayed TypedCell) (a b : Ty) (cs : List Index) (t : TypedTerm)
    → a ≡ typed_rules.typed_result us 1 z → b ≡ typed_rules.typed_result us 0 s → cs ≡ z ∷ s ∷ [] → t ≡ array_term_of typed_rules (atom_type a) first.dims first.atoms
    → Goes (fold_term typed_rules f cs a t (drop 0 (item_terms (atom_type b) count dims xs))) ≡ fold_from typed_rules f us s z first (cells_of count dims xs)
fold_gives f us s z count dims xs first a b cs t ea eb ec et =
    (λ i. Goes (fold_term typed_rules f (ec i) a (et i) (item_terms (atom_type (eb i)) count dims xs)))
    ∙ ap (λ c. Goes (fold_term typed_rules f (z ∷ s ∷ []) c (array_term_of typed_rules (atom_type c) first.dims first.atoms) (item_terms (atom_type (typed_rules.typed_result us 0 s)) count dims xs))) ea
