-- Items of a list that are changed one after another.
use Rattle.std.proofs.Common.{◌≡◌, ℕ, ◌+◌, ◌<◌, ◌≤◌, ap, sym, ◌∙◌, arith, List, [], ◌∷◌, ◌++◌, length, get_or, take, drop, set, drop-cons}
use Rattle.std.proofs.lemmas.List.{take_all, take_more, take_more_set, drop-set-lt}
use Rattle.core_syntax.specs.Lists.{each}
use Rattle.machine.proofs.Results.{each_append}
use Rattle.machine.proofs.Spread.{drop_drop}

module _ {A : Type 0} (f : A → A) (xs ys : List A) (i : ℕ) (as-long : length xs ≡ length ys) where
  -- the items that are left are those of the list
  module _ (d : A) (within : i < length ys) (same : drop i xs ≡ drop i ys) where
    pub same_item : get_or xs i d ≡ get_or ys i d
    same_item =
        let here : i < length xs = omega (arith, within, as-long) in
        ap (λ l. get_or l 0 d) (sym (drop-cons xs i d here) ∙ same ∙ drop-cons ys i d within)

    pub left_more : drop (i + 1) xs ≡ drop (i + 1) ys
    left_more = sym (drop_drop i 1 xs) ∙ ap (drop 1) same ∙ drop_drop i 1 ys

  -- one item more is changed
  pub change_more : (d y : A) → i < length ys → (take i xs ≡ each f (take i ys)) × (drop i xs ≡ drop i ys) → y ≡ f (get_or xs i d)
      → (take (i + 1) (set xs i y) ≡ each f (take (i + 1) ys)) × (drop (i + 1) (set xs i y) ≡ drop (i + 1) ys)
  change_more d y within so is =
      let here : i < length xs = omega (arith, within, as-long) in (
        take_more_set xs i y here ∙ (λ k. so.0 k ++ (is ∙ ap f (same_item d within so.1)) k ∷ []) ∙ sym (each_append f (take i ys) (get_or ys i d ∷ [])) ∙ ap (each f) (sym (take_more ys i d within)),
        drop-set-lt (i + 1) xs i y (omega arith) ∙ left_more d within so.1,
      )

  -- all are
  pub change_done : length ys ≤ i → take i xs ≡ each f (take i ys) → xs ≡ each f ys
  change_done le e = sym (take_all i xs (omega (arith, le, as-long))) ∙ e ∙ ap (each f) (take_all i ys le)
