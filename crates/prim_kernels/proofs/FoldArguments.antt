-- The arguments of folds.
use Rattle.std.proofs.Common.{◌≡◌, ◌≢◌, refl, length, List, [], ◌∷◌}
use Rattle.core_syntax.specs.declared.primitive.Primitive.TheVariants as p
use Rattle.core_syntax.specs.Terms.{IndexValue}
use Rattle.core_syntax.specs.Arrays.{Arrayed}
use Rattle.core_syntax.specs.Answer.{AtomRules, Unfit}
use Rattle.core_syntax.specs.Delta.{delta}

module _ {A : Type 0} (R : AtomRules A) (is : List IndexValue) where
  -- `reduce` on another number of arrays than two, and `fold` on another number than three
  pub reduce_unfit : (xs : List (Arrayed A)) → length xs ≢ 2 → Unfit ≡ delta R p.Reduce is xs
  reduce_unfit [] n = refl
  reduce_unfit (a ∷ []) n = refl
  reduce_unfit (a ∷ b ∷ []) n = absurd (n refl)
  reduce_unfit (a ∷ b ∷ c ∷ xs) n = refl

  pub fold_unfit : (xs : List (Arrayed A)) → length xs ≢ 3 → Unfit ≡ delta R p.Fold is xs
  fold_unfit [] n = refl
  fold_unfit (a ∷ []) n = refl
  fold_unfit (a ∷ b ∷ []) n = refl
  fold_unfit (a ∷ b ∷ c ∷ []) n = absurd (n refl)
  fold_unfit (a ∷ b ∷ c ∷ d ∷ xs) n = refl
