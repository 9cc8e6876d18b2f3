-- Rows of refusals, by computation.
use Rattle.std.proofs.Common.{◌≡◌, refl, [], ◌∷◌, Some, None, replicate}
use Rattle.core_syntax.specs.Nodes.{number, var, total}
use Rattle.core_syntax.specs.Norm.{norm_dim}
use Rattle.index_dims.specs.declared.refusal.DimRefusal.TheVariants.{TooLarge}
use Rattle.index_dims.specs.Refusal.{dim_refusal}

-- the largest number is no refusal, and one more is
largest : dim_refusal (norm_dim (number 1099511627776)) ≡ None
largest = refl

past_largest : dim_refusal (norm_dim (number 1099511627777)) ≡ Some (TooLarge 1099511627777)
past_largest = refl

-- numbers are added up first
sum_past_largest : dim_refusal (norm_dim (total (number 1099511627776 ∷ var 0 ∷ number 1 ∷ []))) ≡ Some (TooLarge 1099511627777)
sum_past_largest = refl

-- a number that no u64 holds is shown as the greatest u64
past_numbers : dim_refusal (norm_dim (total (replicate 3 (number 9223372036854775807)))) ≡ Some (TooLarge 18446744073709551615)
past_numbers = refl
