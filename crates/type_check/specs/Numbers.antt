-- The numbers of refusals of indices.
use Rattle.std.specs.Prelude.{ℕ, Option, None, Some}
use Rattle.index_dims.specs.declared.refusal.DimRefusal.{DimRefusal}
use Rattle.index_dims.specs.declared.refusal.DimRefusal.TheVariants.{TooLarge, TooWide, Memory}

-- the number of the refusal that a measure of an index comes to; want of memory has none
abbrev pub dim_number : DimRefusal → Option ℕ
dim_number (TooLarge n) = Some 13
dim_number TooWide = Some 16
dim_number Memory = None
