-- Which refusal a word is due.
use Rattle.std.specs.Prelude.{ℕ, ◌-◌, ◌^◌, min, nat_lt, List, [], ◌∷◌, Option, Some, None, if◌then◌else◌}
use Rattle.core_syntax.specs.declared.norm.Letter.{Letter}
use Rattle.core_syntax.specs.declared.norm.Letter.TheVariants.{Dim, Var}
use Rattle.core_syntax.specs.Limits.{largest_number, largest_size}
use Rattle.core_syntax.specs.Word.{word_size}
use Rattle.index_dims.specs.declared.refusal.DimRefusal.{DimRefusal}
use Rattle.index_dims.specs.declared.refusal.DimRefusal.TheVariants.{TooLarge, TooWide}

-- the first constant above the limit
abbrev pub large_number : List Letter → Option ℕ
large_number [] = None
large_number (Dim d ∷ ls) = if nat_lt largest_number d.constant then Some d.constant else large_number ls
large_number (Var k ∷ ls) = large_number ls

-- the first number that is too large, or else the size; a number past those of the program is shown as the greatest of them
abbrev pub refusal_of : Option ℕ → ℕ → Option DimRefusal
refusal_of (Some n) size = Some (TooLarge (min n (2 ^ 64 - 1)))
refusal_of None size = if nat_lt largest_size size then Some TooWide else None

-- the refusal of a word
abbrev pub word_refusal : List Letter → Option DimRefusal
word_refusal w = refusal_of (large_number w) (word_size w)
