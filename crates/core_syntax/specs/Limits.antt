-- The limits on normal forms.
use Rattle.std.specs.Prelude.{ℕ}
use Rattle.core_syntax.specs.declared.norm.TheConstants.{LARGEST_NUMBER, LARGEST_SIZE, LARGEST_DEPTH}

-- the largest constant
abbrev pub largest_number : ℕ
largest_number = LARGEST_NUMBER

-- the largest size
abbrev pub largest_size : ℕ
largest_size = LARGEST_SIZE

-- the largest depth of a type
abbrev pub largest_depth : ℕ
largest_depth = LARGEST_DEPTH
