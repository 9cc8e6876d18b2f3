-- Nodes that no source text has, by their parts.
use Rattle.std.specs.Prelude.{ℕ, List}
use Rattle.core_syntax.specs.Syntax.{Index, Num, Var, Sum, Dims, Join, no_span, index_list}

-- a number
abbrev pub number : ℕ → Index
number n = Num no_span n

-- a variable
abbrev pub var : ℕ → Index
var k = Var no_span k

-- `(+ i ..)`
abbrev pub total : List Index → Index
total is = Sum no_span (index_list is)

-- `(shape i ..)`
abbrev pub vector : List Index → Index
vector is = Dims no_span (index_list is)

-- `(++ i ..)`
abbrev pub joined_shape : List Index → Index
joined_shape is = Join no_span (index_list is)
