-- The names of the primitives.
use Rattle.std.specs.Prelude.{ℕ, List, [], ◌∷◌, codes, Option, Some, None, if◌then◌else◌}
use Rattle.std.specs.Str.{bytes_eq}
use Rattle.core_syntax.specs.declared.primitive.Primitive.{Primitive}
use Rattle.core_syntax.specs.declared.primitive.Primitive.TheVariants as prim

-- a name, and the primitive that it is of
pub record Named : Type 0 where
  pub name : List ℕ
  pub primitive : Primitive

abbrev pub is : List ℕ → Primitive → Named
is x p = record { name = x; primitive = p }

-- all primitives
abbrev pub table : List Named
table =
    is (codes "+") prim.Add ∷
    is (codes "-") prim.Sub ∷
    is (codes "*") prim.Mul ∷
    is (codes "div") prim.Div ∷
    is (codes "mod") prim.Mod ∷
    is (codes "min") prim.Min ∷
    is (codes "max") prim.Max ∷
    is (codes "=") prim.Equal ∷
    is (codes "<") prim.Less ∷
    is (codes "<=") prim.AtMost ∷
    is (codes "char=") prim.CharEqual ∷
    is (codes "char<") prim.CharLess ∷
    is (codes "char->int") prim.CharToInt ∷
    is (codes "bool->int") prim.BoolToInt ∷
    is (codes "and") prim.And ∷
    is (codes "or") prim.Or ∷
    is (codes "not") prim.Not ∷
    is (codes "select") prim.Select ∷
    is (codes "append") prim.Append ∷
    is (codes "reverse") prim.Reverse ∷
    is (codes "take") prim.Take ∷
    is (codes "drop") prim.Drop ∷
    is (codes "transpose") prim.Transpose ∷
    is (codes "replicate") prim.Replicate ∷
    is (codes "length") prim.Length ∷
    is (codes "positions") prim.Positions ∷
    is (codes "index-or") prim.IndexOr ∷
    is (codes "reduce") prim.Reduce ∷
    is (codes "fold") prim.Fold ∷
    is (codes "iota") prim.Iota ∷
    is (codes "reshape") prim.Reshape ∷
    is (codes "ravel") prim.Ravel ∷
    is (codes "filter") prim.Filter ∷
    []

-- the primitive of this name in a table
abbrev pub found : List ℕ → List Named → Option Primitive
found x [] = None
found x (row ∷ rows) = if bytes_eq x row.name then Some row.primitive else found x rows

-- the primitive of this name
abbrev pub named : List ℕ → Option Primitive
named x = found x table
