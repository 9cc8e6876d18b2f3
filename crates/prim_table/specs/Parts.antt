-- The parts of a primitive's type: each input and each result is an array of base values or of a type variable.
use Rattle.std.specs.Prelude.{[], ◌∷◌}
use Rattle.core_syntax.specs.Syntax.{Index, Ty}
use Rattle.core_syntax.specs.Nodes.{number, var, vector, joined_shape, total}
use Rattle.core_syntax.specs.Prims.{array_of, base_ty, type_var}
use Rattle.prim_table.specs.declared.parts.Dim.{Dim}
use Rattle.prim_table.specs.declared.parts.Dim.TheVariants as dim
use Rattle.prim_table.specs.declared.parts.Shape.{Shape}
use Rattle.prim_table.specs.declared.parts.Shape.TheVariants as shape
use Rattle.prim_table.specs.declared.parts.Part.{Part}
use Rattle.prim_table.specs.declared.parts.Part.TheVariants as part

-- the index of a dim
abbrev pub dim_of : Dim → Index
dim_of (dim.Var k) = var k
dim_of (dim.Sum j k) = total (var j ∷ var k ∷ [])
dim_of (dim.OneAnd k) = total (number 1 ∷ var k ∷ [])

-- the index of a shape
abbrev pub shape_of : Shape → Index
shape_of shape.Scalar = vector []
shape_of (shape.Vector d) = vector (dim_of d ∷ [])
shape_of (shape.Cell s) = var s
shape_of (shape.Cells d s) = joined_shape (vector (dim_of d ∷ []) ∷ var s ∷ [])
shape_of (shape.Rows d e s) = joined_shape (vector (dim_of d ∷ dim_of e ∷ []) ∷ var s ∷ [])

-- the array type
abbrev pub part_of : Part → Ty
part_of (part.Base b s) = array_of (base_ty b) (shape_of s)
part_of (part.Var k s) = array_of (type_var k) (shape_of s)
