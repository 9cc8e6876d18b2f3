-- The types of the primitives are well formed atom types with array types in their places, and within the limits.
use Rattle.std.proofs.Common.{◌≡◌, refl, ℕ, ◌+◌, ◌<◌, true, List, Some, None, arith}
use Rattle.std.specs.Prelude.{⊤}
use Rattle.core_syntax.specs.declared.index.Sort.{Sort}
use Rattle.core_syntax.specs.declared.index.Sort.TheVariants as sort
use Rattle.core_syntax.specs.declared.primitive.Primitive.{Primitive}
use Rattle.core_syntax.specs.declared.primitive.Primitive.TheVariants as p
use Rattle.core_syntax.specs.Kinds.{IsWellFormed, is_atom_kind}
use Rattle.core_syntax.specs.Made.{HoldsArrays}
use Rattle.core_syntax.specs.NormTypes.{measure_ty}
use Rattle.core_syntax.specs.Prims.{prim_type}

-- an array of an atom type
abbrev Arrayed : Type 0 → Type 0 → Type 0
Arrayed S P = (true ≡ true) × S × P

-- a list of dims
abbrev Listed : Type 0 → Type 0
Listed D = (sort.Shape ≡ sort.Shape) × D

-- a variable of sort Shape
abbrev Shaped : Type 0
Shaped = Some sort.Shape ≡ Some sort.Shape

-- a scalar array is well formed where its atoms are
one : {P : Type 0} → P → Arrayed (Listed ⊤) P
one h = (refl, (refl, tt), h)

-- so is one of one dimension
line : {D P : Type 0} → D → P → Arrayed (Listed (D × ⊤)) P
line d h = (refl, (refl, (d, tt)), h)

-- one of a shape variable
cell : {P : Type 0} → P → Arrayed Shaped P
cell h = (refl, refl, h)

-- and one of one or two dimensions in front of a shape variable
cells : {D P : Type 0} → D → P → Arrayed (Listed (Listed (D × ⊤) × (Shaped × ⊤))) P
cells d h = (refl, (refl, ((refl, (d, tt)), (refl, tt))), h)

rows : {D E P : Type 0} → D → E → P → Arrayed (Listed (Listed (D × (E × ⊤)) × (Shaped × ⊤))) P
rows d e h = (refl, (refl, ((refl, (d, (e, tt))), (refl, tt))), h)

-- the sum of two dims
abbrev both : (sort.Dim ≡ sort.Dim) × ((Some sort.Dim ≡ Some sort.Dim) × ((Some sort.Dim ≡ Some sort.Dim) × ⊤))
both = (refl, (refl, (refl, tt)))

-- one more than a dim
abbrev one_and : (sort.Dim ≡ sort.Dim) × ((sort.Dim ≡ sort.Dim) × ((Some sort.Dim ≡ Some sort.Dim) × ⊤))
one_and = (refl, (refl, (refl, tt)))

-- the first of one, and the first and the second of two type variables
t_in : (n : ℕ) → 0 < 1 + n
t_in n = omega arith

u_in : (n : ℕ) → 0 < 2 + n
u_in n = omega arith

t_of_two_in : (n : ℕ) → 1 < 2 + n
t_of_two_in n = omega arith

pub prim_formed : (types : ℕ) (sorts : List Sort) (prim : Primitive) → IsWellFormed types sorts (prim_type prim)
prim_formed n sorts p.Add = ((one tt, (one tt, tt)), one tt)
prim_formed n sorts p.Sub = ((one tt, (one tt, tt)), one tt)
prim_formed n sorts p.Mul = ((one tt, (one tt, tt)), one tt)
prim_formed n sorts p.Div = ((one tt, (one tt, tt)), one tt)
prim_formed n sorts p.Mod = ((one tt, (one tt, tt)), one tt)
prim_formed n sorts p.Min = ((one tt, (one tt, tt)), one tt)
prim_formed n sorts p.Max = ((one tt, (one tt, tt)), one tt)
prim_formed n sorts p.Equal = ((one tt, (one tt, tt)), one tt)
prim_formed n sorts p.Less = ((one tt, (one tt, tt)), one tt)
prim_formed n sorts p.AtMost = ((one tt, (one tt, tt)), one tt)
prim_formed n sorts p.CharEqual = ((one tt, (one tt, tt)), one tt)
prim_formed n sorts p.CharLess = ((one tt, (one tt, tt)), one tt)
prim_formed n sorts p.CharToInt = ((one tt, tt), one tt)
prim_formed n sorts p.BoolToInt = ((one tt, tt), one tt)
prim_formed n sorts p.And = ((one tt, (one tt, tt)), one tt)
prim_formed n sorts p.Or = ((one tt, (one tt, tt)), one tt)
prim_formed n sorts p.Not = ((one tt, tt), one tt)
prim_formed n sorts p.Select = one ((one tt, (one (t_in n), (one (t_in n), tt))), one (t_in n))
prim_formed n sorts p.Append = one (one ((cells refl (t_in n), (cells refl (t_in n), tt)), cells both (t_in n)))
prim_formed n sorts p.Reverse = one (one ((cells refl (t_in n), tt), cells refl (t_in n)))
prim_formed n sorts p.Take = one (one ((cells both (t_in n), tt), cells refl (t_in n)))
prim_formed n sorts p.Drop = one (one ((cells both (t_in n), tt), cells refl (t_in n)))
prim_formed n sorts p.Transpose = one (one ((rows refl refl (t_in n), tt), rows refl refl (t_in n)))
prim_formed n sorts p.Replicate = one (one ((cell (t_in n), tt), cells refl (t_in n)))
prim_formed n sorts p.Length = one (one ((cells refl (t_in n), tt), one tt))
prim_formed n sorts p.Positions = one (one ((cells refl (t_in n), tt), line refl tt))
prim_formed n sorts p.IndexOr = one (one ((cells refl (t_in n), (one tt, (cell (t_in n), tt))), cell (t_in n)))
prim_formed n sorts p.Reduce = one (one ((one ((cell (t_in n), (cell (t_in n), tt)), cell (t_in n)), (cells one_and (t_in n), tt)), cell (t_in n)))
prim_formed n sorts p.Fold = one (one ((one ((cell (u_in n), (cell (t_of_two_in n), tt)), cell (u_in n)), (cell (u_in n), (cells refl (t_of_two_in n), tt))), cell (u_in n)))
prim_formed n sorts p.Iota = one ((line refl tt, tt), one (cell tt))
prim_formed n sorts p.Reshape = one (one ((line refl tt, (cell (t_in n), (one (t_in n), tt))), one (cell (t_in n))))
prim_formed n sorts p.Ravel = one (one ((cell (t_in n), tt), one (line refl (t_in n))))
prim_formed n sorts p.Filter = one (one ((line refl tt, (cells refl (t_in n), tt)), one (cells refl (t_in n))))

pub prim_atom : (prim : Primitive) → is_atom_kind (prim_type prim) ≡ true
prim_atom p.Add = refl
prim_atom p.Sub = refl
prim_atom p.Mul = refl
prim_atom p.Div = refl
prim_atom p.Mod = refl
prim_atom p.Min = refl
prim_atom p.Max = refl
prim_atom p.Equal = refl
prim_atom p.Less = refl
prim_atom p.AtMost = refl
prim_atom p.CharEqual = refl
prim_atom p.CharLess = refl
prim_atom p.CharToInt = refl
prim_atom p.BoolToInt = refl
prim_atom p.And = refl
prim_atom p.Or = refl
prim_atom p.Not = refl
prim_atom p.Select = refl
prim_atom p.Append = refl
prim_atom p.Reverse = refl
prim_atom p.Take = refl
prim_atom p.Drop = refl
prim_atom p.Transpose = refl
prim_atom p.Replicate = refl
prim_atom p.Length = refl
prim_atom p.Positions = refl
prim_atom p.IndexOr = refl
prim_atom p.Reduce = refl
prim_atom p.Fold = refl
prim_atom p.Iota = refl
prim_atom p.Reshape = refl
prim_atom p.Ravel = refl
prim_atom p.Filter = refl

pub prim_arrays : (prim : Primitive) → HoldsArrays (prim_type prim)
prim_arrays p.Add = (((refl, tt), ((refl, tt), tt)), refl, tt)
prim_arrays p.Sub = (((refl, tt), ((refl, tt), tt)), refl, tt)
prim_arrays p.Mul = (((refl, tt), ((refl, tt), tt)), refl, tt)
prim_arrays p.Div = (((refl, tt), ((refl, tt), tt)), refl, tt)
prim_arrays p.Mod = (((refl, tt), ((refl, tt), tt)), refl, tt)
prim_arrays p.Min = (((refl, tt), ((refl, tt), tt)), refl, tt)
prim_arrays p.Max = (((refl, tt), ((refl, tt), tt)), refl, tt)
prim_arrays p.Equal = (((refl, tt), ((refl, tt), tt)), refl, tt)
prim_arrays p.Less = (((refl, tt), ((refl, tt), tt)), refl, tt)
prim_arrays p.AtMost = (((refl, tt), ((refl, tt), tt)), refl, tt)
prim_arrays p.CharEqual = (((refl, tt), ((refl, tt), tt)), refl, tt)
prim_arrays p.CharLess = (((refl, tt), ((refl, tt), tt)), refl, tt)
prim_arrays p.CharToInt = (((refl, tt), tt), refl, tt)
prim_arrays p.BoolToInt = (((refl, tt), tt), refl, tt)
prim_arrays p.And = (((refl, tt), ((refl, tt), tt)), refl, tt)
prim_arrays p.Or = (((refl, tt), ((refl, tt), tt)), refl, tt)
prim_arrays p.Not = (((refl, tt), tt), refl, tt)
prim_arrays p.Select = (refl, (((refl, tt), ((refl, tt), ((refl, tt), tt))), refl, tt))
prim_arrays p.Append = (refl, (refl, (((refl, tt), ((refl, tt), tt)), refl, tt)))
prim_arrays p.Reverse = (refl, (refl, (((refl, tt), tt), refl, tt)))
prim_arrays p.Take = (refl, (refl, (((refl, tt), tt), refl, tt)))
prim_arrays p.Drop = (refl, (refl, (((refl, tt), tt), refl, tt)))
prim_arrays p.Transpose = (refl, (refl, (((refl, tt), tt), refl, tt)))
prim_arrays p.Replicate = (refl, (refl, (((refl, tt), tt), refl, tt)))
prim_arrays p.Length = (refl, (refl, (((refl, tt), tt), refl, tt)))
prim_arrays p.Positions = (refl, (refl, (((refl, tt), tt), refl, tt)))
prim_arrays p.IndexOr = (refl, (refl, (((refl, tt), ((refl, tt), ((refl, tt), tt))), refl, tt)))
prim_arrays p.Reduce = (refl, (refl, (((refl, (((refl, tt), ((refl, tt), tt)), refl, tt)), ((refl, tt), tt)), refl, tt)))
prim_arrays p.Fold = (refl, (refl, (((refl, (((refl, tt), ((refl, tt), tt)), refl, tt)), ((refl, tt), ((refl, tt), tt))), refl, tt)))
prim_arrays p.Iota = (refl, (((refl, tt), tt), refl, (refl, tt)))
prim_arrays p.Reshape = (refl, (refl, (((refl, tt), ((refl, tt), ((refl, tt), tt))), refl, (refl, tt))))
prim_arrays p.Ravel = (refl, (refl, (((refl, tt), tt), refl, (refl, tt))))
prim_arrays p.Filter = (refl, (refl, (((refl, tt), ((refl, tt), tt)), refl, (refl, tt))))

pub prim_measured : (prim : Primitive) → measure_ty (prim_type prim) ≡ None
prim_measured p.Add = refl
prim_measured p.Sub = refl
prim_measured p.Mul = refl
prim_measured p.Div = refl
prim_measured p.Mod = refl
prim_measured p.Min = refl
prim_measured p.Max = refl
prim_measured p.Equal = refl
prim_measured p.Less = refl
prim_measured p.AtMost = refl
prim_measured p.CharEqual = refl
prim_measured p.CharLess = refl
prim_measured p.CharToInt = refl
prim_measured p.BoolToInt = refl
prim_measured p.And = refl
prim_measured p.Or = refl
prim_measured p.Not = refl
prim_measured p.Select = refl
prim_measured p.Append = refl
prim_measured p.Reverse = refl
prim_measured p.Take = refl
prim_measured p.Drop = refl
prim_measured p.Transpose = refl
prim_measured p.Replicate = refl
prim_measured p.Length = refl
prim_measured p.Positions = refl
prim_measured p.IndexOr = refl
prim_measured p.Reduce = refl
prim_measured p.Fold = refl
prim_measured p.Iota = refl
prim_measured p.Reshape = refl
prim_measured p.Ravel = refl
prim_measured p.Filter = refl
