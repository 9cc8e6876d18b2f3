-- The types of the primitives.
use Rattle.std.specs.Prelude.{ℕ, List, [], ◌∷◌}
use Rattle.core_syntax.specs.declared.index.Sort.{Sort}
use Rattle.core_syntax.specs.declared.index.Sort.TheVariants as sort
use Rattle.core_syntax.specs.declared.ty.Base.{Base}
use Rattle.core_syntax.specs.declared.ty.Base.TheVariants as base
use Rattle.core_syntax.specs.declared.primitive.Primitive.{Primitive}
use Rattle.core_syntax.specs.declared.primitive.Primitive.TheVariants as p
use Rattle.core_syntax.specs.Syntax.{Index, Ty, BaseTy, TyVar, Fun, Forall, Pi, Sigma, Arr, no_span, ty_list}
use Rattle.core_syntax.specs.Nodes.{number, var, vector, joined_shape, total}

-- ---- types by their parts

-- an array type
abbrev pub array_of : Ty → Index → Ty
array_of t i = Arr no_span t i

-- scalars of a type
abbrev pub scalar : Ty → Ty
scalar t = array_of t (vector [])

-- a base type
abbrev pub base_ty : Base → Ty
base_ty b = BaseTy no_span b

-- integers
abbrev pub int_ty : Ty
int_ty = base_ty base.Int

-- truth values
abbrev pub bool_ty : Ty
bool_ty = base_ty base.Bool

-- characters
abbrev pub char_ty : Ty
char_ty = base_ty base.Char

-- a type variable
abbrev pub type_var : ℕ → Ty
type_var k = TyVar no_span k

-- a function type
abbrev pub function : List Ty → Ty → Ty
function ts r = Fun no_span (ty_list ts) r

-- a Forall, Pi or Sigma type of the scalar array of its body's type
abbrev pub for_all : ℕ → Ty → Ty
for_all n t = Forall no_span n (scalar t)

-- the same with index variables
abbrev pub pi : List Sort → Ty → Ty
pi ss t = Pi no_span ss (scalar t)

-- a Sigma type
abbrev pub sigma : List Sort → Ty → Ty
sigma ss t = Sigma no_span ss t

-- arrays of t with the leading dims ds in front of the shape s
abbrev pub with_dims : Ty → List Index → Index → Ty
with_dims t ds s = array_of t (joined_shape (vector ds ∷ s ∷ []))

-- functions of two base values
abbrev pub on_two : Base → Base → Ty
on_two a r = function (scalar (base_ty a) ∷ scalar (base_ty a) ∷ []) (scalar (base_ty r))

-- functions of one base value
abbrev pub on_one : Base → Base → Ty
on_one a r = function (scalar (base_ty a) ∷ []) (scalar (base_ty r))

-- the one type variable of a primitive, t
abbrev pub t : Ty
t = type_var 0

-- the type of a primitive with a type variable t, a Dim variable m and a Shape variable s, from t, m and s
abbrev pub over_m : (Index → Index → Ty) → Ty
over_m f = for_all 1 (pi (sort.Dim ∷ sort.Shape ∷ []) (f (var 1) (var 0)))

-- the same with two Dim variables m and n
abbrev pub over_m_n : (Index → Index → Index → Ty) → Ty
over_m_n f = for_all 1 (pi (sort.Dim ∷ sort.Dim ∷ sort.Shape ∷ []) (f (var 2) (var 1) (var 0)))

-- the type of fold: type variables t and u, indices d, s and r
abbrev pub fold_type : Ty → Ty → Index → Index → Index → Ty
fold_type a u d s r =
    function (scalar (function (array_of u r ∷ array_of a s ∷ []) (array_of u r)) ∷ array_of u r ∷ with_dims a (d ∷ []) s ∷ []) (array_of u r)

-- the type of each primitive
abbrev pub prim_type : Primitive → Ty
prim_type p.Add = on_two base.Int base.Int
prim_type p.Sub = on_two base.Int base.Int
prim_type p.Mul = on_two base.Int base.Int
prim_type p.Div = on_two base.Int base.Int
prim_type p.Mod = on_two base.Int base.Int
prim_type p.Min = on_two base.Int base.Int
prim_type p.Max = on_two base.Int base.Int
prim_type p.Equal = on_two base.Int base.Bool
prim_type p.Less = on_two base.Int base.Bool
prim_type p.AtMost = on_two base.Int base.Bool
prim_type p.CharEqual = on_two base.Char base.Bool
prim_type p.CharLess = on_two base.Char base.Bool
prim_type p.CharToInt = on_one base.Char base.Int
prim_type p.BoolToInt = on_one base.Bool base.Int
prim_type p.And = on_two base.Bool base.Bool
prim_type p.Or = on_two base.Bool base.Bool
prim_type p.Not = on_one base.Bool base.Bool
prim_type p.Select = for_all 1 (function (scalar bool_ty ∷ scalar t ∷ scalar t ∷ []) (scalar t))
prim_type p.Append =
    over_m_n (λ m n s. function (with_dims t (m ∷ []) s ∷ with_dims t (n ∷ []) s ∷ []) (with_dims t (total (m ∷ n ∷ []) ∷ []) s))
prim_type p.Reverse = over_m (λ m s. function (with_dims t (m ∷ []) s ∷ []) (with_dims t (m ∷ []) s))
prim_type p.Take = over_m_n (λ m n s. function (with_dims t (total (m ∷ n ∷ []) ∷ []) s ∷ []) (with_dims t (m ∷ []) s))
prim_type p.Drop = over_m_n (λ m n s. function (with_dims t (total (m ∷ n ∷ []) ∷ []) s ∷ []) (with_dims t (n ∷ []) s))
prim_type p.Transpose = over_m_n (λ m n s. function (with_dims t (m ∷ n ∷ []) s ∷ []) (with_dims t (n ∷ m ∷ []) s))
prim_type p.Replicate = over_m (λ m s. function (array_of t s ∷ []) (with_dims t (m ∷ []) s))
prim_type p.Length = over_m (λ m s. function (with_dims t (m ∷ []) s ∷ []) (scalar int_ty))
prim_type p.Positions = over_m (λ m s. function (with_dims t (m ∷ []) s ∷ []) (array_of int_ty (vector (m ∷ []))))
prim_type p.IndexOr = over_m (λ m s. function (with_dims t (m ∷ []) s ∷ scalar int_ty ∷ array_of t s ∷ []) (array_of t s))
prim_type p.Reduce =
    over_m (λ d s. function (scalar (function (array_of t s ∷ array_of t s ∷ []) (array_of t s)) ∷ with_dims t (total (number 1 ∷ d ∷ []) ∷ []) s ∷ []) (array_of t s))
prim_type p.Fold =
    for_all 2 (pi (sort.Dim ∷ sort.Shape ∷ sort.Shape ∷ []) (fold_type (type_var 1) (type_var 0) (var 2) (var 1) (var 0)))
prim_type p.Iota =
    pi (sort.Dim ∷ []) (function (array_of int_ty (vector (var 0 ∷ [])) ∷ []) (scalar (sigma (sort.Shape ∷ []) (array_of int_ty (var 0)))))
prim_type p.Reshape =
    for_all 1
    (pi (sort.Dim ∷ sort.Shape ∷ [])
    (function (array_of int_ty (vector (var 1 ∷ [])) ∷ array_of t (var 0) ∷ scalar t ∷ [])
    (scalar (sigma (sort.Shape ∷ []) (array_of t (var 0))))))
prim_type p.Ravel =
    for_all 1
    (pi (sort.Shape ∷ []) (function (array_of t (var 0) ∷ []) (scalar (sigma (sort.Dim ∷ []) (array_of t (vector (var 0 ∷ [])))))))
prim_type p.Filter =
    over_m
    (λ m s.
    function (array_of bool_ty (vector (m ∷ [])) ∷ with_dims t (m ∷ []) s ∷ [])
    (scalar (sigma (sort.Dim ∷ []) (with_dims t (var 0 ∷ []) (var 1)))))
