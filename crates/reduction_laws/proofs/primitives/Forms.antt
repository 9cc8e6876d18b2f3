-- The forms of the primitives' types: which variables each has.
use Rattle.std.proofs.Common.{◌≡◌, refl, ℕ, List, true, false}
use Rattle.core_syntax.specs.declared.index.Sort.{Sort}
use Rattle.core_syntax.specs.declared.primitive.Primitive.{Primitive}
use Rattle.core_syntax.specs.declared.primitive.Primitive.TheVariants as p
use Rattle.core_syntax.specs.Syntax.{Ty, Fun, Forall, Pi, Tys, no_span}
use Rattle.core_syntax.specs.Prims.{prim_type, scalar}
use Rattle.core_syntax.specs.Rules.{has_types, has_indices}

-- a function, one behind types, one behind indices, or one behind both; each body is a scalar array
pub data PrimForm (q : Primitive) : Type 0 where
  plain : (us : Tys) (r : Ty) → prim_type q ≡ Fun no_span us r → has_types q ≡ false → has_indices q ≡ false → PrimForm q
  of_types : (n : ℕ) (us : Tys) (r : Ty) → prim_type q ≡ Forall no_span n (scalar (Fun no_span us r)) → has_types q ≡ true → has_indices q ≡ false → PrimForm q
  of_indices : (ss : List Sort) (us : Tys) (r : Ty) → prim_type q ≡ Pi no_span ss (scalar (Fun no_span us r)) → has_types q ≡ false → has_indices q ≡ true → PrimForm q
  of_both : (n : ℕ) (ss : List Sort) (us : Tys) (r : Ty) → prim_type q ≡ Forall no_span n (scalar (Pi no_span ss (scalar (Fun no_span us r)))) → has_types q ≡ true → has_indices q ≡ true → PrimForm q

pub prim_form : (q : Primitive) → PrimForm q
prim_form p.Add = plain _ _ refl refl refl
prim_form p.Sub = plain _ _ refl refl refl
prim_form p.Mul = plain _ _ refl refl refl
prim_form p.Div = plain _ _ refl refl refl
prim_form p.Mod = plain _ _ refl refl refl
prim_form p.Min = plain _ _ refl refl refl
prim_form p.Max = plain _ _ refl refl refl
prim_form p.Equal = plain _ _ refl refl refl
prim_form p.Less = plain _ _ refl refl refl
prim_form p.AtMost = plain _ _ refl refl refl
prim_form p.CharEqual = plain _ _ refl refl refl
prim_form p.CharLess = plain _ _ refl refl refl
prim_form p.CharToInt = plain _ _ refl refl refl
prim_form p.BoolToInt = plain _ _ refl refl refl
prim_form p.And = plain _ _ refl refl refl
prim_form p.Or = plain _ _ refl refl refl
prim_form p.Not = plain _ _ refl refl refl
prim_form p.Select = of_types _ _ _ refl refl refl
prim_form p.Iota = of_indices _ _ _ refl refl refl
prim_form p.Append = of_both _ _ _ _ refl refl refl
prim_form p.Reverse = of_both _ _ _ _ refl refl refl
prim_form p.Take = of_both _ _ _ _ refl refl refl
prim_form p.Drop = of_both _ _ _ _ refl refl refl
prim_form p.Transpose = of_both _ _ _ _ refl refl refl
prim_form p.Replicate = of_both _ _ _ _ refl refl refl
prim_form p.Length = of_both _ _ _ _ refl refl refl
prim_form p.Positions = of_both _ _ _ _ refl refl refl
prim_form p.IndexOr = of_both _ _ _ _ refl refl refl
prim_form p.Reduce = of_both _ _ _ _ refl refl refl
prim_form p.Fold = of_both _ _ _ _ refl refl refl
prim_form p.Reshape = of_both _ _ _ _ refl refl refl
prim_form p.Ravel = of_both _ _ _ _ refl refl refl
prim_form p.Filter = of_both _ _ _ _ refl refl refl
