-- Names of primitives, read and spelled.
use Rattle.std.proofs.Common.{◌≡◌, ℕ, zero, suc, ◌-◌, arith, true, false, List, [], ◌∷◌, ◌++◌, map, ap, sym, ◌∙◌, refl}
use Rattle.core_syntax.specs.declared.primitive.Primitive.{Primitive}
use Rattle.core_syntax.specs.declared.primitive.Primitive.TheVariants as prim
use Rattle.std.proofs.lemmas.List.{append-nil}
use Rattle.code_text.specs.Reading.{common, choice}
use Rattle.code_text.specs.CodeReading.{primitives, primitive_in, name_line, primitive_at}
use Rattle.code_text.proofs.goes.PickGoes.{At, is_free}
use Rattle.code_text.proofs.codecs.Codec.{Codec}
use Rattle.code_text.proofs.codecs.Parts.{choice_codec}
use Rattle.code_text.proofs.codecs.Many.{known_codec}

at_map : (ps : List Primitive) (j : ℕ) (w : List ℕ) → At (map name_line ps) j w → name_line (primitive_in ps j) ≡ w
at_map [] j w at = absurd at
at_map (p ∷ ps) zero w at = at
at_map (p ∷ ps) (suc j) w at = at_map ps j w at

abbrev names : List (List ℕ)
names = map name_line primitives

-- no name with its line's end begins another
names_free : is_free names ≡ true
unfolding common
names_free = refl

abbrev IsAt : ℕ → Primitive → Type 0
IsAt j p = p ≡ primitive_in primitives j

up : (j : ℕ) (w : List ℕ) (p : Primitive) → At names j w → IsAt j p → Unit {0} × (name_line p ≡ w ++ [])
up j w p at is = (tt, ap name_line is ∙ at_map primitives j w at ∙ sym (append-nil w))

-- each primitive has a number
down : (p : Primitive) → Unit {0} → (j : ℕ) × (w : List ℕ) × At names j w × IsAt j p
down prim.Add is = (0, name_line prim.Add, refl, refl)
down prim.Sub is = (1, name_line prim.Sub, refl, refl)
down prim.Mul is = (2, name_line prim.Mul, refl, refl)
down prim.Div is = (3, name_line prim.Div, refl, refl)
down prim.Mod is = (4, name_line prim.Mod, refl, refl)
down prim.Min is = (5, name_line prim.Min, refl, refl)
down prim.Max is = (6, name_line prim.Max, refl, refl)
down prim.Equal is = (7, name_line prim.Equal, refl, refl)
down prim.Less is = (8, name_line prim.Less, refl, refl)
down prim.AtMost is = (9, name_line prim.AtMost, refl, refl)
down prim.CharEqual is = (10, name_line prim.CharEqual, refl, refl)
down prim.CharLess is = (11, name_line prim.CharLess, refl, refl)
down prim.CharToInt is = (12, name_line prim.CharToInt, refl, refl)
down prim.BoolToInt is = (13, name_line prim.BoolToInt, refl, refl)
down prim.And is = (14, name_line prim.And, refl, refl)
down prim.Or is = (15, name_line prim.Or, refl, refl)
down prim.Not is = (16, name_line prim.Not, refl, refl)
down prim.Select is = (17, name_line prim.Select, refl, refl)
down prim.Append is = (18, name_line prim.Append, refl, refl)
down prim.Reverse is = (19, name_line prim.Reverse, refl, refl)
down prim.Take is = (20, name_line prim.Take, refl, refl)
down prim.Drop is = (21, name_line prim.Drop, refl, refl)
down prim.Transpose is = (22, name_line prim.Transpose, refl, refl)
down prim.Replicate is = (23, name_line prim.Replicate, refl, refl)
down prim.Length is = (24, name_line prim.Length, refl, refl)
down prim.Positions is = (25, name_line prim.Positions, refl, refl)
down prim.IndexOr is = (26, name_line prim.IndexOr, refl, refl)
down prim.Reduce is = (27, name_line prim.Reduce, refl, refl)
down prim.Fold is = (28, name_line prim.Fold, refl, refl)
down prim.Iota is = (29, name_line prim.Iota, refl, refl)
down prim.Reshape is = (30, name_line prim.Reshape, refl, refl)
down prim.Ravel is = (31, name_line prim.Ravel, refl, refl)
down prim.Filter is = (32, name_line prim.Filter, refl, refl)

-- the name of a primitive and the end of its line
pub name_codec : Codec false false (choice names primitive_at) name_line (λ p. Unit {0})
name_codec = choice_codec names (name_line prim.Add) refl names_free primitive_at (λ j p. []) IsAt name_line (λ p. Unit {0}) false (λ j w at. known_codec false (primitive_in primitives j)) up down

-- a primitive behind the first of a table
pub primitive_later : (p : Primitive) (ps : List Primitive) (n : ℕ) → (n ≡ 0 → ⊥) → primitive_in (p ∷ ps) n ≡ primitive_in ps (n - 1)
primitive_later p ps zero other = absurd (other refl)
primitive_later p ps (suc n) other = let same : n ≡ suc n - 1 = omega arith in ap (primitive_in ps) same
