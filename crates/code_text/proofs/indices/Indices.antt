-- Indices in a block, read and spelled.
use Rattle.std.proofs.Common.{◌≡◌, ◌⊎◌, inl, inr, ℕ, zero, suc, ◌+◌, ◌^◌, ◌≤◌, ◌<◌, true, false, List, [], ◌∷◌, ◌++◌, length, drop, Err, ap, sym, subst, ◌∙◌, refl, arith, lit<, Option, Some}
use Rattle.std.specs.Prelude.{codes}
use Rattle.std.specs.Fmt.{decimal}
use Rattle.core_syntax.specs.declared.index.Sort.{Sort}
use Rattle.core_syntax.specs.declared.index.Sort.TheVariants as sort
use Rattle.machine_table.specs.declared.code.CodeIndex.{CodeIndex}
use Rattle.machine_table.specs.declared.code.CodeIndex.TheVariants as index
use Rattle.machine_table.specs.IndexBounds.{IsIndex, InBlock, IsDim, IsShape}
use Rattle.code_text.proofs.indices.Alone.{NoVariable, NoSingle, dim_parts, parts_dim, shape_runs, runs_shape}
use Rattle.code_text.specs.IndexText.{SumPart, Variable, Number, sum_parts, Run, Side, Single, runs}
use Rattle.code_text.specs.Reading.{common, number_at, plainly, made, choice, either_at}
use Rattle.code_text.specs.IndexReading.{largest, sum_at, constant_at, linear_of, sides_at, side_by_side, join_at, bracket_words, dim_index, shape_index, bracket_of, index_at, shape_at}
use Rattle.code_text.proofs.goes.PickGoes.{At}
use Rattle.code_text.proofs.codecs.Codec.{Codec, loosen, made_codec}
use Rattle.code_text.proofs.codecs.Parts.{number_codec, choice_codec}
use Rattle.code_text.proofs.codecs.Either.{either_codec}
use Rattle.code_text.proofs.codecs.Many.{agree}
use Rattle.code_text.proofs.indices.Sums.{IsVarUpTo, Falling, parts_linear, linear_is, linear_parts, parts_fall}
use Rattle.code_text.proofs.indices.Runs.{Standing, word_runs, runs_word, runs_stand, word_is}
use Rattle.code_text.proofs.indices.Dims.{Scoped, AnyVar, IsSum, sum_rest, sum_codec, IsConstant, constants_codec}
use Rattle.code_text.proofs.indices.Shapes.{shape_codec, AreSides, sides_rest, sided_codec, IsJoin, join_rest, join_codec}
use Rattle.code_text.proofs.forms.CodeForms.{index_form}
use Rattle.code_text.proofs.forms.IndexForms.{sum_form, word_form, shape_form}

-- the variables of a run
pub block_scope : Scoped InBlock
block_scope = record {
  var = λ s top le some. agree false true (plainly (number_at true top)) decimal (λ n. n ≤ top) (IsVarUpTo InBlock s top) (λ n is. (omega (arith, is, le), is)) (λ n is. is.1) (number_codec top (omega (arith, le)));
  any = λ s e. (0, (lit< tt, omega arith));
  known = λ s k is. omega (arith, is);
  has = λ s k is. refl;
}

abbrev some_var : (s : Sort) → AnyVar InBlock s largest
some_var s = block_scope.any s refl

-- any variable may come
abbrev up_to_largest : Option ℕ
up_to_largest = Some largest

-- ---- an index behind its first bytes

-- dims of at least two parts, behind `(+ `
dim_rest : CodeIndex → List ℕ
dim_rest (index.Dim d) = sum_rest InBlock block_scope (sum_parts d)
dim_rest (index.Var k) = []
dim_rest (index.Shape w) = []

IsSumIndex : CodeIndex → Type 0
IsSumIndex (index.Dim d) = IsDim InBlock d × IsSum InBlock block_scope (sum_parts d)
IsSumIndex (index.Var k) = ⊥
IsSumIndex (index.Shape w) = ⊥

sum_index : Codec false false (made dim_index (sum_at InBlock)) dim_rest IsSumIndex
unfolding dim_rest IsSumIndex
sum_index = made_codec dim_index (sum_at InBlock) (sum_rest InBlock block_scope) (IsSum InBlock block_scope) dim_rest IsSumIndex spelled holds from false false (sum_codec InBlock block_scope (some_var sort.Dim))
  where
    falls : (ps : List SumPart) → IsSum InBlock block_scope ps → Falling InBlock up_to_largest ps
    falls [] is = absurd is
    falls (p ∷ []) is = absurd is
    falls (p ∷ (q ∷ qs)) is = is

    spelled : (ps : List SumPart) → IsSum InBlock block_scope ps → sum_rest InBlock block_scope (sum_parts (linear_of ps)) ≡ sum_rest InBlock block_scope ps
    spelled ps is = ap (sum_rest InBlock block_scope) (parts_linear InBlock up_to_largest ps (falls ps is))

    holds : (ps : List SumPart) → IsSum InBlock block_scope ps → IsDim InBlock (linear_of ps) × IsSum InBlock block_scope (sum_parts (linear_of ps))
    holds ps is = (linear_is InBlock up_to_largest ps (falls ps is), subst (IsSum InBlock block_scope) (sym (parts_linear InBlock up_to_largest ps (falls ps is))) is)

    from : (i : CodeIndex) → IsSumIndex i → (ps : List SumPart) × IsSum InBlock block_scope ps × (dim_index ps ≡ i)
    from (index.Dim d) is = (sum_parts d, is.1, ap index.Dim (linear_parts d is.0.normal))
    from (index.Var k) is = absurd is
    from (index.Shape w) is = absurd is

-- dims alone, behind `(shape`
sided_rest : CodeIndex → List ℕ
sided_rest (index.Shape w) = sides_rest InBlock block_scope (runs w)
sided_rest (index.Var k) = []
sided_rest (index.Dim d) = []

IsSidedIndex : CodeIndex → Type 0
IsSidedIndex (index.Shape w) = IsShape InBlock w × AreSides InBlock block_scope (runs w)
IsSidedIndex (index.Var k) = ⊥
IsSidedIndex (index.Dim d) = ⊥

sides_stand : (rs : List Run) → AreSides InBlock block_scope rs → Standing InBlock true rs
sides_stand [] is = tt
sides_stand (Side ds ∷ []) is = (is, tt)
sides_stand (Side ds ∷ (r ∷ rs)) is = absurd is
sides_stand (Single k ∷ rs) is = absurd is

join_stands : (rs : List Run) → IsJoin InBlock block_scope rs → Standing InBlock true rs
join_stands [] is = absurd is
join_stands (r ∷ []) is = absurd is
join_stands (r ∷ (q ∷ rs)) is = is

sided_index : Codec false false (made shape_index (made side_by_side (sides_at InBlock))) sided_rest IsSidedIndex
unfolding sided_rest IsSidedIndex
sided_index = made_codec shape_index (made side_by_side (sides_at InBlock)) (sides_rest InBlock block_scope) (AreSides InBlock block_scope) sided_rest IsSidedIndex
    (λ rs is. ap (sides_rest InBlock block_scope) (runs_word InBlock true rs (sides_stand rs is)))
    (λ rs is. (word_is InBlock true rs (sides_stand rs is), subst (AreSides InBlock block_scope) (sym (runs_word InBlock true rs (sides_stand rs is))) is))
    from false false (sided_codec InBlock block_scope)
  where
    from : (i : CodeIndex) → IsSidedIndex i → (rs : List Run) × AreSides InBlock block_scope rs × (shape_index rs ≡ i)
    from (index.Shape w) is = (runs w, is.1, ap index.Shape (word_runs w))
    from (index.Var k) is = absurd is
    from (index.Dim d) is = absurd is

-- a word of at least two parts, behind `(++ `
joined_rest : CodeIndex → List ℕ
joined_rest (index.Shape w) = join_rest InBlock block_scope (runs w)
joined_rest (index.Var k) = []
joined_rest (index.Dim d) = []

IsJoinIndex : CodeIndex → Type 0
IsJoinIndex (index.Shape w) = IsShape InBlock w × IsJoin InBlock block_scope (runs w)
IsJoinIndex (index.Var k) = ⊥
IsJoinIndex (index.Dim d) = ⊥

join_index : Codec false false (made shape_index (join_at InBlock)) joined_rest IsJoinIndex
unfolding joined_rest IsJoinIndex
join_index = made_codec shape_index (join_at InBlock) (join_rest InBlock block_scope) (IsJoin InBlock block_scope) joined_rest IsJoinIndex
    (λ rs is. ap (join_rest InBlock block_scope) (runs_word InBlock true rs (join_stands rs is)))
    (λ rs is. (word_is InBlock true rs (join_stands rs is), subst (IsJoin InBlock block_scope) (sym (runs_word InBlock true rs (join_stands rs is))) is))
    from false false (join_codec InBlock block_scope (some_var sort.Shape))
  where
    from : (i : CodeIndex) → IsJoinIndex i → (rs : List Run) × IsJoin InBlock block_scope rs × (shape_index rs ≡ i)
    from (index.Shape w) is = (runs w, is.1, ap index.Shape (word_runs w))
    from (index.Var k) is = absurd is
    from (index.Dim d) is = absurd is

-- ---- an index behind a parenthesis

bracket_tail : ℕ → CodeIndex → List ℕ
bracket_tail zero i = dim_rest i
bracket_tail (suc zero) i = sided_rest i
bracket_tail (suc (suc j)) i = joined_rest i

IsBracketOf : ℕ → CodeIndex → Type 0
IsBracketOf zero i = IsSumIndex i
IsBracketOf (suc zero) i = IsSidedIndex i
IsBracketOf (suc (suc j)) i = IsJoinIndex i

-- all but the first byte
bracket_text : CodeIndex → List ℕ
bracket_text i = drop 1 (index_form i)

-- a sum, or an index of sort Shape
IsBracket : CodeIndex → Type 0
IsBracket (index.Dim d) = IsDim InBlock d × IsSum InBlock block_scope (sum_parts d)
IsBracket (index.Shape w) = IsShape InBlock w × NoSingle (runs w)
IsBracket (index.Var k) = ⊥

bracket_branch : (j : ℕ) (w : List ℕ) → At bracket_words j w → Codec false false (bracket_of j) (bracket_tail j) (IsBracketOf j)
unfolding bracket_tail IsBracketOf
bracket_branch zero w at = sum_index
bracket_branch (suc zero) w at = sided_index
bracket_branch (suc (suc j)) w at = join_index

sum_up : (ps : List SumPart) → IsSum InBlock block_scope ps → sum_form InBlock ps ≡ codes "(+ " ++ sum_rest InBlock block_scope ps
sum_up [] is = absurd is
sum_up (p ∷ []) is = absurd is
sum_up (p ∷ (q ∷ qs)) is = refl

sides_up : (rs : List Run) → AreSides InBlock block_scope rs → NoSingle rs × (word_form InBlock rs ≡ codes "(shape" ++ sides_rest InBlock block_scope rs)
sides_up [] is = (tt, refl)
sides_up (Side ds ∷ []) is = (tt, refl)
sides_up (Side ds ∷ (r ∷ rs)) is = absurd is
sides_up (Single k ∷ rs) is = absurd is

join_up : (rs : List Run) → IsJoin InBlock block_scope rs → NoSingle rs × (word_form InBlock rs ≡ codes "(++ " ++ join_rest InBlock block_scope rs)
join_up [] is = absurd is
join_up (r ∷ []) is = absurd is
join_up (Side ds ∷ (q ∷ rs)) is = (tt, refl)
join_up (Single k ∷ (q ∷ rs)) is = (tt, refl)

bracket_up : (j : ℕ) (w : List ℕ) (i : CodeIndex) → At bracket_words j w → IsBracketOf j i → IsBracket i × (bracket_text i ≡ w ++ bracket_tail j i)
unfolding bracket_tail IsBracketOf bracket_text IsBracket dim_rest IsSumIndex sided_rest IsSidedIndex joined_rest IsJoinIndex
bracket_up zero w (index.Dim d) at is = (is, ap (drop 1) (sum_up (sum_parts d) is.1) ∙ ap (λ v. v ++ sum_rest InBlock block_scope (sum_parts d)) at)
bracket_up zero w (index.Var k) at is = absurd is
bracket_up zero w (index.Shape v) at is = absurd is
bracket_up (suc zero) w (index.Shape v) at is = let u = sides_up (runs v) is.1 in ((is.0, u.0), ap (drop 1) u.1 ∙ ap (λ x. x ++ sides_rest InBlock block_scope (runs v)) at)
bracket_up (suc zero) w (index.Var k) at is = absurd is
bracket_up (suc zero) w (index.Dim d) at is = absurd is
bracket_up (suc (suc zero)) w (index.Shape v) at is = let u = join_up (runs v) is.1 in ((is.0, u.0), ap (drop 1) u.1 ∙ ap (λ x. x ++ join_rest InBlock block_scope (runs v)) at)
bracket_up (suc (suc zero)) w (index.Var k) at is = absurd is
bracket_up (suc (suc zero)) w (index.Dim d) at is = absurd is
bracket_up (suc (suc (suc j))) w i at is = absurd at

bracket_down : (i : CodeIndex) → IsBracket i → (j : ℕ) × (w : List ℕ) × At bracket_words j w × IsBracketOf j i
unfolding IsBracketOf IsBracket IsSumIndex IsSidedIndex IsJoinIndex
bracket_down (index.Var k) is = absurd is
bracket_down (index.Dim d) is = (0, codes "+ ", refl, is)
bracket_down (index.Shape w) is = go (runs w) refl is.1
  where
    stands : Standing InBlock true (runs w)
    stands = runs_stand InBlock (block_scope.known sort.Shape) w is.0

    go : (rs : List Run) → runs w ≡ rs → NoSingle rs → (j : ℕ) × (v : List ℕ) × At bracket_words j v × IsBracketOf j (index.Shape w)
    go [] e h = (1, codes "shape", refl, (is.0, subst (AreSides InBlock block_scope) (sym e) tt))
    go (Side ds ∷ []) e h = let s = subst (Standing InBlock true) e stands in (1, codes "shape", refl, (is.0, subst (AreSides InBlock block_scope) (sym e) s.0))
    go (Single k ∷ []) e h = absurd h
    go (r ∷ (q ∷ rs)) e h = let s = subst (Standing InBlock true) e stands in (2, codes "++ ", refl, (is.0, subst (IsJoin InBlock block_scope) (sym e) s))

bracket_codec : Codec false false (choice bracket_words bracket_of) bracket_text IsBracket
unfolding common
bracket_codec = choice_codec bracket_words (codes "+ ") refl refl bracket_of bracket_tail IsBracketOf bracket_text IsBracket false bracket_branch bracket_up bracket_down

-- ---- a number alone

IsNumberIndex : CodeIndex → Type 0
IsNumberIndex (index.Dim d) = IsDim InBlock d × IsConstant InBlock block_scope (sum_parts d)
IsNumberIndex (index.Var k) = ⊥
IsNumberIndex (index.Shape w) = ⊥

constant_falls : (ps : List SumPart) → IsConstant InBlock block_scope ps → Falling InBlock up_to_largest ps
unfolding IsConstant
constant_falls [] is = tt
constant_falls (Number n ∷ []) is = (is, tt)
constant_falls (Number n ∷ (q ∷ qs)) is = absurd is
constant_falls (Variable k ∷ ps) is = absurd is

number_index : Codec false true (made dim_index constant_at) index_form IsNumberIndex
unfolding IsNumberIndex
number_index = made_codec dim_index constant_at (sum_form InBlock) (IsConstant InBlock block_scope) index_form IsNumberIndex
    (λ ps is. ap (sum_form InBlock) (parts_linear InBlock up_to_largest ps (constant_falls ps is)))
    (λ ps is. (linear_is InBlock up_to_largest ps (constant_falls ps is), subst (IsConstant InBlock block_scope) (sym (parts_linear InBlock up_to_largest ps (constant_falls ps is))) is))
    from false true (constants_codec InBlock block_scope)
  where
    from : (i : CodeIndex) → IsNumberIndex i → (ps : List SumPart) × IsConstant InBlock block_scope ps × (dim_index ps ≡ i)
    from (index.Dim d) is = (sum_parts d, is.1, ap index.Dim (linear_parts d is.0.normal))
    from (index.Var k) is = absurd is
    from (index.Shape w) is = absurd is

-- ---- all indices

-- not a variable alone
IsNormal : CodeIndex → Type 0
IsNormal i = IsBracket i ⊎ IsNumberIndex i

constant_none : (n : ℕ) → made dim_index constant_at n [] ≡ Err 0
unfolding number_at
constant_none n = refl

constant_bracket : (n : ℕ) (z : List ℕ) → made dim_index constant_at n (40 ∷ z) ≡ Err (length z + 1)
unfolding number_at
constant_bracket n z = refl

either_none : (n : ℕ) → either_at 40 (choice bracket_words bracket_of) (made dim_index constant_at) n [] ≡ Err 0
unfolding either_at
either_none n = refl

either_percent : (n : ℕ) (z : List ℕ) → either_at 40 (choice bracket_words bracket_of) (made dim_index constant_at) n (37 ∷ z) ≡ Err (length z + 1)
unfolding either_at number_at
either_percent n z = refl

bracket_first : (i : CodeIndex) → IsBracket i → index_form i ≡ 40 ∷ bracket_text i
unfolding bracket_text IsBracket
bracket_first (index.Var k) is = absurd is
bracket_first (index.Dim d) is = let e = sum_up (sum_parts d) is.1 in e ∙ ap (λ t. 40 ∷ drop 1 t) (sym e)
bracket_first (index.Shape w) is = go (runs w) is.1
  where
    go : (rs : List Run) → NoSingle rs → word_form InBlock rs ≡ 40 ∷ drop 1 (word_form InBlock rs)
    go [] h = refl
    go (Side ds ∷ []) h = refl
    go (Single k ∷ []) h = absurd h
    go (r ∷ (q ∷ rs)) h = refl

normal_codec : Codec false true (either_at 40 (choice bracket_words bracket_of) (made dim_index constant_at)) index_form IsNormal
unfolding IsNormal
normal_codec = either_codec 40 (choice bracket_words bracket_of) (made dim_index constant_at) constant_none constant_bracket bracket_text index_form IsBracket IsNumberIndex index_form IsNormal true
    (loosen false (choice bracket_words bracket_of) bracket_text IsBracket bracket_codec) number_index (λ i is. (inl is, bracket_first i is)) (λ i is. (inr is, refl)) (λ i is. is)

-- a variable alone behind its first byte
var_text : CodeIndex → List ℕ
var_text (index.Var k) = decimal k
var_text (index.Dim d) = []
var_text (index.Shape w) = []

IsVarIndex : CodeIndex → Type 0
IsVarIndex (index.Var k) = k < 2 ^ 32
IsVarIndex (index.Dim d) = ⊥
IsVarIndex (index.Shape w) = ⊥

var_codec : Codec false true (made index.Var (plainly (number_at true largest))) var_text IsVarIndex
unfolding var_text IsVarIndex
var_codec = made_codec index.Var (plainly (number_at true largest)) decimal (λ n. n ≤ largest) var_text IsVarIndex (λ n is. refl) (λ n is. omega (arith, is)) from false true (number_codec largest (lit< tt))
  where
    from : (i : CodeIndex) → IsVarIndex i → (n : ℕ) × (n ≤ largest) × (index.Var n ≡ i)
    from (index.Var k) is = (k, omega (arith, is), refl)
    from (index.Dim d) is = absurd is
    from (index.Shape w) is = absurd is

var_up : (i : CodeIndex) → IsVarIndex i → IsIndex i × (index_form i ≡ 37 ∷ var_text i)
unfolding var_text IsVarIndex
var_up (index.Var k) is = (is, refl)
var_up (index.Dim d) is = absurd is
var_up (index.Shape w) is = absurd is

no_variable : (ps : List SumPart) → IsSum InBlock block_scope ps → NoVariable ps
no_variable [] is = absurd is
no_variable (p ∷ []) is = absurd is
no_variable (Variable k ∷ (q ∷ qs)) is = tt
no_variable (Number n ∷ (q ∷ qs)) is = tt

constant_variable : (ps : List SumPart) → IsConstant InBlock block_scope ps → NoVariable ps
unfolding IsConstant
constant_variable [] is = tt
constant_variable (Number n ∷ ps) is = tt
constant_variable (Variable k ∷ ps) is = absurd is

normal_up : (i : CodeIndex) → IsNormal i → IsIndex i × (index_form i ≡ index_form i)
unfolding IsNormal IsBracket IsNumberIndex
normal_up (index.Dim d) (inl is) = ((is.0, parts_dim d (no_variable (sum_parts d) is.1)), refl)
normal_up (index.Dim d) (inr is) = ((is.0, parts_dim d (constant_variable (sum_parts d) is.1)), refl)
normal_up (index.Shape w) (inl is) = ((is.0, runs_shape w is.1), refl)
normal_up (index.Shape w) (inr is) = absurd is
normal_up (index.Var k) (inl is) = absurd is
normal_up (index.Var k) (inr is) = absurd is

index_down : (i : CodeIndex) → IsIndex i → IsVarIndex i ⊎ IsNormal i
unfolding IsNormal IsVarIndex IsBracket IsNumberIndex IsConstant
index_down (index.Var k) is = inl is
index_down (index.Shape w) is = inr (inl (is.0, shape_runs w is.1))
index_down (index.Dim d) is = inr (go (sum_parts d) refl (parts_fall InBlock (block_scope.known sort.Dim) d is.0) (dim_parts d is.0.normal is.1))
  where
    go : (ps : List SumPart) → sum_parts d ≡ ps → Falling InBlock up_to_largest ps → NoVariable ps → IsBracket (index.Dim d) ⊎ IsNumberIndex (index.Dim d)
    go [] e f h = inr (is.0, subst (IsConstant InBlock block_scope) (sym e) tt)
    go (Number n ∷ []) e f h = inr (is.0, subst (IsConstant InBlock block_scope) (sym e) f.0)
    go (Variable k ∷ []) e f h = absurd h
    go (p ∷ (q ∷ qs)) e f h = inl (is.0, subst (IsSum InBlock block_scope) (sym e) f)

-- an index of either sort
pub index_codec : Codec false true index_at index_form IsIndex
index_codec = either_codec 37 (made index.Var (plainly (number_at true largest))) (either_at 40 (choice bracket_words bracket_of) (made dim_index constant_at)) either_none either_percent
    var_text index_form IsVarIndex IsNormal index_form IsIndex true var_codec normal_codec var_up normal_up index_down

-- a shape of a cell
pub cell_codec : Codec false true (shape_at InBlock) (shape_form InBlock) (IsShape InBlock)
cell_codec = shape_codec InBlock block_scope
