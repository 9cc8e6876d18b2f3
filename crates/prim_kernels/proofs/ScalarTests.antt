-- Primitives of scalars, where they lack nothing and where they are wrong, as the machine's table has them.
use Rattle.std.proofs.Common.{◌≡◌, ◌≢◌, refl, ap, ◌∙◌, arith, ℕ, ℤ, length, List, [], ◌∷◌, Option, Some, None, Bool, true, false, Result, Ok, Err, IfOk}
use Rattle.std.specs.Prelude.{◌+ℤ◌, ◌-ℤ◌, ◌*ℤ◌, int_lt, int_le, ◌&&◌, ◌||◌, ◌==◌, nat_lt, if◌then◌else◌, is_some}
use Rattle.std.proofs.lemmas.Bool.{eq-eqb}
use Rattle.std.proofs.lemmas.Bool.Decides.{nat_tests}
use Rattle.core_syntax.specs.declared.errors.Memory.{Memory}
use Rattle.core_syntax.specs.declared.errors.StuckKind.TheVariants as stuck
use Rattle.core_syntax.specs.declared.primitive.Primitive.{Primitive}
use Rattle.core_syntax.specs.declared.primitive.Primitive.TheVariants as p
use Rattle.core_syntax.specs.Arrays.{single}
use Rattle.core_syntax.specs.Answer.{Look, AnInt, ABool, AChar, Other, Answer}
use Rattle.core_syntax.specs.Delta as d
use Rattle.core_syntax.specs.Delta.{same_int, delta}
use Rattle.core_syntax.specs.DeltaStuck.{row_inputs, row_sorts, row_valuation, first_unmet, is_of, have_sorts, given_values, kinds_fit, shapes_fit, delta_stuck}
use Rattle.core_syntax.specs.Prims.{prim_type, int_ty, bool_ty, char_ty}
use Rattle.core_syntax.specs.Rules.{has_types, has_indices, agrees}
use Rattle.core_syntax.specs.Terms.{IndexValue}
use Rattle.array_values.specs.Values.{Array}
use Rattle.array_values.specs.declared.value.Value.{Value}
use Rattle.machine_table.specs.Begins.{Entry, Refuses, Answers, answer_entry}
use Rattle.prim_kernels.specs.Deltas.{entry_of, has_variables}
use Rattle.prim_kernels.specs.declared.answers.Delta.{Delta}
use Rattle.prim_kernels.specs.declared.answers.Delta.TheVariants as given
use Rattle.prim_kernels.specs.Kernels.{look_at, machine_atoms}

-- what the table says by a test of the kinds alone
abbrev by_kind : Bool → Answer Value → Entry Value
by_kind fits a = elim (first_unmet true fits true) as (λ o. Entry Value) [ Some k ↦ Refuses k | None ↦ answer_entry a ]

both_ints : (f : ℤ → ℤ → Answer Value) (l m : Look) → by_kind (is_of int_ty l && true && (is_of int_ty m && true && true)) (d.of_ints machine_atoms f l m) ≡ answer_entry (d.of_ints machine_atoms f l m)
both_ints f (AnInt x) (AnInt y) = refl
both_ints f _ _ = refl

both_chars : (f : ℕ → ℕ → Answer Value) (l m : Look) → by_kind (is_of char_ty l && true && (is_of char_ty m && true && true)) (d.of_chars machine_atoms f l m) ≡ answer_entry (d.of_chars machine_atoms f l m)
both_chars f (AChar x) (AChar y) = refl
both_chars f _ _ = refl

both_bools : (f : Bool → Bool → Answer Value) (l m : Look) → by_kind (is_of bool_ty l && true && (is_of bool_ty m && true && true)) (d.of_bools machine_atoms f l m) ≡ answer_entry (d.of_bools machine_atoms f l m)
both_bools f (ABool x) (ABool y) = refl
both_bools f _ _ = refl

a_char : (l : Look) → by_kind (is_of char_ty l && true && true) (d.char_number machine_atoms l) ≡ answer_entry (d.char_number machine_atoms l)
a_char (AChar c) = refl
a_char _ = refl

a_bool : (l : Look) → by_kind (is_of bool_ty l && true && true) (d.bool_number machine_atoms l) ≡ answer_entry (d.bool_number machine_atoms l)
a_bool (ABool true) = refl
a_bool (ABool false) = refl
a_bool (AnInt z) = refl
a_bool (AChar c) = refl
a_bool Other = refl

a_negation : (l : Look) → by_kind (is_of bool_ty l && true && true) (d.negation machine_atoms l) ≡ answer_entry (d.negation machine_atoms l)
a_negation (ABool b) = refl
a_negation _ = refl

-- ---- a primitive of scalars without arguments of types or indices, on as many scalars as its row has inputs

-- what the table says of it
abbrev pub table_says : Primitive → List Array → Entry Value
table_says q xs = elim (delta_stuck machine_atoms q false None xs) as (λ o. Entry Value) [ Some k ↦ Refuses k | None ↦ answer_entry (delta machine_atoms q [] xs) ]

pub one_comes : (q : Primitive) → has_variables q ≡ false → length (row_inputs (prim_type q)) ≡ 1 → (x : Value) → table_says q (single x ∷ []) ≡ answer_entry (delta machine_atoms q [] (single x ∷ []))
one_comes p.CharToInt h n x = a_char (look_at x)
one_comes p.BoolToInt h n x = a_bool (look_at x)
one_comes p.Not h n x = a_negation (look_at x)
one_comes p.Add h n x = absurd (let f : ⊥ = omega (arith, n) in f)
one_comes p.Sub h n x = absurd (let f : ⊥ = omega (arith, n) in f)
one_comes p.Mul h n x = absurd (let f : ⊥ = omega (arith, n) in f)
one_comes p.Div h n x = absurd (let f : ⊥ = omega (arith, n) in f)
one_comes p.Mod h n x = absurd (let f : ⊥ = omega (arith, n) in f)
one_comes p.Min h n x = absurd (let f : ⊥ = omega (arith, n) in f)
one_comes p.Max h n x = absurd (let f : ⊥ = omega (arith, n) in f)
one_comes p.Equal h n x = absurd (let f : ⊥ = omega (arith, n) in f)
one_comes p.Less h n x = absurd (let f : ⊥ = omega (arith, n) in f)
one_comes p.AtMost h n x = absurd (let f : ⊥ = omega (arith, n) in f)
one_comes p.CharEqual h n x = absurd (let f : ⊥ = omega (arith, n) in f)
one_comes p.CharLess h n x = absurd (let f : ⊥ = omega (arith, n) in f)
one_comes p.And h n x = absurd (let f : ⊥ = omega (arith, n) in f)
one_comes p.Or h n x = absurd (let f : ⊥ = omega (arith, n) in f)
one_comes _ h n x = absurd (let f = h in cc)

pub two_come : (q : Primitive) → has_variables q ≡ false → length (row_inputs (prim_type q)) ≡ 2 → (x y : Value)
    → table_says q (single x ∷ single y ∷ []) ≡ answer_entry (delta machine_atoms q [] (single x ∷ single y ∷ []))
two_come p.Add h n x y = both_ints (λ a b. d.gives_int machine_atoms (a +ℤ b)) (look_at x) (look_at y)
two_come p.Sub h n x y = both_ints (λ a b. d.gives_int machine_atoms (a -ℤ b)) (look_at x) (look_at y)
two_come p.Mul h n x y = both_ints (λ a b. d.gives_int machine_atoms (a *ℤ b)) (look_at x) (look_at y)
two_come p.Div h n x y = both_ints (d.quotient machine_atoms) (look_at x) (look_at y)
two_come p.Mod h n x y = both_ints (d.remainder machine_atoms) (look_at x) (look_at y)
two_come p.Min h n x y = both_ints (λ a b. d.gives_int machine_atoms (if int_le a b then a else b)) (look_at x) (look_at y)
two_come p.Max h n x y = both_ints (λ a b. d.gives_int machine_atoms (if int_le a b then b else a)) (look_at x) (look_at y)
two_come p.Equal h n x y = both_ints (λ a b. d.gives_bool machine_atoms (same_int a b)) (look_at x) (look_at y)
two_come p.Less h n x y = both_ints (λ a b. d.gives_bool machine_atoms (int_lt a b)) (look_at x) (look_at y)
two_come p.AtMost h n x y = both_ints (λ a b. d.gives_bool machine_atoms (int_le a b)) (look_at x) (look_at y)
two_come p.CharEqual h n x y = both_chars (λ a b. d.gives_bool machine_atoms (a == b)) (look_at x) (look_at y)
two_come p.CharLess h n x y = both_chars (λ a b. d.gives_bool machine_atoms (nat_lt a b)) (look_at x) (look_at y)
two_come p.And h n x y = both_bools (λ a b. d.gives_bool machine_atoms (a && b)) (look_at x) (look_at y)
two_come p.Or h n x y = both_bools (λ a b. d.gives_bool machine_atoms (a || b)) (look_at x) (look_at y)
two_come p.CharToInt h n x y = absurd (let f : ⊥ = omega (arith, n) in f)
two_come p.BoolToInt h n x y = absurd (let f : ⊥ = omega (arith, n) in f)
two_come p.Not h n x y = absurd (let f : ⊥ = omega (arith, n) in f)
two_come _ h n x y = absurd (let f = h in cc)

-- ---- primitives that are wrong whatever the arrays are

unlike : (m n : ℕ) → m ≢ n → (m == n) ≡ false
unlike m n h = grind (arith, nat_tests, h)

-- another number of arguments
pub other_count : (q : Primitive) (typed : Bool) (is : Option (List IndexValue)) (xs : List Array) → length (row_inputs (prim_type q)) ≢ length xs → delta_stuck machine_atoms q typed is xs ≡ Some stuck.Operand
other_count q typed is xs n =
    ap (λ b. first_unmet b (agrees (has_types q) typed && agrees (has_indices q) (is_some is) && have_sorts (row_sorts (prim_type q)) (given_values is) && kinds_fit machine_atoms (row_inputs (prim_type q)) xs) (shapes_fit (row_valuation (given_values is)) (row_inputs (prim_type q)) xs))
    (unlike (length (row_inputs (prim_type q))) (length xs) n)

-- types or indices that its row hasn't
pub other_kind : (q : Primitive) (typed : Bool) (is : Option (List IndexValue)) (xs : List Array) → length (row_inputs (prim_type q)) ≡ length xs → agrees (has_types q) typed && agrees (has_indices q) (is_some is) ≡ false
    → delta_stuck machine_atoms q typed is xs ≡ Some stuck.Kind
other_kind q typed is xs e h =
    let sorts = have_sorts (row_sorts (prim_type q)) (given_values is) in
    let kinds = kinds_fit machine_atoms (row_inputs (prim_type q)) xs in
    let dims = shapes_fit (row_valuation (given_values is)) (row_inputs (prim_type q)) xs in
    λ i. first_unmet (eq-eqb (length (row_inputs (prim_type q))) (length xs) e i) (h i && sorts && kinds) dims

-- of a primitive without variables
pub plain_types : (q : Primitive) → has_variables q ≡ false → has_types q ≡ false
plain_types q h = by (has_types q) (has_indices q) h
  where
    by : (a b : Bool) → (a || b) ≡ false → a ≡ false
    by false b h = refl
    by true b h = h

pub plain_indices : (q : Primitive) → has_variables q ≡ false → has_indices q ≡ false
plain_indices q h = by (has_types q) (has_indices q) h
  where
    by : (a b : Bool) → (a || b) ≡ false → b ≡ false
    by false b h = h
    by true b h = absurd (let e = h in cc)

pub has_given : (q : Primitive) (typed : Bool) (is : Option (List IndexValue)) → has_variables q ≡ false → (typed || is_some is) ≡ true → agrees (has_types q) typed && agrees (has_indices q) (is_some is) ≡ false
has_given q typed is h g = (λ i. agrees (plain_types q h i) typed && agrees (plain_indices q h i) (is_some is)) ∙ by typed (is_some is) g
  where
    by : (a b : Bool) → (a || b) ≡ true → agrees false a && agrees false b ≡ false
    by true b g = refl
    by false true g = refl
    by false false g = absurd (let e = g in cc)

-- ---- arrays that are given

pub value_entry : (r : Result Delta Memory) (a : Array) (e : Entry Value) → IfOk r (λ d. d ≡ given.Value a) → Answers a ≡ e → IfOk r (λ d. entry_of d ≡ e)
value_entry (Ok d) a e h g = ap entry_of h ∙ g
value_entry (Err m) a e h g = tt
