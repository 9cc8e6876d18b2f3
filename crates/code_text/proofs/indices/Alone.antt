-- An index of a code that is a normal form is no variable alone: so it reads in parts and in runs.
use Rattle.std.proofs.Common.{◌≡◌, refl, ap, subst, ℕ, zero, suc, ◌+◌, ◌≤◌, ◌<◌, arith, Bool, true, false, List, [], ◌∷◌, ◌++◌, length, map}
use Rattle.std.specs.Prelude.{◌&&◌, ◌==◌, replicate}
use Rattle.std.proofs.lemmas.Bool.Decides.{nat_tests}
use Rattle.core_syntax.specs.declared.norm.Coef.{Coef}
use Rattle.core_syntax.specs.declared.norm.Letter.{Letter}
use Rattle.core_syntax.specs.declared.norm.Letter.TheVariants as letter
use Rattle.core_syntax.specs.declared.norm.NormIndex.TheVariants as norm
use Rattle.core_syntax.specs.Linear.{Linear, IsAscending}
use Rattle.core_syntax.specs.Word.{Word}
use Rattle.machine_table.specs.declared.code.CodeIndex.{CodeIndex}
use Rattle.machine_table.specs.declared.code.CodeIndex.TheVariants as index
use Rattle.machine_table.specs.Indices.{code_index, dim_index}
use Rattle.code_text.specs.IndexText.{SumPart, Variable, variables, constants, sum_parts, Run, Side, Single, with_dim, runs}

-- no sum of one variable
abbrev pub NoVariable : List SumPart → Type 0
NoVariable (Variable k ∷ []) = ⊥
NoVariable _ = Unit {0}

-- no word of one variable
abbrev pub NoSingle : List Run → Type 0
NoSingle (Single k ∷ []) = ⊥
NoSingle _ = Unit {0}

-- ---- linear forms

-- two parts, or one that is a number, are no variable alone
more_parts : (xs : List ℕ) (rest : List SumPart) → 2 ≤ length xs → NoVariable (map Variable xs ++ rest)
more_parts [] rest two = absurd (omega (arith, two))
more_parts (x ∷ []) rest two = absurd (omega (arith, two))
more_parts (x ∷ y ∷ xs) rest two = tt

times_parts : (k n : ℕ) (c : ℕ) → 0 < n → (n ≡ 1 → c ≡ 0 → ⊥) → NoVariable (map Variable (replicate n k) ++ constants c)
times_parts k zero c some h = absurd (omega (arith, some))
times_parts k (suc zero) zero some h = absurd (h refl refl)
times_parts k (suc zero) (suc c) some h = tt
times_parts k (suc (suc n)) c some h = tt

many : {X : Type 0} (xs ys : List X) → length (xs ++ ys) ≡ length xs + length ys
many [] ys = omega arith
many (x ∷ xs) ys = let h = many xs ys in omega arith

times_many : {X : Type 0} (n : ℕ) (x : X) → length (replicate n x) ≡ n
times_many zero x = refl
times_many (suc n) x = ap suc (times_many n x)

-- variables that are added are at least as many as there are coefficients
coefs_many : (low : ℕ) (cs : List Coef) → IsAscending low cs → length cs ≤ length (variables cs)
coefs_many low [] h = omega arith
coefs_many low (c ∷ cs) h =
    let a = coefs_many (c.var + 1) cs h.2 in
    let b = many (variables cs) (replicate c.times c.var) in
    let d = times_many c.times c.var in
    let some = h.1 in
    omega (arith, a, b, d, some)

-- one coefficient, behind whose test the index is this linear form
one_coef : (d : Linear) (c : Coef) → (elim (d.constant == 0 && c.times == 1) as (λ b. CodeIndex) [ true ↦ index.Var c.var | false ↦ index.Dim d ]) ≡ index.Dim d → c.times ≡ 1 → d.constant ≡ 0 → ⊥
one_coef d c e one none = by (d.constant == 0 && c.times == 1) (grind (arith, nat_tests)) e
  where
    by : (b : Bool) → b ≡ true → (elim b as (λ b. CodeIndex) [ true ↦ index.Var c.var | false ↦ index.Dim d ]) ≡ index.Dim d → ⊥
    by true t same = cc
    by false t same = cc

-- the parts of such a linear form are no variable alone
pub dim_parts : (d : Linear) → IsAscending 0 d.coefs → code_index (norm.Dim d) ≡ index.Dim d → NoVariable (sum_parts d)
dim_parts d normal e = go d.coefs normal e
  where
    number : (n : ℕ) → NoVariable (constants n)
    number zero = tt
    number (suc n) = tt

    go : (cs : List Coef) → IsAscending 0 cs → dim_index d cs ≡ index.Dim d → NoVariable (map Variable (variables cs) ++ constants d.constant)
    go [] asc same = number d.constant
    go (c ∷ []) asc same = times_parts c.var c.times d.constant asc.1 (one_coef d c same)
    go (c ∷ b ∷ cs) asc same = let a = coefs_many 0 (c ∷ b ∷ cs) asc in more_parts (variables (c ∷ b ∷ cs)) (constants d.constant) (omega (arith, a))

-- and a linear form whose parts are none is the index itself
pub parts_dim : (d : Linear) → NoVariable (sum_parts d) → code_index (norm.Dim d) ≡ index.Dim d
parts_dim d h = go d.coefs h
  where
    go : (cs : List Coef) → NoVariable (map Variable (variables cs) ++ constants d.constant) → dim_index d cs ≡ index.Dim d
    go [] h = refl
    go (c ∷ b ∷ cs) h = refl
    go (c ∷ []) h = by (d.constant == 0 && c.times == 1) refl
      where
        alone : (n m : ℕ) → n ≡ 0 → m ≡ 1 → NoVariable (map Variable (replicate m c.var) ++ constants n) → ⊥
        alone n m none one h = subst (λ (k : ℕ). NoVariable (map Variable (replicate k c.var) ++ constants 0)) one (subst (λ (k : ℕ). NoVariable (map Variable (replicate m c.var) ++ constants k)) none h)

        by : (b : Bool) → (d.constant == 0 && c.times == 1) ≡ b → (elim b as (λ b. CodeIndex) [ true ↦ index.Var c.var | false ↦ index.Dim d ]) ≡ index.Dim d
        by true t = absurd (alone d.constant c.times (grind (arith, nat_tests)) (grind (arith, nat_tests)) h)
        by false t = refl

-- ---- words

with_dim_some : (d : Linear) (rs : List Run) → NoSingle (with_dim d rs)
with_dim_some d [] = tt
with_dim_some d (Side ds ∷ []) = tt
with_dim_some d (Side ds ∷ r ∷ rs) = tt
with_dim_some d (Single k ∷ rs) = tt

-- runs of some letters are some
some_runs : (k : ℕ) (l : Letter) (ls : Word) → NoSingle (Single k ∷ runs (l ∷ ls))
some_runs k (letter.Var j) ls = tt
some_runs k (letter.Dim d) ls = go (runs ls)
  where
    go : (rs : List Run) → NoSingle (Single k ∷ with_dim d rs)
    go [] = tt
    go (Side ds ∷ rs) = tt
    go (Single j ∷ rs) = tt

-- the runs of such a word are no variable alone
pub shape_runs : (w : Word) → code_index (norm.Shape w) ≡ index.Shape w → NoSingle (runs w)
shape_runs [] e = tt
shape_runs (letter.Var k ∷ []) e = cc
shape_runs (letter.Var k ∷ l ∷ ls) e = some_runs k l ls
shape_runs (letter.Dim d ∷ ls) e = with_dim_some d (runs ls)

-- and a word whose runs are none is the index itself
pub runs_shape : (w : Word) → NoSingle (runs w) → code_index (norm.Shape w) ≡ index.Shape w
runs_shape [] h = refl
runs_shape (letter.Var k ∷ []) h = absurd h
runs_shape (letter.Var k ∷ l ∷ ls) h = refl
runs_shape (letter.Dim d ∷ ls) h = refl
