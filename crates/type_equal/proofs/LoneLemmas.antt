-- The counts of the trees of normal forms.
use Rattle.std.proofs.Common.{◌≡◌, ◌∙◌, refl, sym, ap, ℕ, zero, suc, ◌-◌, ◌^◌, ◌<◌, ◌≤◌, min, arith, List, [], ◌∷◌, ◌++◌, length, replicate, append-nil, length-append, false, ◌⊎◌, inl, inr}
use Rattle.std.proofs.lemmas.Bool.{cases_lt}
use Rattle.core_syntax.specs.declared.norm.Coef.{Coef}
use Rattle.core_syntax.specs.declared.norm.Letter.{Letter}
use Rattle.core_syntax.specs.declared.norm.Letter.TheVariants as letter
use Rattle.core_syntax.specs.Linear.{Linear, IsAscending, IsNormal, coefs_total}
use Rattle.core_syntax.specs.Word.{AreNormal, letters_size}
use Rattle.core_syntax.specs.Lists.{onto}
use Rattle.core_syntax.specs.Syntax.{Index}
use Rattle.core_syntax.specs.Nodes.{var, number}
use Rattle.core_syntax.specs.Norm.{norm_dim, norm_word, has_large, sum_of_parts, constant_part, dim_tree, run_part, word_parts, join_of_parts, word_tree}
use Rattle.type_equal.specs.declared.counting.Count.{Count}
use Rattle.type_equal.specs.Counted.{count_of, clipped, lone_letter, lone_sum}
use Rattle.type_equal.specs.Parts.{vars_of}
use Rattle.type_equal.proofs.NormMoved.{tree_again}
use Rattle.type_equal.proofs.PartsLemmas.{coef_vars_is}

-- ---- the tree of a linear form

abbrev first_dim : Linear → List Letter → Linear
first_dim d [] = d
first_dim d (letter.Dim e ∷ ls) = e
first_dim d (letter.Var k ∷ ls) = d

-- a normal linear form is the one of its tree
pub dim_again : (d : Linear) → IsNormal d → norm_dim (dim_tree d) ≡ d
dim_again d h = ap (first_dim d) (tree_again (letter.Dim d ∷ []) (h, tt))

vars_length : (cs : List Coef) → length (vars_of cs) ≡ coefs_total cs
vars_length [] = refl
vars_length (c ∷ cs) =
    let e : length (replicate c.times (var c.var)) ≡ c.times = times c.times in
    length-append (vars_of cs) (replicate c.times (var c.var)) ∙ omega (arith, vars_length cs, e)
  where
    times : (n : ℕ) → length (replicate n (var c.var)) ≡ n
    times zero = refl
    times (suc n) = ap suc (times n)

no_letters : (is : List Index) → (length is ≡ 1 → ⊥) → letters_size (norm_word (sum_of_parts is)) ≡ 0
no_letters [] ne = refl
no_letters (i ∷ []) ne = absurd (ne refl)
no_letters (i ∷ j ∷ is) ne = refl

none_large : (is : List Index) → (length is ≡ 1 → ⊥) → has_large (norm_word (sum_of_parts is)) ≡ false
none_large [] ne = refl
none_large (i ∷ []) ne = absurd (ne refl)
none_large (i ∷ j ∷ is) ne = refl

-- one variable alone, and any other number of parts
one_part : (is : List Index) (k : ℕ) → is ≡ var k ∷ [] → letters_size (norm_word (sum_of_parts is)) ≡ 1
one_part is k e = ap (λ l. letters_size (norm_word (sum_of_parts l))) e

empty : {A : Type 0} (l : List A) → length l ≡ 0 → l ≡ []
empty [] q = refl
empty (x ∷ l) q = absurd (omega arith)

one_var : (cs : List Coef) (low : ℕ) → IsAscending low cs → coefs_total cs ≡ 1 → (k : ℕ) × (vars_of cs ≡ var k ∷ [])
one_var [] low h e = absurd (omega arith)
one_var (c ∷ cs) low h e =
    let pos : 0 < c.times = h.1 in
    let one : c.times ≡ 1 = omega (arith, e, pos) in
    let none : coefs_total cs ≡ 0 = omega (arith, e, pos) in
    (c.var, (λ i. empty (vars_of cs) (vars_length cs ∙ none) i ++ replicate (one i) (var c.var)))

lone_one : (n : ℕ) → n ≡ 1 → lone_sum 0 n ≡ 1
lone_one n e = ap (lone_sum 0) e

lone_none : (n : ℕ) → (n ≡ 1 → ⊥) → lone_sum 0 n ≡ 0
lone_none zero ne = refl
lone_none (suc zero) ne = absurd (ne refl)
lone_none (suc (suc n)) ne = refl

-- the letters of the parts that a linear form has
parts_word : (cs : List Coef) (low n : ℕ) → IsAscending low cs → letters_size (norm_word (sum_of_parts (vars_of cs ++ constant_part n))) ≡ lone_sum n (coefs_total cs)
parts_word cs low zero h = by (cases_lt 1 (coefs_total cs))
  where
    nil : vars_of cs ++ [] ≡ vars_of cs
    nil = append-nil (vars_of cs)

    far : (coefs_total cs ≡ 1 → ⊥) → letters_size (norm_word (sum_of_parts (vars_of cs ++ []))) ≡ lone_sum 0 (coefs_total cs)
    far ne =
        ap (λ l. letters_size (norm_word (sum_of_parts l))) nil ∙ no_letters (vars_of cs) (λ e. ne (sym (vars_length cs) ∙ e)) ∙ sym (lone_none (coefs_total cs) ne)

    near : coefs_total cs ≡ 1 → letters_size (norm_word (sum_of_parts (vars_of cs ++ []))) ≡ lone_sum 0 (coefs_total cs)
    near e =
        let x = one_var cs low h e in
        ap (λ l. letters_size (norm_word (sum_of_parts l))) nil ∙ one_part (vars_of cs) x.0 x.1 ∙ sym (lone_one (coefs_total cs) e)

    under : (coefs_total cs < 1) ⊎ (1 ≤ coefs_total cs) → coefs_total cs ≤ 1 → letters_size (norm_word (sum_of_parts (vars_of cs ++ []))) ≡ lone_sum 0 (coefs_total cs)
    under (inl lt) le = far (λ e. omega (arith, e, lt))
    under (inr ge) le = near (omega (arith, le, ge))

    by : (1 < coefs_total cs) ⊎ (coefs_total cs ≤ 1) → letters_size (norm_word (sum_of_parts (vars_of cs ++ []))) ≡ lone_sum 0 (coefs_total cs)
    by (inl lt) = far (λ e. omega (arith, e, lt))
    by (inr le) = under (cases_lt (coefs_total cs) 1) le
parts_word cs low (suc n) h = at (vars_of cs)
  where
    at : (l : List Index) → letters_size (norm_word (sum_of_parts (l ++ number (suc n) ∷ []))) ≡ 0
    at [] = refl
    at (x ∷ []) = refl
    at (x ∷ y ∷ l) = refl

pub dim_letters : (d : Linear) → IsNormal d → letters_size (norm_word (dim_tree d)) ≡ lone_sum d.constant (coefs_total d.coefs)
dim_letters d h = ap (λ l. letters_size (norm_word (sum_of_parts l))) (coef_vars_is d.coefs (constant_part d.constant)) ∙ parts_word d.coefs 0 d.constant h

-- no constant stands in such a word
parts_large : (cs : List Coef) (low n : ℕ) → IsAscending low cs → has_large (norm_word (sum_of_parts (vars_of cs ++ constant_part n))) ≡ false
parts_large cs low zero h = by (cases_lt 1 (coefs_total cs))
  where
    nil : vars_of cs ++ [] ≡ vars_of cs
    nil = append-nil (vars_of cs)

    far : (coefs_total cs ≡ 1 → ⊥) → has_large (norm_word (sum_of_parts (vars_of cs ++ []))) ≡ false
    far ne = ap (λ l. has_large (norm_word (sum_of_parts l))) nil ∙ none_large (vars_of cs) (λ e. ne (sym (vars_length cs) ∙ e))

    near : coefs_total cs ≡ 1 → has_large (norm_word (sum_of_parts (vars_of cs ++ []))) ≡ false
    near e = let x = one_var cs low h e in ap (λ l. has_large (norm_word (sum_of_parts l))) (nil ∙ x.1)

    under : (coefs_total cs < 1) ⊎ (1 ≤ coefs_total cs) → coefs_total cs ≤ 1 → has_large (norm_word (sum_of_parts (vars_of cs ++ []))) ≡ false
    under (inl lt) le = far (λ e. omega (arith, e, lt))
    under (inr ge) le = near (omega (arith, le, ge))

    by : (1 < coefs_total cs) ⊎ (coefs_total cs ≤ 1) → has_large (norm_word (sum_of_parts (vars_of cs ++ []))) ≡ false
    by (inl lt) = far (λ e. omega (arith, e, lt))
    by (inr le) = under (cases_lt (coefs_total cs) 1) le
parts_large cs low (suc n) h = at (vars_of cs)
  where
    at : (l : List Index) → has_large (norm_word (sum_of_parts (l ++ number (suc n) ∷ []))) ≡ false
    at [] = refl
    at (x ∷ []) = refl
    at (x ∷ y ∷ l) = refl

dim_large : (d : Linear) → IsNormal d → has_large (norm_word (dim_tree d)) ≡ false
dim_large d h = ap (λ l. has_large (norm_word (sum_of_parts l))) (coef_vars_is d.coefs (constant_part d.constant)) ∙ parts_large d.coefs 0 d.constant h

-- clipped sizes are 1 where the sizes are
lone_clipped : (c n : ℕ) → lone_sum c (min n (2 ^ 64 - 1)) ≡ min (lone_sum c n) (2 ^ 64 - 1)
lone_clipped (suc c) n = refl
lone_clipped zero zero = refl
lone_clipped zero (suc zero) = refl
lone_clipped zero (suc (suc n)) = lone_none (min (suc (suc n)) (2 ^ 64 - 1)) (λ e. omega (arith, e))

pub dim_counted : (d : Linear) (variables letters : ℕ) → IsNormal d → variables ≡ min (coefs_total d.coefs) (2 ^ 64 - 1) → letters ≡ lone_sum d.constant variables →
    ◌≡◌ {A = Count} (record { constant = d.constant; variables = variables; letters = letters; large = false }) (clipped (count_of (dim_tree d)))
dim_counted d variables letters h v l =
    let again = dim_again d h in
    λ i. record {
      constant = (sym again i).constant;
      variables = (v ∙ ap (λ (e : Linear). min (coefs_total e.coefs) (2 ^ 64 - 1)) (sym again)) i;
      letters = (l ∙ ap (lone_sum d.constant) v ∙ lone_clipped d.constant (coefs_total d.coefs) ∙ ap (λ n. min n (2 ^ 64 - 1)) (sym (dim_letters d h))) i;
      large = sym (dim_large d h) i;
    }

-- ---- the tree of a word

-- this stands for no number and no variable
abbrev IsPlain : Index → Type 0
IsPlain i = (norm_dim i).constant ≡ 0 × coefs_total (norm_dim i).coefs ≡ 0

plain_run : (xs after : List Index) → (xs ≡ [] → ⊥) → IsPlain (join_of_parts (run_part xs after))
plain_run [] after ne = absurd (ne refl)
plain_run (x ∷ xs) [] ne = (refl, refl)
plain_run (x ∷ xs) (y ∷ ys) ne = (refl, refl)

filled : {A : Type 0} (xs ys : List A) (y : A) → onto xs (y ∷ ys) ≡ [] → ⊥
filled [] ys y e = absurd (no e)
  where
    no : y ∷ ys ≡ [] → ⊥
    no q = let l : length (y ∷ ys) ≡ 0 = ap length q in omega (arith, l)
filled (x ∷ xs) ys y e = filled xs (y ∷ ys) x e

plain_word : (run : List Index) (x : Index) (ls : List Letter) → IsPlain (join_of_parts (word_parts (x ∷ run) ls))
plain_word run x [] = plain_run (onto run (x ∷ [])) [] (filled run [] x)
plain_word run x (letter.Dim d ∷ ls) = plain_word (x ∷ run) (dim_tree d) ls
plain_word run x (letter.Var k ∷ ls) = plain_run (onto run (x ∷ [])) (var k ∷ word_parts [] ls) (filled run [] x)

-- a variable before other parts
plain_more : (x : Index) (ys : List Index) → (ys ≡ [] → ⊥) → IsPlain (join_of_parts (x ∷ ys))
plain_more x [] ne = absurd (ne refl)
plain_more x (y ∷ ys) ne = (refl, refl)

some_run : (xs after : List Index) → (xs ≡ [] → ⊥) → run_part xs after ≡ [] → ⊥
some_run [] after ne e = ne refl
some_run (x ∷ xs) after ne e = let l : length (run_part (x ∷ xs) after) ≡ 0 = ap length e in omega (arith, l)

some_parts : (run : List Index) (x : Index) (ls : List Letter) → word_parts (x ∷ run) ls ≡ [] → ⊥
some_parts run x [] e = some_run (onto run (x ∷ [])) [] (filled run [] x) e
some_parts run x (letter.Dim d ∷ ls) e = some_parts (x ∷ run) (dim_tree d) ls e
some_parts run x (letter.Var k ∷ ls) e = some_run (onto run (x ∷ [])) (var k ∷ word_parts [] ls) (filled run [] x) e

some_word : (l : Letter) (ls : List Letter) → word_parts [] (l ∷ ls) ≡ [] → ⊥
some_word (letter.Dim d) ls e = some_parts [] (dim_tree d) ls e
some_word (letter.Var k) ls e = let n : length (var k ∷ word_parts [] ls) ≡ 0 = ap length e in omega (arith, n)

word_as_dim : (w : List Letter) → (norm_dim (word_tree w)).constant ≡ 0 × coefs_total (norm_dim (word_tree w)).coefs ≡ lone_letter w
word_as_dim [] = (refl, refl)
word_as_dim (letter.Dim d ∷ ls) = plain_word [] (dim_tree d) ls
word_as_dim (letter.Var k ∷ []) = (refl, refl)
word_as_dim (letter.Var k ∷ l ∷ ls) = plain_more (var k) (word_parts [] (l ∷ ls)) (some_word l ls)

lone_small : (w : List Letter) → lone_letter w ≡ min (lone_letter w) (2 ^ 64 - 1)
lone_small [] = refl
lone_small (letter.Dim d ∷ ls) = refl
lone_small (letter.Var k ∷ []) = refl
lone_small (letter.Var k ∷ l ∷ ls) = refl

pub word_counted : (w : List Letter) (variables letters : ℕ) (large : _) → AreNormal w → variables ≡ lone_letter w → letters ≡ min (letters_size w) (2 ^ 64 - 1) → large ≡ has_large w →
    ◌≡◌ {A = Count} (record { constant = 0; variables = variables; letters = letters; large = large }) (clipped (count_of (word_tree w)))
word_counted w variables letters large h v l g =
    let again = tree_again w h in
    λ i. record {
      constant = sym (word_as_dim w).0 i;
      variables = (v ∙ lone_small w ∙ ap (λ n. min n (2 ^ 64 - 1)) (sym (word_as_dim w).1)) i;
      letters = (l ∙ ap (λ u. min (letters_size u) (2 ^ 64 - 1)) (sym again)) i;
      large = (g ∙ ap has_large (sym again)) i;
    }
