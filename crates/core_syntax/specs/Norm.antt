-- Normal forms of indices, their sizes and their text.
use Rattle.std.specs.Prelude.{ℕ, zero, suc, ◌+◌, ◌-◌, Bool, false, ◌||◌, ◌==◌, nat_lt, if◌then◌else◌, List, [], ◌∷◌, ◌++◌, Option, Some, None, replicate, codes, decimal}
use Rattle.core_syntax.specs.declared.index.Sort.{Sort}
use Rattle.core_syntax.specs.declared.index.Sort.TheVariants as sort
use Rattle.core_syntax.specs.declared.norm.Coef.{Coef}
use Rattle.core_syntax.specs.declared.norm.Letter.{Letter}
use Rattle.core_syntax.specs.declared.norm.Letter.TheVariants as letter
use Rattle.core_syntax.specs.declared.norm.NormIndex.{NormIndex}
use Rattle.core_syntax.specs.declared.norm.NormIndex.TheVariants as norm
use Rattle.core_syntax.specs.Syntax.{Index, Num, Var, Sum, Dims, Join, Indices, end, more}
use Rattle.core_syntax.specs.Nodes.{number, var, total, vector, joined_shape}
use Rattle.core_syntax.specs.Linear.{Linear, dim_size}
use Rattle.core_syntax.specs.Word.{Word, word_size}
use Rattle.core_syntax.specs.Lists.{onto}
use Rattle.core_syntax.specs.Limits.{largest_number, largest_size, largest_depth}

-- ---- linear forms

-- a constant alone
abbrev pub constant : ℕ → Linear
constant n = record { constant = n; coefs = [] }

-- a variable, added n times
abbrev pub coef : ℕ → ℕ → Coef
coef k n = record { var = k; times = n }

-- a variable alone
abbrev pub variable : ℕ → Linear
variable k = record { constant = 0; coefs = coef k 1 ∷ [] }

-- variable k added n times more, where the variables rise
abbrev pub add_coef : ℕ → ℕ → List Coef → List Coef
add_coef k n [] = coef k n ∷ []
add_coef k n (c ∷ cs) =
    if nat_lt k c.var then coef k n ∷ c ∷ cs else (if k == c.var then coef k (n + c.times) ∷ cs else c ∷ add_coef k n cs)

-- the variables of both
abbrev pub add_coefs : List Coef → List Coef → List Coef
add_coefs [] ds = ds
add_coefs (c ∷ cs) ds = add_coef c.var c.times (add_coefs cs ds)

-- the sum of two linear forms
abbrev pub add : Linear → Linear → Linear
add a b = record { constant = a.constant + b.constant; coefs = add_coefs a.coefs b.coefs }

-- ---- normal forms of indices

-- the normal form of an index of sort Dim: its constant, and how often each variable is added
abbrev mutual
  pub norm_dim : Index → Linear
  norm_dim (Num at n) = constant n
  norm_dim (Var at k) = variable k
  norm_dim (Sum at is) = norm_sum is
  norm_dim (Dims at is) = constant 0
  norm_dim (Join at is) = constant 0

  -- the sum of the normal forms of a list
  pub norm_sum : Indices → Linear
  norm_sum end = constant 0
  norm_sum (more i is) = add (norm_dim i) (norm_sum is)

-- a letter for each of a list of indices of sort Dim
abbrev pub norm_letters : Indices → List Letter
norm_letters end = []
norm_letters (more i is) = letter.Dim (norm_dim i) ∷ norm_letters is

-- the normal form of an index of sort Shape: its letters in order
abbrev mutual
  pub norm_word : Index → Word
  norm_word (Num at n) = []
  norm_word (Var at k) = letter.Var k ∷ []
  norm_word (Sum at is) = []
  norm_word (Dims at is) = norm_letters is
  norm_word (Join at is) = norm_words is

  -- the words of a list of indices of sort Shape, joined
  pub norm_words : Indices → Word
  norm_words end = []
  norm_words (more i is) = norm_word i ++ norm_words is

-- the normal form of an index of a sort
abbrev pub norm_at : Sort → Index → NormIndex
norm_at sort.Dim i = norm.Dim (norm_dim i)
norm_at sort.Shape i = norm.Shape (norm_word i)

-- ---- normal forms as trees, in the form of their text

-- the variables of a linear form, each as often as its coefficient says, the outermost first, before these
abbrev pub coef_vars : List Coef → List Index → List Index
coef_vars [] after = after
coef_vars (c ∷ cs) after = coef_vars cs (replicate c.times (var c.var) ++ after)

-- no part is 0, one part stands alone, and more are added
abbrev pub sum_of_parts : List Index → Index
sum_of_parts [] = number 0
sum_of_parts (i ∷ []) = i
sum_of_parts (i ∷ j ∷ is) = total (i ∷ j ∷ is)

-- a constant that isn't 0 is a part
abbrev pub constant_part : ℕ → List Index
constant_part zero = []
constant_part (suc n) = number (suc n) ∷ []

-- the tree of a linear form
abbrev pub dim_tree : Linear → Index
dim_tree d = sum_of_parts (coef_vars d.coefs (constant_part d.constant))

-- a run of linear forms as one part, before these
abbrev pub run_part : List Index → List Index → List Index
run_part [] after = after
run_part (i ∷ is) after = vector (i ∷ is) ∷ after

-- the parts of a word, behind the run of linear forms that was read so far, its last first
abbrev pub word_parts : List Index → Word → List Index
word_parts run [] = run_part (onto run []) []
word_parts run (letter.Dim d ∷ ls) = word_parts (dim_tree d ∷ run) ls
word_parts run (letter.Var k ∷ ls) = run_part (onto run []) (var k ∷ word_parts [] ls)

-- no part is the empty list, one part stands alone, and more are joined
abbrev pub join_of_parts : List Index → Index
join_of_parts [] = vector []
join_of_parts (i ∷ []) = i
join_of_parts (i ∷ j ∷ is) = joined_shape (i ∷ j ∷ is)

-- the tree of a word
abbrev pub word_tree : Word → Index
word_tree ls = join_of_parts (word_parts [] ls)

-- ---- measures

-- a constant is above the largest number
abbrev pub is_large : Linear → Bool
is_large d = nat_lt largest_number d.constant

-- some constant is
abbrev pub has_large : Word → Bool
has_large [] = false
has_large (letter.Dim d ∷ ls) = is_large d || has_large ls
has_large (letter.Var k ∷ ls) = has_large ls

-- 13 where a constant is too large, else 16 where the size or the depth is
abbrev pub measured : Bool → ℕ → ℕ → Option ℕ
measured large size depth = if large then Some 13 else (if nat_lt largest_size size || nat_lt largest_depth depth then Some 16 else None)

-- the measure of an index of a sort
abbrev pub measure_at : Sort → Index → Option ℕ
measure_at sort.Dim i = measured (is_large (norm_dim i)) (dim_size (norm_dim i)) 0
measure_at sort.Shape i = measured (has_large (norm_word i)) (word_size (norm_word i)) 0

-- ---- the text of a normal form's tree. `binders` counts the binders outside, so variable k prints as the number of its binder from outside

-- the parts in a row, with a space before each
abbrev pub spaced : List (List ℕ) → List ℕ
spaced [] = []
spaced (x ∷ xs) = codes " " ++ x ++ spaced xs

-- a head and its parts in brackets
abbrev pub bracketed : List ℕ → List (List ℕ) → List ℕ
bracketed head parts = codes "(" ++ head ++ spaced parts ++ codes ")"

-- the name of a bound variable
abbrev pub name_text : ℕ → ℕ → List ℕ
name_text binders k = codes "i" ++ decimal (binders - suc k)

-- the text of an index
abbrev mutual
  pub index_text : ℕ → Index → List ℕ
  index_text binders (Num at n) = decimal n
  index_text binders (Var at k) = name_text binders k
  index_text binders (Sum at is) = bracketed (codes "+") (index_texts binders is)
  index_text binders (Dims at is) = bracketed (codes "shape") (index_texts binders is)
  index_text binders (Join at is) = bracketed (codes "++") (index_texts binders is)

  -- the texts of a list of indices
  pub index_texts : ℕ → Indices → List (List ℕ)
  index_texts binders end = []
  index_texts binders (more i is) = index_text binders i ∷ index_texts binders is
