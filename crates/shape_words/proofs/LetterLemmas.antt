-- The first large number and the size of a word that is made part by part.
use Rattle.std.proofs.Common.{◌≡◌, ℕ, ◌+◌, ◌-◌, ◌^◌, ◌<◌, ◌≤◌, min, Bool, true, false, cond, ◌||◌, List, [], ◌∷◌, ◌++◌, length, take, get_or, refl, ap, ◌∙◌, arith, Option, Some, None, option_map, nat_lt}
use Rattle.std.proofs.lemmas.Bool.{lt-ltb, le-ltb}
use Rattle.std.proofs.lemmas.List.{take_all}
use Rattle.std.specs.List.{flat_map}
use Rattle.core_syntax.specs.declared.index.Index.{Index}
use Rattle.core_syntax.specs.declared.index.IndexForm.{Dims, Join}
use Rattle.core_syntax.specs.declared.norm.Letter.{Letter}
use Rattle.core_syntax.specs.declared.norm.Letter.TheVariants.{Dim, Var}
use Rattle.core_syntax.specs.Word.{letters_size}
use Rattle.core_syntax.specs.Refine.{index_of}
use Rattle.core_syntax.specs.Norm.{norm_dim, norm_word, has_large}
use Rattle.core_syntax.proofs.PartLemmas.{is_dims, is_join, letters_parts, words_parts, dim_letter, tree_word, part_read, part_split}
use Rattle.shape_words.specs.Refusal.{large_number}

-- the word of an index, by its parts
module _ (j : Index) (parts now : List Index) where
  pub word_dims : j.form ≡ Dims parts → now ≡ parts → norm_word (index_of j) ≡ flat_map dim_letter now
  word_dims p q = ap norm_word (is_dims j parts now q p) ∙ letters_parts now

  pub word_join : j.form ≡ Join parts → now ≡ parts → norm_word (index_of j) ≡ flat_map tree_word now
  word_join p q = ap norm_word (is_join j parts now q p) ∙ words_parts now

large_none : (a b : List Letter) → large_number a ≡ None → large_number (a ++ b) ≡ large_number b
large_none [] b e = refl
large_none (Dim d ∷ a) b e = by_test (nat_lt (2 ^ 40) d.constant) e (large_none a b)
  where
    by_test : (t : Bool) → cond t (Some d.constant) (large_number a) ≡ None →
        (large_number a ≡ None → large_number (a ++ b) ≡ large_number b) →
        cond t (Some d.constant) (large_number (a ++ b)) ≡ large_number b
    by_test true e others = cc
    by_test false e others = others e
large_none (Var k ∷ a) b e = large_none a b e

large_some : (a b : List Letter) (n : ℕ) → large_number a ≡ Some n → large_number (a ++ b) ≡ Some n
large_some [] b n e = cc
large_some (Dim d ∷ a) b n e = by_test (nat_lt (2 ^ 40) d.constant) e (large_some a b n)
  where
    by_test : (t : Bool) → cond t (Some d.constant) (large_number a) ≡ Some n →
        (large_number a ≡ Some n → large_number (a ++ b) ≡ Some n) → cond t (Some d.constant) (large_number (a ++ b)) ≡ Some n
    by_test true e others = e
    by_test false e others = others e
large_some (Var k ∷ a) b n e = large_some a b n e

module _ (f : Index → List Letter) (xs : List Index) (i : ℕ) (x : Index) (lt : i < length xs) (is : x ≡ get_or xs i x) where
  large_passed : large_number (flat_map f (take i xs)) ≡ None → large_number (f x) ≡ None → large_number (flat_map f (take (i + 1) xs)) ≡ None
  large_passed before none = ap large_number (part_read f xs i x lt is) ∙ large_none (flat_map f (take i xs)) (f x) before ∙ none

  large_found : (n : ℕ) → large_number (flat_map f (take i xs)) ≡ None → large_number (f x) ≡ Some n → large_number (flat_map f xs) ≡ Some n
  large_found n before some =
      ap large_number (part_split f xs i x lt is)
      ∙ large_some (flat_map f (take i xs) ++ f x) _ n (large_none (flat_map f (take i xs)) (f x) before ∙ some)

-- the number as the program has it
abbrev pub shown : ℕ → ℕ
shown n = min n (2 ^ 64 - 1)

-- a large number of a linear form, and none
pub dims_found : (j : Index) (parts now : List Index) (i : ℕ) (x : Index) (number : ℕ) → j.form ≡ Dims parts → now ≡ parts →
    i < length now → x ≡ get_or now i x → large_number (flat_map dim_letter (take i now)) ≡ None →
    number ≡ min (norm_dim (index_of x)).constant (2 ^ 64 - 1) → 2 ^ 40 < number → Some number ≡ option_map shown (large_number (norm_word (index_of j)))
dims_found j parts now i x number p q lt is before e large =
    let some : large_number (dim_letter x) ≡ Some (norm_dim (index_of x)).constant = rw (lt-ltb (2 ^ 40) (norm_dim (index_of x)).constant (omega arith)) refl in
    rw (word_dims j parts now p q, large_found dim_letter now i x lt is _ before some) (ap Some e)

pub dims_passed : (now : List Index) (i : ℕ) (x : Index) (number : ℕ) → i < length now → x ≡ get_or now i x →
    large_number (flat_map dim_letter (take i now)) ≡ None → number ≡ min (norm_dim (index_of x)).constant (2 ^ 64 - 1) → number ≤ 2 ^ 40 →
    large_number (flat_map dim_letter (take (i + 1) now)) ≡ None
dims_passed now i x number lt is before e small =
    large_passed dim_letter now i x lt is before (rw (le-ltb (2 ^ 40) (norm_dim (index_of x)).constant (omega arith)) refl)

-- and of the parts of a `++`
pub join_found : (j : Index) (parts now : List Index) (i : ℕ) (x : Index) (number : ℕ) → j.form ≡ Join parts → now ≡ parts →
    i < length now → x ≡ get_or now i x → large_number (flat_map tree_word (take i now)) ≡ None →
    Some number ≡ option_map shown (large_number (tree_word x)) → Some number ≡ option_map shown (large_number (norm_word (index_of j)))
join_found j parts now i x number p q lt is before e = rw (word_join j parts now p q) (of (large_number (tree_word x)) refl)
  where
    of : (o : Option ℕ) → large_number (tree_word x) ≡ o → Some number ≡ option_map shown (large_number (flat_map tree_word now))
    of None none = let h = rw none at e in cc
    of (Some n) some = rw (large_found tree_word now i x lt is n before some) (rw some at e)

pub join_passed : (now : List Index) (i : ℕ) (x : Index) → i < length now → x ≡ get_or now i x →
    large_number (flat_map tree_word (take i now)) ≡ None → None ≡ option_map shown (large_number (tree_word x)) →
    large_number (flat_map tree_word (take (i + 1) now)) ≡ None
join_passed now i x lt is before e = large_passed tree_word now i x lt is before (of (large_number (tree_word x)) refl)
  where
    of : (o : Option ℕ) → large_number (tree_word x) ≡ o → large_number (tree_word x) ≡ None
    of None none = none
    of (Some n) some = let h = rw some at e in cc

-- what all parts say, once all are passed
pub dims_all : {A : Type 0} (F : List Letter → A) (j : Index) (parts now : List Index) (i : ℕ) → j.form ≡ Dims parts → now ≡ parts →
    length now ≤ i → F (flat_map dim_letter (take i now)) ≡ F (norm_word (index_of j))
dims_all F j parts now i p q le = rw (word_dims j parts now p q) (ap (λ xs. F (flat_map dim_letter xs)) (take_all i now le))

pub join_all : {A : Type 0} (F : List Letter → A) (j : Index) (parts now : List Index) (i : ℕ) → j.form ≡ Join parts → now ≡ parts →
    length now ≤ i → F (flat_map tree_word (take i now)) ≡ F (norm_word (index_of j))
join_all F j parts now i p q le = rw (word_join j parts now p q) (ap (λ xs. F (flat_map tree_word xs)) (take_all i now le))

pub letters_size-append : (a b : List Letter) → letters_size (a ++ b) ≡ letters_size a + letters_size b
letters_size-append [] b = omega arith
letters_size-append (l ∷ a) b = omega (arith, letters_size-append a b)

-- one more part of a size
pub size_passed : (f : Index → List Letter) (xs : List Index) (i : ℕ) (x : Index) → i < length xs → x ≡ get_or xs i x →
    letters_size (flat_map f (take (i + 1) xs)) ≡ letters_size (flat_map f (take i xs)) + letters_size (f x)
size_passed f xs i x lt is = ap letters_size (part_read f xs i x lt is) ∙ letters_size-append (flat_map f (take i xs)) (f x)

-- a word has a large number exactly where there is a first one
pub large_found_is : (ls : List Letter) (x : ℕ) → Some x ≡ option_map shown (large_number ls) → true ≡ has_large ls
large_found_is [] x e = cc
large_found_is (Dim d ∷ ls) x e = by_test (nat_lt (2 ^ 40) d.constant) e (large_found_is ls x)
  where
    by_test : (t : Bool) → Some x ≡ option_map shown (cond t (Some d.constant) (large_number ls)) →
        (Some x ≡ option_map shown (large_number ls) → true ≡ has_large ls) → true ≡ (t || has_large ls)
    by_test true e others = refl
    by_test false e others = others e
large_found_is (Var k ∷ ls) x e = large_found_is ls x e

pub large_none_is : (ls : List Letter) → None ≡ option_map shown (large_number ls) → false ≡ has_large ls
large_none_is [] e = refl
large_none_is (Dim d ∷ ls) e = by_test (nat_lt (2 ^ 40) d.constant) e (large_none_is ls)
  where
    by_test : (t : Bool) → None ≡ option_map shown (cond t (Some d.constant) (large_number ls)) →
        (None ≡ option_map shown (large_number ls) → false ≡ has_large ls) → false ≡ (t || has_large ls)
    by_test true e others = cc
    by_test false e others = others e
large_none_is (Var k ∷ ls) e = large_none_is ls e
