-- A word that is due no refusal has no part that is due one.
use Rattle.std.proofs.Common.{◌≡◌, ◌≢◌, ℕ, ◌^◌, ◌<◌, ◌≤◌, Bool, true, false, cond, ◌⊎◌, inl, inr, List, [], ◌∷◌, ◌++◌, length, take, get_or, refl, sym, ap, ◌∙◌, arith, Option, Some, None, nat_lt}
use Rattle.std.proofs.lemmas.Bool.{le-ltb}
use Rattle.std.proofs.lemmas.Bool.Decides.{nat_tests}
use Rattle.std.specs.List.{flat_map}
use Rattle.core_syntax.specs.declared.index.Index.{Index}
use Rattle.core_syntax.specs.declared.index.IndexForm.{Dims, Join}
use Rattle.core_syntax.specs.declared.norm.Letter.{Letter}
use Rattle.core_syntax.specs.declared.norm.Letter.TheVariants.{Dim, Var}
use Rattle.core_syntax.specs.Linear.{Linear}
use Rattle.core_syntax.specs.Word.{word_size}
use Rattle.core_syntax.specs.Refine.{index_of}
use Rattle.core_syntax.specs.Norm.{norm_dim, norm_word}
use Rattle.core_syntax.proofs.PartLemmas.{dim_letter, tree_word, part_split}
use Rattle.index_dims.specs.declared.refusal.DimRefusal.{DimRefusal}
use Rattle.index_dims.specs.declared.refusal.DimRefusal.TheVariants.{Memory, TooWide}
use Rattle.index_dims.specs.Refusal.{dim_refusal}
use Rattle.index_dims.proofs.RefusalLemmas.{dim_refusal-fits}
use Rattle.shape_words.specs.Refusal.{large_number, refusal_of, word_refusal}
use Rattle.shape_words.proofs.LetterLemmas.{word_dims, word_join, letters_size-append}

-- the two tests of a word
fits_tests : (o : Option ℕ) (size : ℕ) → refusal_of o size ≡ None → (o ≡ None) × (size ≤ 16384)
fits_tests None size e = (refl, by_test (nat_lt 16384 size) refl e)
  where
    by_test : (t : Bool) → nat_lt 16384 size ≡ t → cond t (Some TooWide) None ≡ None → size ≤ 16384
    by_test true test e = absurd cc
    by_test false test e = grind (arith, nat_tests)
fits_tests (Some n) size e = absurd cc

no_large_parts : (a b : List Letter) → large_number (a ++ b) ≡ None → (large_number a ≡ None) × (large_number b ≡ None)
no_large_parts [] b e = (refl, e)
no_large_parts (Dim d ∷ a) b e = by_test (nat_lt (2 ^ 40) d.constant) e (no_large_parts a b)
  where
    by_test : (t : Bool) → cond t (Some d.constant) (large_number (a ++ b)) ≡ None →
        (large_number (a ++ b) ≡ None → (large_number a ≡ None) × (large_number b ≡ None)) →
        (cond t (Some d.constant) (large_number a) ≡ None) × (large_number b ≡ None)
    by_test true e others = absurd cc
    by_test false e others = others e
no_large_parts (Var k ∷ a) b e = no_large_parts a b e

no_refusal : (w : List Letter) → large_number w ≡ None → word_size w ≤ 16384 → word_refusal w ≡ None
no_refusal w none le = ap (λ o. refusal_of o (word_size w)) none ∙ rw (le-ltb 16384 (word_size w) le) refl

part_fits : (a w b : List Letter) → word_refusal ((a ++ w) ++ b) ≡ None → word_refusal w ≡ None
part_fits a w b e =
    let tests = fits_tests (large_number ((a ++ w) ++ b)) (word_size ((a ++ w) ++ b)) e in
    no_refusal w (no_large_parts a w (no_large_parts (a ++ w) b tests.0).0).1
    (omega (arith, tests.1, letters_size-append (a ++ w) b, letters_size-append a w))

letter_fits : (d : Linear) → word_refusal (Dim d ∷ []) ≡ None → dim_refusal d ≡ None
letter_fits d e = by_test (nat_lt (2 ^ 40) d.constant) refl (fits_tests (large_number (Dim d ∷ [])) (word_size (Dim d ∷ [])) e)
  where
    by_test : (t : Bool) → nat_lt (2 ^ 40) d.constant ≡ t → (cond t (Some d.constant) None ≡ None) × (word_size (Dim d ∷ []) ≤ 16384) → dim_refusal d ≡ None
    by_test true test tests = absurd (let large = tests.0 in cc)
    by_test false test tests = dim_refusal-fits d (grind (arith, nat_tests)) (omega (arith, tests.1))

not_both : (o : Option DimRefusal) (e : DimRefusal) → o ≡ None → o ≡ Some e → ⊥
not_both o e none some = cc

-- a part's refusal is want of memory, or the whole is due one too
module _ (j : Index) (parts now : List Index) (i : ℕ) (x : Index) (e : DimRefusal) (same : now ≡ parts) (lt : i < length now) (is : x ≡ get_or now i x) where
  pub dims_refused : j.form ≡ Dims parts → (e ≡ Memory) ⊎ (dim_refusal (norm_dim (index_of x)) ≡ Some e) →
      (e ≡ Memory) ⊎ (word_refusal (norm_word (index_of j)) ≢ None)
  dims_refused p (inl memory) = inl memory
  dims_refused p (inr due) = inr (λ none.
      let whole = word_dims j parts now p same ∙ part_split dim_letter now i x lt is in
      let fits = part_fits (flat_map dim_letter (take i now)) (dim_letter x) _ (ap word_refusal (sym whole) ∙ none) in
      not_both _ e (letter_fits (norm_dim (index_of x)) fits) due)

  pub join_refused : j.form ≡ Join parts → (e ≡ Memory) ⊎ (word_refusal (norm_word (index_of x)) ≢ None) →
      (e ≡ Memory) ⊎ (word_refusal (norm_word (index_of j)) ≢ None)
  join_refused p (inl memory) = inl memory
  join_refused p (inr due) = inr (λ none.
      let whole = word_join j parts now p same ∙ part_split tree_word now i x lt is in
      due (part_fits (flat_map tree_word (take i now)) (tree_word x) _ (ap word_refusal (sym whole) ∙ none)))
