-- Words that are the same, that begin one another and that end one another, and the indices that come to them.
use Rattle.std.proofs.Common.{◌≡◌, ◌↔◌, ◌∙◌, ℕ, List, ◌++◌, length, take, IsTrue, Bool, refl, sym, ap, subst, arith, Option, None, Some, MatchOption, length-append, length-take-le, append-nil}
use Rattle.core_syntax.specs.declared.index.Sort.{Sort}
use Rattle.core_syntax.specs.declared.index.Sort.TheVariants as sort
use Rattle.core_syntax.specs.declared.norm.Letter.{Letter}
use Rattle.core_syntax.specs.Syntax.{Index}
use Rattle.core_syntax.specs.Sorts.{IsSorted}
use Rattle.core_syntax.specs.Word.{AreNormal, Begins}
use Rattle.core_syntax.specs.Value.{Valuation, shape_val, SameShape, IndexEqual, IsPrefix, then_shape}
use Rattle.core_syntax.specs.NormValue.{word_value_under}
use Rattle.core_syntax.specs.Norm.{norm_word}
use Rattle.shape_words.specs.Split.{Splits}
use Rattle.core_syntax.proofs.WordLemmas.{same_word, joined_word, word_value_under-append}
use Rattle.core_syntax.proofs.NormLemmas.{AreNormal-norm, WordIsIn, WordIsIn-norm, WordIsIn-parts}
use Rattle.core_syntax.proofs.NormValues.{norm_word_value}
use Rattle.core_syntax.proofs.TreeLemmas.{tree_of, tree_of-value, tree_of-sort}

pub values_same : (r : Bool) (a b : List Letter) → AreNormal a → AreNormal b → IsTrue r ↔ (a ≡ b) →
    IsTrue r ↔ ((v : Valuation) → word_value_under v a ≡ word_value_under v b)
values_same r a b p q is = (λ t v. ap (word_value_under v) (is.0 t), λ h. is.1 (same_word a b p q h))

-- indices are equal exactly where their words are the same
pub same_norm : (i j : Index) → SameShape i j → norm_word i ≡ norm_word j
same_norm i j h =
    same_word _ _ (AreNormal-norm i) (AreNormal-norm j) (λ v. norm_word_value v i ∙ h v ∙ sym (norm_word_value v j))

pub same_values : (i j : Index) → norm_word i ≡ norm_word j → SameShape i j
same_values i j e v = sym (norm_word_value v i) ∙ ap (word_value_under v) e ∙ norm_word_value v j

pub indices_same : (r : Bool) (a b : List Letter) → IsTrue r ↔ (a ≡ b) → (sorts : List Sort) (i j : Index) → IsSorted sorts sort.Shape i →
    IsSorted sorts sort.Shape j → norm_word i ≡ a → norm_word j ≡ b → IsTrue r ↔ IndexEqual sorts sort.Shape i j
indices_same r a b is sorts i j si sj p q =
    (λ t. (si, sj, same_values i j (p ∙ is.0 t ∙ sym q)), λ (h : IndexEqual sorts sort.Shape i j). is.1 (sym p ∙ same_norm i j h.2 ∙ q))

-- the values of two indices join to a third's exactly where their words do
joined_norm : (i j whole : Index) → SameShape (then_shape i j) whole → norm_word i ++ norm_word j ≡ norm_word whole
joined_norm i j whole h =
    joined_word _ _ _ (AreNormal-norm i) (AreNormal-norm j) (AreNormal-norm whole)
    (λ v. let a = norm_word_value v i in
    let b = norm_word_value v j in
    let c = norm_word_value v whole in
    let d = append-nil (shape_val v j) in
    let e = h v in cc)

joined_values : (x y : List Letter) (i j whole : Index) → ((v : Valuation) → shape_val v i ≡ word_value_under v x) →
    ((v : Valuation) → shape_val v j ≡ word_value_under v y) → x ++ y ≡ norm_word whole → SameShape (then_shape i j) whole
joined_values x y i j whole p q e v =
    let p' = p v in
    let q' = q v in
    let a = word_value_under-append v x y in
    let b = norm_word_value v whole in
    let c = ap (word_value_under v) e in
    let d = append-nil (shape_val v j) in
    cc

-- an index is a prefix of another exactly where its word begins the other's
pub prefix_from_word : (sorts : List Sort) (i j : Index) → IsSorted sorts sort.Shape i → IsSorted sorts sort.Shape j →
    Begins (norm_word i) (norm_word j) → IsPrefix sorts i j
prefix_from_word sorts i j si sj (x, e) =
    let parts = WordIsIn-parts sorts (norm_word i) x (subst (WordIsIn sorts) (sym e) (WordIsIn-norm sorts j sj)) in (
      tree_of x,
      ((refl, (si, (tree_of-sort sorts x parts.1, tt))), sj, joined_values (norm_word i) x i (tree_of x) j (λ v. sym (norm_word_value v i)) (λ v. tree_of-value v x) e),
    )

pub prefix_to_word : (sorts : List Sort) (i j : Index) → IsPrefix sorts i j → Begins (norm_word i) (norm_word j)
prefix_to_word sorts i j (x, h) = (norm_word x, joined_norm i x j h.2)

pub indices_prefix : (r : Bool) (a b : List Letter) → IsTrue r ↔ Begins a b → (sorts : List Sort) (i j : Index) → IsSorted sorts sort.Shape i →
    IsSorted sorts sort.Shape j → norm_word i ≡ a → norm_word j ≡ b → IsTrue r ↔ IsPrefix sorts i j
indices_prefix r a b is sorts i j si sj p q = (
  λ t. prefix_from_word sorts i j si sj (subst (λ (w : List Letter). Begins (norm_word i) w) (sym q)
      (subst (λ (w : List Letter). Begins w b) (sym p) (is.0 t))),
  λ h. is.1 (subst (λ (w : List Letter). Begins a w) q (subst (λ (w : List Letter). Begins w (norm_word j)) p (prefix_to_word sorts i j h))),
)

pub indices_split : (r : Option ℕ) (whole cell : List Letter) → Splits r whole cell →
    (sorts : List Sort) (i j : Index) → IsSorted sorts sort.Shape i → IsSorted sorts sort.Shape j → norm_word i ≡ cell → norm_word j ≡ whole →
    MatchOption r ((f : Index) → ¬ IndexEqual sorts sort.Shape (then_shape f i) j) (λ n. (f : Index) × IndexEqual sorts sort.Shape (then_shape f i) j × (length (norm_word f) ≡ n))
indices_split None whole cell none sorts i j si sj p q = λ f frame.
    none (norm_word f) (ap (λ w. norm_word f ++ w) (sym p) ∙ joined_norm f i j frame.2 ∙ q)
indices_split (Some n) whole cell split sorts i j si sj p q =
    let x = take n whole in
    let e : x ++ norm_word i ≡ norm_word j = ap (λ w. x ++ w) p ∙ split.1 ∙ sym q in
    let parts = WordIsIn-parts sorts x (norm_word i) (subst (WordIsIn sorts) (sym e) (WordIsIn-norm sorts j sj)) in
    let same_shape = joined_values x (norm_word i) (tree_of x) i j (λ v. tree_of-value v x) (λ v. sym (norm_word_value v i)) e in
    let frame : IndexEqual sorts sort.Shape (then_shape (tree_of x) i) j =
    ((refl, (tree_of-sort sorts x parts.0, (si, tt))), sj, same_shape) in
    let joined = joined_norm (tree_of x) i j same_shape in
    let same : length (norm_word (tree_of x)) ≡ n =
    omega (
      arith,
      ap length joined,
      ap length q,
      ap length e,
      length-append (norm_word (tree_of x)) (norm_word i),
      length-append x (norm_word i),
      length-take-le n whole split.0,
    ) in
    (tree_of x, frame, same)
