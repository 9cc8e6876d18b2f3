-- Indices that are given, and what is refused of them.
use Rattle.std.proofs.Common.{◌≡◌, ◌∙◌, refl, sym, ap, subst, ℕ, ◌+◌, ◌<◌, min, List, [], ◌∷◌, ◌++◌, length, drop, get_or, append-nil, Bool, true, false, ◌||◌, if◌then◌else◌, Option, Some, None, ◌⊎◌, inl, inr}
use Rattle.std.proofs.lemmas.List.{drop_more}
use Rattle.std.specs.Prelude.{Result, Ok, Err}
use Rattle.core_syntax.specs.declared.span.Span.{Span}
use Rattle.core_syntax.specs.declared.index.Sort.{Sort}
use Rattle.core_syntax.specs.declared.index.Sort.TheVariants as sort
use Rattle.core_syntax.specs.declared.index.Index.{Index as Tree}
use Rattle.core_syntax.specs.declared.norm.Letter.{Letter}
use Rattle.core_syntax.specs.declared.norm.Letter.TheVariants as letter
use Rattle.core_syntax.specs.declared.norm.NormIndex.{NormIndex}
use Rattle.core_syntax.specs.declared.norm.NormIndex.TheVariants as norm
use Rattle.core_syntax.specs.Syntax.{Index, index_at}
use Rattle.core_syntax.specs.Lists.{each}
use Rattle.core_syntax.specs.Sorts.{IsSorted, own_sort, is_sort, first_of_two, refuse_unless, inner_blame, index_blame}
use Rattle.core_syntax.specs.Norm.{is_large, has_large, measured, measure_at, norm_dim, norm_word, norm_at}
use Rattle.core_syntax.specs.Refine.{index_of}
use Rattle.core_syntax.specs.Typing.{Context}
use Rattle.core_syntax.specs.Blame.{Premises, tested, measure, ◌then◌, written_indices}
use Rattle.core_syntax.proofs.TreeRows.{at_form}
use Rattle.core_syntax.proofs.Unique.{some_is}
use Rattle.kind_check.proofs.SortLemmas.{is_some, sorted_to, first_both, unless_true, own_is}
use Rattle.index_dims.specs.declared.refusal.DimRefusal.{DimRefusal}
use Rattle.index_dims.specs.declared.refusal.DimRefusal.TheVariants.{TooLarge, TooWide}
use Rattle.index_dims.specs.Refusal.{dim_refusal}
use Rattle.shape_words.specs.Refusal.{large_number, refusal_of, word_refusal}
use Rattle.type_check.specs.declared.refusal.TypeRefusal.{TypeRefusal}
use Rattle.type_check.specs.declared.refusal.TypeRefusal.TheVariants.{Refused}
use Rattle.type_check.specs.Found.{Refuses}
use Rattle.type_check.specs.Numbers.{dim_number}
use Rattle.type_check.specs.Written.{Tells, AreNormalIndicesOf}
use Rattle.type_check.proofs.exits.Refusing.{in_first, in_later}
use Rattle.type_check.proofs.one_by_one.Loops.{Leaves, next}

-- ---- measures

by_tests : (a b : Bool) (n : ℕ) (e : DimRefusal) → (if a then Some (TooLarge n) else (if b then Some TooWide else None)) ≡ Some e
    → dim_number e ≡ (if a then Some 13 else (if b || false then Some 16 else None))
by_tests true b n e h = ap dim_number (sym (some_is (TooLarge n) e h))
by_tests false true n e h = ap dim_number (sym (some_is TooWide e h))
by_tests false false n e h = cc

no_tests : (a b : Bool) (n : ℕ) → ◌≡◌ {A = Option DimRefusal} (if a then Some (TooLarge n) else (if b then Some TooWide else None)) None
    → ◌≡◌ {A = Option ℕ} (if a then Some 13 else (if b || false then Some 16 else None)) None
no_tests true b n h = cc
no_tests false true n h = cc
no_tests false false n h = refl

pub dim_measured : (i : Index) (e : DimRefusal) → dim_refusal (norm_dim i) ≡ Some e → dim_number e ≡ measure_at sort.Dim i
dim_measured i e h = by_tests (is_large (norm_dim i)) _ _ e h

pub dim_fits : (i : Index) → dim_refusal (norm_dim i) ≡ None → measure_at sort.Dim i ≡ None
dim_fits i h = no_tests (is_large (norm_dim i)) _ _ h

letters_measured : (w : List Letter) (size : ℕ) (e : DimRefusal) → refusal_of (large_number w) size ≡ Some e → dim_number e ≡ measured (has_large w) size 0
letters_measured [] size e h = by_tests false _ 0 e h
letters_measured (letter.Var k ∷ ls) size e h = letters_measured ls size e h
letters_measured (letter.Dim d ∷ ls) size e h = by (is_large d) (letters_measured ls size e) h
  where
    by : (b : Bool) → (refusal_of (large_number ls) size ≡ Some e → dim_number e ≡ measured (has_large ls) size 0)
        → refusal_of (if b then Some d.constant else large_number ls) size ≡ Some e → dim_number e ≡ measured (b || has_large ls) size 0
    by true later h = ap dim_number (sym (some_is (TooLarge (min d.constant 18446744073709551615)) e h))
    by false later h = later h

letters_fit : (w : List Letter) (size : ℕ) → refusal_of (large_number w) size ≡ None → measured (has_large w) size 0 ≡ None
letters_fit [] size h = no_tests false _ 0 h
letters_fit (letter.Var k ∷ ls) size h = letters_fit ls size h
letters_fit (letter.Dim d ∷ ls) size h = by (is_large d) (letters_fit ls size) h
  where
    by : (b : Bool) → (refusal_of (large_number ls) size ≡ None → measured (has_large ls) size 0 ≡ None)
        → refusal_of (if b then Some d.constant else large_number ls) size ≡ None → measured (b || has_large ls) size 0 ≡ None
    by true later h = cc
    by false later h = later h

pub word_measured : (i : Index) (e : DimRefusal) → word_refusal (norm_word i) ≡ Some e → dim_number e ≡ measure_at sort.Shape i
word_measured i e h = letters_measured (norm_word i) _ e h

pub word_fits : (i : Index) → word_refusal (norm_word i) ≡ None → measure_at sort.Shape i ≡ None
word_fits i h = letters_fit (norm_word i) _ h

-- ---- one index

-- the premises of an index of a sort
abbrev pub given : List Sort → Sort → Index → Premises
given sorts s i = tested (index_blame sorts s i) then measure (measure_at s i) (index_at i)

-- a part is ill sorted
pub ill_sorted : (sorts : List Sort) (s : Sort) (i : Index) (at : Span) → inner_blame sorts i ≡ Some (14, at) → Refuses (given sorts s i) (Refused 14 at)
ill_sorted sorts s i at e = inl (ap (λ o. first_of_two o (refuse_unless (is_sort s (own_sort sorts i)) 14 (index_at i))) e)

-- it is of another sort
pub of_another : (sorts : List Sort) (s q : Sort) (i : Index) (at : Span) → IsSorted sorts s i → is_sort q (Some s) ≡ false → at ≡ index_at i → Refuses (given sorts q i) (Refused 14 at)
of_another sorts s q i at h other place =
    inl (ap (λ o. first_of_two o (refuse_unless (is_sort q (own_sort sorts i)) 14 (index_at i))) sorted.1
    ∙ ap (λ b. refuse_unless b 14 (index_at i)) (ap (is_sort q) sorted.0 ∙ other) ∙ ap (λ at. Some (14, at)) (sym place))
  where
    sorted : (own_sort sorts i ≡ Some s) × (inner_blame sorts i ≡ None)
    sorted = sorted_to sorts s i h

unblamed : (sorts : List Sort) (s : Sort) (i : Index) → IsSorted sorts s i → index_blame sorts s i ≡ None
unblamed sorts s i h =
    let sorted = sorted_to sorts s i h in
    first_both (inner_blame sorts i) _ sorted.1 (unless_true (is_sort s (own_sort sorts i)) 14 (index_at i) (own_is s (own_sort sorts i) sorted.0))

-- the sort of its own is the one that is asked for
pub of_this : (sorts : List Sort) (s q : Sort) (i : Index) → IsSorted sorts s i → is_sort q (Some s) ≡ true → IsSorted sorts q i
of_this sorts s q i h e = subst (λ q. IsSorted sorts q i) (some_is s q (is_some q (Some s) e)) h

-- what a refusal says of the measure at a sort
pub same_either : (s q : Sort) (i : Index) (e : DimRefusal) (P : Type 0) (o : Option DimRefusal) → s ≡ q → P ⊎ (o ≡ Some e) → (o ≡ Some e → dim_number e ≡ measure_at q i) → P ⊎ (dim_number e ≡ measure_at s i)
same_either s q i e P o f (inl p) told = inl p
same_either s q i e P o f (inr h) told = inr (told h ∙ ap (λ s. measure_at s i) (sym f))

pub word_given : (s : Sort) (i : Index) (w : List Letter) → s ≡ sort.Shape → w ≡ norm_word i → word_refusal (norm_word i) ≡ None → (measure_at s i ≡ None) × (norm.Shape w ≡ norm_at s i)
word_given s i w f e fits = subst (λ s. (measure_at s i ≡ None) × (norm.Shape w ≡ norm_at s i)) (sym f) (word_fits i fits, ap norm.Shape e)

-- it is of the sort, and then measured
pub sorted_given : (sorts : List Sort) (s : Sort) (t : Tree) → IsSorted sorts s (index_of t) → (r : Result NormIndex TypeRefusal)
    → Tells (measure (measure_at s (index_of t)) t.at) (λ n. n ≡ norm_at s (index_of t)) r
    → Tells (given sorts s (index_of t)) (λ n. IsSorted sorts s (index_of t) × (n ≡ norm_at s (index_of t))) r
sorted_given sorts s t h (Ok n) told = ((unblamed sorts s (index_of t) h, told.0), (h, told.1))
sorted_given sorts s t h (Err r) told =
    in_later (tested (index_blame sorts s (index_of t))) (measure (measure_at s (index_of t)) (index_at (index_of t))) r (unblamed sorts s (index_of t) h)
    (subst (λ at. Refuses (measure (measure_at s (index_of t)) at) r) (sym (at_form t.at t.form)) told)

-- ---- indices one by one

abbrev pub IndicesLeave : Context → List Sort → List Tree → List Sort → List Tree → List NormIndex → Type 0
IndicesLeave Γ bound whole ss is done =
    Leaves (written_indices Γ bound (each index_of whole)) (written_indices Γ ss (each index_of is)) (AreNormalIndicesOf Γ bound (each index_of whole)) (AreNormalIndicesOf Γ ss (each index_of is)) done

module _ (Γ : Context) (bound : List Sort) (whole : List Tree) (done now : List NormIndex) (k : ℕ) (s : Sort) (x : Tree)
    (in_bound : k < length bound) (lt : k < length whole) (s_is : s ≡ get_or bound k s) (x_is : x ≡ get_or whole k x) where
  sorts_behind : drop k bound ≡ s ∷ drop (k + 1) bound
  sorts_behind = drop_more bound k s in_bound ∙ ap (λ y. y ∷ drop (k + 1) bound) (sym s_is)

  behind : drop k whole ≡ x ∷ drop (k + 1) whole
  behind = drop_more whole k x lt ∙ ap (λ y. y ∷ drop (k + 1) whole) (sym x_is)

  left_is : (l : IndicesLeave Γ bound whole (drop k bound) (drop k whole) done) → IndicesLeave Γ bound whole (s ∷ drop (k + 1) bound) (x ∷ drop (k + 1) whole) done
  left_is l = subst (λ is. IndicesLeave Γ bound whole (s ∷ drop (k + 1) bound) is done) behind (subst (λ ss. IndicesLeave Γ bound whole ss (drop k whole) done) sorts_behind l)

  pub index_next : (n : NormIndex) → now ≡ done ++ n ∷ [] → IndicesLeave Γ bound whole (drop k bound) (drop k whole) done
      → Tells (given Γ.sorts s (index_of x)) (λ n. IsSorted Γ.sorts s (index_of x) × (n ≡ norm_at s (index_of x))) (Ok n)
      → IndicesLeave Γ bound whole (drop (k + 1) bound) (drop (k + 1) whole) now
  index_next n e l told =
      next _ _ _ _ _ _ done now n e (left_is l)
      (λ m. (told.0, m)) (λ ns s. (told.1.0, told.1.1, s)) (λ r h. in_later (given Γ.sorts s (index_of x)) (written_indices Γ (drop (k + 1) bound) (each index_of (drop (k + 1) whole))) r told.0 h)

  pub index_refused : (r : TypeRefusal) → IndicesLeave Γ bound whole (drop k bound) (drop k whole) done → Refuses (given Γ.sorts s (index_of x)) r → Refuses (written_indices Γ bound (each index_of whole)) r
  index_refused r l h =
      (left_is l).fail r (in_first (given Γ.sorts s (index_of x)) (written_indices Γ (drop (k + 1) bound) (each index_of (drop (k + 1) whole))) r h)

pub indices_end : (Γ : Context) (bound : List Sort) (whole : List Tree) (ss : List Sort) (is : List Tree) (done : List NormIndex) → ss ≡ [] → is ≡ []
    → IndicesLeave Γ bound whole ss is done → (written_indices Γ bound (each index_of whole)).met × AreNormalIndicesOf Γ bound (each index_of whole) done
indices_end Γ bound whole ss is done e f l =
    let end = (subst (λ is. IndicesLeave Γ bound whole [] is done) f (subst (λ ss. IndicesLeave Γ bound whole ss is done) e l)).pass [] tt tt in
    (end.0, subst (AreNormalIndicesOf Γ bound (each index_of whole)) (append-nil done) end.1)
