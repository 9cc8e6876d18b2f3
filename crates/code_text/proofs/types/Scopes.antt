-- The scope of binders.
use Rattle.std.proofs.Common.{◌≡◌, inl, inr, ℕ, zero, suc, ◌+◌, ◌^◌, ◌≤◌, ◌<◌, cond, nat_le, Bool, true, false, ◌&&◌, ◌||◌, List, [], ◌∷◌, length, ap, sym, subst, ◌∙◌, refl, arith, ⊎_elim}
use Rattle.std.proofs.lemmas.Bool.{false≢true, le-leb, leb-true}
use Rattle.core_syntax.specs.declared.index.Sort.{Sort}
use Rattle.core_syntax.specs.declared.index.Sort.TheVariants as sort
use Rattle.machine_table.specs.IndexBounds.{Under, Binds}
use Rattle.code_text.specs.Reading.{plainly}
use Rattle.code_text.specs.IndexReading.{same_sort, candidates, among_at, has}
use Rattle.code_text.proofs.goes.Goes.{true_or_false, both_left, both_right}
use Rattle.code_text.proofs.codecs.Many.{agree}
use Rattle.code_text.proofs.indices.Sums.{IsVarUpTo}
use Rattle.code_text.proofs.indices.Dims.{Scoped}
use Rattle.code_text.proofs.types.Binders.{Among, name_of, among_codec}

pub sort_is : (a b : Sort) → same_sort a b ≡ true → a ≡ b
sort_is sort.Dim sort.Dim e = refl
sort_is sort.Shape sort.Shape e = refl
sort_is sort.Dim sort.Shape e = absurd (false≢true e)
sort_is sort.Shape sort.Dim e = absurd (false≢true e)

sort_same : (a b : Sort) → a ≡ b → same_sort a b ≡ true
sort_same a b e = subst (λ (c : Sort). same_sort a c ≡ true) e (self a)
  where
    self : (a : Sort) → same_sort a a ≡ true
    self sort.Dim = refl
    self sort.Shape = refl

pub binds_below : (s : Sort) (bs : List Sort) (k : ℕ) → Binds s bs k → k < length bs
binds_below s [] k is = absurd is
binds_below s (b ∷ bs) zero is = omega arith
binds_below s (b ∷ bs) (suc k) is = omega (arith, binds_below s bs k is)

binds_has : (s : Sort) (bs : List Sort) (k : ℕ) → Binds s bs k → has s bs ≡ true
binds_has s [] k is = absurd is
binds_has s (b ∷ bs) zero is = ap (λ (x : Bool). x || has s bs) (sort_same b s is)
binds_has s (b ∷ bs) (suc k) is = ap (λ (x : Bool). same_sort b s || x) (binds_has s bs k is) ∙ or_true (same_sort b s)
  where
    or_true : (x : Bool) → (x || true) ≡ true
    or_true true = refl
    or_true false = refl

has_binds : (s : Sort) (bs : List Sort) → has s bs ≡ true → (k : ℕ) × Binds s bs k
has_binds s [] e = absurd (false≢true e)
has_binds s (b ∷ bs) e =
    ⊎_elim
    (λ t. (0, sort_is b s t))
    (λ f. let r = has_binds s bs (sym (ap (λ (x : Bool). x || has s bs) f) ∙ e) in (suc r.0, r.1))
    (true_or_false (same_sort b s))

module _ (s : Sort) (top : ℕ) where
  abbrev fits : Sort → ℕ → Bool
  fits b i = same_sort b s && nat_le i top

  taken : (b : Sort) (bs : List Sort) (i : ℕ) → fits b i ≡ true → candidates s top i (b ∷ bs) ≡ i ∷ candidates s top (suc i) bs
  taken b bs i e = ap (λ (x : Bool). cond x (i ∷ candidates s top (suc i) bs) (candidates s top (suc i) bs)) e

  passed : (b : Sort) (bs : List Sort) (i : ℕ) → fits b i ≡ false → candidates s top i (b ∷ bs) ≡ candidates s top (suc i) bs
  passed b bs i e = ap (λ (x : Bool). cond x (i ∷ candidates s top (suc i) bs) (candidates s top (suc i) bs)) e

  -- a binder of this sort, counted from i
  record Chosen (i : ℕ) (bs : List Sort) (k : ℕ) : Type 0 where
    place : ℕ
    is : k ≡ i + place
    binds : Binds s bs place
    small : k ≤ top

  next_chosen : (b : Sort) (bs : List Sort) (i k : ℕ) → Chosen (suc i) bs k → Chosen i (b ∷ bs) k
  next_chosen b bs i k c = record { place = suc c.place; is = omega (arith, c.is); binds = c.binds; small = c.small }

  chosen : (bs : List Sort) (i k : ℕ) → Among (candidates s top i bs) k → Chosen i bs k
  chosen [] i k is = absurd is
  chosen (b ∷ bs) i k is =
      ⊎_elim
      (λ t. go t (subst (λ (ks : List ℕ). Among ks k) (taken b bs i t) is) (chosen bs (suc i) k))
      (λ f. next_chosen b bs i k (chosen bs (suc i) k (subst (λ (ks : List ℕ). Among ks k) (passed b bs i f) is)))
      (true_or_false (fits b i))
    where
      go : fits b i ≡ true → Among (i ∷ candidates s top (suc i) bs) k → (Among (candidates s top (suc i) bs) k → Chosen (suc i) bs k) → Chosen i (b ∷ bs) k
      go t (inl e) rest = record { place = 0; is = omega arith; binds = sort_is b s (both_left (same_sort b s) _ t); small = let le = leb-true i top (both_right (same_sort b s) _ t) in omega arith }
      go t (inr h) rest = next_chosen b bs i k (rest h)

  choose : (bs : List Sort) (i j : ℕ) → Binds s bs j → i + j ≤ top → Among (candidates s top i bs) (i + j)
  choose [] i j is le = absurd is
  choose (b ∷ bs) i zero is le =
      let t : fits b i ≡ true = ap (λ (x : Bool). x && nat_le i top) (sort_same b s is) ∙ le-leb i top (omega (arith, le)) in
      subst (λ (ks : List ℕ). Among ks (i + 0)) (sym (taken b bs i t)) (inl (omega arith))
  choose (b ∷ bs) i (suc j) is le =
      let rest = choose bs (suc i) j is (omega (arith, le)) in
      let same : suc i + j ≡ i + suc j = omega arith in
      let here : Among (candidates s top (suc i) bs) (i + suc j) = subst (λ (k : ℕ). Among (candidates s top (suc i) bs) k) same rest in
      ⊎_elim
      (λ t. subst (λ (ks : List ℕ). Among ks (i + suc j)) (sym (taken b bs i t)) (inr here))
      (λ f. subst (λ (ks : List ℕ). Among ks (i + suc j)) (sym (passed b bs i f)) here)
      (true_or_false (fits b i))

choose_from_none : (s : Sort) (top k : ℕ) (bs : List Sort) → Binds s bs k → k ≤ top → Among (candidates s top 0 bs) k
choose_from_none s top k bs is le =
    let same : 0 + k ≡ k = omega arith in
    subst (λ (n : ℕ). Among (candidates s top 0 bs) n) same (choose s top bs 0 k is (omega (arith, le)))

-- all of these variables are below n
abbrev Below : ℕ → List ℕ → Type 0
Below n [] = Unit {0}
Below n (k ∷ ks) = (k < n) × Below n ks

all_below : (s : Sort) (top n : ℕ) (bs : List Sort) (i : ℕ) → i + length bs ≤ n → Below n (candidates s top i bs)
all_below s top n [] i le = tt
all_below s top n (b ∷ bs) i le =
    let rest = all_below s top n bs (suc i) (omega (arith, le)) in
    ⊎_elim
    (λ t. subst (Below n) (sym (taken s top b bs i t)) (omega (arith, le), rest))
    (λ f. subst (Below n) (sym (passed s top b bs i f)) rest)
    (true_or_false (fits s top b i))

-- binders that are few enough to have numbers
pub under_scope : (binders : List Sort) → length binders ≤ 2 ^ 32 → Scoped (Under binders)
under_scope binders few = record {
  var = λ s top le some. agree false true (plainly (among_at (length binders) (candidates s top 0 binders))) (name_of (length binders) few) (Among (candidates s top 0 binders)) (IsVarUpTo (Under binders) s top)
      (λ k is. let c = chosen s top binders 0 k is in (subst (Binds s binders) (first c.place k c.is) c.binds, c.small))
      (λ k is. choose_from_none s top k binders is.0 is.1)
      (among_codec (length binders) few (candidates s top 0 binders) some.0 (all_below s top (length binders) binders 0 (omega arith)) (choose_from_none s top some.0 binders some.1.0 some.1.1));
  any = λ s e. let r = has_binds s binders e in (r.0, (r.1, omega (arith, few, binds_below s binders r.0 r.1)));
  known = λ s k is. omega (arith, few, binds_below s binders k is);
  has = λ s k is. binds_has s binders k is;
}
  where
    first : (place k : ℕ) → k ≡ 0 + place → place ≡ k
    first place k e = omega arith
