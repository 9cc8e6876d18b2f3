-- The cells at whose places a mask is true, one after another.
use Rattle.std.proofs.Common.{◌≡◌, refl, sym, ◌∙◌, ap, min, inl, inr, ℕ, zero, suc, ◌+◌, ◌*◌, ◌≤◌, ◌<◌, arith, length, take, drop, get_or, List, [], ◌∷◌, ◌++◌, Some, Bool, true, false}
use Rattle.std.specs.Prelude.{if◌then◌else◌, slice_get, ◌⊎◌}
use Rattle.std.proofs.lemmas.Bool.{cases_lt}
use Rattle.std.proofs.lemmas.List.{append-nil, take_all, drop-drop}
use Rattle.core_syntax.specs.declared.term.TermAtom.{TermAtom}
use Rattle.core_syntax.specs.Lists.{each, joined}
use Rattle.core_syntax.specs.Arrays.{runs}
use Rattle.core_syntax.specs.Delta.{masked, keep_if}
use Rattle.core_syntax.specs.RefineTerms.{cell_of, TypedCell}
use Rattle.core_syntax.specs.Rules.{atom_rules, look}
use Rattle.core_syntax.specs.Syntax.{Ty}
use Rattle.core_syntax.specs.Terms.{TInt, TBool, TChar, TPrim, TFn, TTypeFn, TIndexFn, TBoxed}
use Rattle.core_syntax.specs.Typed.{typed_rules}
use Rattle.naturality.proofs.Counts.{mapped_count, run_count}
use Rattle.prim_kernels.proofs.ArrayCuts.{joined_append}
use Rattle.typed_prims.specs.Boxes.{mark, count_marks}

-- what is made of an item of a list
pub found : {A B C : Type 0} (f : B → C) (g : A → B) (xs : List A) (k : ℕ) (x : A) (y : C) → k < length xs → x ≡ get_or xs k x → y ≡ f (g x) → slice_get (each f (each g xs)) k ≡ Some y
found f g [] k x y h e is = absurd (omega (arith, h))
found f g (x' ∷ xs) zero x y h e is = ap Some (ap (λ z. f (g z)) (sym e) ∙ sym is)
found f g (x' ∷ xs) (suc k) x y h e is = found f g xs k x y (omega (arith, h)) e is

-- ---- counts

count_push : (xs : List TypedCell) (k : ℕ) (b : Bool) → slice_get (each mark xs) k ≡ Some b → count_marks (take (k + 1) xs) ≡ (if b then suc (count_marks (take k xs)) else count_marks (take k xs))
count_push [] k b e = absurd (let h = e in cc)
count_push (x ∷ xs) zero b e = ap (λ c. if c then suc 0 else 0) (let s : mark x ≡ b = cc in s)
count_push (x ∷ xs) (suc k) b e =
    let next : suc k + 1 ≡ suc (k + 1) = omega arith in
    ap (λ n. count_marks (take n (x ∷ xs))) next ∙ by (mark x) b (count_marks (take k xs)) (count_marks (take (k + 1) xs)) (count_push xs k b e)
  where
    by : (m b : Bool) (n p : ℕ) → p ≡ (if b then suc n else n) → (if m then suc p else p) ≡ (if b then suc (if m then suc n else n) else (if m then suc n else n))
    by true true n p h = ap suc h
    by true false n p h = ap suc h
    by false true n p h = h
    by false false n p h = h

-- one mark more, counted by 1 or 0
pub count_more : (xs : List TypedCell) (k : ℕ) (b : Bool) (n m : ℕ) → slice_get (each mark xs) k ≡ Some b → n ≡ count_marks (take k xs) → m ≡ n + (if b then 1 else 0) → m ≡ count_marks (take (k + 1) xs)
count_more xs k b n m e h s = s ∙ (λ i. h i + (if b then 1 else 0)) ∙ by b ∙ sym (count_push xs k b e)
  where
    by : (b : Bool) → count_marks (take k xs) + (if b then 1 else 0) ≡ (if b then suc (count_marks (take k xs)) else count_marks (take k xs))
    by true = omega arith
    by false = omega arith

-- counted up to the last mark or the last place
pub count_end : (g : TermAtom → TypedCell) (xs : List TermAtom) (n k e : ℕ) → e ≡ min (length xs) n → k ≤ e → e ≤ k → count_marks (take k (each g xs)) ≡ count_marks (take n (each g xs))
count_end g xs n k e is le ge = by (cases_lt k (length xs))
  where
    by : (k < length xs) ⊎ (length xs ≤ k) → count_marks (take k (each g xs)) ≡ count_marks (take n (each g xs))
    by (inl long) = ap (λ j. count_marks (take j (each g xs))) (let same : k ≡ n = omega (arith, is, le, ge, long) in same)
    by (inr short) =
        let c = mapped_count g xs in
        ap count_marks (take_all k (each g xs) (omega (arith, short, c)) ∙ sym (take_all n (each g xs) (omega (arith, is, le, ge, short, c))))

-- ---- cells

module _ (r : Ty) {B : Type 0} where
  -- by a mark
  abbrev kept : Bool → B → List B → List B
  kept true b bs = b ∷ bs
  kept false b bs = bs

  keep_is : (a : TypedCell) (b : B) (bs : List B) → keep_if (atom_rules typed_rules r) (look typed_rules a) b bs ≡ kept (mark a) b bs
  keep_is (TBool true) b bs = refl
  keep_is (TBool false) b bs = refl
  keep_is (TInt z) b bs = refl
  keep_is (TChar c) b bs = refl
  keep_is (TPrim q us is) b bs = refl
  keep_is (TFn i t) b bs = refl
  keep_is (TTypeFn n t) b bs = refl
  keep_is (TIndexFn ss t) b bs = refl
  keep_is (TBoxed is t u) b bs = refl

  kept_append : (m : Bool) (b : B) (xs ys : List B) → kept m b xs ++ ys ≡ kept m b (xs ++ ys)
  kept_append true b xs ys = refl
  kept_append false b xs ys = refl

  masked_push : (ms : List TypedCell) (bs : List B) (k : ℕ) (t : Bool) (b : B) → slice_get (each mark ms) k ≡ Some t → slice_get bs k ≡ Some b
      → masked (atom_rules typed_rules r) (take (k + 1) ms) (take (k + 1) bs) ≡ masked (atom_rules typed_rules r) (take k ms) (take k bs) ++ kept t b []
  masked_push [] bs k t b e f = absurd (let h = e in cc)
  masked_push (m ∷ ms) [] k t b e f = absurd (let h = f in cc)
  masked_push (m ∷ ms) (c ∷ bs) zero t b e f = keep_is m c [] ∙ (λ i. kept ((let s : mark m ≡ t = cc in s) i) ((let s : c ≡ b = cc in s) i) [])
  masked_push (m ∷ ms) (c ∷ bs) (suc k) t b e f =
      let next : suc k + 1 ≡ suc (k + 1) = omega arith in
      (λ i. masked (atom_rules typed_rules r) (take (next i) (m ∷ ms)) (take (next i) (c ∷ bs)))
      ∙ ap (keep_if (atom_rules typed_rules r) (look typed_rules m) c) (masked_push ms bs k t b e f) ∙ keep_is m c (masked (atom_rules typed_rules r) (take k ms) (take k bs) ++ kept t b [])
      ∙ sym (ap (λ ys. ys ++ kept t b []) (keep_is m c (masked (atom_rules typed_rules r) (take k ms) (take k bs))) ∙ kept_append (mark m) c (masked (atom_rules typed_rules r) (take k ms) (take k bs)) (kept t b []))

  pub masked_count : (ms : List TypedCell) (bs : List B) → length (masked (atom_rules typed_rules r) ms bs) ≡ count_marks (take (length bs) ms)
  masked_count [] [] = refl
  masked_count [] (b ∷ bs) = refl
  masked_count (m ∷ ms) [] = refl
  masked_count (m ∷ ms) (b ∷ bs) = ap length (keep_is m b (masked (atom_rules typed_rules r) ms bs)) ∙ by (mark m) ∙ ap (λ n. if mark m then suc n else n) (masked_count ms bs)
    where
      by : (t : Bool) → length (kept t b (masked (atom_rules typed_rules r) ms bs)) ≡ (if t then suc (length (masked (atom_rules typed_rules r) ms bs)) else length (masked (atom_rules typed_rules r) ms bs))
      by true = refl
      by false = refl

  -- no more marks, or no more cells
  masked_end : (ms : List TypedCell) (bs : List B) (k : ℕ) → length ms ≤ k → masked (atom_rules typed_rules r) ms (take k bs) ≡ masked (atom_rules typed_rules r) ms bs
  masked_end [] bs k h = refl
  masked_end (m ∷ ms) bs zero h = absurd (omega (arith, h))
  masked_end (m ∷ ms) [] (suc k) h = refl
  masked_end (m ∷ ms) (b ∷ bs) (suc k) h = ap (keep_if (atom_rules typed_rules r) (look typed_rules m) b) (masked_end ms bs k (omega (arith, h)))

  masked_short : (ms : List TypedCell) (bs : List B) (k : ℕ) → length bs ≤ k → masked (atom_rules typed_rules r) (take k ms) bs ≡ masked (atom_rules typed_rules r) ms bs
  masked_short [] bs zero h = refl
  masked_short [] bs (suc k) h = refl
  masked_short (m ∷ ms) [] zero h = refl
  masked_short (m ∷ ms) [] (suc k) h = refl
  masked_short (m ∷ ms) (b ∷ bs) zero h = absurd (omega (arith, h))
  masked_short (m ∷ ms) (b ∷ bs) (suc k) h = ap (keep_if (atom_rules typed_rules r) (look typed_rules m) b) (masked_short ms bs k (omega (arith, h)))

-- f of the kept items is what is kept of f of the items
pub masked_each : (r : Ty) {B C : Type 0} (f : B → C) (ms : List TypedCell) (bs : List B) → masked (atom_rules typed_rules r) ms (each f bs) ≡ each f (masked (atom_rules typed_rules r) ms bs)
masked_each r f [] bs = refl
masked_each r f (m ∷ ms) [] = refl
masked_each r f (m ∷ ms) (b ∷ bs) = ap (keep_if (atom_rules typed_rules r) (look typed_rules m) (f b)) (masked_each r f ms bs) ∙ keep_is r m (f b) (each f (masked (atom_rules typed_rules r) ms bs)) ∙ by (mark m) ∙ ap (each f) (sym (keep_is r m b (masked (atom_rules typed_rules r) ms bs)))
  where
    by : (t : Bool) → kept r t (f b) (each f (masked (atom_rules typed_rules r) ms bs)) ≡ each f (kept r t b (masked (atom_rules typed_rules r) ms bs))
    by true = refl
    by false = refl

-- ---- cells of an array

module _ (r : Ty) {A : Type 0} where
  -- the first of the runs
  runs_taken : (k n size : ℕ) (xs : List A) → k ≤ n → take k (runs n size xs) ≡ runs k size xs
  runs_taken zero n size xs h = refl
  runs_taken (suc k) zero size xs h = absurd (omega (arith, h))
  runs_taken (suc k) (suc n) size xs h = ap (λ ys. take size xs ∷ ys) (runs_taken k n size (drop size xs) (omega (arith, h)))

  run_at : (k n size : ℕ) (xs : List A) → k < n → slice_get (runs n size xs) k ≡ Some (take size (drop (k * size) xs))
  run_at k zero size xs h = absurd (omega (arith, h))
  run_at zero (suc n) size xs h = ap (λ j. Some (take size (drop j xs))) (let e : 0 ≡ 0 * size = omega arith in e)
  run_at (suc k) (suc n) size xs h =
      run_at k n size (drop size xs) (omega (arith, h)) ∙ ap (λ ys. Some (take size ys)) (drop-drop (k * size) size xs ∙ ap (λ j. drop j xs) (let e : size + k * size ≡ suc k * size = omega arith in e))

  -- a cell more, where its mark is true
  pub kept_more : (ms : List TypedCell) (n size : ℕ) (xs all : List A) (k : ℕ) (t : Bool) → k < n → slice_get (each mark ms) k ≡ Some t → all ≡ joined (masked (atom_rules typed_rules r) (take k ms) (runs k size xs))
      → all ++ (if t then take size (drop (k * size) xs) else []) ≡ joined (masked (atom_rules typed_rules r) (take (k + 1) ms) (runs (k + 1) size xs))
  kept_more ms n size xs all k t lt at h =
      let S = atom_rules typed_rules r in
      let cell = take size (drop (k * size) xs) in
      let before = masked S (take k ms) (take k (runs n size xs)) in
      let le : k ≤ n = omega (arith, lt) in
      let next : k + 1 ≤ n = omega (arith, lt) in
      ap (λ ys. ys ++ (if t then cell else [])) (h ∙ ap (λ rs. joined (masked S (take k ms) rs)) (sym (runs_taken k n size xs le))) ∙ by t
      ∙ sym (joined_append before (kept r t cell [])) ∙ ap joined (sym (masked_push r ms (runs n size xs) k t cell at (run_at k n size xs lt)))
      ∙ ap (λ rs. joined (masked S (take (k + 1) ms) rs)) (runs_taken (k + 1) n size xs next)
    where
      by : (t : Bool) → joined (masked (atom_rules typed_rules r) (take k ms) (take k (runs n size xs))) ++ (if t then take size (drop (k * size) xs) else [])
          ≡ joined (masked (atom_rules typed_rules r) (take k ms) (take k (runs n size xs))) ++ joined (kept r t (take size (drop (k * size) xs)) [])
      by true = ap (λ ys. joined (masked (atom_rules typed_rules r) (take k ms) (take k (runs n size xs))) ++ ys) (sym (append-nil (take size (drop (k * size) xs))))
      by false = refl

  -- up to the last mark or the last cell
  pub kept_end : (ms : List TypedCell) (n size : ℕ) (xs : List A) (k e : ℕ) → e ≡ min (length ms) n → k ≤ e → e ≤ k → masked (atom_rules typed_rules r) (take k ms) (runs k size xs) ≡ masked (atom_rules typed_rules r) ms (runs n size xs)
  kept_end ms n size xs k e is le ge = by (cases_lt k (length ms))
    where
      fits : k ≤ n
      fits = omega (arith, is, le)

      by : (k < length ms) ⊎ (length ms ≤ k) → masked (atom_rules typed_rules r) (take k ms) (runs k size xs) ≡ masked (atom_rules typed_rules r) ms (runs n size xs)
      by (inr short) =
          ap (λ ys. masked (atom_rules typed_rules r) ys (runs k size xs)) (take_all k ms short) ∙ ap (masked (atom_rules typed_rules r) ms) (sym (runs_taken k n size xs fits)) ∙ masked_end r ms (runs n size xs) k short
      by (inl long) =
          let same : k ≡ n = omega (arith, is, le, ge, long) in
          ap (λ j. masked (atom_rules typed_rules r) (take k ms) (runs j size xs)) same ∙ masked_short r ms (runs n size xs) k (let c = run_count n size xs in omega (arith, c, same))

pub one_at_most : (b : Bool) (n : ℕ) → n ≡ (if b then 1 else 0) → n ≤ 1
one_at_most true n e = omega (arith, e)
one_at_most false n e = omega (arith, e)
