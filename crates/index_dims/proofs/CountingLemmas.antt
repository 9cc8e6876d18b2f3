-- Counting variables that don't fall, at the end of a list.
use Rattle.std.proofs.Common.{◌≡◌, ◌≢◌, ℕ, ◌+◌, ◌-◌, ◌^◌, ◌<◌, ◌≤◌, List, [], ◌∷◌, ◌++◌, length, take, get_or, set, refl, sym, ap, ◌∙◌, subst, arith, zero, suc}
use Rattle.std.specs.List.Sorted.{IsSorted}
use Rattle.std.specs.Ordering.{nat_cmp}
use Rattle.std.proofs.lemmas.List.Sorted.{IsNonDecreasingBy-from_sort}
use Rattle.std.proofs.lemmas.List.{take_more, get_or-take, length-take-le, get_or_default}
use Rattle.core_syntax.specs.declared.norm.Coef.{Coef}
use Rattle.core_syntax.specs.Linear.{IsAscending, coefs_total}
use Rattle.core_syntax.specs.Norm.{coef, add_coef}
use Rattle.core_syntax.proofs.NormLemmas.{add_above, add_same, add_cases}
use Rattle.index_dims.specs.Counting.{count_all, AreAtMost}
use Rattle.index_dims.proofs.CountLemmas.{IsAscending-count_all, coefs_total-count_all}

-- the last variable is below k, so k comes behind it
pub counted_behind : (k low i : ℕ) (cs : List Coef) (x : Coef) → length cs ≡ i + 1 → IsAscending low cs → AreAtMost k cs →
    x ≡ get_or cs i x → x.var ≢ k → add_coef k 1 cs ≡ cs ++ coef k 1 ∷ []
counted_behind k low i [] x e p q is ne = refl
counted_behind k low zero (c ∷ []) x e p q is ne =
    let ne' : c.var ≢ k = λ h. ne (ap (λ (y : Coef). y.var) is ∙ h) in add_above k 1 c [] (omega (arith, q.0))
counted_behind k low (suc i) (c ∷ []) x e p q is ne = absurd (omega arith)
counted_behind k low zero (c ∷ d ∷ cs) x e p q is ne = absurd (omega arith)
counted_behind k low (suc i) (c ∷ d ∷ cs) x e p q is ne =
    add_above k 1 c (d ∷ cs) (omega (arith, p.2.0, q.1.0))
    ∙ ap (λ l. c ∷ l) (counted_behind k (c.var + 1) i (d ∷ cs) x (omega arith) p.2 q.1 is ne)

-- where there is no variable, too
pub counted_first : (k : ℕ) (cs : List Coef) → length cs ≡ 0 → add_coef k 1 cs ≡ cs ++ coef k 1 ∷ []
counted_first k [] e = refl
counted_first k (c ∷ cs) e = absurd (omega arith)

-- the last variable is k, so it is counted there
pub counted_last : (k low i : ℕ) (cs : List Coef) (x : Coef) → length cs ≡ i + 1 → IsAscending low cs → AreAtMost k cs →
    x ≡ get_or cs i x → x.var ≡ k → set cs i (coef x.var (x.times + 1)) ≡ add_coef k 1 cs
counted_last k low i [] x e p q is same = absurd (omega arith)
counted_last k low zero (c ∷ []) x e p q is same =
    let times : 1 + c.times ≡ x.times + 1 = omega (arith, ap (λ (y : Coef). y.times) is) in
    sym (add_same k 1 c [] (sym same ∙ ap (λ (y : Coef). y.var) is) ∙ ap (λ n. coef n (1 + c.times) ∷ []) (sym same)
    ∙ ap (λ n. coef x.var n ∷ []) times)
counted_last k low (suc i) (c ∷ []) x e p q is same = absurd (omega arith)
counted_last k low zero (c ∷ d ∷ cs) x e p q is same = absurd (omega arith)
counted_last k low (suc i) (c ∷ d ∷ cs) x e p q is same =
    ap (λ l. c ∷ l) (counted_last k (c.var + 1) i (d ∷ cs) x (omega arith) p.2 q.1 is same)
    ∙ sym (add_above k 1 c (d ∷ cs) (omega (arith, p.2.0, q.1.0)))

pub same_read : (cs : List Coef) (i : ℕ) (c d : Coef) → i < length cs → c ≡ get_or cs i c → d ≡ get_or cs i d → c ≡ d
same_read cs i c d lt p q = p ∙ get_or_default cs i c d lt ∙ sym q

-- a count is no more than all together
pub times-le-total : (cs : List Coef) (i : ℕ) (c : Coef) → i < length cs → c ≡ get_or cs i c → c.times ≤ coefs_total cs
times-le-total cs i c lt is = omega (arith, ap (λ (x : Coef). x.times) is, at cs i lt)
  where
    at : (xs : List Coef) (j : ℕ) → j < length xs → (get_or xs j c).times ≤ coefs_total xs
    at [] j lt = absurd (omega arith)
    at (x ∷ xs) zero lt = omega arith
    at (x ∷ xs) (suc j) lt = omega (arith, at xs j (omega arith))

AreAtMost-add_coef : (m k n : ℕ) (cs : List Coef) → k ≤ m → AreAtMost m cs → AreAtMost m (add_coef k n cs)
AreAtMost-add_coef m k n [] le h = (le, tt)
AreAtMost-add_coef m k n (c ∷ cs) le h =
    add_cases (AreAtMost m) k n c cs
    (λ lt. (le, h)) (λ e. (le, h.1)) (λ gt. (h.0, AreAtMost-add_coef m k n cs le h.1))

-- what is counted of variables that are at most m
AreAtMost-count_all : (m : ℕ) (ks : List ℕ) (cs : List Coef) → ((i d : ℕ) → i < length ks → get_or ks i d ≤ m) → AreAtMost m cs →
    AreAtMost m (count_all ks cs)
AreAtMost-count_all m [] cs le h = h
AreAtMost-count_all m (k ∷ ks) cs le h =
    AreAtMost-count_all m ks (add_coef k 1 cs) (λ i d lt. le (suc i) d (omega arith)) (AreAtMost-add_coef m k 1 cs (le 0 k (omega arith)) h)

count_all-append : (xs ys : List ℕ) (cs : List Coef) → count_all (xs ++ ys) cs ≡ count_all ys (count_all xs cs)
count_all-append [] ys cs = refl
count_all-append (x ∷ xs) ys cs = count_all-append xs ys (add_coef x 1 cs)

-- the variables in front of one that don't fall are counted
module _ (ks : List ℕ) (i k : ℕ) (cs : List Coef) (lt : i < length ks) (is : k ≡ get_or ks i 0) (counted : cs ≡ count_all (take i ks) []) where
  pub counts_ascend : IsAscending 0 cs
  counts_ascend = subst (IsAscending 0) (sym counted) (IsAscending-count_all (take i ks) [] tt)

  pub counts_at_most : IsSorted nat_cmp ks → AreAtMost k cs
  counts_at_most sorted =
      let rise = IsNonDecreasingBy-from_sort (λ k. k) ks sorted in
      subst (AreAtMost k) (sym counted) (AreAtMost-count_all k (take i ks) [] (λ j d below.
      let within : j < i = omega (arith, length-take-le i ks (omega arith)) in
      omega (arith, is, get_or-take i ks j d within, rise j i d (omega arith) lt, get_or_default ks i d 0 lt)) tt)

  pub counts_few : length ks < 2 ^ 64 - 1 → coefs_total cs < 2 ^ 64 - 1
  counts_few few = omega (arith, ap coefs_total counted, coefs_total-count_all (take i ks) [], length-take-le i ks (omega arith))

  pub counts_one_more : (new : List Coef) → new ≡ add_coef k 1 cs → new ≡ count_all (take (i + 1) ks) []
  counts_one_more new e =
      e ∙ ap (add_coef k 1) counted ∙ sym (count_all-append (take i ks) (k ∷ []) [])
      ∙ ap (λ l. count_all l []) (ap (λ x. take i ks ++ x ∷ []) is ∙ sym (take_more ks i 0 lt))
