-- How often variables are added, part by part.
use Rattle.std.proofs.Common.{◌≡◌, ℕ, ◌+◌, ◌-◌, get_or, length, ◌<◌, ◌≤◌, ◌^◌, List, [], ◌∷◌, sym, subst, arith, ⊎_elim}
use Rattle.std.specs.List.{All}
use Rattle.std.proofs.lemmas.Bool.Decides.{eqb_tells}
use Rattle.std.proofs.lemmas.List.Elements.{All-nil, All-cons, All-head, All-tail}
use Rattle.core_syntax.specs.declared.norm.Coef.{Coef}
use Rattle.core_syntax.specs.Linear.{Linear}
use Rattle.code_text.specs.IndexText.{SumPart, Variable, Number}
use Rattle.code_text.specs.IndexReading.{add_var, add_part}
use Rattle.code_text.proofs.indices.Sums.{add_same, add_other}

-- each variable is added so often at most
abbrev pub AtMost : ℕ → List Coef → Type 0
AtMost n cs = All (λ c. c.times ≤ n) cs

pub at_most_none : (n : ℕ) (cs : List Coef) → cs ≡ [] → AtMost n cs
at_most_none n cs e = subst (AtMost n) (sym e) (All-nil (λ c. c.times ≤ n))

-- a larger bound
at_most_more : (m n : ℕ) (cs : List Coef) → m ≤ n → AtMost m cs → AtMost n cs
at_most_more m n [] le all = All-nil (λ c. c.times ≤ n)
at_most_more m n (c ∷ cs) le all =
    let one : c.times ≤ m = All-head (λ c. c.times ≤ m) c cs all in
    All-cons (λ c. c.times ≤ n) c cs (omega (arith, le, one)) (at_most_more m n cs le (All-tail (λ c. c.times ≤ m) c cs all))

at_most_var : (n k : ℕ) (cs : List Coef) → AtMost n cs → AtMost (n + 1) (add_var k cs)
at_most_var n k [] all = All-cons (λ c. c.times ≤ n + 1) (record { var = k; times = 1 }) [] (omega arith) (All-nil (λ c. c.times ≤ n + 1))
at_most_var n k (c ∷ []) all =
    let one : c.times ≤ n = All-head (λ c. c.times ≤ n) c [] all in
    ⊎_elim
    (λ p. subst (AtMost (n + 1)) (sym (add_same k c p.1)) (All-cons (λ c. c.times ≤ n + 1) (record { var = k; times = c.times + 1 }) [] (omega (arith, one)) (All-nil (λ c. c.times ≤ n + 1))))
    (λ p. subst (AtMost (n + 1)) (sym (add_other k c p.1)) (All-cons (λ c. c.times ≤ n + 1) c (record { var = k; times = 1 } ∷ []) (omega (arith, one)) (All-cons (λ c. c.times ≤ n + 1) (record { var = k; times = 1 }) [] (omega arith) (All-nil (λ c. c.times ≤ n + 1)))))
    (eqb_tells c.var k)
at_most_var n k (c ∷ (d ∷ cs)) all =
    let one : c.times ≤ n = All-head (λ c. c.times ≤ n) c (d ∷ cs) all in
    All-cons (λ c. c.times ≤ n + 1) c (add_var k (d ∷ cs)) (omega (arith, one)) (at_most_var n k (d ∷ cs) (All-tail (λ c. c.times ≤ n) c (d ∷ cs) all))

-- a part more
pub at_most_part : (n : ℕ) (p : SumPart) (d e : Linear) → e ≡ add_part p d → AtMost n d.coefs → AtMost (n + 1) e.coefs
at_most_part n (Variable k) d e is all = subst (λ (l : Linear). AtMost (n + 1) l.coefs) (sym is) (at_most_var n k d.coefs all)
at_most_part n (Number m) d e is all = subst (λ (l : Linear). AtMost (n + 1) l.coefs) (sym is) (at_most_more n (n + 1) d.coefs (omega arith) all)

-- the next of those that are left, from the last
pub at_most_next : (ps : List SumPart) (i n : ℕ) (d e : Linear) (p z : SumPart) → p ≡ get_or ps (length ps - 1 - i) z → e ≡ add_part p d → AtMost n d.coefs → AtMost (n + 1) e.coefs
at_most_next ps i n d e p z same is all = at_most_part n p d e is all

-- a number for all that are added so often at most
pub counted : (n : ℕ) (cs : List Coef) → n + 1 < 2 ^ 64 → AtMost n cs → All (λ c. c.times + 1 < 2 ^ 64) cs
counted n [] lt all = All-nil (λ c. c.times + 1 < 2 ^ 64)
counted n (c ∷ cs) lt all =
    let one : c.times ≤ n = All-head (λ c. c.times ≤ n) c cs all in
    All-cons (λ c. c.times + 1 < 2 ^ 64) c cs (omega (arith, lt, one)) (counted n cs lt (All-tail (λ c. c.times ≤ n) c cs all))
