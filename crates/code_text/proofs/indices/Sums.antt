-- Linear forms and their parts.
use Rattle.std.proofs.Common.{◌≡◌, ℕ, zero, suc, ◌+◌, ◌^◌, ◌≤◌, ◌<◌, cond, eqb, Bool, true, List, [], ◌∷◌, ◌++◌, map, ap, sym, subst, ◌∙◌, refl, arith, ⊎_elim, append_assoc, add-one, Option, Some, None}
use Rattle.std.specs.Prelude.{replicate}
use Rattle.std.specs.List.{All}
use Rattle.std.proofs.lemmas.Bool.{ne_eqb}
use Rattle.std.proofs.lemmas.Bool.Decides.{eqb_tells}
use Rattle.std.proofs.lemmas.List.{append-nil}
use Rattle.std.proofs.lemmas.List.Elements.{All-nil, All-cons, All-head, All-tail}
use Rattle.core_syntax.specs.declared.index.Sort.{Sort}
use Rattle.core_syntax.specs.declared.index.Sort.TheVariants as sort
use Rattle.core_syntax.specs.declared.norm.Coef.{Coef}
use Rattle.core_syntax.specs.Linear.{Linear, IsAscending}
use Rattle.machine_table.specs.IndexBounds.{Scope, IsVar, IsDim}
use Rattle.code_text.specs.IndexText.{SumPart, Variable, Number, variables, constants, sum_parts}
use Rattle.code_text.specs.IndexReading.{largest, sum_next, add_var, add_part, linear_of}
use Rattle.code_text.proofs.goes.Common.{same_self}

-- a variable with a number of at most top
abbrev pub IsVarUpTo : Scope → Sort → ℕ → ℕ → Type 0
IsVarUpTo scope s top k = IsVar scope s k × (k ≤ top)

-- what may come in a sum
abbrev pub IsPart : Scope → Option ℕ → SumPart → Type 0
IsPart scope None p = ⊥
IsPart scope (Some top) (Variable k) = IsVarUpTo scope sort.Dim top k
IsPart scope (Some top) (Number n) = (1 ≤ n) × (n ≤ 2 ^ 40)

-- variables that fall, and a number
abbrev pub Falling : Scope → Option ℕ → List SumPart → Type 0
Falling scope s [] = Unit {0}
Falling scope s (p ∷ ps) = IsPart scope s p × Falling scope (sum_next s p) ps

-- ---- a variable more

-- the same variable, and another
pub add_same : (k : ℕ) (c : Coef) → c.var ≡ k → add_var k (c ∷ []) ≡ record { var = k; times = c.times + 1 } ∷ []
add_same k c e = ap (λ (b : Bool). cond b (record { var = k; times = c.times + 1 } ∷ []) (c ∷ record { var = k; times = 1 } ∷ [])) (subst (λ (v : ℕ). eqb v k ≡ true) (sym e) (same_self k))

pub add_other : (k : ℕ) (c : Coef) → (c.var ≡ k → ⊥) → add_var k (c ∷ []) ≡ c ∷ record { var = k; times = 1 } ∷ []
add_other k c e = ap (λ (b : Bool). cond b (record { var = k; times = c.times + 1 } ∷ []) (c ∷ record { var = k; times = 1 } ∷ [])) (ne_eqb c.var k e)

once_more : (n k : ℕ) → replicate (n + 1) k ≡ k ∷ replicate n k
once_more n k = ap (λ (m : ℕ). replicate m k) (add-one n)

-- it stands before the others
variables_add : (k : ℕ) (cs : List Coef) → variables (add_var k cs) ≡ k ∷ variables cs
variables_add k [] = refl
variables_add k (c ∷ []) =
    ⊎_elim
    (λ p. ap variables (add_same k c p.1) ∙ once_more c.times k ∙ ap (λ (v : ℕ). k ∷ replicate c.times v) (sym p.1))
    (λ p. ap variables (add_other k c p.1))
    (eqb_tells c.var k)
variables_add k (c ∷ (d ∷ cs)) = ap (λ vs. vs ++ replicate c.times c.var) (variables_add k (d ∷ cs))

-- ---- parts of the linear form of parts

none_left : (scope : Scope) (ps : List SumPart) → Falling scope None ps → [] ≡ ps
none_left scope [] is = refl
none_left scope (p ∷ ps) is = absurd is.0

number_parts : (scope : Scope) (n : ℕ) → 1 ≤ n → sum_parts (linear_of (Number n ∷ [])) ≡ Number n ∷ []
number_parts scope zero some = absurd (omega arith)
number_parts scope (suc n) some = refl

-- parts give back the parts
pub parts_linear : (scope : Scope) (s : Option ℕ) (ps : List SumPart) → Falling scope s ps → sum_parts (linear_of ps) ≡ ps
parts_linear scope s [] is = refl
parts_linear scope None (p ∷ ps) is = absurd is.0
parts_linear scope (Some top) (Variable k ∷ ps) is =
    let d = linear_of ps in
    ap (λ vs. map Variable vs ++ constants d.constant) (variables_add k d.coefs) ∙ ap (λ qs. Variable k ∷ qs) (parts_linear scope (Some k) ps is.1)
parts_linear scope (Some top) (Number n ∷ ps) is =
    subst (λ qs. sum_parts (linear_of (Number n ∷ qs)) ≡ Number n ∷ qs) (none_left scope ps is.1) (number_parts scope n is.0.0)

-- ---- the linear form of parts is one

pub all_add : (Q : ℕ → Type 0) (k : ℕ) (cs : List Coef) → Q k → All (λ c. Q c.var) cs → All (λ c. Q c.var) (add_var k cs)
all_add Q k [] q all = All-cons (λ c. Q c.var) (record { var = k; times = 1 }) [] q (All-nil (λ c. Q c.var))
all_add Q k (c ∷ []) q all =
    ⊎_elim
    (λ p. subst (All (λ c. Q c.var)) (sym (add_same k c p.1)) (All-cons (λ c. Q c.var) (record { var = k; times = c.times + 1 }) [] q (All-nil (λ c. Q c.var))))
    (λ p. subst (All (λ c. Q c.var)) (sym (add_other k c p.1)) (All-cons (λ c. Q c.var) c (record { var = k; times = 1 } ∷ []) (All-head (λ c. Q c.var) c [] all) (All-cons (λ c. Q c.var) (record { var = k; times = 1 }) [] q (All-nil (λ c. Q c.var)))))
    (eqb_tells c.var k)
all_add Q k (c ∷ (d ∷ cs)) q all =
    All-cons (λ c. Q c.var) c (add_var k (d ∷ cs)) (All-head (λ c. Q c.var) c (d ∷ cs) all) (all_add Q k (d ∷ cs) q (All-tail (λ c. Q c.var) c (d ∷ cs) all))

pub ascending_add : (low k : ℕ) (cs : List Coef) → low ≤ k → IsAscending low cs → All (λ c. c.var ≤ k) cs → IsAscending low (add_var k cs)
ascending_add low k [] le up all = (le, omega arith, tt)
ascending_add low k (c ∷ []) le up all =
    ⊎_elim
    (λ p. subst (IsAscending low) (sym (add_same k c p.1)) (le, omega arith, tt))
    (λ p.
    let below : c.var ≤ k = All-head (λ c. c.var ≤ k) c [] all in
    let apart = p.1 in
    subst (IsAscending low) (sym (add_other k c p.1)) (up.0, up.1, (omega (arith, below, apart), omega arith, tt)))
    (eqb_tells c.var k)
ascending_add low k (c ∷ (d ∷ cs)) le up all =
    let rest = All-tail (λ c. c.var ≤ k) c (d ∷ cs) all in
    let below : d.var ≤ k = All-head (λ c. c.var ≤ k) d cs rest in
    (up.0, up.1, ascending_add (c.var + 1) k (d ∷ cs) (omega (arith, up.2.0, below)) up.2 rest)

pub all_le : (m n : ℕ) (cs : List Coef) → m ≤ n → All (λ c. c.var ≤ m) cs → All (λ c. c.var ≤ n) cs
all_le m n [] le all = All-nil (λ c. c.var ≤ n)
all_le m n (c ∷ cs) le all =
    let one : c.var ≤ m = All-head (λ c. c.var ≤ m) c cs all in
    All-cons (λ c. c.var ≤ n) c cs (omega (arith, le, one)) (all_le m n cs le (All-tail (λ c. c.var ≤ m) c cs all))

-- a linear form with variables of at most top
record UpTo (scope : Scope) (s : Option ℕ) (d : Linear) : Type 0 where
  is : IsDim scope d
  top : (n : ℕ) → s ≡ Some n → All (λ c. c.var ≤ n) d.coefs

pub one_some : (m n : ℕ) → Some m ≡ Some n → m ≡ n
one_some m n e = cc

up_to : (scope : Scope) (s : Option ℕ) (ps : List SumPart) → Falling scope s ps → UpTo scope s (linear_of ps)
up_to scope s [] is = record { is = record { normal = tt; vars = All-nil (λ c. IsVar scope sort.Dim c.var); small = omega arith }; top = λ n e. All-nil (λ c. c.var ≤ n) }
up_to scope None (p ∷ ps) is = absurd is.0
up_to scope (Some top) (Variable k ∷ ps) is =
    let u = up_to scope (Some k) ps is.1 in
    let d = linear_of ps in
    record {
      is = record {
        normal = ascending_add 0 k d.coefs (omega arith) u.is.normal (u.top k refl);
        vars = all_add (IsVar scope sort.Dim) k d.coefs is.0.0 u.is.vars;
        small = u.is.small;
      };
      top = λ n e.
          let same : top ≡ n = one_some top n e in
          all_add (λ v. v ≤ n) k d.coefs (omega (arith, is.0.1, same)) (all_le k n d.coefs (omega (arith, is.0.1, same)) (u.top k refl));
    }
up_to scope (Some top) (Number n ∷ ps) is =
    let none = none_left scope ps is.1 in
    subst (λ qs. UpTo scope (Some top) (linear_of (Number n ∷ qs))) none
    (record { is = record { normal = tt; vars = All-nil (λ c. IsVar scope sort.Dim c.var); small = is.0.1 }; top = λ m e. All-nil (λ c. c.var ≤ m) })

pub linear_is : (scope : Scope) (s : Option ℕ) (ps : List SumPart) → Falling scope s ps → IsDim scope (linear_of ps)
linear_is scope s ps is = (up_to scope s ps is).is

-- ---- the linear form of the parts of one is that one

adds : List ℕ → List Coef → List Coef
adds [] front = front
adds (k ∷ ks) front = add_var k (adds ks front)

adds_append : (ks ls : List ℕ) (front : List Coef) → adds (ks ++ ls) front ≡ adds ks (adds ls front)
unfolding adds
adds_append [] ls front = refl
adds_append (k ∷ ks) ls front = ap (add_var k) (adds_append ks ls front)

linear_adds : (ks : List ℕ) (rest : List SumPart) → linear_of (map Variable ks ++ rest) ≡ record { constant = (linear_of rest).constant; coefs = adds ks (linear_of rest).coefs }
unfolding adds
linear_adds [] rest = refl
linear_adds (k ∷ ks) rest = ap (add_part (Variable k)) (linear_adds ks rest)

add_last : (k t : ℕ) (front : List Coef) → add_var k (front ++ record { var = k; times = t } ∷ []) ≡ front ++ record { var = k; times = t + 1 } ∷ []
add_last k t [] = add_same k (record { var = k; times = t }) refl
add_last k t (c ∷ []) = ap (λ cs. c ∷ cs) (add_last k t [])
add_last k t (c ∷ (d ∷ cs)) = ap (λ es. c ∷ es) (add_last k t (d ∷ cs))

add_new : (k : ℕ) (front : List Coef) → All (λ c. c.var < k) front → add_var k front ≡ front ++ record { var = k; times = 1 } ∷ []
add_new k [] all = refl
add_new k (c ∷ []) all = let below : c.var < k = All-head (λ c. c.var < k) c [] all in add_other k c (λ e. omega (arith, below, e))
add_new k (c ∷ (d ∷ cs)) all = ap (λ es. c ∷ es) (add_new k (d ∷ cs) (All-tail (λ c. c.var < k) c (d ∷ cs) all))

adds_times : (k t : ℕ) (front : List Coef) → All (λ c. c.var < k) front → adds (replicate (suc t) k) front ≡ front ++ record { var = k; times = suc t } ∷ []
unfolding adds
adds_times k zero front all = add_new k front all
adds_times k (suc t) front all = ap (add_var k) (adds_times k t front all) ∙ add_last k (suc t) front ∙ ap (λ (n : ℕ). front ++ record { var = k; times = n } ∷ []) (add-one (suc t))

adds_some : (c : Coef) (front : List Coef) → 0 < c.times → All (λ d. d.var < c.var) front → adds (replicate c.times c.var) front ≡ front ++ c ∷ []
adds_some c front some all = go c.times refl some
  where
    go : (t : ℕ) → t ≡ c.times → 0 < t → adds (replicate c.times c.var) front ≡ front ++ c ∷ []
    go zero e lt = absurd (omega arith)
    go (suc t) e lt = subst (λ (n : ℕ). adds (replicate n c.var) front ≡ front ++ record { var = c.var; times = n } ∷ []) e (adds_times c.var t front all)

all_lt : (m n : ℕ) (cs : List Coef) → m ≤ n → All (λ c. c.var < m) cs → All (λ c. c.var < n) cs
all_lt m n [] le all = All-nil (λ c. c.var < n)
all_lt m n (c ∷ cs) le all =
    let one : c.var < m = All-head (λ c. c.var < m) c cs all in
    All-cons (λ c. c.var < n) c cs (omega (arith, le, one)) (all_lt m n cs le (All-tail (λ c. c.var < m) c cs all))

all_snoc : (m : ℕ) (cs : List Coef) (c : Coef) → c.var < m → All (λ c. c.var < m) cs → All (λ c. c.var < m) (cs ++ c ∷ [])
all_snoc m [] c lt all = All-cons (λ c. c.var < m) c [] lt all
all_snoc m (d ∷ cs) c lt all = All-cons (λ c. c.var < m) d (cs ++ c ∷ []) (All-head (λ c. c.var < m) d cs all) (all_snoc m cs c lt (All-tail (λ c. c.var < m) d cs all))

adds_all : (low : ℕ) (cs front : List Coef) → IsAscending low cs → All (λ c. c.var < low) front → adds (variables cs) front ≡ front ++ cs
unfolding adds
adds_all low [] front up all = sym (append-nil front)
adds_all low (c ∷ cs) front up all =
    adds_append (variables cs) (replicate c.times c.var) front
    ∙ ap (adds (variables cs)) (adds_some c front up.1 (all_lt low c.var front up.0 all))
    ∙ adds_all (c.var + 1) cs (front ++ c ∷ []) up.2 (all_snoc (c.var + 1) front c (omega arith) (all_lt low (c.var + 1) front (omega (arith, up.0)) all))
    ∙ append_assoc front (c ∷ []) cs

constant_is : (n : ℕ) → linear_of (constants n) ≡ record { constant = n; coefs = [] }
constant_is zero = refl
constant_is (suc n) = refl

pub linear_parts : (d : Linear) → IsAscending 0 d.coefs → linear_of (sum_parts d) ≡ d
linear_parts d up =
    linear_adds (variables d.coefs) (constants d.constant)
    ∙ ap (λ (e : Linear). record { constant = e.constant; coefs = adds (variables d.coefs) e.coefs }) (constant_is d.constant)
    ∙ ap (λ (cs : List Coef). record { constant = d.constant; coefs = cs }) (adds_all 0 d.coefs [] up (All-nil (λ c. c.var < 0)))

-- ---- the parts of a linear form fall

abbrev Between : Scope → ℕ → ℕ → Coef → Type 0
Between scope base top c = (base ≤ c.var) × IsVarUpTo scope sort.Dim top c.var

repeated : (scope : Scope) (k t m : ℕ) (rest : List SumPart) → IsVar scope sort.Dim k → k ≤ m → (0 < t → Falling scope (Some k) rest) → (t ≡ 0 → Falling scope (Some m) rest) → Falling scope (Some m) (map Variable (replicate t k) ++ rest)
repeated scope k zero m rest is le K L = L refl
repeated scope k (suc t) m rest is le K L = ((is, le), repeated scope k t k rest is (omega arith) (λ _. K (omega arith)) (λ _. K (omega arith)))

above : (scope : Scope) (low base top : ℕ) (cs : List Coef) → base ≤ low → IsAscending low cs → All (λ c. IsVarUpTo scope sort.Dim top c.var) cs → All (Between scope base top) cs
above scope low base top [] le up all = All-nil (Between scope base top)
above scope low base top (c ∷ cs) le up all =
    All-cons (Between scope base top) c cs (omega (arith, le, up.0), All-head (λ c. IsVarUpTo scope sort.Dim top c.var) c cs all)
    (above scope (c.var + 1) base top cs (omega (arith, le, up.0)) up.2 (All-tail (λ c. IsVarUpTo scope sort.Dim top c.var) c cs all))

map_append : (ks ls : List ℕ) → map Variable (ks ++ ls) ≡ map Variable ks ++ map Variable ls
map_append [] ls = refl
map_append (k ∷ ks) ls = ap (λ ps. Variable k ∷ ps) (map_append ks ls)

falls_on : (scope : Scope) (low base top : ℕ) (cs : List Coef) (rest : List SumPart) → base ≤ top → base ≤ low → IsAscending low cs → All (λ c. IsVarUpTo scope sort.Dim top c.var) cs → ((m : ℕ) → base ≤ m → Falling scope (Some m) rest) → Falling scope (Some top) (map Variable (variables cs) ++ rest)
falls_on scope low base top [] rest le lo up all K = K top le
falls_on scope low base top (c ∷ cs) rest le lo up all K =
    let one = All-head (λ c. IsVarUpTo scope sort.Dim top c.var) c cs all in
    let others = All-tail (λ c. IsVarUpTo scope sort.Dim top c.var) c cs all in
    let more : (m : ℕ) → c.var ≤ m → Falling scope (Some m) (map Variable (replicate c.times c.var) ++ rest) = λ m h.
    repeated scope c.var c.times m rest one.0 h (λ _. K c.var (omega (arith, lo, up.0))) (λ e. absurd (omega (arith, up.1, e)))
    in
    subst (Falling scope (Some top)) (sym (ap (λ ps. ps ++ rest) (map_append (variables cs) (replicate c.times c.var)) ∙ append_assoc (map Variable (variables cs)) (map Variable (replicate c.times c.var)) rest))
    (falls_on scope (c.var + 1) c.var top cs (map Variable (replicate c.times c.var) ++ rest) one.1 (omega arith) up.2 others more)

constants_fall : (scope : Scope) (m n : ℕ) → n ≤ 2 ^ 40 → Falling scope (Some m) (constants n)
constants_fall scope m zero le = tt
constants_fall scope m (suc n) le = ((omega arith, le), tt)

all_up_to : (scope : Scope) (known : (k : ℕ) → IsVar scope sort.Dim k → k ≤ largest) (cs : List Coef) → All (λ c. IsVar scope sort.Dim c.var) cs → All (λ c. IsVarUpTo scope sort.Dim largest c.var) cs
all_up_to scope known [] all = All-nil (λ c. IsVarUpTo scope sort.Dim largest c.var)
all_up_to scope known (c ∷ cs) all =
    let one = All-head (λ c. IsVar scope sort.Dim c.var) c cs all in
    All-cons (λ c. IsVarUpTo scope sort.Dim largest c.var) c cs (one, known c.var one) (all_up_to scope known cs (All-tail (λ c. IsVar scope sort.Dim c.var) c cs all))

pub parts_fall : (scope : Scope) (known : (k : ℕ) → IsVar scope sort.Dim k → k ≤ largest) (d : Linear) → IsDim scope d → Falling scope (Some largest) (sum_parts d)
parts_fall scope known d is =
    falls_on scope 0 0 largest d.coefs (constants d.constant) (omega arith) (omega arith) is.normal (all_up_to scope known d.coefs is.vars) (λ m _. constants_fall scope m d.constant is.small)
