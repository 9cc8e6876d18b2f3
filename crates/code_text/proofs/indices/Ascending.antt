-- What is read of a sum falls, whatever is in scope, so its linear form has each variable once, in order.
use Rattle.std.proofs.Common.{◌≡◌, ℕ, zero, suc, ◌-◌, ◌^◌, ◌≤◌, cond, eqb, nat_le, Bool, true, false, ◌&&◌, List, [], ◌∷◌, ◌++◌, length, drop, Ok, sym, subst, refl, arith, Option, Some, None}
use Rattle.std.specs.List.{All}
use Rattle.std.specs.Prelude.{codes}
use Rattle.std.proofs.lemmas.Bool.{leb-true}
use Rattle.std.proofs.lemmas.List.Elements.{All-nil}
use Rattle.core_syntax.specs.declared.index.Sort.{Sort}
use Rattle.core_syntax.specs.declared.index.Sort.TheVariants as sort
use Rattle.core_syntax.specs.Linear.{Linear, IsAscending}
use Rattle.machine_table.specs.IndexBounds.{Scope, InBlock, Under}
use Rattle.code_text.specs.IndexText.{SumPart, Variable, Number, constants}
use Rattle.code_text.specs.Reading.{Read, ◌>>=◌, Reader, byte_at, word_at, end_at, number_at, plainly, behind, made, with_front, either_at, items_from, some_items}
use Rattle.code_text.specs.IndexReading.{lead, largest, same_sort, candidates, furthest, spelled_by, spelled_at, among_at, var_at, has_var, sum_room, sum_item, sum_next, sum_first, sum_others, sum_at, alone, constant_at, parts_among, parts_at, linear_of}
use Rattle.code_text.proofs.goes.Goes.{both_right, Ok≢Err}
use Rattle.code_text.proofs.goes.Spelled.{bind_ok}
use Rattle.code_text.proofs.codecs.Codec.{ok_of}
use Rattle.code_text.proofs.codecs.Parts.{number_codec}
use Rattle.code_text.proofs.indices.Sums.{one_some, all_add, all_le, ascending_add}

-- ---- parts that fall

-- what may come in a sum, by its number alone
abbrev IsUpTo : Option ℕ → SumPart → Type 0
IsUpTo None p = ⊥
IsUpTo (Some top) (Variable k) = k ≤ top
IsUpTo (Some top) (Number n) = Unit {0}

abbrev Descending : Option ℕ → List SumPart → Type 0
Descending s [] = Unit {0}
Descending s (p ∷ ps) = IsUpTo s p × Descending (sum_next s p) ps

record Ascends (s : Option ℕ) (d : Linear) : Type 0 where
  is : IsAscending 0 d.coefs
  top : (n : ℕ) → s ≡ Some n → All (λ c. c.var ≤ n) d.coefs

none_left : (ps : List SumPart) → Descending None ps → [] ≡ ps
none_left [] is = refl
none_left (p ∷ ps) is = absurd is.0

ascends : (s : Option ℕ) (ps : List SumPart) → Descending s ps → Ascends s (linear_of ps)
ascends s [] is = record { is = tt; top = λ n e. All-nil (λ c. c.var ≤ n) }
ascends None (p ∷ ps) is = absurd is.0
ascends (Some top) (Variable k ∷ ps) is =
    let u = ascends (Some k) ps is.1 in
    let d = linear_of ps in
    record {
      is = ascending_add 0 k d.coefs (omega arith) u.is (u.top k refl);
      top = λ n e.
          let same : top ≡ n = one_some top n e in
          all_add (λ v. v ≤ n) k d.coefs (omega (arith, is.0, same)) (all_le k n d.coefs (omega (arith, is.0, same)) (u.top k refl));
    }
ascends (Some top) (Number n ∷ ps) is =
    subst (λ qs. Ascends (Some top) (linear_of (Number n ∷ qs))) (none_left ps is.1) (record { is = tt; top = λ m e. All-nil (λ c. c.var ≤ m) })

-- ---- what is read of a reader by cases

made_holds : {A B : Type 0} (R : B → Type 0) (f : A → B) (p : Reader A) (n : ℕ) (s : List ℕ) (x : B × List ℕ) → ((y : A × List ℕ) → p n s ≡ Ok y → R (f y.0)) → made f p n s ≡ Ok x → R x.0
made_holds R f p n s x P e =
    let h = bind_ok (p n s) (λ y. Ok (f y.0, y.1)) x e in
    subst (λ z. R z.0) (ok_of (f h.0.0, h.0.1) x h.2) (P h.0 h.1)

either_holds : {A : Type 0} (R : A → Type 0) (b : ℕ) (p q : Reader A) (n : ℕ) (s : List ℕ) (x : A × List ℕ) → ((t : List ℕ) → p n t ≡ Ok x → R x.0) → ((t : List ℕ) → q n t ≡ Ok x → R x.0) → either_at b p q n s ≡ Ok x → R x.0
unfolding either_at
either_holds R b p q n [] x P Q e = absurd (Ok≢Err x 0 (sym e))
either_holds R b p q n (c ∷ s) x P Q e = go (eqb c b) e
  where
    go : (t : Bool) → cond t (p n s) (q n (c ∷ s)) ≡ Ok x → R x.0
    go true f = P s f
    go false f = Q (c ∷ s) f

-- ---- variables

AreUpTo : ℕ → List ℕ → Type 0
AreUpTo top [] = Unit {0}
AreUpTo top (k ∷ ks) = (k ≤ top) × AreUpTo top ks

candidates_small : (s : Sort) (top i : ℕ) (bs : List Sort) → AreUpTo top (candidates s top i bs)
unfolding AreUpTo
candidates_small s top i [] = tt
candidates_small s top i (b ∷ bs) = go (same_sort b s && nat_le i top) refl (candidates_small s top (suc i) bs)
  where
    go : (c : Bool) → (same_sort b s && nat_le i top) ≡ c → AreUpTo top (candidates s top (suc i) bs) → AreUpTo top (cond c (i ∷ candidates s top (suc i) bs) (candidates s top (suc i) bs))
    go true e all = (leb-true i top (both_right (same_sort b s) (nat_le i top) e), all)
    go false e all = all

spelled_small : (top m n : ℕ) (ks s : List ℕ) (k : ℕ) → AreUpTo top ks → spelled_by m n ks s ≡ Some k → k ≤ top
unfolding AreUpTo
spelled_small top m n [] s k all e = absurd (none_some k None refl e)
  where
    none_some : (k : ℕ) (o : Option ℕ) → o ≡ None → o ≡ Some k → ⊥
    none_some k o e f = cc
spelled_small top m n (j ∷ js) s k all e = go _ e (λ f. spelled_small top m n js s k all.1 f)
  where
    go : (b : Bool) → cond b (Some j) (spelled_by m n js s) ≡ Some k → (spelled_by m n js s ≡ Some k → k ≤ top) → k ≤ top
    go true f later = subst (λ (i : ℕ). i ≤ top) (one_some j k f) all.0
    go false f later = later f

binder_small : (top n : ℕ) (ks s : List ℕ) (x : ℕ × List ℕ) → AreUpTo top ks → among_at n ks s ≡ Ok x → x.0 ≤ top
binder_small top n ks s x all e = go (furthest n ks s) (spelled_by (furthest n ks s) n ks s) refl e
  where
    go : (m : ℕ) (o : Option ℕ) → spelled_by m n ks s ≡ o → spelled_at m o s ≡ Ok x → x.0 ≤ top
    go m None f g = absurd (Ok≢Err x (length s - m) (sym g))
    go m (Some k) f g = subst (λ (y : ℕ × List ℕ). y.0 ≤ top) (ok_of (k, drop m s) x g) (spelled_small top m n ks s k all f)

var_small : (scope : Scope) (top n : ℕ) (s : List ℕ) (x : ℕ × List ℕ) → top ≤ largest → var_at scope sort.Dim top n s ≡ Ok x → x.0 ≤ top
var_small InBlock top n s x le e = ((number_codec top (omega (arith, le))).takes n s x e).1
var_small (Under binders) top n s x le e = binder_small top (length binders) (candidates sort.Dim top 0 binders) s x (candidates_small sort.Dim top 0 binders) e

-- ---- sums

IsLow : Option ℕ → Type 0
IsLow None = Unit {0}
IsLow (Some top) = top ≤ largest

next_low : (s : Option ℕ) (p : SumPart) → IsLow s → IsUpTo s p → IsLow (sum_next s p)
unfolding IsLow
next_low None p low is = absurd is
next_low (Some top) (Variable k) low is = omega (arith, low, is)
next_low (Some top) (Number n) low is = tt

item_falls : (scope : Scope) (s : Option ℕ) (n : ℕ) (t : List ℕ) (x : SumPart × List ℕ) → IsLow s → sum_item scope s n t ≡ Ok x → IsUpTo s x.0
unfolding IsLow
item_falls scope None n t x low e = absurd (Ok≢Err x (length t) (sym e))
item_falls scope (Some top) n t x low e =
    either_holds (IsUpTo (Some top)) (lead scope) (made Variable (var_at scope sort.Dim top)) (made Number (plainly (number_at false (2 ^ 40)))) n t x
    (λ u f. made_holds (IsUpTo (Some top)) Variable (var_at scope sort.Dim top) n u x (λ y g. var_small scope top n u y low g) f)
    (λ u f. made_holds (IsUpTo (Some top)) Number (plainly (number_at false (2 ^ 40))) n u x (λ y g. tt) f)
    e

module _ (scope : Scope) (n : ℕ) where
  abbrev others : Option ℕ → ℕ → List ℕ → Read (List SumPart)
  others s m t = items_from 41 sum_room (sum_item scope) sum_next s m n t

  items_fall : (m : ℕ) (s : Option ℕ) (t : List ℕ) (x : List SumPart × List ℕ) → IsLow s → others s m t ≡ Ok x → Descending s x.0
  unfolding items_from
  items_fall zero s t x low e =
      let h = bind_ok (byte_at 41 t) (λ y. Ok ([], y.1)) x e in
      subst (λ z. Descending s z.0) (ok_of ([], h.0.1) x h.2) tt
  items_fall (suc m) s t x low e =
      let h = bind_ok (end_at 41 (sum_room s) t) (λ y. cond y.0 (sum_item scope s n y.1 >>= λ z. others (sum_next s z.0) m z.1 >>= λ ys. Ok (z.0 ∷ ys.0, ys.1)) (Ok ([], y.1))) x e in
      go h.0.0 h.0.1 h.2 (λ r v y low' f. items_fall m r v y low' f)
    where
      go : (b : Bool) (u : List ℕ) → cond b (sum_item scope s n u >>= λ z. others (sum_next s z.0) m z.1 >>= λ ys. Ok (z.0 ∷ ys.0, ys.1)) (Ok ([], u)) ≡ Ok x → ((r : Option ℕ) (v : List ℕ) (y : List SumPart × List ℕ) → IsLow r → others r m v ≡ Ok y → Descending r y.0) → Descending s x.0
      go false u f later = subst (λ z. Descending s z.0) (ok_of ([], u) x f) tt
      go true u f later =
          let i = bind_ok (sum_item scope s n u) (λ z. others (sum_next s z.0) m z.1 >>= λ ys. Ok (z.0 ∷ ys.0, ys.1)) x f in
          let j = bind_ok (others (sum_next s i.0.0) m i.0.1) (λ ys. Ok (i.0.0 ∷ ys.0, ys.1)) x i.2 in
          let one = item_falls scope s n u i.0 low i.1 in
          subst (λ z. Descending s z.0) (ok_of (i.0.0 ∷ j.0.0, j.0.1) x j.2) (one, later (sum_next s i.0.0) i.0.1 j.0 (next_low s i.0.0 low one) j.1)

same_next : (s : Option ℕ) (p : SumPart) → sum_next None p ≡ sum_next s p
same_next s (Variable k) = refl
same_next s (Number m) = refl

-- what is read of a sum, behind its `(+ `
sum_falls : (scope : Scope) (n : ℕ) (s : List ℕ) (x : List SumPart × List ℕ) → sum_at scope n s ≡ Ok x → Descending (Some largest) x.0
unfolding IsLow
sum_falls scope n s x e =
    let a = bind_ok (sum_first scope n s) (λ y. with_front (y.0 ∷ []) (sum_others scope y.0 n y.1)) x e in
    let first = var_falls a.0 a.1 in
    let b = bind_ok (sum_others scope a.0.0 n a.0.1) (λ ys. Ok ((a.0.0 ∷ []) ++ ys.0, ys.1)) x a.2 in
    let c = bind_ok (word_at (32 ∷ []) a.0.1) (λ y. some_items 41 sum_room (sum_item scope) sum_next (sum_next None a.0.0) n y.1) b.0 b.1 in
    let state = sum_next None a.0.0 in
    let low : IsLow state = subst IsLow (sym (same_next (Some largest) a.0.0)) (next_low (Some largest) a.0.0 (omega arith) first) in
    let d = bind_ok (sum_item scope state n c.0.1) (λ y. with_front (y.0 ∷ []) (others scope n (sum_next state y.0) n y.1)) b.0 c.2 in
    let second = item_falls scope state n c.0.1 d.0 low d.1 in
    let f = bind_ok (others scope n (sum_next state d.0.0) n d.0.1) (λ ys. Ok ((d.0.0 ∷ []) ++ ys.0, ys.1)) b.0 d.2 in
    let later = items_fall scope n n (sum_next state d.0.0) d.0.1 f.0 (next_low state d.0.0 low second) f.1 in
    let behind_first : Descending state b.0.0 = subst (λ z. Descending state z.0) (ok_of (d.0.0 ∷ f.0.0, f.0.1) b.0 f.2) (second, later) in
    let moved : Descending (sum_next (Some largest) a.0.0) b.0.0 = subst (λ (o : Option ℕ). Descending o b.0.0) (same_next (Some largest) a.0.0) behind_first in
    subst (λ z. Descending (Some largest) z.0) (ok_of (a.0.0 ∷ b.0.0, b.0.1) x b.2) (first, moved)
  where
    var_falls : (y : SumPart × List ℕ) → sum_first scope n s ≡ Ok y → IsUpTo (Some largest) y.0
    var_falls y f =
        let h = bind_ok (word_at (lead scope ∷ []) s) (λ z. made Variable (var_at scope sort.Dim largest) n z.1) y f in
        made_holds (IsUpTo (Some largest)) Variable (var_at scope sort.Dim largest) n h.0.1 y (λ v g. var_small scope largest n h.0.1 v (omega arith) g) h.2

-- parts whose linear form is in normal form
abbrev pub AreAscending : List SumPart → Type 0
AreAscending ps = IsAscending 0 (linear_of ps).coefs

-- what is read of a sum, of a number, and of an index of sort Dim
pub sum_ascends : (scope : Scope) (n : ℕ) (s : List ℕ) (x : List SumPart × List ℕ) → sum_at scope n s ≡ Ok x → AreAscending x.0
sum_ascends scope n s x e = (ascends (Some largest) x.0 (sum_falls scope n s x e)).is

pub constant_ascends : (n : ℕ) (s : List ℕ) (x : List SumPart × List ℕ) → constant_at n s ≡ Ok x → AreAscending x.0
constant_ascends n s x e = made_holds AreAscending constants (plainly (number_at true (2 ^ 40))) n s x (λ y f. one y.0) e
  where
    one : (m : ℕ) → AreAscending (constants m)
    one zero = tt
    one (suc m) = tt

pub parts_ascend : (scope : Scope) (n : ℕ) (s : List ℕ) (x : List SumPart × List ℕ) → parts_at scope n s ≡ Ok x → AreAscending x.0
parts_ascend scope n s x e = go (has_var scope sort.Dim) e
  where
    go : (b : Bool) → parts_among scope b n s ≡ Ok x → AreAscending x.0
    go false f = constant_ascends n s x f
    go true f =
        either_holds AreAscending (lead scope) (made alone (var_at scope sort.Dim largest)) (either_at 40 (behind (codes "+ ") (sum_at scope)) constant_at) n s x
        (λ t g. made_holds AreAscending alone (var_at scope sort.Dim largest) n t x (λ y h. (omega arith, omega arith, tt)) g)
        (λ t g. either_holds AreAscending 40 (behind (codes "+ ") (sum_at scope)) constant_at n t x (λ u h. let w = bind_ok (word_at (codes "+ ") u) (λ z. sum_at scope n z.1) x h in sum_ascends scope n w.0.1 x w.2) (λ u h. constant_ascends n u x h) g)
        f
