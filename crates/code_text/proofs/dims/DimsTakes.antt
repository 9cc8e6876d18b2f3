-- What is read as dims is spelled so.
use Rattle.std.proofs.Common.{◌≡◌, ℕ, zero, suc, ◌+◌, ◌*◌, ◌^◌, ◌≤◌, ◌<◌, min, cond, eqb, Bool, true, false, ◌&&◌, List, [], ◌∷◌, ◌++◌, length, Ok, Err, ap, sym, subst, ◌∙◌, refl, arith, ⊎_elim, nat_le, lit≤, append_assoc}
use Rattle.std.specs.List.{All}
use Rattle.std.specs.Fmt.{decimal}
use Rattle.std.proofs.lemmas.List.Elements.{All-nil, All-cons}
use Rattle.std.proofs.lemmas.Bool.{false≢true, leb-true, cases_lt, eqb-true}
use Rattle.std.proofs.lemmas.Bool.Decides.{eqb_tells}
use Rattle.std.proofs.Math.Nat.{mul_assoc}
use Rattle.array_values.specs.Forms.{Forms, cells}
use Rattle.code_text.specs.Reading.{Read, ◌>>=◌, number_at}
use Rattle.code_text.specs.DimsReading.{too_many, capped, dim_limit, after_dim, dims_turn, dims_from, dims_at}
use Rattle.code_text.proofs.goes.Goes.{true_or_false, both_left, both_right, Ok≢Err}
use Rattle.code_text.proofs.goes.Spelled.{bind_ok, number_takes}
use Rattle.code_text.proofs.codecs.Codec.{ok_of}
use Rattle.code_text.proofs.dims.DimsGoes.{limit_small}
use Rattle.code_text.proofs.forms.CodeForms.{dims_form}

-- lists of numbers

below_cap : (p c k : ℕ) → p ≤ c → min (min p c * k) c ≡ min (p * k) c
below_cap p c k le = let same : min p c ≡ p = omega arith in ap (λ n. min (n * k) c) same

above_cap : (p c k : ℕ) → c < p → min (min p c * suc k) c ≡ min (p * suc k) c
above_cap p c k lt = let same : min p c ≡ c = omega arith in ap (λ n. min (n * suc k) c) same ∙ omega arith

-- a cap on the way changes nothing of the capped product
pub cap : (p c d : ℕ) → min (min p c * d) c ≡ min (p * d) c
cap p c zero = omega arith
cap p c (suc k) = ⊎_elim (above_cap p c k) (below_cap p c (suc k)) (cases_lt c p)

-- what stands behind a number
data DimEnd (room : Bool) (count : ℕ) (s : List ℕ) (x : Bool × List ℕ) : Type 0 where
  Closed : x.0 ≡ false → s ≡ 41 ∷ x.1 → count ≤ 2 ^ 24 → DimEnd room count s x
  Spaced : x.0 ≡ true → s ≡ 32 ∷ x.1 → room ≡ true → DimEnd room count s x

dim_end_takes : (room : Bool) (count : ℕ) (s : List ℕ) (x : Bool × List ℕ) → after_dim room count s ≡ Ok x → DimEnd room count s x
unfolding after_dim
dim_end_takes room count [] x e = absurd (Ok≢Err x 0 (sym e))
dim_end_takes room count (c ∷ s) x e =
    ⊎_elim
    (λ t.
    let f = ap (λ (b : Bool). cond b (Ok (false, s)) (cond (eqb c 32 && room) (Ok (true, s)) (Err (length s + 1)))) t in
    let same = ok_of (false, s) x (sym f ∙ e) in
    let byte = eqb-true c 41 (both_left (eqb c 41) _ t) in
    Closed (sym (ap (λ y. y.0) same)) (ap (λ (b : ℕ). b ∷ s) byte ∙ ap (λ r. 41 ∷ r) (ap (λ y. y.1) same)) (leb-true count (2 ^ 24) (both_right (eqb c 41) _ t)))
    (λ t.
    let f = ap (λ (b : Bool). cond b (Ok (false, s)) (cond (eqb c 32 && room) (Ok (true, s)) (Err (length s + 1)))) t in
    ⊎_elim
    (λ u.
    let g = ap (λ (b : Bool). cond b (Ok (true, s)) (Err (length s + 1))) u in
    let same = ok_of (true, s) x (sym (f ∙ g) ∙ e) in
    let byte = eqb-true c 32 (both_left (eqb c 32) room u) in
    Spaced (sym (ap (λ y. y.0) same)) (ap (λ (b : ℕ). b ∷ s) byte ∙ ap (λ r. 32 ∷ r) (ap (λ y. y.1) same)) (both_right (eqb c 32) room u))
    (λ u. let g = ap (λ (b : Bool). cond b (Ok (true, s)) (Err (length s + 1))) u in absurd (Ok≢Err x (length s + 1) (sym e ∙ (f ∙ g))))
    (true_or_false (eqb c 32 && room)))
    (true_or_false (eqb c 41 && nat_le count (2 ^ 24)))

-- numbers that were read: one, and others
pub record Dims (room start : ℕ) (s : List ℕ) (x : (List ℕ × ℕ) × List ℕ) : Type 0 where
  pub head : ℕ
  pub tail : List ℕ
  pub is : x.0.0 ≡ head ∷ tail
  pub whole : s ≡ dims_form (head ∷ tail) ++ x.1
  pub few : length tail ≤ room
  pub each : All (λ d. d < 2 ^ 32) (head ∷ tail)
  pub count : x.0.1 ≡ min (start * cells (head ∷ tail)) too_many
  pub small : x.0.1 ≤ 2 ^ 24

turn_takes : (room : Bool) (more limit count : ℕ) (next : ℕ → List ℕ → Read (List ℕ × ℕ)) (s : List ℕ) (x : (List ℕ × ℕ) × List ℕ) → limit < 2 ^ 32 → (room ≡ true → (n : ℕ) (t : List ℕ) (z : (List ℕ × ℕ) × List ℕ) → next n t ≡ Ok z → (rest : ℕ) × (more ≡ suc rest) × Dims rest n t z) → dims_turn room limit count next s ≡ Ok x → Dims more count s x
unfolding dims_turn
turn_takes room more limit count next s x low later e =
    let h = bind_ok (number_at true limit s) _ x e in
    let i = bind_ok (after_dim room (capped count h.0.0) h.0.1) _ x h.2 in
    let n = number_takes true limit s h.0 (omega arith) h.1 in
    go h.0.0 h.0.1 i.0 n.whole (omega (arith, n.within)) (dim_end_takes room (capped count h.0.0) h.0.1 i.0 i.1) i.2
  where
    go : (d : ℕ) (after : List ℕ) (y : Bool × List ℕ) → s ≡ decimal d ++ after → d < 2 ^ 32 → DimEnd room (capped count d) after y → cond y.0 (next (capped count d) y.1 >>= λ ds. Ok ((d ∷ ds.0.0, ds.0.1), ds.1)) (Ok ((d ∷ [], capped count d), y.1)) ≡ Ok x → Dims more count s x
    go d after y whole small (Closed last byte fits) f =
        let same = ok_of ((d ∷ [], capped count d), y.1) x (sym (ap (λ (b : Bool). cond b (next (capped count d) y.1 >>= λ ds. Ok ((d ∷ ds.0.0, ds.0.1), ds.1)) (Ok ((d ∷ [], capped count d), y.1))) last) ∙ f) in
        let here : Dims more count s ((d ∷ [], capped count d), y.1) = record {
          head = d;
          tail = [];
          is = refl;
          whole = whole ∙ ap (λ t. decimal d ++ t) byte ∙ sym (append_assoc (decimal d) (41 ∷ []) y.1);
          few = omega arith;
          each = All-cons (λ d. d < 2 ^ 32) d [] small (All-nil (λ d. d < 2 ^ 32));
          count = omega arith;
          small = fits;
        }
        in
        subst (Dims more count s) same here
    go d after y whole small (Spaced goes byte room_is) f =
        let g = sym (ap (λ (b : Bool). cond b (next (capped count d) y.1 >>= λ ds. Ok ((d ∷ ds.0.0, ds.0.1), ds.1)) (Ok ((d ∷ [], capped count d), y.1))) goes) ∙ f in
        let j = bind_ok (next (capped count d) y.1) (λ ds. Ok ((d ∷ ds.0.0, ds.0.1), ds.1)) x g in
        let l = later room_is (capped count d) y.1 j.0 j.1 in
        let k = l.2 in
        let here : Dims more count s ((d ∷ j.0.0.0, j.0.0.1), j.0.1) = record {
          head = d;
          tail = k.head ∷ k.tail;
          is = ap (λ t. d ∷ t) k.is;
          whole =
              whole
              ∙ ap (λ t. decimal d ++ t) (byte ∙ ap (λ t. 32 ∷ t) k.whole)
              ∙ sym (append_assoc (decimal d) (32 ∷ dims_form (k.head ∷ k.tail)) j.0.1);
          few = omega (arith, l.1, k.few);
          each = All-cons (λ d. d < 2 ^ 32) d (k.head ∷ k.tail) small k.each;
          count =
              k.count
              ∙ cap (count * d) too_many (cells (k.head ∷ k.tail))
              ∙ ap (λ (m : ℕ). min m too_many) (mul_assoc count d (cells (k.head ∷ k.tail)));
          small = k.small;
        }
        in
        subst (Dims more count s) (ok_of _ x j.2) here

pub dims_from_takes : (room count : ℕ) (s : List ℕ) (x : (List ℕ × ℕ) × List ℕ) → dims_from room count s ≡ Ok x → Dims room count s x
unfolding dims_from
dims_from_takes zero count s x e = turn_takes false zero (dim_limit 0 count) count (λ n r. Err 0) s x (limit_small 0 count) (λ h. absurd (false≢true h)) e
dims_from_takes (suc room) count s x e =
    turn_takes true (suc room) (dim_limit (suc room) count) count (dims_from room) s x (limit_small (suc room) count) (λ h n t z f. (room, refl, dims_from_takes room n t z f)) e

-- a list of numbers that was read
pub record AllDims (s : List ℕ) (x : (List ℕ × ℕ) × List ℕ) : Type 0 where
  pub whole : s ≡ dims_form x.0.0 ++ x.1
  pub forms : Forms x.0.0
  pub count : x.0.1 ≡ cells x.0.0

some_dims_takes : (s : List ℕ) (x : (List ℕ × ℕ) × List ℕ) → Dims 63 1 s x → AllDims s x
some_dims_takes s x d =
    let exact : x.0.1 ≡ cells (d.head ∷ d.tail) = omega (arith, d.count, d.small) in
    let Q : List ℕ → Type 0 = λ ds. (s ≡ dims_form ds ++ x.1) × Forms ds × (x.0.1 ≡ cells ds) in
    let here : Q (d.head ∷ d.tail) = (d.whole, record { rank = omega (arith, d.few); each = d.each; few = omega (arith, d.small) }, exact) in
    let there = subst Q (sym d.is) here in
    record { whole = there.0; forms = there.1; count = there.2 }

pub dims_takes : (s : List ℕ) (x : (List ℕ × ℕ) × List ℕ) → dims_at s ≡ Ok x → AllDims s x
unfolding dims_at
dims_takes [] x e = absurd (Ok≢Err x 0 (sym e))
dims_takes (c ∷ s) x e =
    ⊎_elim
    (λ p.
    let f = ap (λ (b : Bool). cond b (Ok (([], 1), s)) (dims_from 63 1 (c ∷ s))) p.0 in
    let none : Forms [] = record { rank = omega arith; each = All-nil (λ d. d < 2 ^ 32); few = lit≤ tt } in
    let here : AllDims (c ∷ s) (([], 1), s) = record { whole = ap (λ (b : ℕ). b ∷ s) p.1; forms = none; count = refl } in
    subst (AllDims (c ∷ s)) (ok_of (([], 1), s) x (sym f ∙ e)) here)
    (λ p.
    let f = ap (λ (b : Bool). cond b (Ok (([], 1), s)) (dims_from 63 1 (c ∷ s))) p.0 in
    some_dims_takes (c ∷ s) x (dims_from_takes 63 1 (c ∷ s) x (sym f ∙ e)))
    (eqb_tells c 41)
