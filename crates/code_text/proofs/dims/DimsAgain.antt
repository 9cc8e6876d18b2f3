-- What is spelled as dims is read so.
use Rattle.std.proofs.Common.{◌≡◌, ℕ, zero, suc, ◌+◌, ◌-◌, ◌*◌, ◌/◌, ◌^◌, ◌≤◌, ◌<◌, min, cond, eqb, Bool, true, false, ◌&&◌, List, [], ◌∷◌, ◌++◌, length, Ok, Err, ap, sym, subst, ◌∙◌, refl, arith, ⊎_elim, nat_lt, append_assoc}
use Rattle.std.specs.List.{All}
use Rattle.std.specs.Fmt.{decimal}
use Rattle.std.proofs.lemmas.List.Elements.{All-head, All-tail}
use Rattle.std.proofs.lemmas.Bool.{false≢true, le-leb, lt-ltb}
use Rattle.std.proofs.lemmas.Bool.Decides.{eqb_tells}
use Rattle.std.proofs.Math.Dec.{eqb-suc-zero}
use Rattle.std.proofs.Math.Nat.{mul_assoc, le-div_iff_mul-le}
use Rattle.array_values.specs.Forms.{Forms, cells}
use Rattle.code_text.specs.Reading.{number_at}
use Rattle.code_text.specs.DimsReading.{too_many, capped, dim_limit, after_dim, dims_turn, dims_from, dims_at}
use Rattle.code_text.proofs.goes.Goes.{Ok≢Err}
use Rattle.code_text.proofs.dims.DimsLoop.{turn_last, turn_more}
use Rattle.code_text.proofs.goes.Spelled.{bind_at, number_again}
use Rattle.code_text.proofs.dims.DimsGoes.{limit_small}
use Rattle.code_text.proofs.dims.DimsTakes.{cap}
use Rattle.code_text.proofs.forms.CodeForms.{dims_form}

-- lists of numbers

closes_again : (room : Bool) (count : ℕ) (r : List ℕ) → count ≤ 2 ^ 24 → after_dim room count (41 ∷ r) ≡ Ok (false, r)
unfolding after_dim
closes_again room count r le = ap (λ (b : Bool). cond b (Ok (false, r)) (cond (eqb 41 32 && room) (Ok (true, r)) (Err (length r + 1)))) (le-leb count (2 ^ 24) le)

space_again : (count : ℕ) (r : List ℕ) → after_dim true count (32 ∷ r) ≡ Ok (true, r)
unfolding after_dim
space_again count r = refl

limit_again : (room count d : ℕ) → d < 2 ^ 32 → (room ≡ 0 → count * d ≤ 2 ^ 24) → d ≤ dim_limit room count
limit_again zero zero d small fits = omega arith
limit_again zero (suc n) d small fits =
    let is : dim_limit 0 (suc n) ≡ 2 ^ 24 / suc n = ap (λ (b : Bool). cond b (2 ^ 24 / suc n) (2 ^ 32 - 1)) (lt-ltb 0 (suc n) (omega arith)) in
    let product : d * suc n ≤ 2 ^ 24 = omega (arith, fits refl) in
    subst (λ (m : ℕ). d ≤ m) (sym is) ((le-div_iff_mul-le {k = suc n} {x = d} {y = 2 ^ 24} (omega arith)).1 product)
limit_again (suc room) count d small fits =
    let is : dim_limit (suc room) count ≡ 2 ^ 32 - 1 = ap (λ (b : Bool). cond (b && nat_lt 0 count) (2 ^ 24 / count) (2 ^ 32 - 1)) (eqb-suc-zero room) in
    subst (λ (m : ℕ). d ≤ m) (sym is) (omega arith)

limit_fits64 : (room count : ℕ) → dim_limit room count < 2 ^ 64
limit_fits64 room count = omega (arith, limit_small room count)

dims_from_again : (room count d : ℕ) (ds r : List ℕ) → length ds ≤ room → All (λ d. d < 2 ^ 32) (d ∷ ds) → min (count * cells (d ∷ ds)) too_many ≤ 2 ^ 24 → dims_from room count (dims_form (d ∷ ds) ++ r) ≡ Ok ((d ∷ ds, min (count * cells (d ∷ ds)) too_many), r)
unfolding dims_from
dims_from_again zero count d [] r few all small =
    let one = All-head (λ d. d < 2 ^ 32) d [] all in
    let read : number_at true (dim_limit 0 count) ((decimal d ++ 41 ∷ []) ++ r) ≡ Ok (d, 41 ∷ r) =
    ap (number_at true (dim_limit 0 count)) (append_assoc (decimal d) (41 ∷ []) r)
    ∙ number_again true (dim_limit 0 count) d (41 ∷ r) (limit_fits64 0 count) (limit_again 0 count d one (λ h. omega (arith, small))) (λ h. absurd (false≢true (sym h))) refl
    in
    turn_last false (dim_limit 0 count) count d (λ n r. Err 0) ((decimal d ++ 41 ∷ []) ++ r) (41 ∷ r) r read (closes_again false (capped count d) r (omega (arith, small)))
    ∙ ap (λ (n : ℕ). Ok ((d ∷ [], n), r)) (omega arith)
dims_from_again zero count d (e ∷ ds) r few all small = absurd (omega arith)
dims_from_again (suc room) count d [] r few all small =
    let one = All-head (λ d. d < 2 ^ 32) d [] all in
    let read : number_at true (dim_limit (suc room) count) ((decimal d ++ 41 ∷ []) ++ r) ≡ Ok (d, 41 ∷ r) =
    ap (number_at true (dim_limit (suc room) count)) (append_assoc (decimal d) (41 ∷ []) r)
    ∙ number_again true (dim_limit (suc room) count) d (41 ∷ r) (limit_fits64 (suc room) count) (limit_again (suc room) count d one (λ h. absurd (omega arith))) (λ h. absurd (false≢true (sym h))) refl
    in
    turn_last true (dim_limit (suc room) count) count d (dims_from room) ((decimal d ++ 41 ∷ []) ++ r) (41 ∷ r) r read (closes_again true (capped count d) r (omega (arith, small)))
    ∙ ap (λ (n : ℕ). Ok ((d ∷ [], n), r)) (omega arith)
dims_from_again (suc room) count d (e ∷ ds) r few all small =
    let one = All-head (λ d. d < 2 ^ 32) d (e ∷ ds) all in
    let behind = dims_form (e ∷ ds) ++ r in
    let read : number_at true (dim_limit (suc room) count) ((decimal d ++ (32 ∷ dims_form (e ∷ ds))) ++ r) ≡ Ok (d, 32 ∷ behind) =
    ap (number_at true (dim_limit (suc room) count)) (append_assoc (decimal d) (32 ∷ dims_form (e ∷ ds)) r)
    ∙ number_again true (dim_limit (suc room) count) d (32 ∷ behind) (limit_fits64 (suc room) count) (limit_again (suc room) count d one (λ h. absurd (omega arith))) (λ h. absurd (false≢true (sym h))) refl
    in
    let same : min (capped count d * cells (e ∷ ds)) too_many ≡ min (count * cells (d ∷ (e ∷ ds))) too_many = cap (count * d) too_many (cells (e ∷ ds)) ∙ ap (λ (m : ℕ). min m too_many) (mul_assoc count d (cells (e ∷ ds))) in
    turn_more true (dim_limit (suc room) count) count d (dims_from room) ((decimal d ++ (32 ∷ dims_form (e ∷ ds))) ++ r) (32 ∷ behind) behind read (space_again (capped count d) behind)
    ∙ bind_at (dims_from room (capped count d) behind) (λ x. Ok ((d ∷ x.0.0, x.0.1), x.1)) ((e ∷ ds, min (capped count d * cells (e ∷ ds)) too_many), r)
    (dims_from_again room (capped count d) e ds r (omega arith) (All-tail (λ d. d < 2 ^ 32) d (e ∷ ds) all) (omega (arith, same, small)))
    ∙ ap (λ (n : ℕ). Ok ((d ∷ (e ∷ ds), n), r)) same

dims_of : (s : List ℕ) (x : (List ℕ × ℕ) × List ℕ) → dims_from 63 1 s ≡ Ok x → dims_at s ≡ Ok x
unfolding dims_at dims_from dims_turn number_at
dims_of [] x e = absurd (Ok≢Err x 0 (sym e))
dims_of (c ∷ s) x e =
    ⊎_elim
    (λ p. absurd (Ok≢Err x (length s + 1) (sym e ∙ ap (λ (b : ℕ). dims_from 63 1 (b ∷ s)) p.1)))
    (λ p. ap (λ (b : Bool). cond b (Ok (([], 1), s)) (dims_from 63 1 (c ∷ s))) p.0 ∙ e)
    (eqb_tells c 41)

pub dims_again : (ds r : List ℕ) → Forms ds → dims_at (dims_form ds ++ r) ≡ Ok ((ds, cells ds), r)
unfolding dims_at
dims_again [] r forms = refl
dims_again (d ∷ ds) r forms =
    let exact : min (1 * cells (d ∷ ds)) too_many ≡ cells (d ∷ ds) = omega (arith, forms.few) in
    dims_of (dims_form (d ∷ ds) ++ r) ((d ∷ ds, min (1 * cells (d ∷ ds)) too_many), r) (dims_from_again 63 1 d ds r (omega (arith, forms.rank)) forms.each (omega (arith, forms.few)))
    ∙ ap (λ (n : ℕ). Ok ((d ∷ ds, n), r)) exact
