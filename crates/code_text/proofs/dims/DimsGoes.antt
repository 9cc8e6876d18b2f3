-- Reading dims goes right.
use Rattle.std.proofs.Common.{◌≡◌, ◌⊎◌, ℕ, zero, suc, ◌+◌, ◌-◌, ◌*◌, ◌/◌, ◌^◌, ◌≤◌, ◌<◌, cond, eqb, Bool, true, false, ◌&&◌, List, [], ◌∷◌, length, Ok, Err, ap, sym, subst, ◌∙◌, refl, arith, inl, inr, ⊎_elim, nat_le, nat_lt, lit≤, lit<}
use Rattle.std.proofs.lemmas.Bool.{false≢true, leb-true, le-leb, lt-ltb}
use Rattle.std.proofs.lemmas.Bool.Decides.{eqb_tells}
use Rattle.std.proofs.Math.Nat.{div-mul-le_self, mul-le-mul_left, div-le_of_le-mul}
use Rattle.machine_table.specs.Codes.{Code}
use Rattle.code_text.specs.Reading.{Read, ◌>>=◌, is_hex, number_at}
use Rattle.code_text.specs.DimsReading.{capped, dim_limit, after_dim, dims_turn, dims_from, dims_at}
use Rattle.code_text.proofs.goes.Goes.{Rest, then_rest, Live, StopsAt, Goes, Goes-same, shift, refuse, at_end, pass, bind_rest, NoDigit, number_goes, true_or_false, both_right, Ok≢Err}
use Rattle.code_text.proofs.codecs.Codec.{bind_goes}

limit_is : (n : ℕ) → dim_limit 0 (suc n) ≡ 2 ^ 24 / suc n
limit_is n = ap (λ (b : Bool). cond b (2 ^ 24 / suc n) (2 ^ 32 - 1)) (lt-ltb 0 (suc n) (omega arith))

-- within the limit of a number that ends the list the count is small enough
limit_fits : (count d : ℕ) → d ≤ dim_limit 0 count → capped count d ≤ 2 ^ 24
limit_fits zero d le = omega arith
limit_fits (suc n) d le =
    let few : d ≤ 2 ^ 24 / suc n = subst (λ (x : ℕ). d ≤ x) (limit_is n) le in
    let most : suc n * d ≤ suc n * (2 ^ 24 / suc n) = mul-le-mul_left (suc n) few in
    let all : 2 ^ 24 / suc n * suc n ≤ 2 ^ 24 = div-mul-le_self (2 ^ 24) (suc n) in
    let product : suc n * d ≤ 2 ^ 24 = omega (arith, most, all) in
    omega (arith, product)

pub limit_small : (room count : ℕ) → dim_limit room count < 2 ^ 32
limit_small room count =
    ⊎_elim
    (λ t. subst (λ (n : ℕ). n < 2 ^ 32) (sym (ap (λ (b : Bool). cond b (2 ^ 24 / count) (2 ^ 32 - 1)) t)) (omega (arith, quotient count)))
    (λ t. subst (λ (n : ℕ). n < 2 ^ 32) (sym (ap (λ (b : Bool). cond b (2 ^ 24 / count) (2 ^ 32 - 1)) t)) (lit< tt))
    (true_or_false (eqb room 0 && nat_lt 0 count))
  where
    quotient : (count : ℕ) → 2 ^ 24 / count ≤ 2 ^ 24
    quotient zero = lit≤ tt
    quotient (suc n) = div-le_of_le-mul (suc n) (omega arith)

-- what stands behind a number of a list

module _ (room : Bool) (count : ℕ) (k : Bool → Rest Code) (E : count ≤ 2 ^ 24 → Goes (k false)) (M : room ≡ true → Goes (k true)) where
  abbrev dim_end : Rest Code
  dim_end s = then_rest (after_dim room count s) k

  abbrev ends_with : ℕ → Bool
  ends_with c = eqb c 41 && nat_le count (2 ^ 24)

  abbrev goes_on_with : ℕ → Bool
  goes_on_with c = eqb c 32 && room

  closes : (c : ℕ) (z : List ℕ) → ends_with c ≡ true → dim_end (c ∷ z) ≡ k false z
  unfolding after_dim
  closes c z e = ap (λ (b : Bool). then_rest (cond b (Ok (false, z)) (cond (goes_on_with c) (Ok (true, z)) (Err (length z + 1)))) k) e

  other_end : (c : ℕ) (z : List ℕ) → ends_with c ≡ false → dim_end (c ∷ z) ≡ then_rest (cond (goes_on_with c) (Ok (true, z)) (Err (length z + 1))) k
  unfolding after_dim
  other_end c z e = ap (λ (b : Bool). then_rest (cond b (Ok (false, z)) (cond (goes_on_with c) (Ok (true, z)) (Err (length z + 1)))) k) e

  spaced : (c : ℕ) (z : List ℕ) → ends_with c ≡ false → goes_on_with c ≡ true → dim_end (c ∷ z) ≡ k true z
  spaced c z e f = other_end c z e ∙ ap (λ (b : Bool). then_rest (cond b (Ok (true, z)) (Err (length z + 1))) k) f

  refused : (c : ℕ) (z : List ℕ) → ends_with c ≡ false → goes_on_with c ≡ false → dim_end (c ∷ z) ≡ Err (length z + 1)
  refused c z e f = other_end c z e ∙ ap (λ (b : Bool). then_rest (cond b (Ok (true, z)) (Err (length z + 1))) k) f

  dim_end_live : (count ≤ 2 ^ 24) ⊎ (room ≡ true) → Live dim_end
  dim_end_live (inl le) =
      let l = (E le).live in record { text = 41 ∷ l.text; value = l.value; is = closes 41 l.text (le-leb count (2 ^ 24) le) ∙ l.is }
  dim_end_live (inr e) =
      let l = (M e).live in record { text = 32 ∷ l.text; value = l.value; is = spaced 32 l.text refl e ∙ l.is }

  pub after_dim_goes : (count ≤ 2 ^ 24) ⊎ (room ≡ true) → Goes dim_end
  unfolding after_dim
  after_dim_goes some = record { live = dim_end_live some; stops = at }
    where
      at : (s : List ℕ) → StopsAt dim_end s (dim_end s)
      at [] = at_end dim_end (dim_end_live some) refl
      at (c ∷ s) =
          ⊎_elim
          (λ e. shift dim_end (k false) c (λ z. closes c z e) s ((E (leb-true count (2 ^ 24) (both_right (eqb c 41) _ e))).stops s))
          (λ e.
          ⊎_elim
          (λ f. shift dim_end (k true) c (λ z. spaced c z e f) s ((M (both_right (eqb c 32) room f)).stops s))
          (λ f. refuse dim_end (dim_end_live some) c (λ z. refused c z e f) s)
          (true_or_false (goes_on_with c)))
          (true_or_false (ends_with c))

  not_both : (c b : ℕ) (r : Bool) → is_hex c ≡ true → is_hex b ≡ false → (eqb c b && r) ≡ false
  not_both c b r digit other =
      ⊎_elim (λ p. absurd (false≢true (sym other ∙ (ap is_hex (sym p.1) ∙ digit)))) (λ p. ap (λ (x : Bool). x && r) p.0) (eqb_tells c b)

  pub after_dim_no_digit : NoDigit dim_end
  after_dim_no_digit d z digit = refused d z (not_both d 41 _ digit refl) (not_both d 32 room digit refl)

module _ (room : Bool) (limit count : ℕ) (next : ℕ → List ℕ → Read (List ℕ × ℕ)) (k : List ℕ × ℕ → Rest Code) where
  abbrev turn_rest : Rest Code
  turn_rest s = then_rest (dims_turn room limit count next s) k

  abbrev behind : ℕ → Bool → Rest Code
  behind d b t =
      then_rest
      (cond b (next (capped count d) t >>= λ ds. Ok ((d ∷ ds.0.0, ds.0.1), ds.1)) (Ok ((d ∷ [], capped count d), t)))
      k

  pub turn_goes : ((d : ℕ) → d ≤ limit → (capped count d ≤ 2 ^ 24) ⊎ (room ≡ true)) → ((d : ℕ) → d ≤ limit → capped count d ≤ 2 ^ 24 → Goes (behind d false)) → ((d : ℕ) → d ≤ limit → room ≡ true → Goes (behind d true)) → Goes turn_rest
  unfolding dims_turn
  turn_goes some E M =
      let after : (d : ℕ) → d ≤ limit → Goes (λ s. then_rest (after_dim room (capped count d) s) (behind d)) = λ d le. after_dim_goes room (capped count d) (behind d) (E d le) (M d le) (some d le) in
      let rest : ℕ → Rest Code = λ d s. then_rest (after_dim room (capped count d) s >>= λ x. cond x.0 (next (capped count d) x.1 >>= λ ds. Ok ((d ∷ ds.0.0, ds.0.1), ds.1)) (Ok ((d ∷ [], capped count d), x.1))) k in
      let each : (d : ℕ) → d ≤ limit → Goes (rest d) = λ d le. Goes-same (rest d) (λ s. then_rest (after_dim room (capped count d) s) (behind d)) (λ s. bind_rest (after_dim room (capped count d) s) _ k) (after d le) in
      bind_goes (number_at true limit) _ k
      (number_goes limit rest (λ d _ le. each d le)
      (λ d _ le. λ c z digit. bind_rest (after_dim room (capped count d) (c ∷ z)) _ k ∙ after_dim_no_digit room (capped count d) (behind d) (E d le) (M d le) c z digit)
      (each 0 (omega arith)))

abbrev dims_rest : ℕ → ℕ → (List ℕ × ℕ → Rest Code) → Rest Code
dims_rest room count k s = then_rest (dims_from room count s) k

-- numbers of which room may follow the first, with their count from count on
abbrev pub Sound : ℕ → ℕ → List ℕ → ℕ → Type 0
Sound room count [] n = ⊥
Sound room count (d ∷ []) n = (d < 2 ^ 32) × (n ≡ capped count d) × (n ≤ 2 ^ 24)
Sound zero count (d ∷ (e ∷ ds)) n = ⊥
Sound (suc room) count (d ∷ (e ∷ ds)) n = (d < 2 ^ 32) × Sound room (capped count d) (e ∷ ds) n

sound_more : (room count d : ℕ) (ds : List ℕ) (n : ℕ) → d < 2 ^ 32 → Sound room (capped count d) ds n → Sound (suc room) count (d ∷ ds) n
sound_more room count d [] n small is = absurd is
sound_more room count d (e ∷ ds) n small is = (small, is)

pub dims_from_goes : (room count : ℕ) (k : List ℕ × ℕ → Rest Code) → ((ds : List ℕ) (n : ℕ) → Sound room count ds n → Goes (k (ds, n))) → Goes (dims_rest room count k)
unfolding dims_from
dims_from_goes zero count k G =
    turn_goes false (dim_limit 0 count) count (λ n r. Err 0) k
    (λ d le. inl (limit_fits count d le))
    (λ d le few. G (d ∷ []) (capped count d) (omega (arith, le, limit_small 0 count), refl, few))
    (λ d le e. absurd (false≢true e))
dims_from_goes (suc room) count k G =
    turn_goes true (dim_limit (suc room) count) count (dims_from room) k
    (λ d le. inr refl)
    (λ d le few. G (d ∷ []) (capped count d) (omega (arith, le, limit_small (suc room) count), refl, few))
    (λ d le e. bind_goes (dims_from room (capped count d)) (λ ds. Ok ((d ∷ ds.0.0, ds.0.1), ds.1)) k
    (dims_from_goes room (capped count d) (λ ds. k (d ∷ ds.0, ds.1)) (λ ds n is. G (d ∷ ds) n (sound_more room count d ds n (omega (arith, le, limit_small (suc room) count)) is))))

-- a list of numbers behind its parenthesis
module _ (k : List ℕ × ℕ → Rest Code) (none_goes : Goes (k ([], 1))) (G : (ds : List ℕ) (n : ℕ) → Sound 63 1 ds n → Goes (k (ds, n))) where
  abbrev all_dims : Rest Code
  all_dims s = then_rest (dims_at s) k

  none : (c : ℕ) (z : List ℕ) → eqb c 41 ≡ true → all_dims (c ∷ z) ≡ k ([], 1) z
  unfolding dims_at
  none c z e = ap (λ (b : Bool). then_rest (cond b (Ok (([], 1), z)) (dims_from 63 1 (c ∷ z))) k) e

  some_of : (c : ℕ) (z : List ℕ) → eqb c 41 ≡ false → all_dims (c ∷ z) ≡ dims_rest 63 1 k (c ∷ z)
  unfolding dims_at
  some_of c z e = ap (λ (b : Bool). then_rest (cond b (Ok (([], 1), z)) (dims_from 63 1 (c ∷ z))) k) e

  no_close : (z : List ℕ) → dims_rest 63 1 k (41 ∷ z) ≡ Err (length z + 1)
  unfolding dims_from dims_turn number_at
  no_close z = refl

  no_empty : (v : Code) → dims_rest 63 1 k [] ≡ Ok v → ⊥
  unfolding dims_from dims_turn number_at
  no_empty v e = Ok≢Err v 0 (sym e)

  dims_up : (w : List ℕ) (v : Code) → dims_rest 63 1 k w ≡ Ok v → all_dims w ≡ Ok v
  dims_up [] v e = absurd (no_empty v e)
  dims_up (c ∷ w) v e =
      ⊎_elim
      (λ p. absurd (Ok≢Err v (length w + 1) (sym e ∙ (ap (λ (x : ℕ). dims_rest 63 1 k (x ∷ w)) p.1 ∙ no_close w))))
      (λ p. some_of c w p.0 ∙ e)
      (eqb_tells c 41)

  pub dims_goes : Goes all_dims
  unfolding dims_at
  dims_goes = record { live = l; stops = at }
    where
      l : Live all_dims
      l = let h = none_goes.live in record { text = 41 ∷ h.text; value = h.value; is = none 41 h.text refl ∙ h.is }

      at : (s : List ℕ) → StopsAt all_dims s (all_dims s)
      at [] = at_end all_dims l refl
      at (c ∷ s) =
          ⊎_elim
          (λ p. shift all_dims (k ([], 1)) c (λ z. none c z p.0) s (none_goes.stops s))
          (λ p.
          subst (StopsAt all_dims (c ∷ s)) (sym (some_of c s p.0))
          (pass all_dims (dims_rest 63 1 k) c s dims_up (λ z. some_of c z p.0) (dims_rest 63 1 k (c ∷ s)) ((dims_from_goes 63 1 k G).stops (c ∷ s))))
          (eqb_tells c 41)
