-- Reading numbers one after another, as a loop does.
use Rattle.std.proofs.Common.{◌≡◌, ℕ, suc, ◌-◌, ◌+◌, ◌≤◌, ◌<◌, Bool, true, false, List, [], ◌∷◌, ◌++◌, Ok, Err, refl, sym, ap, subst, ◌∙◌, append_assoc, arith, nat_lt, ⊎_elim}
use Rattle.std.proofs.lemmas.Bool.{lt-ltb, cases_lt}
use Rattle.code_text.specs.declared.reading.TextError.{TextError}
use Rattle.code_text.specs.Gives.{Fails}
use Rattle.code_text.specs.Reading.{Read, ◌>>=◌, number_at}
use Rattle.code_text.specs.DimsReading.{after_dim, dim_limit, capped, dims_turn, dims_from, with_dims}
use Rattle.code_text.proofs.goes.Words.{Fails-bind}

abbrev pub Next : Type 0
Next = ℕ → List ℕ → Read (List ℕ × ℕ)

with_dims-fails : (e : TextError) (front : List ℕ) (r : Read (List ℕ × ℕ)) → Fails e r → Fails e (with_dims front r)
with_dims-fails e front r h = Fails-bind e r _ h

pub number_fails : (e : TextError) (room : Bool) (limit count : ℕ) (next : Next) (s : List ℕ) → Fails e (number_at true limit s) → Fails e (dims_turn room limit count next s)
unfolding dims_turn
number_fails e room limit count next s h = Fails-bind e (number_at true limit s) _ h

pub end_fails : (e : TextError) (room : Bool) (limit count d : ℕ) (next : Next) (s after : List ℕ) → number_at true limit s ≡ Ok (d, after) → Fails e (after_dim room (capped count d) after) → Fails e (dims_turn room limit count next s)
unfolding dims_turn
end_fails e room limit count d next s after h k = rw h (Fails-bind e (after_dim room (capped count d) after) _ k)

pub turn_last : (room : Bool) (limit count d : ℕ) (next : Next) (s after rest : List ℕ) → number_at true limit s ≡ Ok (d, after) → after_dim room (capped count d) after ≡ Ok (false, rest) → dims_turn room limit count next s ≡ Ok ((d ∷ [], capped count d), rest)
unfolding dims_turn
turn_last room limit count d next s after rest h k = rw (h, k) refl

pub turn_more : (room : Bool) (limit count d : ℕ) (next : Next) (s after rest : List ℕ) → number_at true limit s ≡ Ok (d, after) → after_dim room (capped count d) after ≡ Ok (true, rest) → dims_turn room limit count next s ≡ (next (capped count d) rest >>= λ ds. Ok ((d ∷ ds.0.0, ds.0.1), ds.1))
unfolding dims_turn
turn_more room limit count d next s after rest h k = rw (h, k) refl

-- the turn with the number i
pub record Turn (i count : ℕ) (s : List ℕ) : Type 0 where
  pub next : Next
  pub is : dims_from (63 - i) count s ≡ dims_turn (nat_lt i 63) (dim_limit (63 - i) count) count next s
  pub later : i < 63 → next ≡ dims_from (63 - (i + 1))

pub turn : (i count : ℕ) (s : List ℕ) → i < 64 → Turn i count s
unfolding dims_from
turn i count s lt = ⊎_elim before last (cases_lt i 63)
  where
    before : i < 63 → Turn i count s
    before below =
        let room : 63 - i ≡ suc (63 - (i + 1)) = omega arith in
        record {
          next = dims_from (63 - (i + 1));
          is = rw (room, lt-ltb i 63 below) refl;
          later = λ h. refl;
        }

    last : 63 ≤ i → Turn i count s
    last le =
        let same : i ≡ 63 = omega arith in
        record {
          next = λ n r. Err 0;
          is = subst (λ (n : ℕ). dims_from (63 - n) count s ≡ dims_turn (nat_lt n 63) (dim_limit (63 - n) count) count (λ n r. Err 0) s) (sym same) refl;
          later = λ h. absurd (omega arith);
        }

regroup : (front : List ℕ) (d : ℕ) (read : Read (List ℕ × ℕ)) → with_dims front (read >>= λ ds. Ok ((d ∷ ds.0.0, ds.0.1), ds.1)) ≡ with_dims (front ++ d ∷ []) read
regroup front d (Ok x) = ap (λ (ns : List ℕ). Ok ((ns, x.0.1), x.1)) (simp append_assoc)
regroup front d (Err n) = refl

module _ (front : List ℕ) (i count : ℕ) (s : List ℕ) (total : Read (List ℕ × ℕ)) (lt : i < 64) (so_far : with_dims front (dims_from (63 - i) count s) ≡ total) where
  pub loop_number_fails : (e : TextError) → Fails e (number_at true (dim_limit (63 - i) count) s) → Fails e total
  loop_number_fails e h =
      let t = turn i count s lt in
      subst (Fails e) so_far (with_dims-fails e front _ (subst (Fails e) (sym t.is) (number_fails e _ _ count t.next s h)))

  pub loop_end_fails : (e : TextError) (d : ℕ) (after : List ℕ) → number_at true (dim_limit (63 - i) count) s ≡ Ok (d, after) → Fails e (after_dim (nat_lt i 63) (capped count d) after) → Fails e total
  loop_end_fails e d after h k =
      let t = turn i count s lt in
      subst (Fails e) so_far (with_dims-fails e front _ (subst (Fails e) (sym t.is) (end_fails e _ _ count d t.next s after h k)))

  pub loop_last : (d : ℕ) (after rest : List ℕ) → number_at true (dim_limit (63 - i) count) s ≡ Ok (d, after) → after_dim (nat_lt i 63) (capped count d) after ≡ Ok (false, rest) → total ≡ Ok ((front ++ d ∷ [], capped count d), rest)
  loop_last d after rest h k =
      let t = turn i count s lt in
      sym so_far ∙ ap (with_dims front) (t.is ∙ turn_last _ _ count d t.next s after rest h k)

  pub loop_more : (d : ℕ) (after rest : List ℕ) → i < 63 → number_at true (dim_limit (63 - i) count) s ≡ Ok (d, after) → after_dim (nat_lt i 63) (capped count d) after ≡ Ok (true, rest) → with_dims (front ++ d ∷ []) (dims_from (63 - (i + 1)) (capped count d) rest) ≡ total
  loop_more d after rest below h k =
      let t = turn i count s lt in
      let step = t.is ∙ turn_more _ _ count d t.next s after rest h k ∙ ap (λ (n : Next). n (capped count d) rest >>= λ ds. Ok ((d ∷ ds.0.0, ds.0.1), ds.1)) (t.later below) in
      sym (regroup front d (dims_from (63 - (i + 1)) (capped count d) rest)) ∙ ap (with_dims front) (sym step) ∙ so_far
