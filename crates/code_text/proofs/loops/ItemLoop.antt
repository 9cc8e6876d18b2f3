-- Reading the items of a list one after another, as a loop does.
use Rattle.std.proofs.Common.{◌≡◌, ℕ, suc, ◌-◌, ◌+◌, ◌≤◌, ◌<◌, Bool, true, false, List, [], ◌∷◌, ◌++◌, Ok, refl, sym, ap, subst, ◌∙◌, arith}
use Rattle.std.proofs.lemmas.List.{append-nil}
use Rattle.code_text.specs.declared.reading.TextError.{TextError}
use Rattle.code_text.specs.Gives.{Fails}
use Rattle.code_text.specs.Reading.{Read, ◌>>=◌, Reader, end_at, items_from, byte_at, with_front}
use Rattle.code_text.proofs.goes.Words.{Fails-bind}
use Rattle.code_text.proofs.loops.Loop.{regroup}

module _ {S A : Type 0} (close : ℕ) (room : S → Bool) (item : S → Reader A) (next : S → A → S) (front : List A) (state : S) (most i n : ℕ) (s : List ℕ) (total : Read (List A)) (so_far : with_front front (items_from close room item next state (most - i) n s) ≡ total) where
  one_more : i < most → most - i ≡ suc (most - (i + 1))
  one_more lt = omega arith

  pub end_fails : (e : TextError) → i < most → Fails e (end_at close (room state) s) → Fails e total
  unfolding items_from
  end_fails e lt h =
      let k = one_more lt in
      subst (Fails e) so_far (Fails-bind e (items_from close room item next state (most - i) n s) _ (rw k (Fails-bind e (end_at close (room state) s) _ h)))

  pub item_fails : (e : TextError) (after : List ℕ) → i < most → end_at close (room state) s ≡ Ok (true, after) → Fails e (item state n after) → Fails e total
  unfolding items_from
  item_fails e after lt h f =
      let k = one_more lt in
      subst (Fails e) so_far (Fails-bind e (items_from close room item next state (most - i) n s) _ (rw (k, h) (Fails-bind e (item state n after) _ f)))

  pub ends_here : (after : List ℕ) → i < most → end_at close (room state) s ≡ Ok (false, after) → total ≡ Ok (front, after)
  unfolding items_from
  ends_here after lt h =
      let k = one_more lt in
      let e : with_front front (items_from close room item next state (most - i) n s) ≡ Ok (front, after) = rw (k, h) (ap (λ (ns : List A). Ok (ns, after)) (append-nil front)) in
      sym so_far ∙ e

  pub item_more : (x : A) (after rest : List ℕ) → i < most → end_at close (room state) s ≡ Ok (true, after) → item state n after ≡ Ok (x, rest) → with_front (front ++ x ∷ []) (items_from close room item next (next state x) (most - (i + 1)) n rest) ≡ total
  unfolding items_from
  item_more x after rest lt h f =
      let k = one_more lt in
      let e : with_front front (items_from close room item next state (most - i) n s) ≡ with_front (front ++ x ∷ []) (items_from close room item next (next state x) (most - (i + 1)) n rest) = rw (k, h, f) (regroup front x (items_from close room item next (next state x) (most - (i + 1)) n rest)) in
      sym e ∙ so_far

  pub last_fails : (e : TextError) → most ≤ i → Fails e (byte_at close s) → Fails e total
  unfolding items_from
  last_fails e le h =
      let k : most - i ≡ 0 = omega arith in
      subst (Fails e) so_far (Fails-bind e (items_from close room item next state (most - i) n s) _ (rw k (Fails-bind e (byte_at close s) _ h)))

  pub last_ends : (after : List ℕ) → most ≤ i → byte_at close s ≡ Ok (tt, after) → total ≡ Ok (front, after)
  unfolding items_from
  last_ends after le h =
      let k : most - i ≡ 0 = omega arith in
      let zero_left : items_from close room item next state 0 n s ≡ (byte_at close s >>= λ x. Ok ([], x.1)) = refl in
      sym so_far
      ∙ ap (λ (m : ℕ). with_front front (items_from close room item next state m n s)) k
      ∙ ap (with_front front) (zero_left ∙ ap (λ (r : Read (Unit {0})). r >>= λ x. Ok ([], x.1)) h)
      ∙ ap (λ (ns : List A). Ok (ns, after)) (append-nil front)
