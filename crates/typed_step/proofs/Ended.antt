-- What the ends of runs of closed terms say of their steps.
use Rattle.std.proofs.Common.{◌≡◌, sym, ◌∙◌, ap, subst, ℕ, zero, suc, ◌≤◌, arith, List, Some, Result, Ok, Err, IfOk}
use Rattle.core_syntax.specs.declared.errors.Memory.{Memory}
use Rattle.core_syntax.specs.declared.errors.TrapKind.{TrapKind}
use Rattle.core_syntax.specs.declared.term.TermExpr.{TermExpr}
use Rattle.core_syntax.specs.Lists.{each}
use Rattle.core_syntax.specs.Move.{Goes}
use Rattle.core_syntax.specs.RefineTerms.{term_of}
use Rattle.core_syntax.specs.Step.{step, after, ReachesValue}
use Rattle.core_syntax.specs.Typed.{typed_rules, TypedTerm}
use Rattle.typed_step.specs.declared.closed.Next.{Next}
use Rattle.typed_step.specs.declared.closed.Next.TheVariants as next
use Rattle.typed_step.specs.declared.outcome.End.{End}
use Rattle.typed_step.specs.declared.outcome.End.TheVariants as end
use Rattle.typed_step.specs.Closing.{IsClosed}
use Rattle.typed_step.specs.Runs.{TermRun}
use Rattle.typed_step.specs.Steps.{Stepped, Reduced, IsEnd, Looked, CameTo, Came}
use Rattle.typed_step.proofs.Reduced.{run_closed, run_not_lost, value_reached, trap_reached, still_goes, is_value, to_a_value, to_the_next, to_a_trap}

module _ (D : List TypedTerm) (t : TypedTerm) (ds : List TermExpr) (u : TermExpr) (k left : ℕ) (same : each term_of ds ≡ D) where
  pub is_end : (ran : Result End Memory) → IfOk ran (λ e. TermRun D k t e left (term_of u)) → ∥ IsClosed D t ∥₁ → IfOk ran (λ e. IsEnd (each term_of ds) (term_of u) e)
  is_end (Ok e) r c = (subst (λ x. ∥ IsClosed x (term_of u) ∥₁) (sym same) (run_closed D t (term_of u) k left e c r), run_not_lost D t (term_of u) k left e c r)
  is_end (Err m) r c = tt

  reduced_at : (n : Next) (e : End) → TermRun D k t e left (term_of u) → CameTo e ds u n → Reduced D t k n
  reduced_at (next.Value c) e r h = (
    ap (each term_of) h.1 ∙ same,
    subst (λ x. (j : ℕ) × (j ≤ k) × ReachesValue typed_rules D j t (term_of x)) (sym h.2) (value_reached D t (term_of u) k left (subst (λ x. TermRun D k t x left (term_of u)) h.0 r)),
  )
  reduced_at (next.Trap kind) e r h = trap_reached D t (term_of u) k left kind (subst (λ x. TermRun D k t x left (term_of u)) h r)
  reduced_at (next.Goes c) e r h =
      let s = still_goes D t (term_of u) k left (subst (λ x. TermRun D k t x left (term_of u)) h.0 r) in
      (ap (each term_of) h.1 ∙ same, subst (λ x. after typed_rules D k t ≡ Some (term_of x)) (sym h.2) s.0, s.1)

  pub reduced : (ran : Result End Memory) (result : Result Next Memory) → IfOk ran (λ e. TermRun D k t e left (term_of u)) → IfOk result (λ n. Came ran ds u n) → IfOk result (λ n. Reduced D t k n)
  reduced ran (Ok n) r h = reduced_at n h.0 (subst (λ x. IfOk x (λ e. TermRun D k t e left (term_of u))) h.1 r) h.2
  reduced ran (Err m) r h = tt

module _ (D : List TypedTerm) (t : TypedTerm) (ds : List TermExpr) (u : TermExpr) (same : each term_of ds ≡ D) where
  pub still_ends : (left : ℕ) (ran seen : Result End Memory) → IfOk ran (λ e. TermRun D 1 t e left (term_of u)) → Looked ran left seen → ∥ IsClosed D t ∥₁ → IfOk seen (λ e. IsEnd (each term_of ds) (term_of u) e)
  still_ends zero (Ok end.Value) seen r l c =
      subst (λ x. IfOk x (λ e. IsEnd (each term_of ds) (term_of u) e)) (sym l) (subst (λ x. ∥ IsClosed x (term_of u) ∥₁) (sym same) (run_closed D t (term_of u) 1 0 end.Value c r), λ z. cc)
  still_ends (suc n) (Ok end.Value) seen r l c = subst (λ x. IfOk x (λ e. IsEnd (each term_of ds) (term_of u) e)) (sym l) (is_end D t ds u 1 (suc n) same (Ok end.Value) r c)
  still_ends left (Ok (end.Trap k)) seen r l c = subst (λ x. IfOk x (λ e. IsEnd (each term_of ds) (term_of u) e)) (sym l) (is_end D t ds u 1 left same (Ok (end.Trap k)) r c)
  still_ends left (Ok end.Spent) seen r l c = subst (λ x. IfOk x (λ e. IsEnd (each term_of ds) (term_of u) e)) (sym l) (is_end D t ds u 1 left same (Ok end.Spent) r c)
  still_ends left (Ok end.Lost) seen r l c = subst (λ x. IfOk x (λ e. IsEnd (each term_of ds) (term_of u) e)) (sym l) (is_end D t ds u 1 left same (Ok end.Lost) r c)
  still_ends left (Err m) seen r l c = subst (λ x. IfOk x (λ e. IsEnd (each term_of ds) (term_of u) e)) (sym l) tt

  same_end : (seen : Result End Memory) (e f : End) → seen ≡ Ok e → seen ≡ Ok f → e ≡ f
  same_end seen e f p q = let x : Ok e ≡ Ok f = sym p ∙ q in cc

  to_next : (left : ℕ) (n : Next) (e : End) → step typed_rules D t ≡ Goes (term_of u) → CameTo e ds u n → e ≡ end.Spent → Stepped D t n
  to_next left (next.Value c) e g h is = absurd (let x : end.Value ≡ end.Spent = sym h.0 ∙ is in cc)
  to_next left (next.Trap k) e g h is = absurd (let x : end.Trap k ≡ end.Spent = sym h ∙ is in cc)
  to_next left (next.Goes c) e g h is = (ap (each term_of) h.1 ∙ same, g ∙ ap (λ x. Goes (term_of x)) (sym h.2))

  at_value : (left : ℕ) (n : Next) (e : End) → TermRun D 1 t end.Value (suc left) (term_of u) → CameTo e ds u n → e ≡ end.Value → Stepped D t n
  at_value left (next.Value c) e r h is =
      let one : suc left ≡ 1 = (let x = r.ends.0 in omega (arith, x)) in let v = is_value D t (term_of u) (suc left) r one in
      ((ap (each term_of) h.1 ∙ same, ap term_of h.2 ∙ v.0), v.1)
  at_value left (next.Trap k) e r h is = absurd (let x : end.Trap k ≡ end.Value = sym h ∙ is in cc)
  at_value left (next.Goes c) e r h is = absurd (let x : end.Spent ≡ end.Value = sym h.0 ∙ is in cc)

  at_trap : (left : ℕ) (n : Next) (e : End) (k : TrapKind) → TermRun D 1 t (end.Trap k) left (term_of u) → CameTo e ds u n → e ≡ end.Trap k → Stepped D t n
  at_trap left (next.Value c) e k r h is = absurd (let x : end.Value ≡ end.Trap k = sym h.0 ∙ is in cc)
  at_trap left (next.Trap j) e k r h is = to_a_trap D t (term_of u) left j (subst (λ x. TermRun D 1 t x left (term_of u)) (sym is ∙ h) r)
  at_trap left (next.Goes c) e k r h is = absurd (let x : end.Spent ≡ end.Trap k = sym h.0 ∙ is in cc)

  at_lost : (n : Next) (e : End) → CameTo e ds u n → e ≡ end.Lost → Stepped D t n
  at_lost (next.Value c) e h is = absurd (let x : end.Value ≡ end.Lost = sym h.0 ∙ is in cc)
  at_lost (next.Trap k) e h is = absurd (let x : end.Trap k ≡ end.Lost = sym h ∙ is in cc)
  at_lost (next.Goes c) e h is = absurd (let x : end.Spent ≡ end.Lost = sym h.0 ∙ is in cc)

  pub stepped : (left : ℕ) (ran seen : Result End Memory) (result : Result Next Memory) → IfOk ran (λ e. TermRun D 1 t e left (term_of u)) → Looked ran left seen → IfOk result (λ n. Came seen ds u n) → IfOk result (λ n. Stepped D t n)
  stepped left ran seen (Err m) r l h = tt
  stepped zero (Ok end.Value) seen (Ok n) r l h = to_next 0 n h.0 (to_a_value D t (term_of u) 0 r (λ z. omega (arith, z))) h.2 (same_end seen h.0 end.Spent h.1 l)
  stepped (suc k) (Ok end.Value) seen (Ok n) r l h = at_value k n h.0 r h.2 (same_end seen h.0 end.Value h.1 l)
  stepped left (Ok (end.Trap k)) seen (Ok n) r l h = at_trap left n h.0 k r h.2 (same_end seen h.0 (end.Trap k) h.1 l)
  stepped left (Ok end.Spent) seen (Ok n) r l h = to_next left n h.0 (to_the_next D t (term_of u) left r) h.2 (same_end seen h.0 end.Spent h.1 l)
  stepped left (Ok end.Lost) seen (Ok n) r l h = at_lost n h.0 h.2 (same_end seen h.0 end.Lost h.1 l)
  stepped left (Err m) seen (Ok n) r l h = absurd (let x : Err m ≡ Ok h.0 = sym l ∙ h.1 in cc)
