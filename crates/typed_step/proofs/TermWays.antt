-- Runs of items of a list are runs of the list: the terms of a list.
use Rattle.std.proofs.Common.{◌≡◌, refl, sym, ◌∙◌, ap, subst, ℕ, zero, suc, ◌+◌, ◌<◌, ◌≤◌, arith, List, [], ◌∷◌, length}
use Rattle.std.specs.Prelude.{⊤, slice_set, slice_index_or}
use Rattle.core_syntax.specs.declared.term.TermExpr.{TermExpr}
use Rattle.core_syntax.specs.Move.{Move, Rests, first_move}
use Rattle.core_syntax.specs.RefineTerms.{term_of, terms_of}
use Rattle.core_syntax.specs.Step.{step, terms_step}
use Rattle.core_syntax.specs.Terms.{Terms, no_terms, more_terms}
use Rattle.core_syntax.specs.Typed.{typed, typed_rules, TypedTerm}
use Rattle.typed_step.specs.declared.outcome.End.{End}
use Rattle.typed_step.specs.declared.outcome.End.TheVariants as end
use Rattle.typed_step.specs.Runs.{RunOf}
use Rattle.typed_step.proofs.Ways.{SoFar, stops, first_twice, more_so_far, then_run, so_far_inside, run_inside, to_value}

-- another item at a place
abbrev pub set_at : ℕ → TypedTerm → Terms typed → Terms typed
set_at k u no_terms = no_terms
set_at zero u (more_terms t ts) = more_terms u ts
set_at (suc k) u (more_terms t ts) = more_terms t (set_at k u ts)

set_of : (ts : List TermExpr) (k : ℕ) (x : TermExpr) → terms_of (slice_set ts k x) ≡ set_at k (term_of x) (terms_of ts)
set_of [] k x = refl
set_of (t ∷ ts) zero x = refl
set_of (t ∷ ts) (suc k) x = ap (more_terms (term_of t)) (set_of ts k x)

got : (ts : List TermExpr) (k : ℕ) (d : TermExpr) → set_at k (term_of (slice_index_or ts k d)) (terms_of ts) ≡ terms_of ts
got [] k d = refl
got (t ∷ ts) zero d = refl
got (t ∷ ts) (suc k) d = ap (more_terms (term_of t)) (got ts k d)

pub set_length : (ts : List TermExpr) (k : ℕ) (x : TermExpr) → length (slice_set ts k x) ≡ length ts
set_length [] k x = refl
set_length (t ∷ ts) zero x = refl
set_length (t ∷ ts) (suc k) x = ap suc (set_length ts k x)

module _ (defs : List TypedTerm) where
  -- the first k items rest
  abbrev pub RestBefore : ℕ → Terms typed → Type 0
  RestBefore zero ts = ⊤
  RestBefore (suc k) no_terms = ⊤
  RestBefore (suc k) (more_terms t ts) = (step typed_rules defs t ≡ Rests) × RestBefore k ts

  abbrev later_at : ℕ → Terms typed → TypedTerm → Move (Terms typed)
  later_at k no_terms u = Rests
  later_at zero (more_terms t ts) u = first_move (terms_step typed_rules defs ts) (more_terms u) Rests
  later_at (suc k) (more_terms t ts) u = first_move (later_at k ts u) (more_terms t) Rests

  set_step : (ts : List TermExpr) (k : ℕ) → k < length ts → RestBefore k (terms_of ts) → (u : TypedTerm)
      → terms_step typed_rules defs (set_at k u (terms_of ts)) ≡ first_move (step typed_rules defs u) (λ v. set_at k v (terms_of ts)) (later_at k (terms_of ts) u)
  set_step [] k lt r u = absurd (omega (arith, lt))
  set_step (t ∷ ts) zero lt r u = refl
  set_step (t ∷ ts) (suc k) lt r u =
      ap (λ m. first_move m (λ v. more_terms v (set_at k u (terms_of ts))) (first_move (terms_step typed_rules defs (set_at k u (terms_of ts))) (more_terms (term_of t)) Rests)) r.0
      ∙ ap (λ m. first_move m (more_terms (term_of t)) Rests) (set_step ts k (omega (arith, lt)) r.1 u)
      ∙ first_twice (step typed_rules defs u) (λ v. set_at k v (terms_of ts)) (later_at k (terms_of ts) u) (more_terms (term_of t)) Rests

  -- all items rest
  pub all_rest : (ts : List TermExpr) (k : ℕ) → length ts ≤ k → RestBefore k (terms_of ts) → terms_step typed_rules defs (terms_of ts) ≡ Rests
  all_rest [] k le r = refl
  all_rest (t ∷ ts) zero le r = absurd (omega (arith, le))
  all_rest (t ∷ ts) (suc k) le r =
      ap (λ m. first_move m (λ v. more_terms v (terms_of ts)) (first_move (terms_step typed_rules defs (terms_of ts)) (more_terms (term_of t)) Rests)) r.0
      ∙ ap (λ m. first_move m (more_terms (term_of t)) Rests) (all_rest ts k (omega (arith, le)) r.1)

  rest_set : (ts : List TermExpr) (k : ℕ) (x : TermExpr) → k < length ts → RestBefore k (terms_of ts) → step typed_rules defs (term_of x) ≡ Rests → RestBefore (suc k) (terms_of (slice_set ts k x))
  rest_set [] k x lt r e = tt
  rest_set (t ∷ ts) zero x lt r e = (e, tt)
  rest_set (t ∷ ts) (suc k) x lt r e = (r.0, rest_set ts k x (omega (arith, lt)) r.1 e)

  -- the item at a place has been run to a value
  pub one_rests : (budget left less : ℕ) (first : Terms typed) (ts : List TermExpr) (k : ℕ) (t x : TermExpr) (e : End)
      → SoFar (terms_step typed_rules defs) budget first left (terms_of ts) → RestBefore k (terms_of ts) → k < length ts → t ≡ slice_index_or ts k t
      → RunOf (step typed_rules defs) left (term_of t) e less (term_of x) → e ≡ end.Value
      → SoFar (terms_step typed_rules defs) budget first less (terms_of (slice_set ts k x)) × RestBefore (k + 1) (terms_of (slice_set ts k x))
  one_rests budget left less first ts k t x e s r lt at run is = (
    more_so_far (terms_step typed_rules defs) budget left less first (terms_of ts) (terms_of (slice_set ts k x)) s
        (subst (λ a. SoFar (terms_step typed_rules defs) left a less (terms_of (slice_set ts k x))) (ap (λ y. set_at k (term_of y) (terms_of ts)) at ∙ got ts k t)
        (subst (λ b. SoFar (terms_step typed_rules defs) left (set_at k (term_of t) (terms_of ts)) less b) (sym (set_of ts k x))
        (so_far_inside (step typed_rules defs) (terms_step typed_rules defs) (λ v. set_at k v (terms_of ts)) (later_at k (terms_of ts)) (set_step ts k lt r) left less (term_of t) (term_of x)
        (to_value (step typed_rules defs) left less (term_of t) (term_of x) (subst (λ y. RunOf (step typed_rules defs) left (term_of t) y less (term_of x)) is run))))),
    (let next : suc k ≡ k + 1 = omega arith in subst (λ n. RestBefore n (terms_of (slice_set ts k x))) next (rest_set ts k x lt r (subst (λ y. RunOf (step typed_rules defs) left (term_of t) y less (term_of x)) is run).ends.1)),
  )

  -- or its run stops
  pub one_stops : (budget left less : ℕ) (first : Terms typed) (ts : List TermExpr) (k : ℕ) (t x : TermExpr) (e : End)
      → SoFar (terms_step typed_rules defs) budget first left (terms_of ts) → RestBefore k (terms_of ts) → k < length ts → t ≡ slice_index_or ts k t → (e ≡ end.Value → ⊥)
      → RunOf (step typed_rules defs) left (term_of t) e less (term_of x)
      → RunOf (terms_step typed_rules defs) budget first e less (terms_of (slice_set ts k x))
  one_stops budget left less first ts k t x e s r lt same not run =
      then_run (terms_step typed_rules defs) budget left less first (terms_of ts) (terms_of (slice_set ts k x)) e s
      (subst (λ a. RunOf (terms_step typed_rules defs) left a e less (terms_of (slice_set ts k x))) (ap (λ y. set_at k (term_of y) (terms_of ts)) same ∙ got ts k t)
      (subst (λ b. RunOf (terms_step typed_rules defs) left (set_at k (term_of t) (terms_of ts)) e less b) (sym (set_of ts k x))
      (run_inside (step typed_rules defs) (terms_step typed_rules defs) (λ v. set_at k v (terms_of ts)) (later_at k (terms_of ts)) (set_step ts k lt r) left less (term_of t) (term_of x) e (stops e not) run)))

  -- all have been run
  pub all_done : (budget left : ℕ) (first : Terms typed) (ts : List TermExpr) (k : ℕ) → SoFar (terms_step typed_rules defs) budget first left (terms_of ts) → RestBefore k (terms_of ts) → length ts ≤ k
      → RunOf (terms_step typed_rules defs) budget first end.Value left (terms_of ts)
  all_done budget left first ts k s r le = record { count = s.0; moved = s.1; ends = (s.2, all_rest ts k le r) }
