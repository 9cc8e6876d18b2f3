-- Runs of items of a list are runs of the list: the atoms of an array.
use Rattle.std.proofs.Common.{◌≡◌, refl, sym, ◌∙◌, ap, subst, ℕ, zero, suc, ◌+◌, ◌<◌, ◌≤◌, arith, List, [], ◌∷◌, length}
use Rattle.std.specs.Prelude.{⊤, slice_set, slice_index_or}
use Rattle.core_syntax.specs.declared.term.TermAtom.{TermAtom}
use Rattle.core_syntax.specs.Move.{Move, Rests, first_move}
use Rattle.core_syntax.specs.RefineTerms.{TypedCell, cell_of, cells_of}
use Rattle.core_syntax.specs.Step.{cell_step, cells_step}
use Rattle.core_syntax.specs.Terms.{Cells, no_cells, more_cells}
use Rattle.core_syntax.specs.Typed.{typed, typed_rules, TypedTerm}
use Rattle.typed_step.specs.declared.outcome.End.{End}
use Rattle.typed_step.specs.declared.outcome.End.TheVariants as end
use Rattle.typed_step.specs.Runs.{RunOf}
use Rattle.typed_step.proofs.Ways.{SoFar, stops, first_twice, more_so_far, then_run, so_far_inside, run_inside, to_value}

-- another item at a place
abbrev pub set_at : ℕ → TypedCell → Cells typed → Cells typed
set_at k u no_cells = no_cells
set_at zero u (more_cells t ts) = more_cells u ts
set_at (suc k) u (more_cells t ts) = more_cells t (set_at k u ts)

set_of : (ts : List TermAtom) (k : ℕ) (x : TermAtom) → cells_of (slice_set ts k x) ≡ set_at k (cell_of x) (cells_of ts)
set_of [] k x = refl
set_of (t ∷ ts) zero x = refl
set_of (t ∷ ts) (suc k) x = ap (more_cells (cell_of t)) (set_of ts k x)

got : (ts : List TermAtom) (k : ℕ) (d : TermAtom) → set_at k (cell_of (slice_index_or ts k d)) (cells_of ts) ≡ cells_of ts
got [] k d = refl
got (t ∷ ts) zero d = refl
got (t ∷ ts) (suc k) d = ap (more_cells (cell_of t)) (got ts k d)

pub set_length : (ts : List TermAtom) (k : ℕ) (x : TermAtom) → length (slice_set ts k x) ≡ length ts
set_length [] k x = refl
set_length (t ∷ ts) zero x = refl
set_length (t ∷ ts) (suc k) x = ap suc (set_length ts k x)

module _ (defs : List TypedTerm) where
  -- the first k items rest
  abbrev pub RestBefore : ℕ → Cells typed → Type 0
  RestBefore zero ts = ⊤
  RestBefore (suc k) no_cells = ⊤
  RestBefore (suc k) (more_cells t ts) = (cell_step typed_rules defs t ≡ Rests) × RestBefore k ts

  abbrev later_at : ℕ → Cells typed → TypedCell → Move (Cells typed)
  later_at k no_cells u = Rests
  later_at zero (more_cells t ts) u = first_move (cells_step typed_rules defs ts) (more_cells u) Rests
  later_at (suc k) (more_cells t ts) u = first_move (later_at k ts u) (more_cells t) Rests

  set_step : (ts : List TermAtom) (k : ℕ) → k < length ts → RestBefore k (cells_of ts) → (u : TypedCell)
      → cells_step typed_rules defs (set_at k u (cells_of ts)) ≡ first_move (cell_step typed_rules defs u) (λ v. set_at k v (cells_of ts)) (later_at k (cells_of ts) u)
  set_step [] k lt r u = absurd (omega (arith, lt))
  set_step (t ∷ ts) zero lt r u = refl
  set_step (t ∷ ts) (suc k) lt r u =
      ap (λ m. first_move m (λ v. more_cells v (set_at k u (cells_of ts))) (first_move (cells_step typed_rules defs (set_at k u (cells_of ts))) (more_cells (cell_of t)) Rests)) r.0
      ∙ ap (λ m. first_move m (more_cells (cell_of t)) Rests) (set_step ts k (omega (arith, lt)) r.1 u)
      ∙ first_twice (cell_step typed_rules defs u) (λ v. set_at k v (cells_of ts)) (later_at k (cells_of ts) u) (more_cells (cell_of t)) Rests

  -- all items rest
  pub all_rest : (ts : List TermAtom) (k : ℕ) → length ts ≤ k → RestBefore k (cells_of ts) → cells_step typed_rules defs (cells_of ts) ≡ Rests
  all_rest [] k le r = refl
  all_rest (t ∷ ts) zero le r = absurd (omega (arith, le))
  all_rest (t ∷ ts) (suc k) le r =
      ap (λ m. first_move m (λ v. more_cells v (cells_of ts)) (first_move (cells_step typed_rules defs (cells_of ts)) (more_cells (cell_of t)) Rests)) r.0
      ∙ ap (λ m. first_move m (more_cells (cell_of t)) Rests) (all_rest ts k (omega (arith, le)) r.1)

  rest_set : (ts : List TermAtom) (k : ℕ) (x : TermAtom) → k < length ts → RestBefore k (cells_of ts) → cell_step typed_rules defs (cell_of x) ≡ Rests → RestBefore (suc k) (cells_of (slice_set ts k x))
  rest_set [] k x lt r e = tt
  rest_set (t ∷ ts) zero x lt r e = (e, tt)
  rest_set (t ∷ ts) (suc k) x lt r e = (r.0, rest_set ts k x (omega (arith, lt)) r.1 e)

  -- the item at a place has been run to a value
  pub one_rests : (budget left less : ℕ) (first : Cells typed) (ts : List TermAtom) (k : ℕ) (t x : TermAtom) (e : End)
      → SoFar (cells_step typed_rules defs) budget first left (cells_of ts) → RestBefore k (cells_of ts) → k < length ts → t ≡ slice_index_or ts k t
      → RunOf (cell_step typed_rules defs) left (cell_of t) e less (cell_of x) → e ≡ end.Value
      → SoFar (cells_step typed_rules defs) budget first less (cells_of (slice_set ts k x)) × RestBefore (k + 1) (cells_of (slice_set ts k x))
  one_rests budget left less first ts k t x e s r lt at run is = (
    more_so_far (cells_step typed_rules defs) budget left less first (cells_of ts) (cells_of (slice_set ts k x)) s
        (subst (λ a. SoFar (cells_step typed_rules defs) left a less (cells_of (slice_set ts k x))) (ap (λ y. set_at k (cell_of y) (cells_of ts)) at ∙ got ts k t)
        (subst (λ b. SoFar (cells_step typed_rules defs) left (set_at k (cell_of t) (cells_of ts)) less b) (sym (set_of ts k x))
        (so_far_inside (cell_step typed_rules defs) (cells_step typed_rules defs) (λ v. set_at k v (cells_of ts)) (later_at k (cells_of ts)) (set_step ts k lt r) left less (cell_of t) (cell_of x)
        (to_value (cell_step typed_rules defs) left less (cell_of t) (cell_of x) (subst (λ y. RunOf (cell_step typed_rules defs) left (cell_of t) y less (cell_of x)) is run))))),
    (let next : suc k ≡ k + 1 = omega arith in subst (λ n. RestBefore n (cells_of (slice_set ts k x))) next (rest_set ts k x lt r (subst (λ y. RunOf (cell_step typed_rules defs) left (cell_of t) y less (cell_of x)) is run).ends.1)),
  )

  -- or its run stops
  pub one_stops : (budget left less : ℕ) (first : Cells typed) (ts : List TermAtom) (k : ℕ) (t x : TermAtom) (e : End)
      → SoFar (cells_step typed_rules defs) budget first left (cells_of ts) → RestBefore k (cells_of ts) → k < length ts → t ≡ slice_index_or ts k t → (e ≡ end.Value → ⊥)
      → RunOf (cell_step typed_rules defs) left (cell_of t) e less (cell_of x)
      → RunOf (cells_step typed_rules defs) budget first e less (cells_of (slice_set ts k x))
  one_stops budget left less first ts k t x e s r lt same not run =
      then_run (cells_step typed_rules defs) budget left less first (cells_of ts) (cells_of (slice_set ts k x)) e s
      (subst (λ a. RunOf (cells_step typed_rules defs) left a e less (cells_of (slice_set ts k x))) (ap (λ y. set_at k (cell_of y) (cells_of ts)) same ∙ got ts k t)
      (subst (λ b. RunOf (cells_step typed_rules defs) left (set_at k (cell_of t) (cells_of ts)) e less b) (sym (set_of ts k x))
      (run_inside (cell_step typed_rules defs) (cells_step typed_rules defs) (λ v. set_at k v (cells_of ts)) (later_at k (cells_of ts)) (set_step ts k lt r) left less (cell_of t) (cell_of x) e (stops e not) run)))

  -- all have been run
  pub all_done : (budget left : ℕ) (first : Cells typed) (ts : List TermAtom) (k : ℕ) → SoFar (cells_step typed_rules defs) budget first left (cells_of ts) → RestBefore k (cells_of ts) → length ts ≤ k
      → RunOf (cells_step typed_rules defs) budget first end.Value left (cells_of ts)
  all_done budget left first ts k s r le = record { count = s.0; moved = s.1; ends = (s.2, all_rest ts k le r) }
