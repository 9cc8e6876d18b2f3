-- Runs of the parts of each form.
use Rattle.std.proofs.Common.{◌≡◌, refl, sym, ◌∙◌, ap, subst, ℕ, arith, Bool, true, false, List, ◌++◌}
use Rattle.core_syntax.specs.declared.errors.TrapKind.TheVariants as trap
use Rattle.core_syntax.specs.declared.index.Sort.{Sort}
use Rattle.core_syntax.specs.Fits.{forms, all_fit}
use Rattle.core_syntax.specs.Lists.{each}
use Rattle.core_syntax.specs.Move.{Move, Rests, Trapped, Goes, first_move}
use Rattle.core_syntax.specs.Rules.{dims_of, collapse, box_rests}
use Rattle.core_syntax.specs.Step.{step, terms_step, cell_step, cells_step}
use Rattle.core_syntax.specs.Syntax.{Index, Ty}
use Rattle.core_syntax.specs.Terms.{TArray, TFrame, TApp, TTypeApp, TIndexApp, TUnbox, Terms, no_terms, more_terms, TBoxed, Cells, term_items}
use Rattle.core_syntax.specs.Typed.{typed, typed_rules, closed_value, TypedTerm}
use Rattle.typed_step.specs.declared.outcome.End.{End}
use Rattle.typed_step.specs.declared.outcome.End.TheVariants as end
use Rattle.typed_step.specs.Outcomes.{fires, trapped}
use Rattle.typed_step.specs.Runs.{EndsHere, TermRun, TermsRun, frame_step, FrameRun, CellsRun, BoxRun, PartsRun, ApplicationRun}
use Rattle.typed_step.proofs.Ways.{Stops, trapped_here, first_twice, here, to_value, so_far_inside, run_inside, next_inside, stops_around, last_part, then_parts}

module _ (defs : List TypedTerm) (budget left : ℕ) (e : End) where
  pub array_run : (dims : List ℕ) (xs ys : Cells typed) → CellsRun defs budget xs e left ys → PartsRun defs budget (TArray dims xs) e left (TArray dims ys)
  array_run dims xs ys = last_part defs (cells_step typed_rules defs) (TArray dims) (λ x. refl) budget left xs ys e

  pub type_app_run : (us : List Ty) (r : Ty) (t u : TypedTerm) → TermRun defs budget t e left u → PartsRun defs budget (TTypeApp t us r) e left (TTypeApp u us r)
  type_app_run us r t u = last_part defs (step typed_rules defs) (λ x. TTypeApp x us r) (λ x. refl) budget left t u e

  pub index_app_run : (is : List Index) (r : Ty) (t u : TypedTerm) → TermRun defs budget t e left u → PartsRun defs budget (TIndexApp t is r) e left (TIndexApp u is r)
  index_app_run is r t u = last_part defs (step typed_rules defs) (λ x. TIndexApp x is r) (λ x. refl) budget left t u e

  pub unbox_run : (ss : List Sort) (b : TypedTerm) (r : Ty) (t u : TypedTerm) → TermRun defs budget t e left u → PartsRun defs budget (TUnbox ss t b r) e left (TUnbox ss u b r)
  unbox_run ss b r t u = last_part defs (step typed_rules defs) (λ x. TUnbox ss x b r) (λ x. refl) budget left t u e

  -- the cells of a frame
  frame_same : (dims : List ℕ) (n : Ty) (ts : Terms typed) → step typed_rules defs (TFrame dims ts n) ≡ first_move (frame_step defs dims ts) (λ us. TFrame dims us n) (fires defs (TFrame dims ts n))
  frame_same dims n no_terms = refl
  frame_same dims n (more_terms t ts) =
      ap (first_move (step typed_rules defs t) (λ u. TFrame dims (more_terms u ts) n)) (by (forms (dims ++ dims_of typed_rules t)))
      ∙ sym (first_twice (step typed_rules defs t) (λ u. more_terms u ts) (cells (forms (dims ++ dims_of typed_rules t))) (λ us. TFrame dims us n) last)
    where
      last : Move TypedTerm
      last = Goes (collapse typed_rules dims t (term_items ts) n)

      cells : Bool → Move (Terms typed)
      cells true = first_move (terms_step typed_rules defs ts) (more_terms t) Rests
      cells false = Trapped trap.Size

      whole : Bool → Move TypedTerm
      whole true = first_move (terms_step typed_rules defs ts) (λ us. TFrame dims (more_terms t us) n) last
      whole false = Trapped trap.Size

      by : (b : Bool) → whole b ≡ first_move (cells b) (λ us. TFrame dims us n) last
      by true = sym (first_twice (terms_step typed_rules defs ts) (more_terms t) Rests (λ us. TFrame dims us n) last)
      by false = refl

  pub frame_run : (dims : List ℕ) (n : Ty) (ts us : Terms typed) → FrameRun defs dims budget ts e left us → PartsRun defs budget (TFrame dims ts n) e left (TFrame dims us n)
  frame_run dims n ts us = last_part defs (frame_step defs dims) (λ x. TFrame dims x n) (frame_same dims n) budget left ts us e

  -- the function of an application stops
  pub function_stops : (f g : TypedTerm) (ts : Terms typed) → Stops e → TermRun defs budget f e left g → ApplicationRun defs budget f ts e left g ts
  function_stops f g ts s r cs n =
      stops_around defs budget left (TApp f ts cs n) (TApp g ts cs n) e s
      (run_inside (step typed_rules defs) (step typed_rules defs) (λ x. TApp x ts cs n) (λ x. first_move (terms_step typed_rules defs ts) (λ us. TApp x us cs n) (fires defs (TApp x ts cs n))) (λ x. refl) budget left f g e s r)

  -- the function rests, and the arguments are run
  pub arguments_run : (less : ℕ) (f g : TypedTerm) (ts us : Terms typed) → TermRun defs budget f end.Value less g → TermsRun defs less ts e left us → ApplicationRun defs budget f ts e left g us
  arguments_run less f g ts us r s cs n =
      then_parts defs budget less left (TApp f ts cs n) (TApp g ts cs n) (TApp g us cs n) e
      (so_far_inside (step typed_rules defs) (step typed_rules defs) (λ x. TApp x ts cs n) (λ x. first_move (terms_step typed_rules defs ts) (λ vs. TApp x vs cs n) (fires defs (TApp x ts cs n))) (λ x. refl) budget less f g
      (to_value (step typed_rules defs) budget less f g r))
      (last_part defs (terms_step typed_rules defs) (λ vs. TApp g vs cs n)
      (λ vs. ap (λ m. first_move m (λ x. TApp x vs cs n) (first_move (terms_step typed_rules defs vs) (λ ws. TApp g ws cs n) (fires defs (TApp g vs cs n)))) r.ends.1)
      less left ts us e s)

  -- the content of a box stops
  pub content_stops : (is : List Index) (t u : TypedTerm) → Stops e → TermRun defs budget t e left u → BoxRun defs is budget t e left u
  content_stops is t u s r b =
      run_inside (step typed_rules defs) (cell_step typed_rules defs) (λ x. TBoxed is x b) (λ x. box_rests typed_rules is) (λ x. refl) budget left t u e s r

  -- the content rests, and the indices are looked at
  pub content_rests : (is : List Index) (less : ℕ) (t u : TypedTerm) → TermRun defs budget t end.Value less u → EndsHere (box_rests typed_rules is) 0 less e left → BoxRun defs is budget t e left u
  content_rests is less t u r h b =
      here (cell_step typed_rules defs) budget less (TBoxed is t b) (TBoxed is u b) e left
      (so_far_inside (step typed_rules defs) (cell_step typed_rules defs) (λ x. TBoxed is x b) (λ x. box_rests typed_rules is) (λ x. refl) budget less t u (to_value (step typed_rules defs) budget less t u r))
      (subst (λ m. EndsHere m 0 less e left) (sym (next_inside (step typed_rules defs) (cell_step typed_rules defs) (λ x. TBoxed is x b) (λ x. box_rests typed_rules is) (λ x. refl) u r.ends.1)) h)

-- the content of a box rests, and it is known whether its indices fit
module _ (defs : List TypedTerm) (budget less : ℕ) (is : List Index) (t u : TypedTerm) (e : End) (b : Bool) (r : TermRun defs budget t e less u) (at : e ≡ end.Value) (fits : b ≡ all_fit (each closed_value is)) where
  box_next : (c : Bool) → b ≡ c → box_rests typed_rules is ≡ elim c [ true ↦ Rests | false ↦ Trapped trap.Size ]
  box_next c so = ap (λ (x : Bool). elim x [ true ↦ Rests | false ↦ Trapped trap.Size ]) (sym fits ∙ so)

  content : TermRun defs budget t end.Value less u
  content = subst (λ x. TermRun defs budget t x less u) at r

  pub box_fits : b ≡ true → BoxRun defs is budget t end.Value less u
  box_fits so = content_rests defs budget less end.Value is less t u content (omega arith, box_next true so)

  pub box_too_large : (left : ℕ) (f : End) → b ≡ false → EndsHere (trapped trap.Size) 0 less f left → BoxRun defs is budget t f left u
  box_too_large left f so h = content_rests defs budget left f is less t u content (trapped_here trap.Size (box_rests typed_rules is) less left f (box_next false so) h)
