-- Runs of trees, by their forms.
use Rattle.std.proofs.Common.{◌≡◌, refl, sym, ◌∙◌, ap, subst, ℕ, zero, suc, ◌<◌, arith, Bool, true, false, List, [], ◌∷◌, ◌++◌, length, Some}
use Rattle.std.specs.Prelude.{slice_set, slice_index_or}
use Rattle.core_syntax.specs.declared.errors.TrapKind.TheVariants as trap
use Rattle.core_syntax.specs.declared.index.Index.{Index}
use Rattle.core_syntax.specs.declared.index.Sort.{Sort}
use Rattle.core_syntax.specs.declared.ty.Ty.{Ty}
use Rattle.core_syntax.specs.declared.term.TermExpr.{TermExpr, Var, Def, Array, NoAtoms, Frame, NoCells, App, TypeApp, IndexApp, Unbox}
use Rattle.core_syntax.specs.declared.term.TermAtom.{TermAtom, Boxed}
use Rattle.core_syntax.specs.Fits.{forms}
use Rattle.core_syntax.specs.Lists.{each}
use Rattle.core_syntax.specs.Move.{Move, Rests, Trapped, Goes, Lost, first_move, where_it_goes}
use Rattle.core_syntax.specs.Refine.{index_of, ty_of}
use Rattle.core_syntax.specs.RefineTerms.{TypedCell, term_of, terms_of, cell_of, cells_of}
use Rattle.core_syntax.specs.Rules.{dims_of}
use Rattle.core_syntax.specs.Step.{step, terms_step}
use Rattle.core_syntax.specs.Terms.{TArray, TFrame, TApp, TTypeApp, TIndexApp, TUnbox, Terms, more_terms, TBoxed}
use Rattle.core_syntax.specs.Typed.{typed, typed_rules, TypedTerm}
use Rattle.core_syntax.proofs.RowsOfTerms.{of_array, of_frame, of_app, of_type_app, of_index_app, of_unbox, of_boxed}
use Rattle.typed_step.specs.declared.outcome.End.{End}
use Rattle.typed_step.specs.declared.outcome.End.TheVariants as end
use Rattle.term_values.specs.Rooms.{FirstHasRoom}
use Rattle.typed_step.specs.Outcomes.{fires, trapped}
use Rattle.typed_step.specs.Runs.{moves, EndsHere, TermRun, TermsRun, frame_step, FrameRun, CellRun, CellsRun, BoxRun, PartsRun, ApplicationRun}
use Rattle.reduction_laws.proofs.runs.Once.{goes_to}
use Rattle.typed_step.proofs.Ways.{stops, trapped_here, here, so_far_here, so_far_inside, to_value, run_inside, next_inside, then_run, parts_rest}
use Rattle.typed_step.proofs.PartWays.{array_run, frame_run, type_app_run, index_app_run, unbox_run}

-- both ends of a run
between : {A : Type 0} (P : A → A → Type 0) (a b c d : A) → a ≡ b → c ≡ d → P b d → P a c
between P a b c d e f p = subst (λ x. P x c) (sym e) (subst (P b) (sym f) p)

module _ (defs : List TypedTerm) (budget left : ℕ) (e : End) where
  pub array_parts : (dims : List ℕ) (xs ys : List TermAtom) → CellsRun defs budget (cells_of xs) e left (cells_of ys) → PartsRun defs budget (term_of (Array dims xs)) e left (term_of (Array dims ys))
  array_parts dims xs ys r =
      between (λ a b. PartsRun defs budget a e left b) (term_of (Array dims xs)) (TArray dims (cells_of xs)) (term_of (Array dims ys)) (TArray dims (cells_of ys)) (of_array dims xs) (of_array dims ys)
      (array_run defs budget left e dims (cells_of xs) (cells_of ys) r)

  pub frame_parts : (dims : List ℕ) (ts us : List TermExpr) (n : Ty) → FrameRun defs dims budget (terms_of ts) e left (terms_of us) → PartsRun defs budget (term_of (Frame dims ts n)) e left (term_of (Frame dims us n))
  frame_parts dims ts us n r =
      between (λ a b. PartsRun defs budget a e left b) (term_of (Frame dims ts n)) (TFrame dims (terms_of ts) (ty_of n)) (term_of (Frame dims us n)) (TFrame dims (terms_of us) (ty_of n)) (of_frame dims ts n) (of_frame dims us n)
      (frame_run defs budget left e dims (ty_of n) (terms_of ts) (terms_of us) r)

  pub app_parts : (f g : TermExpr) (ts us : List TermExpr) (cs : List Index) (n : Ty) → ApplicationRun defs budget (term_of f) (terms_of ts) e left (term_of g) (terms_of us) → PartsRun defs budget (term_of (App f ts cs n)) e left (term_of (App g us cs n))
  app_parts f g ts us cs n r =
      between (λ a b. PartsRun defs budget a e left b) (term_of (App f ts cs n)) (TApp (term_of f) (terms_of ts) (each index_of cs) (ty_of n)) (term_of (App g us cs n)) (TApp (term_of g) (terms_of us) (each index_of cs) (ty_of n)) (of_app f ts cs n) (of_app g us cs n)
      (r (each index_of cs) (ty_of n))

  pub type_app_parts : (f g : TermExpr) (us : List Ty) (n : Ty) → TermRun defs budget (term_of f) e left (term_of g) → PartsRun defs budget (term_of (TypeApp f us n)) e left (term_of (TypeApp g us n))
  type_app_parts f g us n r =
      between (λ a b. PartsRun defs budget a e left b) (term_of (TypeApp f us n)) (TTypeApp (term_of f) (each ty_of us) (ty_of n)) (term_of (TypeApp g us n)) (TTypeApp (term_of g) (each ty_of us) (ty_of n)) (of_type_app f us n) (of_type_app g us n)
      (type_app_run defs budget left e (each ty_of us) (ty_of n) (term_of f) (term_of g) r)

  pub index_app_parts : (f g : TermExpr) (is : List Index) (n : Ty) → TermRun defs budget (term_of f) e left (term_of g) → PartsRun defs budget (term_of (IndexApp f is n)) e left (term_of (IndexApp g is n))
  index_app_parts f g is n r =
      between (λ a b. PartsRun defs budget a e left b) (term_of (IndexApp f is n)) (TIndexApp (term_of f) (each index_of is) (ty_of n)) (term_of (IndexApp g is n)) (TIndexApp (term_of g) (each index_of is) (ty_of n)) (of_index_app f is n) (of_index_app g is n)
      (index_app_run defs budget left e (each index_of is) (ty_of n) (term_of f) (term_of g) r)

  pub unbox_parts : (ss : List Sort) (f g b : TermExpr) (n : Ty) → TermRun defs budget (term_of f) e left (term_of g) → PartsRun defs budget (term_of (Unbox ss f b n)) e left (term_of (Unbox ss g b n))
  unbox_parts ss f g b n r =
      between (λ x y. PartsRun defs budget x e left y) (term_of (Unbox ss f b n)) (TUnbox ss (term_of f) (term_of b) (ty_of n)) (term_of (Unbox ss g b n)) (TUnbox ss (term_of g) (term_of b) (ty_of n)) (of_unbox ss f b n) (of_unbox ss g b n)
      (unbox_run defs budget left e ss (term_of b) (ty_of n) (term_of f) (term_of g) r)

  pub box_parts : (is : List Index) (t u : TermExpr) (n : Ty) → BoxRun defs (each index_of is) budget (term_of t) e left (term_of u) → CellRun defs budget (cell_of (Boxed is t n)) e left (cell_of (Boxed is u n))
  box_parts is t u n r =
      between {A = TypedCell} (λ a b. CellRun defs budget a e left b) (cell_of (Boxed is t n)) (TBoxed (each index_of is) (term_of t) (ty_of n)) (cell_of (Boxed is u n)) (TBoxed (each index_of is) (term_of u) (ty_of n)) (of_boxed is t n) (of_boxed is u n)
      (r (ty_of n))

-- forms without parts that run
module _ (defs : List TypedTerm) (budget : ℕ) (t : TermExpr) where
  nothing_runs : step typed_rules defs (term_of t) ≡ fires defs (term_of t) → PartsRun defs budget (term_of t) end.Value budget (term_of t)
  nothing_runs e = parts_rest defs budget budget (term_of t) (term_of t) (so_far_here (step typed_rules defs) budget (term_of t)) e

  pub var_parts : (k : ℕ) → t ≡ Var k → PartsRun defs budget (term_of t) end.Value budget (term_of t)
  var_parts k e = nothing_runs (subst (λ x. step typed_rules defs (term_of x) ≡ fires defs (term_of x)) (sym e) refl)

  pub def_parts : (k : ℕ) → t ≡ Def k → PartsRun defs budget (term_of t) end.Value budget (term_of t)
  def_parts k e = nothing_runs (subst (λ x. step typed_rules defs (term_of x) ≡ fires defs (term_of x)) (sym e) refl)

  pub no_atoms_parts : (dims : List ℕ) (n : Ty) → t ≡ NoAtoms dims n → PartsRun defs budget (term_of t) end.Value budget (term_of t)
  no_atoms_parts dims n e = nothing_runs (subst (λ x. step typed_rules defs (term_of x) ≡ fires defs (term_of x)) (sym e) refl)

  pub no_cells_parts : (dims : List ℕ) (n : Ty) → t ≡ NoCells dims n → PartsRun defs budget (term_of t) end.Value budget (term_of t)
  no_cells_parts dims n e = nothing_runs (subst (λ x. step typed_rules defs (term_of x) ≡ fires defs (term_of x)) (sym e) refl)

-- ---- the cells of a frame

module _ (defs : List TypedTerm) (dims : List ℕ) where
  pub no_first : (budget : ℕ) (ts : List TermExpr) → length ts ≡ 0 → FrameRun defs dims budget (terms_of ts) end.Lost budget (terms_of ts)
  no_first budget [] e = record { count = 0; moved = refl; ends = (omega arith, refl) }
  no_first budget (t ∷ ts) e = absurd (omega (arith, e))

  abbrev first_later : Terms typed → TypedTerm → Move (Terms typed)
  first_later ts u = elim (forms (dims ++ dims_of typed_rules u)) [ true ↦ first_move (terms_step typed_rules defs ts) (more_terms u) Rests | false ↦ Trapped trap.Size ]

  pub first_stops : (budget left : ℕ) (ts : List TermExpr) (t x : TermExpr) (e : End) → 0 < length ts → t ≡ slice_index_or ts 0 t → TermRun defs budget (term_of t) e left (term_of x) → (e ≡ end.Value → ⊥)
      → FrameRun defs dims budget (terms_of ts) e left (terms_of (slice_set ts 0 x))
  first_stops budget left [] t x e lt at r n = absurd (omega (arith, lt))
  first_stops budget left (y ∷ ys) t x e lt at r n =
      run_inside (step typed_rules defs) (frame_step defs dims) (λ u. more_terms u (terms_of ys)) (first_later (terms_of ys)) (λ u. refl) budget left (term_of y) (term_of x) e (stops e n)
      (subst (λ z. TermRun defs budget (term_of z) e left (term_of x)) at r)

  -- the first rests, and there is no room
  pub first_too_large : (budget left less : ℕ) (ts : List TermExpr) (t x : TermExpr) (e f : End) (b : Bool) → 0 < length ts → t ≡ slice_index_or ts 0 t → TermRun defs budget (term_of t) e left (term_of x) → e ≡ end.Value
      → FirstHasRoom dims (terms_of (slice_set ts 0 x)) b → b ≡ false → EndsHere (trapped trap.Size) 0 left f less
      → FrameRun defs dims budget (terms_of ts) f less (terms_of (slice_set ts 0 x))
  first_too_large budget left less [] t x e f b lt at r is room none h = absurd (omega (arith, lt))
  first_too_large budget left less (y ∷ ys) t x e f b lt at r is room none h =
      let run = subst (λ z. TermRun defs budget (term_of y) z left (term_of x)) is (subst (λ z. TermRun defs budget (term_of z) e left (term_of x)) at r) in
      here (frame_step defs dims) budget left (terms_of (y ∷ ys)) (terms_of (x ∷ ys)) f less
      (so_far_inside (step typed_rules defs) (frame_step defs dims) (λ u. more_terms u (terms_of ys)) (first_later (terms_of ys)) (λ u. refl) budget left (term_of y) (term_of x) (to_value (step typed_rules defs) budget left (term_of y) (term_of x) run))
      (trapped_here trap.Size (frame_step defs dims (terms_of (x ∷ ys))) left less f
      (next_inside (step typed_rules defs) (frame_step defs dims) (λ u. more_terms u (terms_of ys)) (first_later (terms_of ys)) (λ u. refl) (term_of x) run.ends.1
      ∙ ap (λ (c : Bool). elim c [ true ↦ first_move (terms_step typed_rules defs (terms_of ys)) (more_terms (term_of x)) Rests | false ↦ Trapped trap.Size ]) (sym room ∙ none)) h)

  -- behind a first that rests and has room, the cells are run as terms are
  behind : (t : TypedTerm) → step typed_rules defs t ≡ Rests → forms (dims ++ dims_of typed_rules t) ≡ true → (ts : Terms typed) → frame_step defs dims (more_terms t ts) ≡ terms_step typed_rules defs (more_terms t ts)
  behind t e f ts =
      ap (λ m. first_move m (λ u. more_terms u ts) (first_later ts t)) e
      ∙ ap (λ (c : Bool). elim c [ true ↦ first_move (terms_step typed_rules defs ts) (more_terms t) Rests | false ↦ Trapped trap.Size ]) f
      ∙ sym (ap (λ m. first_move m (λ u. more_terms u ts) (first_move (terms_step typed_rules defs ts) (more_terms t) Rests)) e)

  goes_behind : (t : TypedTerm) → step typed_rules defs t ≡ Rests → (ts : Terms typed) (a : Terms typed) → terms_step typed_rules defs (more_terms t ts) ≡ Goes a → (us : Terms typed) × (a ≡ more_terms t us)
  goes_behind t e ts a g = by (terms_step typed_rules defs ts) (sym (ap (λ m. first_move m (λ u. more_terms u ts) (first_move (terms_step typed_rules defs ts) (more_terms t) Rests)) e) ∙ g)
    where
      by : (m : Move (Terms typed)) → first_move m (more_terms t) Rests ≡ Goes a → (us : Terms typed) × (a ≡ more_terms t us)
      by Rests h = absurd (cc)
      by (Trapped k) h = absurd (cc)
      by (Goes us) h = (us, (let x : Goes (more_terms t us) ≡ Goes a = h in cc))
      by Lost h = absurd (cc)

  moves_behind : (t : TypedTerm) → step typed_rules defs t ≡ Rests → forms (dims ++ dims_of typed_rules t) ≡ true → (n : ℕ) (ts us : Terms typed) → moves (terms_step typed_rules defs) n (more_terms t ts) ≡ Some us
      → ((vs : Terms typed) × (us ≡ more_terms t vs)) × (moves (frame_step defs dims) n (more_terms t ts) ≡ Some us)
  moves_behind t e f zero ts us m = ((ts, (let x : Some (more_terms t ts) ≡ Some us = m in cc)), m)
  moves_behind t e f (suc n) ts us m =
      let g = goes_to (terms_step typed_rules defs (more_terms t ts)) (moves (terms_step typed_rules defs) n) us m in
      let h = goes_behind t e ts g.0 g.1 in
      let r = moves_behind t e f n h.0 us (subst (λ a. moves (terms_step typed_rules defs) n a ≡ Some us) h.1 g.2) in
      (r.0, ap (λ x. where_it_goes x (moves (frame_step defs dims) n)) (behind t e f ts ∙ g.1) ∙ subst (λ a. moves (frame_step defs dims) n a ≡ Some us) (sym h.1) r.1)

  as_terms : (t : TypedTerm) → step typed_rules defs t ≡ Rests → forms (dims ++ dims_of typed_rules t) ≡ true → (budget left : ℕ) (ts us : Terms typed) (e : End)
      → TermsRun defs budget (more_terms t ts) e left us → FrameRun defs dims budget (more_terms t ts) e left us
  as_terms t s f budget left ts us e r =
      let m = moves_behind t s f r.count ts us r.moved in
      record { count = r.count; moved = m.1; ends = subst (λ x. EndsHere x r.count budget e left) (sym (subst (λ a. frame_step defs dims a ≡ terms_step typed_rules defs a) (sym m.0.1) (behind t s f m.0.0))) r.ends }

  -- the first rests, there is room, and the cells are run
  pub others_run : (budget left less : ℕ) (ts us : List TermExpr) (t x : TermExpr) (e f : End) (b : Bool) → 0 < length ts → t ≡ slice_index_or ts 0 t → TermRun defs budget (term_of t) e left (term_of x) → e ≡ end.Value
      → FirstHasRoom dims (terms_of (slice_set ts 0 x)) b → b ≡ true → TermsRun defs left (terms_of (slice_set ts 0 x)) f less (terms_of us)
      → FrameRun defs dims budget (terms_of ts) f less (terms_of us)
  others_run budget left less [] us t x e f b lt at r is room some h = absurd (omega (arith, lt))
  others_run budget left less (y ∷ ys) us t x e f b lt at r is room some h =
      let run = subst (λ z. TermRun defs budget (term_of y) z left (term_of x)) is (subst (λ z. TermRun defs budget (term_of z) e left (term_of x)) at r) in
      then_run (frame_step defs dims) budget left less (terms_of (y ∷ ys)) (terms_of (x ∷ ys)) (terms_of us) f
      (so_far_inside (step typed_rules defs) (frame_step defs dims) (λ u. more_terms u (terms_of ys)) (first_later (terms_of ys)) (λ u. refl) budget left (term_of y) (term_of x) (to_value (step typed_rules defs) budget left (term_of y) (term_of x) run))
      (as_terms (term_of x) run.ends.1 (sym room ∙ some) left less (terms_of ys) (terms_of us) f h)
