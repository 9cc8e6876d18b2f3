-- The places of a frame, in order, are the reduction of the frame of their terms.
use Rattle.std.proofs.Common.{◌≡◌, refl, sym, ap, subst, ◌∙◌, ℕ, suc, Bool, true, false, List, [], ◌∷◌, ◌++◌, append-nil}
use Rattle.std.specs.Prelude.{⊤}
use Rattle.core_syntax.specs.declared.errors.TrapKind.TheVariants as trap
use Rattle.core_syntax.specs.Syntax.{Ty}
use Rattle.core_syntax.specs.Lists.{each, Each}
use Rattle.core_syntax.specs.Fits.{forms}
use Rattle.core_syntax.specs.Arrays.{Arrayed, array}
use Rattle.core_syntax.specs.Terms.{TFrame, Terms, no_terms, more_terms, term_list}
use Rattle.core_syntax.specs.Move.{Trapped, Goes}
use Rattle.core_syntax.specs.Rules.{dims_of}
use Rattle.erasure.specs.Erased.{erased, ErasedTerm, erased_rules}
use Rattle.machine_table.specs.Values as values
use Rattle.machine_table.specs.Values.{Env}
use Rattle.machine_table.specs.Begins.{Place, Entry, Refuses, Enters, Answers, Faults, Folds, place_entry}
use Rattle.lowering.specs.Runs.{Comp, give, tick, count, stop, lost}
use Rattle.lowering.specs.Evals.{hand_val, collapse_vals, entry_val, turns, places_val}
use Rattle.evaluation.specs.Plugged.{val_term}
use Rattle.evaluation.specs.Lawful.{FitArray}
use Rattle.evaluation.specs.Setting.{Setting}
use Rattle.evaluation.proofs.steps.Reduces.{Reduces, Inside, inside_both, itself, reduces_push, reduces_count, reduces_enter, reduces_less, reduces_tick, reduces_trap, reduces_then, reduces_inside}
use Rattle.evaluation.proofs.steps.Contexts.{one, some, in_first, in_rest, in_frame_first, frame_step, in_frame_rest}
use Rattle.evaluation.proofs.steps.Rests.{dims_are}
use Rattle.evaluation.proofs.forms.Comes.{val, vals, Fit, FitOf, Runs}
use Rattle.evaluation.proofs.steps.Collapsed.{value_rests, collapse_goes, collapse_fits}
use Rattle.evaluation.proofs.forms.Leaves.{numbers_same}

module _ {A : Type 0} (W : Setting A) (enter : Env A → ℕ → Comp (Arrayed A)) (K : ℕ) where
  -- an array of a type that fits and passes a test
  abbrev pub FitsAnd : Ty → (Arrayed A → Bool) → Arrayed A → Type 0
  FitsAnd U q a = FitOf W U a × (q a ≡ true)

  -- what takes an array of a type that stands at a place
  abbrev pub Takes : Ty → (ErasedTerm → ErasedTerm) → (Arrayed A → ErasedTerm) → (Arrayed A → Bool) → (Arrayed A → Comp (Arrayed A)) → Type 0
  Takes U C J q hand = (a : Arrayed A) → FitOf W U a → Reduces (one W.defs) (suc K) (C (val W a)) J (FitsAnd U q) (hand a)

  -- a term of a type steps as an entry says: it traps, it goes to a value or to a body with its environment in place, or to what a fold comes to
  abbrev pub StepsAs : Ty → ErasedTerm → Entry A → Type 0
  StepsAs U t (Refuses k) = ⊥
  StepsAs U t (Enters env b) = (u : ErasedTerm) × (one W.defs t ≡ Goes u) × Reduces (one W.defs) K u (val_term W.cell) (FitOf W U) (enter env b)
  StepsAs U t (Answers a) = (one W.defs t ≡ Goes (val W a)) × Fit W a
  StepsAs U t (Faults k) = one W.defs t ≡ Trapped k
  StepsAs U t (Folds f acc xs) =
      (u : ErasedTerm) × (one W.defs t ≡ Goes u)
      × ((C : ErasedTerm → ErasedTerm) (J : Arrayed A → ErasedTerm) (q : Arrayed A → Bool) (hand : Arrayed A → Comp (Arrayed A)) → Inside (one W.defs) (one W.defs) C → Takes U C J q hand
      → Reduces (one W.defs) (suc K) (C u) J (FitsAnd U q) (turns W.rules enter hand f acc xs))

  -- an entry within a context, with what takes its result
  pub entry_comes : (U : Ty) (C : ErasedTerm → ErasedTerm) (J : Arrayed A → ErasedTerm) (q : Arrayed A → Bool) (hand : Arrayed A → Comp (Arrayed A)) → Inside (one W.defs) (one W.defs) C → Takes U C J q hand
      → (t : ErasedTerm) (x : Entry A) → W.good U t → StepsAs U t x → Reduces (one W.defs) (suc K) (C t) J (FitsAnd U q) (entry_val W.rules enter (turns W.rules enter hand) hand x)
  entry_comes U C J q hand inside takes t (Refuses k) g h = absurd h
  entry_comes U C J q hand inside takes t (Enters env b) g h =
      reduces_enter (one W.defs) (inside.goes t h.0 h.1)
      (reduces_count (one W.defs) 1 (reduces_then (one W.defs) (reduces_inside (one W.defs) (one W.defs) C inside h.2) (λ a p. reduces_less (one W.defs) (takes a p))))
  entry_comes U C J q hand inside takes t (Answers a) g h =
      reduces_tick (one W.defs) (inside.goes t (val W a) h.0) (takes a (h.1, W.typing.keeps U t (val W a) g h.0))
  entry_comes U C J q hand inside takes t (Faults k) g h = reduces_trap (one W.defs) J (FitsAnd U q) k (inside.traps t k h)
  entry_comes U C J q hand inside takes t (Folds f acc xs) g h = reduces_tick (one W.defs) (inside.goes t h.0 h.1) (reduces_count (one W.defs) 1 (h.2 C J q hand inside takes))

  -- ---- a frame whose first cells are values

  -- values in front of terms
  abbrev pub in_front : List (Arrayed A) → Terms erased → Terms erased
  in_front [] ts = ts
  in_front (w ∷ ws) ts = more_terms (val W w) (in_front ws ts)

  front_join : (ws : List (Arrayed A)) (a : Arrayed A) (ts : Terms erased) → in_front (ws ++ a ∷ []) ts ≡ in_front ws (more_terms (val W a) ts)
  front_join [] a ts = refl
  front_join (w ∷ ws) a ts = ap (more_terms (val W w)) (front_join ws a ts)

  front_list : (ws : List (Arrayed A)) → in_front ws no_terms ≡ term_list (vals W ws)
  front_list [] = refl
  front_list (w ∷ ws) = ap (more_terms (val W w)) (front_list ws)

  behind_values : (ws : List (Arrayed A)) (ts : Terms erased) → Each (Fit W) ws → Inside (one W.defs) (some W.defs) (λ u. in_front ws (more_terms u ts))
  behind_values [] ts h = in_first W.defs ts
  behind_values (w ∷ ws) ts h =
      inside_both (one W.defs) (some W.defs) (some W.defs) (λ u. in_front ws (more_terms u ts)) (more_terms (val W w)) (behind_values ws ts h.1) (in_rest W.defs (val W w) (value_rests W w h.0))

  -- the first value of a frame has room
  abbrev pub roomy : List ℕ → List (Arrayed A) → Bool
  roomy F [] = true
  roomy F (w ∷ ws) = forms (F ++ w.dims)

  room_is : (F : List ℕ) (w : Arrayed A) (b : Bool) → forms (F ++ w.dims) ≡ b → forms (F ++ dims_of erased_rules (val W w)) ≡ b
  room_is F w b e = ap (λ d. forms (F ++ d)) (dims_are w.dims (each W.cell w.atoms)) ∙ e

  -- the place of a frame behind its values
  in_frame : (F : List ℕ) (ws : List (Arrayed A)) (ts : Terms erased) → Each (Fit W) ws → roomy F ws ≡ true → Inside (one W.defs) (one W.defs) (λ u. TFrame F (in_front ws (more_terms u ts)) tt)
  in_frame F [] ts h room = in_frame_first W.defs F ts
  in_frame F (w ∷ ws) ts h room =
      inside_both (one W.defs) (some W.defs) (one W.defs) (λ u. in_front ws (more_terms u ts)) (λ us. TFrame F (more_terms (val W w) us) tt) (behind_values ws ts h.1)
      (in_frame_rest W.defs F (val W w) (value_rests W w h.0) (room_is F w true room))

  -- values of one type have equal dims
  pub dims_equal : (U : Ty) (a b : Arrayed A) → FitOf W U a → FitOf W U b → a.dims ≡ b.dims
  dims_equal U a b h k =
      sym (dims_are a.dims (each W.cell a.atoms)) ∙ W.typing.value_dims U (val W a) h.1 (value_rests W a h.0) ∙ sym (W.typing.value_dims U (val W b) k.1 (value_rests W b k.0)) ∙ dims_are b.dims (each W.cell b.atoms)

  fits_only : (U : Ty) (ws : List (Arrayed A)) → Each (FitOf W U) ws → Each (Fit W) ws
  fits_only U [] h = tt
  fits_only U (w ∷ ws) h = (h.0.0, fits_only U ws h.1)

  -- a result that reaches a frame: the first must have room
  hand_comes : (U : Ty) (n : ℕ) (F : List ℕ) (ts : Terms erased) (ws : List (Arrayed A)) → Each (FitOf W U) ws → roomy (n ∷ F) ws ≡ true
      → Takes U (λ u. TFrame (n ∷ F) (in_front ws (more_terms u ts)) tt) (λ a. TFrame (n ∷ F) (in_front ws (more_terms (val W a) ts)) tt) (λ a. roomy (n ∷ F) (ws ++ a ∷ [])) (hand_val (n ∷ F) ws)
  hand_comes U n F ts [] h room a fit = by (forms ((n ∷ F) ++ a.dims)) refl
    where
      by : (b : Bool) → forms ((n ∷ F) ++ a.dims) ≡ b
          → Reduces (one W.defs) (suc K) (TFrame (n ∷ F) (more_terms (val W a) ts) tt) (λ a. TFrame (n ∷ F) (more_terms (val W a) ts) tt) (FitsAnd U (λ a. forms ((n ∷ F) ++ a.dims)))
          (elim b as (λ b. Comp (Arrayed A)) [ true ↦ count 1 (give a) | false ↦ tick (count 1 (stop trap.Size)) ])
      by true e = reduces_push (one W.defs) (TFrame (n ∷ F) (more_terms (val W a) ts) tt) (λ a. TFrame (n ∷ F) (more_terms (val W a) ts) tt) (FitsAnd U (λ a. forms ((n ∷ F) ++ a.dims))) a refl (fit, e)
      by false e =
          reduces_trap (one W.defs) (λ a. TFrame (n ∷ F) (more_terms (val W a) ts) tt) (FitsAnd U (λ a. forms ((n ∷ F) ++ a.dims))) trap.Size
          (frame_step W.defs (n ∷ F) (val W a) ts false (value_rests W a fit.0) (room_is (n ∷ F) a false e))
  hand_comes U n F ts (w ∷ ws) h room a fit =
      subst (λ b. Reduces (one W.defs) (suc K) (TFrame (n ∷ F) (in_front (w ∷ ws) (more_terms (val W a) ts)) tt) (λ a. TFrame (n ∷ F) (in_front (w ∷ ws) (more_terms (val W a) ts)) tt) (FitsAnd U (λ a. forms ((n ∷ F) ++ w.dims)))
      (elim b as (λ b. Comp (Arrayed A)) [ true ↦ count 1 (give a) | false ↦ lost ]))
      (sym (numbers_same w.dims a.dims (dims_equal U w a h.0 fit)))
      (reduces_push (one W.defs) (TFrame (n ∷ F) (in_front (w ∷ ws) (more_terms (val W a) ts)) tt) (λ a. TFrame (n ∷ F) (in_front (w ∷ ws) (more_terms (val W a) ts)) tt) (FitsAnd U (λ a. forms ((n ∷ F) ++ w.dims))) a refl (fit, room))

  fit_one_more : (U : Ty) (ws : List (Arrayed A)) (a : Arrayed A) → Each (FitOf W U) ws → FitOf W U a → Each (FitOf W U) (ws ++ a ∷ [])
  fit_one_more U [] a h fit = (fit, tt)
  fit_one_more U (w ∷ ws) a h fit = (h.0, fit_one_more U ws a h.1 fit)

  -- ---- all places

  -- there is an item in one of two lists
  abbrev pub SomeIn : {B C : Type 0} → List B → List C → Type 0
  SomeIn [] [] = ⊥
  SomeIn [] (c ∷ cs) = ⊤
  SomeIn (b ∷ bs) cs = ⊤

  some_joined : {C : Type 0} (ws : List (Arrayed A)) (a : Arrayed A) (cs : List C) → SomeIn (ws ++ a ∷ []) cs
  some_joined [] a cs = tt
  some_joined (w ∷ ws) a cs = tt

  -- the results of a frame as one array
  collapse_comes : (n : ℕ) (F : List ℕ) (ws : List (Arrayed A)) → SomeIn ws (let none : List ℕ = [] in none) → Each (Fit W) ws → roomy (n ∷ F) ws ≡ true → Runs W K (TFrame (n ∷ F) (in_front ws no_terms) tt) (collapse_vals (n ∷ F) ws)
  collapse_comes n F [] more h room = absurd more
  collapse_comes n F (w ∷ ws) more h room =
      reduces_tick (one W.defs) (ap (λ ts. one W.defs (TFrame (n ∷ F) (more_terms (val W w) ts) tt)) (front_list ws) ∙ collapse_goes W (n ∷ F) w ws h.0 h.1 room)
      (reduces_push (one W.defs) (val W (values.collapse (n ∷ F) w ws)) (val_term W.cell) (FitArray W.bodies W.cell W.fits) (values.collapse (n ∷ F) w ws) refl (collapse_fits W (n ∷ F) w ws h.0 h.1 room))

  -- the terms of places
  abbrev pub PlacesStep : Ty → List (Place A) → Terms erased → Type 0
  PlacesStep U [] no_terms = ⊤
  PlacesStep U (p ∷ ps) (more_terms t ts) = (W.good U t × StepsAs U t (place_entry W.rules p)) × PlacesStep U ps ts
  PlacesStep U _ _ = ⊥

  -- the places that are left, behind the results so far
  places_come : (U : Ty) (n : ℕ) (F : List ℕ) (ps : List (Place A)) (ts : Terms erased) (ws : List (Arrayed A)) → SomeIn ws ps → Each (FitOf W U) ws → roomy (n ∷ F) ws ≡ true → PlacesStep U ps ts
      → Runs W K (TFrame (n ∷ F) (in_front ws ts) tt) (places_val W.rules enter (n ∷ F) ws ps)
  places_come U n F [] no_terms ws more h room steps = collapse_comes n F ws (more_is ws more) (fits_only U ws h) room
    where
      more_is : (ws : List (Arrayed A)) → SomeIn ws (let none : List (Place A) = [] in none) → SomeIn ws (let none : List ℕ = [] in none)
      more_is [] h = h
      more_is (w ∷ ws) h = tt
  places_come U n F [] (more_terms t ts) ws more h room steps = absurd steps
  places_come U n F (p ∷ ps) no_terms ws more h room steps = absurd steps
  places_come U n F (p ∷ ps) (more_terms t ts) ws more h room steps =
      reduces_then (one W.defs)
      (entry_comes U (λ u. TFrame (n ∷ F) (in_front ws (more_terms u ts)) tt) (λ a. TFrame (n ∷ F) (in_front ws (more_terms (val W a) ts)) tt) (λ a. roomy (n ∷ F) (ws ++ a ∷ [])) (hand_val (n ∷ F) ws)
      (in_frame (n ∷ F) ws ts (fits_only U ws h) room) (hand_comes U n F ts ws h room) t (place_entry W.rules p) steps.0.0 steps.0.1)
      (λ a fit. subst (λ us. Runs W K (TFrame (n ∷ F) us tt) (places_val W.rules enter (n ∷ F) (ws ++ a ∷ []) ps)) (front_join ws a ts)
      (places_come U n F ps ts (ws ++ a ∷ []) (some_joined ws a ps) (fit_one_more U ws a h fit.0) fit.1 steps.1))

  -- `map`: a term that steps to the frame of its places' terms
  pub map_comes : (U : Ty) (n : ℕ) (F : List ℕ) (t : ErasedTerm) (ps : List (Place A)) (ts : Terms erased) → SomeIn (let none : List ℕ = [] in none) ps → one W.defs t ≡ Goes (TFrame (n ∷ F) ts tt) → PlacesStep U ps ts
      → Runs W K t (tick (count 1 (places_val W.rules enter (n ∷ F) [] ps)))
  map_comes U n F t ps ts more e steps = reduces_tick (one W.defs) e (reduces_count (one W.defs) 1 (places_come U n F ps ts [] (more_is ps more) tt refl steps))
    where
      more_is : (ps : List (Place A)) → SomeIn (let none : List ℕ = [] in none) ps → SomeIn (let none : List (Arrayed A) = [] in none) ps
      more_is [] h = h
      more_is (p ∷ ps) h = tt

  -- ---- one place over the frame ()

  alone : (a : Arrayed A) → values.collapse [] a [] ≡ a
  alone a = ap (array a.dims) (append-nil a.atoms)

  pub scalar_comes : (U : Ty) (t : ErasedTerm) (p : Place A) → W.good U t → StepsAs U t (place_entry W.rules p) → Runs W K t (count 1 (places_val W.rules enter [] [] (p ∷ [])))
  scalar_comes U t p g steps =
      reduces_count (one W.defs) 1
      (reduces_then (one W.defs) (entry_comes U (λ u. u) (val_term W.cell) (λ a. true) (hand_val [] []) (itself (one W.defs)) takes t (place_entry W.rules p) g steps)
      (λ a h. reduces_push (one W.defs) (val W a) (val_term W.cell) (FitArray W.bodies W.cell W.fits) (values.collapse [] a []) (ap (val_term W.cell) (sym (alone a))) (subst (FitArray W.bodies W.cell W.fits) (sym (alone a)) h.0.0)))
    where
      takes : Takes U (λ u. u) (val_term W.cell) (λ a. true) (hand_val [] [])
      takes a fit =
          subst (λ b. Reduces (one W.defs) (suc K) (val W a) (val_term W.cell) (FitsAnd U (λ a. true)) (elim b as (λ b. Comp (Arrayed A)) [ true ↦ count 1 (give a) | false ↦ lost ])) (sym fit.0.0)
          (reduces_push (one W.defs) (val W a) (val_term W.cell) (FitsAnd U (λ a. true)) a refl (fit, refl))
