-- An application of held values goes on to a held term.
use Rattle.std.proofs.Common.{◌≡◌, refl, sym, ◌∙◌, ap, subst, ℕ, List, [], ◌∷◌, ◌++◌, length, Option, Some, true}
use Rattle.std.specs.Prelude.{◌==◌, ◌^◌, nat_lt}
use Rattle.core_syntax.specs.declared.errors.TrapKind.TheVariants as trap
use Rattle.core_syntax.specs.Syntax.{Index, Ty, Fun, Arr, Tys, no_tys, more_tys, no_span}
use Rattle.core_syntax.specs.Lists.{each, Each, product}
use Rattle.core_syntax.specs.Kinds.{IsWellFormed}
use Rattle.core_syntax.specs.Value.{shape_val, IsPrefix, then_shape}
use Rattle.core_syntax.specs.Nodes.{vector}
use Rattle.core_syntax.specs.Subst.{put_all}
use Rattle.core_syntax.specs.Prims.{array_of}
use Rattle.core_syntax.specs.Typing.{IsPrincipal, defs_only}
use Rattle.core_syntax.specs.Terms.{TFrame, TApp, Terms, no_terms, more_terms, Cell, TPrim, TFn, term_items, term_list}
use Rattle.core_syntax.specs.TermPut.{term_put}
use Rattle.core_syntax.specs.Arrays.{is_prefix, greatest, all_frames_are, columns}
use Rattle.core_syntax.specs.Move.{Move, Trapped, Goes, Lost, if_there}
use Rattle.core_syntax.specs.Rules.{dims_of, atoms_of, goes_empty, frames_of, lifted, all_lifted, all_cells, apps, apply_atom, apply_over, apply_at, apply}
use Rattle.core_syntax.specs.Typed.{typed, typed_rules, TypedTerm, closed}
use Rattle.core_syntax.specs.TermTyping.{HasTerm, TermArgsHave, HasCell}
use Rattle.core_syntax.proofs.Unique.{then_val}
use Rattle.core_syntax.specs.Held.{HeldAt, ArgumentsHeld, CellHeld, IsHeld}
use Rattle.reduction_laws.proofs.held.Puts.{held_put, all_held}
use Rattle.reduction_laws.proofs.held.Forms.{each_mapped, each_columns}
use Rattle.reduction_laws.proofs.held.Moves.{Kept, kept_either, each_terms, atoms_held, empty_kept}
use Rattle.reduction_laws.proofs.held.Lifts.{ValuesOver, function_lifted, all_lifted_held, all_cut_held, all_alone_held, apps_held}
use Rattle.reduction_laws.proofs.held.Prims.{prim_kept}
use Rattle.reduction_laws.proofs.steps.Counts.{product-append, zero_times, each_with}
use Rattle.reduction_laws.proofs.steps.Frames.{prefix_rest}
use Rattle.reduction_laws.proofs.steps.Moves.{not_zero}
use Rattle.reduction_laws.proofs.steps.Applied.{prefix_val, frames_found, greatest_found}
use Rattle.reduction_laws.proofs.steps.Scalars.{nil_prefix, pairs_have}
use Rattle.reduction_laws.proofs.steps.Parts.{IsArr, Parts, parts_of, type_formed, closed_shape}

kept_there : {A B : Type 0} (P : B → Type 0) (o : Option A) (a : A) (f : A → Move B) → o ≡ Some a → Kept P (f a) → Kept P (if_there o f)
kept_there P o a f e h = subst (λ o. Kept P (if_there o f)) (sym e) h

-- a prefix of a frame with places has places
prefix_places : (g F : List ℕ) → (product F ≡ 0 → ⊥) → is_prefix g F ≡ true → product g ≡ 0 → ⊥
prefix_places g F z pre e = let r = prefix_rest g F pre in z (ap product (sym r.2) ∙ product-append g r.0 ∙ zero_times (product g) (product r.0) e)

module _ (D : List Ty) where
  -- typed values over their frames
  values_over : (es : Terms typed) (us : Tys) (cs ps : List Index) → Each IsArr (term_items es) → TermArgsHave (defs_only D) es us cs ps → ValuesOver (each (shape_val closed) ps) cs es
  values_over no_terms no_tys [] [] v h = tt
  values_over (more_terms e es) (more_tys (Arr at a w) us) (c ∷ cs) (p ∷ ps) v h = (
    (v.0, (λ v. closed_shape c h.0.1.1 v closed), (parts_of D e a (then_shape p w) v.0 h.0.0).dims ∙ then_val closed p w ∙ ap (λ z. shape_val closed p ++ z) (h.0.1.2 closed)),
    values_over es us cs ps v.1 h.1,
  )
  values_over (more_terms e es) (more_tys _ us) (c ∷ cs) (p ∷ ps) v h = absurd h.0
  values_over _ _ _ _ v h = absurd h

  module _ (f : TypedTerm) (es : Terms typed) (us : Tys) (b : Ty) (c s : Index) (cs ps : List Index) (p : Index) (note : Ty)
      (vf : IsArr f) (hf : HasTerm (defs_only D) f (array_of (Fun no_span us (Arr no_span b c)) s)) (ve : Each IsArr (term_items es)) (he : TermArgsHave (defs_only D) es us cs ps) (pr : IsPrincipal (defs_only D) (s ∷ ps) p)
      (kf : HeldAt (Some (vector [])) f) (ke : ArgumentsHeld cs es) where
    pf : Parts D f (Fun no_span us (Arr no_span b c)) s
    pf = parts_of D f (Fun no_span us (Arr no_span b c)) s vf hf

    fun_formed : IsWellFormed 0 [] (array_of (Fun no_span us (Arr no_span b c)) s)
    fun_formed = type_formed (defs_only D) f (array_of (Fun no_span us (Arr no_span b c)) s) hf

    over : ValuesOver (each (shape_val closed) ps) cs es
    over = values_over es us cs ps ve he

    -- each frame is a prefix of the principal one
    prefixes : (F : List ℕ) → F ≡ shape_val closed p → Each (λ q. is_prefix (shape_val closed q) F ≡ true) (s ∷ ps)
    prefixes F g = each_with (λ q. IsPrefix [] q p) (λ q. is_prefix (shape_val closed q) F ≡ true) (s ∷ ps) (λ q h. subst (λ G. is_prefix (shape_val closed q) G ≡ true) (sym g) (prefix_val q p h)) pr.2

    places : (F : List ℕ) → F ≡ shape_val closed p → (product F ≡ 0 → ⊥) → Each (λ g. product g ≡ 0 → ⊥) (each (shape_val closed) ps)
    places F g z = each_mapped (λ q. is_prefix (shape_val closed q) F ≡ true) (λ g. product g ≡ 0 → ⊥) (shape_val closed) (λ q h. prefix_places (shape_val closed q) F z h) ps (prefixes F g).1

    -- `beta` and `delta`
    atom_kept : (xs : List (Cell typed)) → Each (λ x. HasCell (defs_only D) x (Fun no_span us (Arr no_span b c))) xs → Each CellHeld xs → Each (λ q. shape_val closed q ≡ []) ps → Each IsHeld (term_items es)
        → Kept IsHeld (apply_atom typed_rules xs (term_items es) note)
    atom_kept (TFn i t ∷ []) h k e hs =
        kept_either IsHeld (length i.inputs == length (term_items es)) (Goes (term_put typed_rules typed_rules.put_none (put_all (term_items es)) t)) Lost
        (λ z. held_put _ typed_rules.put_none (put_all (term_items es)) (all_held (term_items es) hs) t k.0) (λ z. tt)
    atom_kept (TPrim q vs is ∷ []) h k e hs = prim_kept D us b c es fun_formed.2.1 ve (pairs_have D es us cs ps he e) q vs is note h.0 hs
    atom_kept _ h k e hs = tt

    over_kept : (F : List ℕ) → F ≡ shape_val closed p → (product F ≡ 0 → ⊥) → Kept IsHeld (apply_over typed_rules F (each (shape_val closed) ps) f (term_items es) cs note)
    over_kept [] g z =
        let none = each_with (λ q. is_prefix (shape_val closed q) [] ≡ true) (λ q. shape_val closed q ≡ []) ps (λ q h. nil_prefix (shape_val closed q) h) (prefixes [] g).1 in
        atom_kept (atoms_of typed_rules f) pf.atoms (atoms_held (Some (vector [])) f kf) none
        (all_alone_held (each (shape_val closed) ps) cs es over ke (each_mapped (λ q. shape_val closed q ≡ []) (λ g. g ≡ []) (shape_val closed) (λ q h. h) ps none))
    over_kept (m ∷ F) g z =
        let rows = all_cells typed_rules (m ∷ F) (each (shape_val closed) cs) (term_items es) in
        kept_either IsHeld (all_frames_are (m ∷ F) (dims_of typed_rules f ∷ each (shape_val closed) ps)) (Goes (TFrame (m ∷ F) (term_list (apps typed_rules (atoms_of typed_rules f) (columns (product (m ∷ F)) rows) cs note)) note))
        (Goes (TApp (lifted typed_rules (m ∷ F) (dims_of typed_rules f) [] f) (term_list (all_lifted typed_rules (m ∷ F) (each (shape_val closed) ps) (each (shape_val closed) cs) (term_items es))) cs note))
        (λ t.
        each_terms (apps typed_rules (atoms_of typed_rules f) (columns (product (m ∷ F)) rows) cs note)
        (apps_held (atoms_of typed_rules f) (columns (product (m ∷ F)) rows) cs note (atoms_held (Some (vector [])) f kf)
        (each_columns IsHeld (product (m ∷ F)) rows (all_cut_held (m ∷ F) (each (shape_val closed) ps) cs es over ke (places (m ∷ F) g z)))))
        (λ t. (
          function_lifted f (m ∷ F) vf kf (λ e. prefix_places (shape_val closed s) (m ∷ F) z (prefixes (m ∷ F) g).0 (ap product (sym pf.dims) ∙ e)),
          all_lifted_held (m ∷ F) (each (shape_val closed) ps) cs es over ke (places (m ∷ F) g z),
        ))

    pub apply_kept : Kept IsHeld (apply typed_rules f (term_items es) cs note)
    apply_kept =
        kept_there IsHeld (frames_of typed_rules (each (shape_val closed) cs) (term_items es)) (each (shape_val closed) ps) _ (frames_found D es us cs ps ve he)
        (kept_there IsHeld (greatest (dims_of typed_rules f ∷ each (shape_val closed) ps)) (shape_val closed p) _ (ap (λ d. greatest (d ∷ each (shape_val closed) ps)) pf.dims ∙ greatest_found D (s ∷ ps) p pr)
        (at_frame (shape_val closed p) refl))
      where
        at_frame : (F : List ℕ) → F ≡ shape_val closed p → Kept IsHeld (apply_at typed_rules F (each (shape_val closed) ps) f (term_items es) cs note)
        at_frame F g =
            kept_either IsHeld (nat_lt (2 ^ 24) (product F)) (Trapped trap.Size) _ (λ t. tt)
            (λ t.
            kept_either IsHeld (product F == 0) (goes_empty typed_rules (F ++ typed_rules.result_dims note) (typed_rules.result_atom note)) (apply_over typed_rules F (each (shape_val closed) ps) f (term_items es) cs note)
            (λ z. empty_kept (F ++ typed_rules.result_dims note) (typed_rules.result_atom note)) (λ z. over_kept F g (not_zero (product F) z)))
