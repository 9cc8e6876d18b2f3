-- A scalar function on cells keeps its type: `beta`, and primitives, of which a lemma is assumed.
use Rattle.std.proofs.Common.{◌≡◌, refl, sym, ◌∙◌, ap, subst, ℕ, arith, List, [], ◌∷◌, ◌++◌, length, Option, true, false}
use Rattle.std.specs.Prelude.{◌==◌}
use Rattle.std.proofs.lemmas.Bool.Decides.{nat_tests}
use Rattle.core_syntax.specs.Syntax.{Index, Ty, Fun, Arr, Tys, no_tys, more_tys, no_span}
use Rattle.core_syntax.specs.Lists.{Each, EachTwo, product}
use Rattle.core_syntax.specs.Kinds.{IsWellFormed}
use Rattle.core_syntax.specs.Value.{shape_val, IsPrefix, then_shape}
use Rattle.core_syntax.specs.TypeEqual.{Same}
use Rattle.core_syntax.specs.Subst.{put_all}
use Rattle.core_syntax.specs.Prims.{prim_type, array_of}
use Rattle.core_syntax.specs.Typing.{Takes, defs_only}
use Rattle.core_syntax.specs.declared.primitive.Primitive.{Primitive}
use Rattle.core_syntax.specs.Terms.{Terms, no_terms, more_terms, Cell, TInt, TBool, TChar, TPrim, TFn, TTypeFn, TIndexFn, TBoxed, term_items}
use Rattle.core_syntax.specs.TermPut.{term_put}
use Rattle.core_syntax.specs.Arrays.{is_prefix}
use Rattle.core_syntax.specs.Move.{Goes, Lost}
use Rattle.core_syntax.specs.Rules.{dims_of, atoms_of, apply_atom}
use Rattle.core_syntax.specs.Typed.{typed, typed_rules, TypedTerm, closed}
use Rattle.core_syntax.specs.TermTyping.{Notes, PrimHas, HasTerm, TermArgsHave, HasCell}
use Rattle.core_syntax.proofs.Equality.{same_refl}
use Rattle.core_syntax.proofs.Unique.{then_val}
use Rattle.reduction_laws.proofs.putting.TermSubst.{term_same}
use Rattle.reduction_laws.proofs.putting.Rules.{two_length}
use Rattle.reduction_laws.proofs.steps.Bodies.{DefsClosed, Filled, body_has, args_filled}
use Rattle.reduction_laws.proofs.steps.Acts.{box_type}
use Rattle.reduction_laws.proofs.steps.Moves.{Fine, fine_either, fine_to}
use Rattle.reduction_laws.proofs.steps.Applied.{prefix_val}
use Rattle.reduction_laws.proofs.steps.Parts.{IsArr, Parts, parts_of, fits, type_formed, closed_shape}

unlike : (m n : ℕ) → (m == n) ≡ false → n ≡ m → ⊥
unlike m n e h = grind (arith, nat_tests)

pub nil_prefix : (d : List ℕ) → is_prefix d [] ≡ true → d ≡ []
nil_prefix [] e = refl
nil_prefix (x ∷ d) e = absurd (cc)

module _ (D : List Ty) where
  -- each argument has its input's type
  abbrev pub PairsHave : Terms typed → Tys → Type 0
  PairsHave no_terms no_tys = Unit {0}
  PairsHave (more_terms e es) (more_tys t ts) = HasTerm (defs_only D) e t × PairsHave es ts
  PairsHave _ _ = ⊥

  -- arguments whose frames are () have their inputs' types
  pub pairs_have : (es : Terms typed) (us : Tys) (cs ps : List Index) → TermArgsHave (defs_only D) es us cs ps → Each (λ q. shape_val closed q ≡ []) ps → PairsHave es us
  pairs_have no_terms no_tys [] [] h f = tt
  pairs_have (more_terms e es) (more_tys (Arr at a w) us) (c ∷ cs) (q ∷ ps) h f =
      let formed = type_formed (defs_only D) e (array_of a (then_shape q w)) h.0.0 in (
        term_same (defs_only D) e (array_of a (then_shape q w)) (Arr at a w) h.0.0
            (same_refl a, λ v. then_val v q w ∙ ap (λ z. z ++ shape_val v w) (closed_shape q formed.1.1.0 v closed ∙ f.0)) (formed.0, h.0.1.0, formed.2),
        pairs_have es us cs ps h.1 f.1,
      )
  pairs_have (more_terms e es) (more_tys _ us) (c ∷ cs) (q ∷ ps) h f = absurd h.0
  pairs_have _ _ _ _ h f = absurd h

  -- a primitive on arguments of its inputs' types gives its result's type, traps or folds
  abbrev pub PrimFine : Type 0
  PrimFine = (q : Primitive) (us : Option (List Ty)) (is : Option (List Index)) (ws : Tys) (b : Ty) (c : Index) (es : Terms typed) (note : Ty)
      → PrimHas (defs_only D) (prim_type q) us is (Fun no_span ws (Arr no_span b c)) → IsWellFormed 0 [] (Fun no_span ws (Arr no_span b c)) → Each IsArr (term_items es) → PairsHave es ws → Notes (defs_only D) (Arr no_span b c) note
      → Fine (λ t. HasTerm (defs_only D) t (Arr no_span b c)) ⊥ (apply_atom typed_rules (TPrim q us is ∷ []) (term_items es) note)

  module _ (dc : DefsClosed D) (prims : PrimFine) where
    pub scalar_fine : (f : TypedTerm) (es : Terms typed) (us : Tys) (b : Ty) (c s : Index) (cs ps : List Index) (p : Index) (note T : Ty)
        → IsArr f → HasTerm (defs_only D) f (array_of (Fun no_span us (Arr no_span b c)) s) → Each IsArr (term_items es) → TermArgsHave (defs_only D) es us cs ps
        → Notes (defs_only D) (Arr no_span b c) note → Each (λ q. IsPrefix [] q p) ps → Takes (defs_only D) (array_of b (then_shape p c)) T
        → dims_of typed_rules f ≡ [] → shape_val closed p ≡ [] → Fine (λ t. HasTerm (defs_only D) t T) ⊥ (apply_atom typed_rules (atoms_of typed_rules f) (term_items es) note)
    scalar_fine f es us b c s cs ps p note T vf hf ve he n pre k fe pe = one (atoms_of typed_rules f) (pf.count ∙ ap product fe) pf.atoms
      where
        pf : Parts D f (Fun no_span us (Arr no_span b c)) s
        pf = parts_of D f (Fun no_span us (Arr no_span b c)) s vf hf

        wf : IsWellFormed 0 [] (array_of (Fun no_span us (Arr no_span b c)) s)
        wf = type_formed (defs_only D) f (array_of (Fun no_span us (Arr no_span b c)) s) hf

        empties : (ps : List Index) → Each (λ q. IsPrefix [] q p) ps → Each (λ q. shape_val closed q ≡ []) ps
        empties [] h = tt
        empties (q ∷ ps) h = (nil_prefix (shape_val closed q) (subst (λ z. is_prefix (shape_val closed q) z ≡ true) pe (prefix_val q p h.0)), empties ps h.1)

        -- a term of the result cell's type
        as_result : (r : Ty) → Same r (Arr no_span b c) → (t : TypedTerm) → HasTerm (defs_only D) t r → HasTerm (defs_only D) t T
        as_result (Arr at b' c') e t h =
            fits D t b' c' b (then_shape p c) T (term_same (defs_only D) t (Arr at b' c') (array_of b' c') h (same_refl b', λ v. refl) (type_formed (defs_only D) t (Arr at b' c') h)) e.0
            (e.1 closed ∙ sym (then_val closed p c ∙ ap (λ z. z ++ shape_val closed c) pe)) k
        as_result _ e t h = absurd e

        at : (x : Cell typed) → HasCell (defs_only D) x (Fun no_span us (Arr no_span b c)) → Fine (λ t. HasTerm (defs_only D) t T) ⊥ (apply_atom typed_rules (x ∷ []) (term_items es) note)
        at (TFn i t) h =
            let all : EachTwo (Filled D dc) i.inputs (term_items es) = args_filled D dc i.inputs es us cs ps h.0 h.3.1.0 he (empties ps pre) in
            fine_either (λ t. HasTerm (defs_only D) t T) ⊥ (length i.inputs == length (term_items es)) (Goes (term_put typed_rules typed_rules.put_none (put_all (term_items es)) t)) Lost
            (λ z. as_result i.result h.3.1.1 _ (body_has D dc i.inputs (term_items es) t i.result all h.2))
            (λ z. unlike (length i.inputs) (length (term_items es)) z (two_length (Filled D dc) i.inputs (term_items es) all))
        at (TPrim q vs ks) h =
            fine_to (λ t. HasTerm (defs_only D) t (Arr no_span b c)) (λ t. HasTerm (defs_only D) t T) ⊥ (apply_atom typed_rules (TPrim q vs ks ∷ []) (term_items es) note)
            (λ t j. as_result (Arr no_span b c) (same_refl (Arr no_span b c)) t j) (prims q vs ks us b c es note h wf.2 ve (pairs_have es us cs ps he (empties ps pre)) n)
        at (TInt z) h = absurd h.1
        at (TBool z) h = absurd h.1
        at (TChar z) h = absurd h.1
        at (TTypeFn m t) h = absurd h.2.1
        at (TIndexFn ss t) h = absurd h.2.1
        at (TBoxed ks t q) h = absurd (box_type q (Fun no_span us (Arr no_span b c)) _ h.1 h.2.1)

        one : (xs : List (Cell typed)) → length xs ≡ 1 → Each (λ x. HasCell (defs_only D) x (Fun no_span us (Arr no_span b c))) xs → Fine (λ t. HasTerm (defs_only D) t T) ⊥ (apply_atom typed_rules xs (term_items es) note)
        one [] e h = absurd (omega arith)
        one (x ∷ y ∷ xs) e h = absurd (omega arith)
        one (x ∷ []) e h = at x h.0
