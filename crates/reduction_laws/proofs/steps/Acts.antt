-- What a `t-app`, an `i-app` and an `unbox` do at one atom keeps the type of the result's cell.
use Rattle.std.proofs.Common.{◌≡◌, refl, sym, ◌∙◌, subst, ℕ, List, [], ◌∷◌, length, Option, Some, None}
use Rattle.core_syntax.specs.declared.index.Sort.{Sort}
use Rattle.core_syntax.specs.declared.primitive.Primitive.{Primitive}
use Rattle.core_syntax.specs.declared.errors.TrapKind.TheVariants as trap
use Rattle.core_syntax.specs.Syntax.{Index, Ty, Fun, Forall, Pi, Sigma, Arr, no_span}
use Rattle.core_syntax.specs.Lists.{onto, each, Each, EachTwo}
use Rattle.core_syntax.specs.Sorts.{IsSorted}
use Rattle.core_syntax.specs.Kinds.{IsWellFormed}
use Rattle.core_syntax.specs.TypeEqual.{Same}
use Rattle.core_syntax.specs.Subst.{kept, put_all, indices_under, ty_put, fates_under_index, ty_under_index, with_types, with_indices}
use Rattle.core_syntax.specs.Prims.{prim_type, scalar}
use Rattle.core_syntax.specs.Typing.{times, under_sorts, under_terms, OnSigma, IsAtomType, defs_only}
use Rattle.core_syntax.specs.Terms.{Cell, TInt, TBool, TChar, TPrim, TFn, TTypeFn, TIndexFn, TBoxed, scalar_of}
use Rattle.core_syntax.specs.Move.{Trapped}
use Rattle.core_syntax.specs.Fits.{all_fit}
use Rattle.core_syntax.specs.Rules.{type_beta, index_beta, index_beta_at, unbox_one}
use Rattle.core_syntax.specs.Typed.{typed, typed_rules, TypedTerm, closed_value}
use Rattle.core_syntax.specs.TermTyping.{PrimHas, HasTerm, HasCell}
use Rattle.core_syntax.proofs.Equality.{same_refl, same_sym, same_trans, same-put}
use Rattle.reduction_laws.proofs.putting.TermSubst.{term_same}
use Rattle.reduction_laws.proofs.putting.ClosedValues.{values_put, values_sorted, with_values}
use Rattle.reduction_laws.proofs.steps.Bodies.{DefsClosed, types_body, indices_body, unboxed_has}
use Rattle.reduction_laws.proofs.steps.Moves.{Fine, fine_either}
use Rattle.reduction_laws.proofs.primitives.Forms.{PrimForm, plain, of_types, of_indices, of_both, prim_form}

-- no box has a type of another form
pub box_type : (w t : Ty) (P : List Sort → Ty → Type 0) → OnSigma w P → Same w t → OnSigma t (λ ss b. Unit {0})
box_type (Sigma at ss b) (Sigma at' rs c) P h e = tt
box_type (Sigma at ss b) _ P h e = absurd e
box_type _ t P h e = absurd h

module _ (D : List Ty) (dc : DefsClosed D) where
  abbrev Has : Ty → TypedTerm → Type 0
  Has T t = HasTerm (defs_only D) t T

  -- a scalar of an atom
  scalar_has : (x : Cell typed) (t F : Ty) → IsWellFormed 0 [] F → Same (scalar t) F → ((b : Ty) → IsWellFormed 0 [] b → Same t b → HasCell (defs_only D) x b) → Has F (scalar_of x)
  scalar_has x t (Arr at b c) w e h = (b, h b w.2 e.0, tt, (w, (same_refl b, e.1)), refl)
  scalar_has x t _ w e h = absurd e

  -- ---- a `t-app`

  module _ (W : Type 0) (us : List Ty) (m : ℕ) (bb : Ty) (l : length us ≡ m) (at_us : Each (IsAtomType (defs_only D)) us) (w : IsWellFormed 0 [] (with_types us bb)) where
    prim_types : (q : Primitive) → PrimForm q → (vs : Option (List Ty)) (is : Option (List Index)) → PrimHas (defs_only D) (prim_type q) vs is (Forall no_span m bb) → Fine (Has (with_types us bb)) W (type_beta typed_rules us (TPrim q vs is ∷ []))
    prim_types q (of_types n ws r e _ _) None None h =
        let k = subst (λ g. PrimHas (defs_only D) g None None (Forall no_span m bb)) e h in
        scalar_has (TPrim q (Some us) None) (with_types us (Fun no_span ws r)) (with_types us bb) w (same-put kept (put_all us) (scalar (Fun no_span ws r)) bb k.1.1)
        (λ b wb s. subst (λ g. PrimHas (defs_only D) g (Some us) None b) (sym e) (l ∙ sym k.1.0, at_us, (wb, s)))
    prim_types q (of_both n ss ws r e _ _) None None h =
        let k = subst (λ g. PrimHas (defs_only D) g None None (Forall no_span m bb)) e h in
        scalar_has (TPrim q (Some us) None) (with_types us (Pi no_span ss (scalar (Fun no_span ws r)))) (with_types us bb) w (same-put kept (put_all us) (scalar (Pi no_span ss (scalar (Fun no_span ws r)))) bb k.1.1)
        (λ b wb s. subst (λ g. PrimHas (defs_only D) g (Some us) None b) (sym e) (l ∙ sym k.1.0, at_us, (wb, s)))
    prim_types q (plain ws r e _ _) None None h = absurd (subst (λ g. PrimHas (defs_only D) g None None (Forall no_span m bb)) e h).1
    prim_types q (of_indices ss ws r e _ _) None None h = absurd (subst (λ g. PrimHas (defs_only D) g None None (Forall no_span m bb)) e h).1
    prim_types q (plain ws r e _ _) (Some vs) None h = absurd (subst (λ g. PrimHas (defs_only D) g (Some vs) None (Forall no_span m bb)) e h)
    prim_types q (of_types n ws r e _ _) (Some vs) None h = absurd (subst (λ g. PrimHas (defs_only D) g (Some vs) None (Forall no_span m bb)) e h).2.1
    prim_types q (of_indices ss ws r e _ _) (Some vs) None h = absurd (subst (λ g. PrimHas (defs_only D) g (Some vs) None (Forall no_span m bb)) e h)
    prim_types q (of_both n ss ws r e _ _) (Some vs) None h = absurd (subst (λ g. PrimHas (defs_only D) g (Some vs) None (Forall no_span m bb)) e h).2.1
    prim_types q (plain ws r e _ _) None (Some is) h = absurd (subst (λ g. PrimHas (defs_only D) g None (Some is) (Forall no_span m bb)) e h)
    prim_types q (of_types n ws r e _ _) None (Some is) h = absurd (subst (λ g. PrimHas (defs_only D) g None (Some is) (Forall no_span m bb)) e h)
    prim_types q (of_indices ss ws r e _ _) None (Some is) h = absurd (subst (λ g. PrimHas (defs_only D) g None (Some is) (Forall no_span m bb)) e h).1.1
    prim_types q (of_both n ss ws r e _ _) None (Some is) h = absurd (subst (λ g. PrimHas (defs_only D) g None (Some is) (Forall no_span m bb)) e h)
    prim_types q (plain ws r e _ _) (Some vs) (Some is) h = absurd (subst (λ g. PrimHas (defs_only D) g (Some vs) (Some is) (Forall no_span m bb)) e h)
    prim_types q (of_types n ws r e _ _) (Some vs) (Some is) h = absurd (subst (λ g. PrimHas (defs_only D) g (Some vs) (Some is) (Forall no_span m bb)) e h).2
    prim_types q (of_indices ss ws r e _ _) (Some vs) (Some is) h = absurd (subst (λ g. PrimHas (defs_only D) g (Some vs) (Some is) (Forall no_span m bb)) e h)
    prim_types q (of_both n ss ws r e _ _) (Some vs) (Some is) h = absurd (subst (λ g. PrimHas (defs_only D) g (Some vs) (Some is) (Forall no_span m bb)) e h).2.1.1

    pub type_act : (x : Cell typed) → HasCell (defs_only D) x (Forall no_span m bb) → Fine (Has (with_types us bb)) W (type_beta typed_rules us (x ∷ []))
    type_act (TTypeFn n t) h =
        term_same (defs_only D) _ (with_types us h.0) (with_types us bb) (types_body D dc n us t h.0 (l ∙ sym h.2.1.0) at_us h.1) (same-put kept (put_all us) h.0 bb h.2.1.1) w
    type_act (TPrim q vs is) h = prim_types q (prim_form q) vs is h
    type_act (TInt z) h = absurd h.1
    type_act (TBool z) h = absurd h.1
    type_act (TChar z) h = absurd h.1
    type_act (TFn i t) h = absurd h.3.1
    type_act (TIndexFn ss t) h = absurd h.2.1
    type_act (TBoxed is t q) h = absurd (box_type q (Forall no_span m bb) _ h.1 h.2.1)

  -- ---- an `i-app`

  module _ (W : Type 0) (is : List Index) (rs : List Sort) (bb : Ty) (at_is : EachTwo (IsSorted []) rs is) (w : IsWellFormed 0 [] (with_indices is bb)) where
    -- a body with the values of the indices in place
    placed : (t : Ty) → Same t bb → Same (with_indices (values_put is) t) (with_indices is bb)
    placed t e =
        same_trans (with_indices (values_put is) t) (with_indices (values_put is) bb) (with_indices is bb) (same-put (put_all (values_put is)) kept t bb e)
        (same_sym (with_indices is bb) (with_indices (values_put is) bb) (with_values rs is bb at_is))

    prim_indices : (q : Primitive) → PrimForm q → (vs : Option (List Ty)) (ks : Option (List Index)) → PrimHas (defs_only D) (prim_type q) vs ks (Pi no_span rs bb)
        → Fine (Has (with_indices is bb)) W (index_beta_at typed_rules (each closed_value is) (TPrim q vs ks ∷ []))
    prim_indices q (of_indices ss ws r e _ _) None None h =
        let k = subst (λ g. PrimHas (defs_only D) g None None (Pi no_span rs bb)) e h in
        scalar_has (TPrim q None (Some (values_put is))) (with_indices (values_put is) (Fun no_span ws r)) (with_indices is bb) w (placed (scalar (Fun no_span ws r)) k.1.1)
        (λ b wb s. subst (λ g. PrimHas (defs_only D) g None (Some (values_put is)) b) (sym e) (subst (λ ss. EachTwo (IsSorted []) ss (values_put is)) (sym k.1.0) (values_sorted rs is at_is), (wb, s)))
    prim_indices q (of_both n ss ws r e _ _) (Some vs) None h =
        let k = subst (λ g. PrimHas (defs_only D) g (Some vs) None (Pi no_span rs bb)) e h in
        let t = ty_put (indices_under (length ss) kept) (fates_under_index (length ss) (put_all vs)) (Fun no_span ws r) in
        scalar_has (TPrim q (Some vs) (Some (values_put is))) (with_indices (values_put is) t) (with_indices is bb) w (placed (scalar t) k.2.1.1)
        (λ b wb s. subst (λ g. PrimHas (defs_only D) g (Some vs) (Some (values_put is)) b) (sym e) (k.0, k.1, (subst (λ ss. EachTwo (IsSorted []) ss (values_put is)) (sym k.2.1.0) (values_sorted rs is at_is), (wb, s))))
    prim_indices q (plain ws r e _ _) None None h = absurd (subst (λ g. PrimHas (defs_only D) g None None (Pi no_span rs bb)) e h).1
    prim_indices q (of_types n ws r e _ _) None None h = absurd (subst (λ g. PrimHas (defs_only D) g None None (Pi no_span rs bb)) e h).1
    prim_indices q (of_both n ss ws r e _ _) None None h = absurd (subst (λ g. PrimHas (defs_only D) g None None (Pi no_span rs bb)) e h).1
    prim_indices q (plain ws r e _ _) (Some vs) None h = absurd (subst (λ g. PrimHas (defs_only D) g (Some vs) None (Pi no_span rs bb)) e h)
    prim_indices q (of_types n ws r e _ _) (Some vs) None h = absurd (subst (λ g. PrimHas (defs_only D) g (Some vs) None (Pi no_span rs bb)) e h).2.1
    prim_indices q (of_indices ss ws r e _ _) (Some vs) None h = absurd (subst (λ g. PrimHas (defs_only D) g (Some vs) None (Pi no_span rs bb)) e h)
    prim_indices q (plain ws r e _ _) None (Some ks) h = absurd (subst (λ g. PrimHas (defs_only D) g None (Some ks) (Pi no_span rs bb)) e h)
    prim_indices q (of_types n ws r e _ _) None (Some ks) h = absurd (subst (λ g. PrimHas (defs_only D) g None (Some ks) (Pi no_span rs bb)) e h)
    prim_indices q (of_indices ss ws r e _ _) None (Some ks) h = absurd (subst (λ g. PrimHas (defs_only D) g None (Some ks) (Pi no_span rs bb)) e h).1.1
    prim_indices q (of_both n ss ws r e _ _) None (Some ks) h = absurd (subst (λ g. PrimHas (defs_only D) g None (Some ks) (Pi no_span rs bb)) e h)
    prim_indices q (plain ws r e _ _) (Some vs) (Some ks) h = absurd (subst (λ g. PrimHas (defs_only D) g (Some vs) (Some ks) (Pi no_span rs bb)) e h)
    prim_indices q (of_types n ws r e _ _) (Some vs) (Some ks) h = absurd (subst (λ g. PrimHas (defs_only D) g (Some vs) (Some ks) (Pi no_span rs bb)) e h).2
    prim_indices q (of_indices ss ws r e _ _) (Some vs) (Some ks) h = absurd (subst (λ g. PrimHas (defs_only D) g (Some vs) (Some ks) (Pi no_span rs bb)) e h)
    prim_indices q (of_both n ss ws r e _ _) (Some vs) (Some ks) h = absurd (subst (λ g. PrimHas (defs_only D) g (Some vs) (Some ks) (Pi no_span rs bb)) e h).2.1.1

    index_act_at : (x : Cell typed) → HasCell (defs_only D) x (Pi no_span rs bb) → Fine (Has (with_indices is bb)) W (index_beta_at typed_rules (each closed_value is) (x ∷ []))
    index_act_at (TIndexFn ss t) h =
        term_same (defs_only D) _ (with_indices (values_put is) h.0) (with_indices is bb)
        (indices_body D dc ss (values_put is) t h.0 (subst (λ ss. EachTwo (IsSorted []) ss (values_put is)) (sym h.2.1.0) (values_sorted rs is at_is)) h.1) (placed h.0 h.2.1.1) w
    index_act_at (TPrim q vs ks) h = prim_indices q (prim_form q) vs ks h
    index_act_at (TInt z) h = absurd h.1
    index_act_at (TBool z) h = absurd h.1
    index_act_at (TChar z) h = absurd h.1
    index_act_at (TFn i t) h = absurd h.3.1
    index_act_at (TTypeFn n t) h = absurd h.2.1
    index_act_at (TBoxed ks t q) h = absurd (box_type q (Pi no_span rs bb) _ h.1 h.2.1)

    pub index_act : (x : Cell typed) → HasCell (defs_only D) x (Pi no_span rs bb) → Fine (Has (with_indices is bb)) W (index_beta typed_rules is (x ∷ []))
    index_act x h = fine_either (Has (with_indices is bb)) W (all_fit (each closed_value is)) (index_beta_at typed_rules (each closed_value is) (x ∷ [])) (Trapped trap.Size) (λ t. index_act_at x h) (λ t. tt)

  -- ---- an `unbox`

  no_prim : (q : Primitive) → PrimForm q → (vs : Option (List Ty)) (ks : Option (List Index)) (rs : List Sort) (c : Ty) → PrimHas (defs_only D) (prim_type q) vs ks (Sigma no_span rs c) → ⊥
  no_prim q (plain ws r e _ _) None None rs c h = (subst (λ g. PrimHas (defs_only D) g None None (Sigma no_span rs c)) e h).1
  no_prim q (of_types n ws r e _ _) None None rs c h = (subst (λ g. PrimHas (defs_only D) g None None (Sigma no_span rs c)) e h).1
  no_prim q (of_indices ss ws r e _ _) None None rs c h = (subst (λ g. PrimHas (defs_only D) g None None (Sigma no_span rs c)) e h).1
  no_prim q (of_both n ss ws r e _ _) None None rs c h = (subst (λ g. PrimHas (defs_only D) g None None (Sigma no_span rs c)) e h).1
  no_prim q (plain ws r e _ _) (Some vs) None rs c h = subst (λ g. PrimHas (defs_only D) g (Some vs) None (Sigma no_span rs c)) e h
  no_prim q (of_types n ws r e _ _) (Some vs) None rs c h = (subst (λ g. PrimHas (defs_only D) g (Some vs) None (Sigma no_span rs c)) e h).2.1
  no_prim q (of_indices ss ws r e _ _) (Some vs) None rs c h = subst (λ g. PrimHas (defs_only D) g (Some vs) None (Sigma no_span rs c)) e h
  no_prim q (of_both n ss ws r e _ _) (Some vs) None rs c h = (subst (λ g. PrimHas (defs_only D) g (Some vs) None (Sigma no_span rs c)) e h).2.1
  no_prim q (plain ws r e _ _) None (Some ks) rs c h = subst (λ g. PrimHas (defs_only D) g None (Some ks) (Sigma no_span rs c)) e h
  no_prim q (of_types n ws r e _ _) None (Some ks) rs c h = subst (λ g. PrimHas (defs_only D) g None (Some ks) (Sigma no_span rs c)) e h
  no_prim q (of_indices ss ws r e _ _) None (Some ks) rs c h = (subst (λ g. PrimHas (defs_only D) g None (Some ks) (Sigma no_span rs c)) e h).1.1
  no_prim q (of_both n ss ws r e _ _) None (Some ks) rs c h = subst (λ g. PrimHas (defs_only D) g None (Some ks) (Sigma no_span rs c)) e h
  no_prim q (plain ws r e _ _) (Some vs) (Some ks) rs c h = subst (λ g. PrimHas (defs_only D) g (Some vs) (Some ks) (Sigma no_span rs c)) e h
  no_prim q (of_types n ws r e _ _) (Some vs) (Some ks) rs c h = (subst (λ g. PrimHas (defs_only D) g (Some vs) (Some ks) (Sigma no_span rs c)) e h).2
  no_prim q (of_indices ss ws r e _ _) (Some vs) (Some ks) rs c h = subst (λ g. PrimHas (defs_only D) g (Some vs) (Some ks) (Sigma no_span rs c)) e h
  no_prim q (of_both n ss ws r e _ _) (Some vs) (Some ks) rs c h = (subst (λ g. PrimHas (defs_only D) g (Some vs) (Some ks) (Sigma no_span rs c)) e h).2.1.1

  pub unbox_act : (W : Type 0) (ss : List Sort) (c note : Ty) (e : TypedTerm) → IsWellFormed 0 (onto ss []) c → IsWellFormed 0 [] note → HasTerm (under_terms (c ∷ []) (under_sorts ss (defs_only D))) e (times (length ss) ty_under_index note)
      → (x : Cell typed) → HasCell (defs_only D) x (Sigma no_span ss c) → Fine (Has note) W (unbox_one typed_rules e (x ∷ []))
  unbox_act W ss c note e wc wn he (TBoxed is t (Sigma at rs b)) h =
      unboxed_has D dc ss is t e b c note (subst (λ ss. EachTwo (IsSorted []) ss is) h.2.1.0 h.1.0) h.1.1 h.2.1.1 wc wn he
  unbox_act W ss c note e wc wn he (TBoxed is t _) h = absurd h.1
  unbox_act W ss c note e wc wn he (TPrim q vs ks) h = absurd (no_prim q (prim_form q) vs ks ss c h)
  unbox_act W ss c note e wc wn he (TInt z) h = absurd h.1
  unbox_act W ss c note e wc wn he (TBool z) h = absurd h.1
  unbox_act W ss c note e wc wn he (TChar z) h = absurd h.1
  unbox_act W ss c note e wc wn he (TFn i t) h = absurd h.3.1
  unbox_act W ss c note e wc wn he (TTypeFn n t) h = absurd h.2.1
  unbox_act W ss c note e wc wn he (TIndexFn rs t) h = absurd h.2.1
