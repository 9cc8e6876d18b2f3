-- A typed term is erased alike in each context that has its index variables; so a closed one is in every context.
use Rattle.std.proofs.Common.{◌≡◌, refl, sym, ◌∙◌, ap, List, [], ◌∷◌, Option, Some, None, length}
use Rattle.std.specs.Prelude.{option_map}
use Rattle.core_syntax.specs.declared.index.Sort.{Sort}
use Rattle.core_syntax.specs.Lists.{each, EachTwo, onto}
use Rattle.core_syntax.specs.Norm.{norm_word}
use Rattle.core_syntax.specs.Prims.{array_of, prim_type}
use Rattle.core_syntax.specs.Sorts.{IsSorted}
use Rattle.core_syntax.specs.Subst.{with_types, ty_under_index, with_indices}
use Rattle.core_syntax.specs.Syntax.{Index, Num, Var, Sum, Dims, Join, Ty, Pi, Arr, Forall, Fun, no_span, Sigma, Tys, more_tys, no_tys}
use Rattle.core_syntax.specs.TermTyping.{GivenIndices, GivenTypes, PrimHas, HasTerm, TermsHave, TermArgsHave, HasCell, CellsHave}
use Rattle.core_syntax.specs.Terms.{Terms, Cell, Cells, TVar, TDef, TArray, no_cells, more_cells, TNoAtoms, TFrame, no_terms, more_terms, TNoCells, TApp, TTypeApp, TIndexApp, TUnbox, TInt, TBool, TChar, TPrim, TFn, TTypeFn, TIndexFn, TBoxed}
use Rattle.core_syntax.specs.Typed.{typed, TypedTerm, shape_of}
use Rattle.core_syntax.specs.Typing.{Context, OnArr, Takes, under_terms, under_sorts, times, under_types, defs_only}
use Rattle.core_syntax.specs.Value.{then_shape}
use Rattle.erasure.specs.Erasure.{er, er_terms, norm_in, norm_by, er_cell, er_cells}
use Rattle.reduction_laws.proofs.putting.Wider.{Extends, extends_onto}
use Rattle.reduction_laws.proofs.steps.Parts.{nowhere}

index_alike : (ss rs : List Sort) → Extends ss rs → (q : Sort) (i : Index) → IsSorted ss q i → norm_in rs i ≡ norm_in ss i
index_alike ss rs w q (Num at n) h = refl
index_alike ss rs w q (Var at k) h = ap (λ o. norm_by o (Var at k)) (w k q h ∙ sym h)
index_alike ss rs w q (Sum at is) h = refl
index_alike ss rs w q (Dims at is) h = refl
index_alike ss rs w q (Join at is) h = refl

indices_alike : (ss rs : List Sort) → Extends ss rs → (qs : List Sort) (is : List Index) → EachTwo (IsSorted ss) qs is → each (norm_in rs) is ≡ each (norm_in ss) is
indices_alike ss rs w [] [] h = refl
indices_alike ss rs w (q ∷ qs) (j ∷ is) h = λ i. index_alike ss rs w q j h.0 i ∷ indices_alike ss rs w qs is h.1 i
indices_alike ss rs w [] (j ∷ is) h = absurd h
indices_alike ss rs w (q ∷ qs) [] h = absurd h

given_alike : (Γ : Context) (rs : List Sort) → Extends Γ.sorts rs → (g : Ty) (is : List Index) (P : Ty → Type 0) → GivenIndices Γ g is P → each (norm_in rs) is ≡ each (norm_in Γ.sorts) is
given_alike Γ rs w (Pi at ss b) is P h = indices_alike Γ.sorts rs w ss is h.0
given_alike Γ rs w _ is P h = absurd h

inside : (r : Ty) (P : Ty → Type 0) (X : Type 0) → ((u : Ty) → P u → X) → OnArr r (λ t s. P t) → X
inside (Arr at a c) P X f h = f a h
inside _ P X f h = absurd h

pub given_inside : (Γ : Context) (g : Ty) (us : List Ty) (P : Ty → Type 0) (X : Type 0) → ((u : Ty) → P u → X) → GivenTypes Γ g us P → X
given_inside Γ (Forall at n b) us P X f h = inside (with_types us b) P X f h.2
given_inside Γ _ us P X f h = absurd h

prim_alike : (Γ : Context) (rs : List Sort) → Extends Γ.sorts rs → (g : Ty) (us : Option (List Ty)) (is : Option (List Index)) (t : Ty) → PrimHas Γ g us is t → option_map (each (norm_in rs)) is ≡ option_map (each (norm_in Γ.sorts)) is
prim_alike Γ rs w g us None t h = refl
prim_alike Γ rs w g None (Some is) t h = ap Some (given_alike Γ rs w g is (λ u. Takes Γ u t) h)
prim_alike Γ rs w g (Some us) (Some is) t h =
    ap Some (given_inside Γ g us (λ u. GivenIndices Γ u is (λ v. Takes Γ v t)) (each (norm_in rs) is ≡ each (norm_in Γ.sorts) is) (λ u k. given_alike Γ rs w u is (λ v. Takes Γ v t) k) h)

mutual
  pub er_wider : (Γ : Context) (rs : List Sort) → Extends Γ.sorts rs → (e : TypedTerm) (t : Ty) → HasTerm Γ e t → er rs e ≡ er Γ.sorts e
  er_wider Γ rs w (TVar k) t h = refl
  er_wider Γ rs w (TDef k) t h = refl
  er_wider Γ rs w (TArray dims no_cells) t h = absurd h
  er_wider Γ rs w (TArray dims (more_cells x xs)) t h = λ i. TArray dims (more_cells (er_cell_wider Γ rs w x h.0 h.1 i) (er_cells_wider Γ rs w xs h.0 h.2 i))
  er_wider Γ rs w (TNoAtoms dims a) t h = refl
  er_wider Γ rs w (TFrame dims no_terms n) t h = absurd h
  er_wider Γ rs w (TFrame dims (more_terms e es) n) t h = λ i. TFrame dims (more_terms (er_wider Γ rs w e (array_of h.0 h.1) h.2 i) (er_terms_wider Γ rs w es (array_of h.0 h.1) h.3 i)) tt
  er_wider Γ rs w (TNoCells c) t h = refl
  er_wider Γ rs w (TApp f es cs n) t h =
      λ i. TApp (er_wider Γ rs w f (array_of (Fun no_span h.0 h.1) h.2) h.3 i) (er_args_wider Γ rs w es h.0 cs h.4.0 h.4.1 i) (each norm_word cs) (norm_word (shape_of n))
  er_wider Γ rs w (TTypeApp e us n) t h = ap (λ z. TTypeApp z tt (norm_word (shape_of n))) (er_wider Γ rs w e (array_of (Forall no_span h.0 h.1) h.2) h.3)
  er_wider Γ rs w (TIndexApp e is n) t h = λ i. TIndexApp (er_wider Γ rs w e (array_of (Pi no_span h.0 h.1) h.2) h.3 i) (indices_alike Γ.sorts rs w h.0 is h.4 i) (norm_word (shape_of n))
  er_wider Γ rs w (TUnbox ss e b n) t h =
      λ i.
      TUnbox (length ss) (er_wider Γ rs w e (array_of (Sigma no_span ss h.0) h.1) h.2 i)
      (er_wider (under_terms (h.0 ∷ []) (under_sorts ss Γ)) (onto ss rs) (extends_onto ss Γ.sorts rs w) b (times (length ss) ty_under_index n) h.4 i) (norm_word (shape_of n))

  er_terms_wider : (Γ : Context) (rs : List Sort) → Extends Γ.sorts rs → (es : Terms typed) (t : Ty) → TermsHave Γ es t → er_terms rs es ≡ er_terms Γ.sorts es
  er_terms_wider Γ rs w no_terms t h = refl
  er_terms_wider Γ rs w (more_terms e es) t h = λ i. more_terms (er_wider Γ rs w e t h.0 i) (er_terms_wider Γ rs w es t h.1 i)

  er_args_wider : (Γ : Context) (rs : List Sort) → Extends Γ.sorts rs → (es : Terms typed) (us : Tys) (cs ps : List Index) → TermArgsHave Γ es us cs ps → er_terms rs es ≡ er_terms Γ.sorts es
  er_args_wider Γ rs w no_terms us cs ps h = refl
  er_args_wider Γ rs w (more_terms e es) (more_tys (Arr at a q) us) (c ∷ cs) (p ∷ ps) h = λ i. more_terms (er_wider Γ rs w e (array_of a (then_shape p q)) h.0.0 i) (er_args_wider Γ rs w es us cs ps h.1 i)
  er_args_wider Γ rs w (more_terms e es) (more_tys _ us) (c ∷ cs) (p ∷ ps) h = absurd h.0
  er_args_wider Γ rs w (more_terms e es) no_tys cs ps h = absurd h
  er_args_wider Γ rs w (more_terms e es) (more_tys u us) [] ps h = absurd h
  er_args_wider Γ rs w (more_terms e es) (more_tys u us) (c ∷ cs) [] h = absurd h

  er_cell_wider : (Γ : Context) (rs : List Sort) → Extends Γ.sorts rs → (x : Cell typed) (t : Ty) → HasCell Γ x t → er_cell rs x ≡ er_cell Γ.sorts x
  er_cell_wider Γ rs w (TInt z) t h = refl
  er_cell_wider Γ rs w (TBool z) t h = refl
  er_cell_wider Γ rs w (TChar z) t h = refl
  er_cell_wider Γ rs w (TPrim q us is) t h = ap (TPrim q (option_map (λ u. tt {0}) us)) (prim_alike Γ rs w (prim_type q) us is t h)
  er_cell_wider Γ rs w (TFn j e) t h = ap (TFn (length j.inputs)) (er_wider (under_terms j.inputs Γ) rs w e j.result h.2)
  er_cell_wider Γ rs w (TTypeFn n e) t h = ap (TTypeFn tt) (er_wider (under_types n Γ) rs w e h.0 h.1)
  er_cell_wider Γ rs w (TIndexFn ss e) t h = ap (TIndexFn (length ss)) (er_wider (under_sorts ss Γ) (onto ss rs) (extends_onto ss Γ.sorts rs w) e h.0 h.1)
  er_cell_wider Γ rs w (TBoxed is e (Sigma at ss b)) t h = λ i. TBoxed (indices_alike Γ.sorts rs w ss is h.1.0 i) (er_wider Γ rs w e (with_indices is b) h.1.1 i) tt
  er_cell_wider Γ rs w (TBoxed is e _) t h = absurd h.1

  er_cells_wider : (Γ : Context) (rs : List Sort) → Extends Γ.sorts rs → (xs : Cells typed) (t : Ty) → CellsHave Γ xs t → er_cells rs xs ≡ er_cells Γ.sorts xs
  er_cells_wider Γ rs w no_cells t h = refl
  er_cells_wider Γ rs w (more_cells x xs) t h = λ i. more_cells (er_cell_wider Γ rs w x t h.0 i) (er_cells_wider Γ rs w xs t h.1 i)

-- a closed term is erased alike in each context
pub er_closed : (D : List Ty) (rs : List Sort) (e : TypedTerm) (t : Ty) → HasTerm (defs_only D) e t → er rs e ≡ er [] e
er_closed D rs e t h = er_wider (defs_only D) rs (λ k s at. absurd (nowhere k s at)) e t h
