-- A typed term keeps its types, substituted, where index values, types and closed terms are put in the place of its variables.
use Rattle.std.proofs.Common.{◌≡◌, sym, ◌∙◌, ap, subst, ℕ, zero, suc, List, [], ◌∷◌, length, Option, Some, None}
use Rattle.std.specs.Prelude.{slice_get, option_map}
use Rattle.core_syntax.specs.declared.index.Sort.{Sort}
use Rattle.core_syntax.specs.Syntax.{Index, Ty, Fun, Forall, Pi, Sigma, Arr, Tys, no_tys, more_tys, no_span, ty_list}
use Rattle.core_syntax.specs.Lists.{onto, each}
use Rattle.core_syntax.specs.Sorts.{IsSorted}
use Rattle.core_syntax.specs.Kinds.{IsWellFormed}
use Rattle.core_syntax.specs.Value.{then_shape}
use Rattle.core_syntax.specs.Subst.{Fate, Keep, Put, Fates, under, under_n, in_place, indices_under, ty_put, tys_put, ty_under_type, ty_under_index, fates_under_index, with_types, with_indices}
use Rattle.core_syntax.specs.Prims.{prim_type, array_of, int_ty, bool_ty, char_ty}
use Rattle.core_syntax.specs.Typing.{Context, times, under_types, under_sorts, under_terms, OnArr, Takes, defs_only}
use Rattle.core_syntax.specs.Terms.{TVar, TDef, TArray, TNoAtoms, TFrame, TNoCells, TApp, TTypeApp, TIndexApp, TUnbox, Terms, no_terms, more_terms, Cell, TInt, TBool, TChar, TPrim, TFn, TTypeFn, TIndexFn, TBoxed, Cells, no_cells, more_cells}
use Rattle.core_syntax.specs.TermPut.{term_put, terms_put, cell_put, cells_put, terms_under}
use Rattle.core_syntax.specs.Typed.{typed, typed_rules, TypedTerm, TypedPuts, put_in_index, put_in_ty}
use Rattle.core_syntax.specs.TermTyping.{Notes, PrimHas, HasTerm, TermsHave, TermArgsHave, HasCell, CellsHave}
use Rattle.reduction_laws.proofs.putting.Wider.{has_wider, from_each}
use Rattle.reduction_laws.proofs.putting.TermSubst.{FateHas, fate_moved, fate_each, under_inside, below, term_same, closed_under_index, closed_under_type, cell_count-put, term_count-put}
use Rattle.reduction_laws.proofs.putting.Binders.{length-each, put_times_index, put_times_type, closed_put}
use Rattle.reduction_laws.proofs.putting.Formed.{FatesSorted, FatesFormed, sorted_onto, formed_under_n, formed_onto}
use Rattle.reduction_laws.proofs.putting.Rules.{ty_list_put, two_length, each_map, put_wf, put_takes, put_noted, put_atomic, put_equal, put_principal, put_concluded, put_sorted_all, put_atomic_all, takes_numbers, takes_framed, concluded_framed, types_placed, indices_placed, prim_put, prim_type_put}

-- the variables with these types are kept with their types substituted, or closed terms of those types are put
abbrev TermsPut : List Ty → (Ty → Ty) → Fates TypedTerm → List Ty → List Ty → Type 0
TermsPut defs f τ us ts = (k : ℕ) (t : Ty) → slice_get us k ≡ Some t → FateHas defs ts (τ k) (f t)

-- what is put in the place of the variables of a context, where the terms stand in another
pub record Putting (Γ Δ : Context) (σ : TypedPuts) (τ : Fates TypedTerm) : Type 0 where
  pub defs : (k : ℕ) (u : Ty) → slice_get Γ.defs k ≡ Some u → (slice_get Δ.defs k ≡ Some u) × IsWellFormed 0 [] u
  pub sorts : FatesSorted Γ.sorts Δ.sorts σ.indices
  pub types : FatesFormed Γ.types Δ.types Δ.sorts σ.types
  pub terms : TermsPut Δ.defs (put_in_ty σ) τ Γ.terms Δ.terms

-- ---- under binders

puts_each : (defs : List Ty) (f g h : Ty → Ty) (τ : Fates TypedTerm) (us ts : List Ty) → ((t : Ty) → g (h t) ≡ h (f t)) → ((t : Ty) → IsWellFormed 0 [] t → h t ≡ t)
    → TermsPut defs f τ us ts → TermsPut defs g τ (each h us) (each h ts)
puts_each defs f g h τ us ts e c w k t at =
    let from' = from_each h us k t at in
    subst (λ u. FateHas defs (each h ts) (τ k) (g u)) from'.2 (subst (λ u. FateHas defs (each h ts) (τ k) u) (sym (e from'.0)) (fate_each defs ts h c (f from'.0) (τ k) (w k from'.0 from'.1)))

puts_cons : (defs : List Ty) (f : Ty → Ty) (τ : Fates TypedTerm) (us ts : List Ty) (w : Ty) → TermsPut defs f τ us ts → TermsPut defs f (under (λ a. a) τ) (w ∷ us) (f w ∷ ts)
puts_cons defs f τ us ts w h zero t e = ap (λ o. one o) e
  where
    one : Option Ty → Option Ty
    one None = None
    one (Some u) = Some (f u)
puts_cons defs f τ us ts w h (suc k) t e = fate_moved defs ts (f w) (f t) (τ k) (h k t e)

puts_onto : (defs : List Ty) (f : Ty → Ty) (ws : List Ty) (τ : Fates TypedTerm) (us ts : List Ty) → TermsPut defs f τ us ts → TermsPut defs f (terms_under (length ws) τ) (onto ws us) (onto (each f ws) ts)
puts_onto defs f [] τ us ts h = h
puts_onto defs f (w ∷ ws) τ us ts h =
    subst (λ τ. TermsPut defs f τ (onto ws (w ∷ us)) (onto (each f ws) (f w ∷ ts))) (under_inside (length ws) (λ a. a) τ) (puts_onto defs f ws (under (λ a. a) τ) (w ∷ us) (f w ∷ ts) (puts_cons defs f τ us ts w h))

putting_types : (n : ℕ) (Γ Δ : Context) (σ : TypedPuts) (τ : Fates TypedTerm) → Putting Γ Δ σ τ → Putting (under_types n Γ) (under_types n Δ) (typed_rules.under_count n σ) τ
putting_types n Γ Δ σ τ p =
    record {
      defs = p.defs;
      sorts = p.sorts;
      types = formed_under_n n Γ.types Δ.types Δ.sorts σ.types p.types;
      terms = puts_each Δ.defs (put_in_ty σ) (put_in_ty (typed_rules.under_count n σ)) (times n ty_under_type) τ Γ.terms Δ.terms (put_times_type σ.indices σ.types n) (closed_under_type n) p.terms;
    }

putting_sorts : (ss : List Sort) (Γ Δ : Context) (σ : TypedPuts) (τ : Fates TypedTerm) → Putting Γ Δ σ τ → Putting (under_sorts ss Γ) (under_sorts ss Δ) (typed_rules.under_sorts ss σ) τ
putting_sorts ss Γ Δ σ τ p =
    record {
      defs = p.defs;
      sorts = sorted_onto ss Γ.sorts Δ.sorts σ.indices p.sorts;
      types = formed_onto ss Γ.types Δ.types Δ.sorts σ.types p.types;
      terms = puts_each Δ.defs (put_in_ty σ) (put_in_ty (typed_rules.under_sorts ss σ)) (times (length ss) ty_under_index) τ Γ.terms Δ.terms (put_times_index σ.indices σ.types (length ss)) (closed_under_index (length ss)) p.terms;
    }

putting_terms : (ws : List Ty) (Γ Δ : Context) (σ : TypedPuts) (τ : Fates TypedTerm) → Putting Γ Δ σ τ → Putting (under_terms ws Γ) (under_terms (each (put_in_ty σ) ws) Δ) σ (terms_under (length ws) τ)
putting_terms ws Γ Δ σ τ p = record { defs = p.defs; sorts = p.sorts; types = p.types; terms = puts_onto Δ.defs (put_in_ty σ) ws τ Γ.terms Δ.terms p.terms }

-- ---- variables

variable_put : (Δ : Context) (u t : Ty) (f : Fate TypedTerm) → FateHas Δ.defs Δ.terms f u → Takes Δ u t → HasTerm Δ (in_place TVar f) t
variable_put Δ u t (Keep k) h e = (u, h, e)
variable_put Δ u t (Put v) h e = term_same Δ v u t (has_wider (defs_only Δ.defs) Δ (below Δ) v u h.1) e.1 e.0

-- ---- terms

mutual
  pub has_puts : (Γ Δ : Context) (σ : TypedPuts) (τ : Fates TypedTerm) → Putting Γ Δ σ τ → (e : TypedTerm) (t : Ty) → HasTerm Γ e t → HasTerm Δ (term_put typed_rules σ τ e) (put_in_ty σ t)
  has_puts Γ Δ σ τ p (TVar k) t h = variable_put Δ (put_in_ty σ h.0) (put_in_ty σ t) (τ k) (p.terms k h.0 h.1) (put_takes Γ Δ σ p.sorts p.types h.0 t h.2)
  has_puts Γ Δ σ τ p (TDef k) t h =
      let d = p.defs k h.0 h.1 in
      (h.0, d.0, subst (λ u. Takes Δ u (put_in_ty σ t)) (closed_put σ.indices σ.types h.0 d.1) (put_takes Γ Δ σ p.sorts p.types h.0 t h.2))
  has_puts Γ Δ σ τ p (TArray dims no_cells) t h = absurd h
  has_puts Γ Δ σ τ p (TArray dims (more_cells x xs)) t h = (
    put_in_ty σ h.0,
    cell_has_puts Γ Δ σ τ p x h.0 h.1,
    cells_have_puts Γ Δ σ τ p xs h.0 h.2,
    takes_numbers Γ Δ σ p.sorts p.types h.0 dims t h.3,
    ap suc (cell_count-put σ τ xs) ∙ h.4,
  )
  has_puts Γ Δ σ τ p (TNoAtoms dims a) t h = (put_atomic Γ Δ σ p.sorts p.types a h.0, takes_numbers Γ Δ σ p.sorts p.types a dims t h.1, h.2)
  has_puts Γ Δ σ τ p (TFrame dims no_terms note) t h = absurd h
  has_puts Γ Δ σ τ p (TFrame dims (more_terms e es) note) t h = (
    put_in_ty σ h.0,
    put_in_index σ h.1,
    has_puts Γ Δ σ τ p e (array_of h.0 h.1) h.2,
    all_have_puts Γ Δ σ τ p es (array_of h.0 h.1) h.3,
    put_noted Γ Δ σ p.sorts p.types (array_of h.0 h.1) note h.4,
    takes_framed Γ Δ σ p.sorts p.types h.0 dims h.1 t h.5,
    ap suc (term_count-put σ τ es) ∙ h.6,
  )
  has_puts Γ Δ σ τ p (TNoCells c) t h = (put_wf Γ Δ σ p.sorts p.types c.cell h.0, concluded_framed Γ Δ σ p.sorts p.types c.cell c.dims t h.1, h.2)
  has_puts Γ Δ σ τ p (TApp g es cs note) t h = (
    tys_put σ.indices σ.types h.0,
    put_in_ty σ h.1,
    put_in_index σ h.2,
    has_puts Γ Δ σ τ p g (array_of (Fun no_span h.0 h.1) h.2) h.3,
    (
      each (put_in_index σ) h.4.0,
      args_have_puts Γ Δ σ τ p es h.0 cs h.4.0 h.4.1,
      put_noted Γ Δ σ p.sorts p.types h.1 note h.4.2,
      (put_in_index σ h.4.3.0, put_principal Γ Δ σ p.sorts p.types (h.2 ∷ h.4.0) h.4.3.0 h.4.3.1, put_concluded Γ Δ σ p.sorts p.types h.1 h.4.3.0 t h.4.3.2),
    ),
  )
  has_puts Γ Δ σ τ p (TTypeApp e us note) t h =
      let b = ty_put σ.indices (under_n h.0 ty_under_type σ.types) h.1 in
      let same = types_placed σ us h.0 h.1 h.4 in (
        h.0,
        b,
        put_in_index σ h.2,
        has_puts Γ Δ σ τ p e (array_of (Forall no_span h.0 h.1) h.2) h.3,
        length-each (put_in_ty σ) us ∙ h.4,
        put_atomic_all Γ Δ σ p.sorts p.types us h.5,
        subst (λ w. Notes Δ w (put_in_ty σ note)) same (put_noted Γ Δ σ p.sorts p.types (with_types us h.1) note h.6),
        subst (λ w. OnArr w (λ a c. Takes Δ (array_of a (then_shape (put_in_index σ h.2) c)) (put_in_ty σ t))) same (put_concluded Γ Δ σ p.sorts p.types (with_types us h.1) h.2 t h.7),
      )
  has_puts Γ Δ σ τ p (TIndexApp e is note) t h =
      let b = ty_put (indices_under (length h.0) σ.indices) (fates_under_index (length h.0) σ.types) h.1 in
      let same = indices_placed σ is (length h.0) h.1 (two_length (IsSorted Γ.sorts) h.0 is h.4) in (
        h.0,
        b,
        put_in_index σ h.2,
        has_puts Γ Δ σ τ p e (array_of (Pi no_span h.0 h.1) h.2) h.3,
        put_sorted_all Γ Δ σ p.sorts p.types h.0 is h.4,
        subst (λ w. Notes Δ w (put_in_ty σ note)) same (put_noted Γ Δ σ p.sorts p.types (with_indices is h.1) note h.5),
        subst (λ w. OnArr w (λ a c. Takes Δ (array_of a (then_shape (put_in_index σ h.2) c)) (put_in_ty σ t))) same (put_concluded Γ Δ σ p.sorts p.types (with_indices is h.1) h.2 t h.6),
      )
  has_puts Γ Δ σ τ p (TUnbox ss e b note) t h =
      let σ' = typed_rules.under_sorts ss σ in (
        put_in_ty σ' h.0,
        put_in_index σ h.1,
        has_puts Γ Δ σ τ p e (array_of (Sigma no_span ss h.0) h.1) h.2,
        put_wf Γ Δ σ p.sorts p.types note h.3,
        subst (λ u. HasTerm (under_terms (put_in_ty σ' h.0 ∷ []) (under_sorts ss Δ)) (term_put typed_rules σ' (terms_under 1 τ) b) u) (put_times_index σ.indices σ.types (length ss) note)
            (has_puts (under_terms (h.0 ∷ []) (under_sorts ss Γ)) (under_terms (put_in_ty σ' h.0 ∷ []) (under_sorts ss Δ)) σ' (terms_under 1 τ)
            (putting_terms (h.0 ∷ []) (under_sorts ss Γ) (under_sorts ss Δ) σ' τ (putting_sorts ss Γ Δ σ τ p)) b (times (length ss) ty_under_index note) h.4),
        put_concluded Γ Δ σ p.sorts p.types note h.1 t h.5,
      )

  all_have_puts : (Γ Δ : Context) (σ : TypedPuts) (τ : Fates TypedTerm) → Putting Γ Δ σ τ → (es : Terms typed) (t : Ty) → TermsHave Γ es t → TermsHave Δ (terms_put typed_rules σ τ es) (put_in_ty σ t)
  all_have_puts Γ Δ σ τ p no_terms t h = tt
  all_have_puts Γ Δ σ τ p (more_terms e es) t h = (has_puts Γ Δ σ τ p e t h.0, all_have_puts Γ Δ σ τ p es t h.1)

  args_have_puts : (Γ Δ : Context) (σ : TypedPuts) (τ : Fates TypedTerm) → Putting Γ Δ σ τ → (es : Terms typed) (us : Tys) (cs ps : List Index) → TermArgsHave Γ es us cs ps
      → TermArgsHave Δ (terms_put typed_rules σ τ es) (tys_put σ.indices σ.types us) (each (put_in_index σ) cs) (each (put_in_index σ) ps)
  args_have_puts Γ Δ σ τ p no_terms no_tys [] [] h = tt
  args_have_puts Γ Δ σ τ p (more_terms e es) (more_tys (Arr at a q) us) (c ∷ cs) (r ∷ ps) h =
      ((has_puts Γ Δ σ τ p e (array_of a (then_shape r q)) h.0.0, put_equal Γ Δ σ p.sorts p.types q c h.0.1), args_have_puts Γ Δ σ τ p es us cs ps h.1)
  args_have_puts Γ Δ σ τ p (more_terms e es) (more_tys _ us) (c ∷ cs) (r ∷ ps) h = absurd h.0
  args_have_puts Γ Δ σ τ p _ _ _ _ h = absurd h

  cell_has_puts : (Γ Δ : Context) (σ : TypedPuts) (τ : Fates TypedTerm) → Putting Γ Δ σ τ → (a : Cell typed) (t : Ty) → HasCell Γ a t → HasCell Δ (cell_put typed_rules σ τ a) (put_in_ty σ t)
  cell_has_puts Γ Δ σ τ p (TInt z) t h = put_takes Γ Δ σ p.sorts p.types int_ty t h
  cell_has_puts Γ Δ σ τ p (TBool z) t h = put_takes Γ Δ σ p.sorts p.types bool_ty t h
  cell_has_puts Γ Δ σ τ p (TChar z) t h = put_takes Γ Δ σ p.sorts p.types char_ty t h
  cell_has_puts Γ Δ σ τ p (TPrim q us is) t h =
      subst (λ g. PrimHas Δ g (option_map (each (put_in_ty σ)) us) (option_map (each (put_in_index σ)) is) (put_in_ty σ t)) (prim_type_put σ.indices σ.types q)
      (prim_put Γ Δ σ p.sorts p.types (prim_type q) us is t h)
  cell_has_puts Γ Δ σ τ p (TFn i e) t h = (
    each_map (IsWellFormed Γ.types Γ.sorts) (IsWellFormed Δ.types Δ.sorts) (put_in_ty σ) i.inputs (put_wf Γ Δ σ p.sorts p.types) h.0,
    put_wf Γ Δ σ p.sorts p.types i.result h.1,
    has_puts (under_terms i.inputs Γ) (under_terms (each (put_in_ty σ) i.inputs) Δ) σ (terms_under (length i.inputs) τ) (putting_terms i.inputs Γ Δ σ τ p) e i.result h.2,
    subst (λ us. Takes Δ (Fun no_span us (put_in_ty σ i.result)) (put_in_ty σ t)) (ty_list_put σ.indices σ.types i.inputs) (put_takes Γ Δ σ p.sorts p.types (Fun no_span (ty_list i.inputs) i.result) t h.3),
  )
  cell_has_puts Γ Δ σ τ p (TTypeFn n e) t h = (
    put_in_ty (typed_rules.under_count n σ) h.0,
    has_puts (under_types n Γ) (under_types n Δ) (typed_rules.under_count n σ) τ (putting_types n Γ Δ σ τ p) e h.0 h.1,
    put_takes Γ Δ σ p.sorts p.types (Forall no_span n h.0) t h.2,
  )
  cell_has_puts Γ Δ σ τ p (TIndexFn ss e) t h = (
    put_in_ty (typed_rules.under_sorts ss σ) h.0,
    has_puts (under_sorts ss Γ) (under_sorts ss Δ) (typed_rules.under_sorts ss σ) τ (putting_sorts ss Γ Δ σ τ p) e h.0 h.1,
    put_takes Γ Δ σ p.sorts p.types (Pi no_span ss h.0) t h.2,
  )
  cell_has_puts Γ Δ σ τ p (TBoxed is e (Sigma at ss b)) t h = (
    put_atomic Γ Δ σ p.sorts p.types (Sigma at ss b) h.0,
    (
      put_sorted_all Γ Δ σ p.sorts p.types ss is h.1.0,
      subst (λ u. HasTerm Δ (term_put typed_rules σ τ e) u) (indices_placed σ is (length ss) b (two_length (IsSorted Γ.sorts) ss is h.1.0)) (has_puts Γ Δ σ τ p e (with_indices is b) h.1.1),
    ),
    put_takes Γ Δ σ p.sorts p.types (Sigma at ss b) t h.2,
  )
  cell_has_puts Γ Δ σ τ p (TBoxed is e _) t h = absurd h.1

  cells_have_puts : (Γ Δ : Context) (σ : TypedPuts) (τ : Fates TypedTerm) → Putting Γ Δ σ τ → (xs : Cells typed) (t : Ty) → CellsHave Γ xs t → CellsHave Δ (cells_put typed_rules σ τ xs) (put_in_ty σ t)
  cells_have_puts Γ Δ σ τ p no_cells t h = tt
  cells_have_puts Γ Δ σ τ p (more_cells a xs) t h = (cell_has_puts Γ Δ σ τ p a t h.0, cells_have_puts Γ Δ σ τ p xs t h.1)
