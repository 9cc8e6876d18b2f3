-- What is known of an `ifn` on indices, of an `unbox` of a box, and of a scalar function on its cells, in the erased term of a closed typed one.
use Rattle.std.proofs.Common.{◌≡◌, refl, sym, ap, subst, ◌∙◌, ℕ, zero, suc, ◌+◌, arith, true, List, [], ◌∷◌, ◌++◌, length, Option, Some, None, length-append}
use Rattle.std.specs.Prelude.{is_some, option_map, slice_get}
use Rattle.core_syntax.specs.declared.index.Sort.{Sort}
use Rattle.core_syntax.specs.declared.primitive.Primitive.{Primitive}
use Rattle.core_syntax.specs.declared.norm.NormIndex.{NormIndex}
use Rattle.core_syntax.specs.Syntax.{Index, Ty, Fun, Pi, Sigma, Arr, Tys, no_tys, more_tys, no_span}
use Rattle.core_syntax.specs.Lists.{onto, each, Each, EachTwo}
use Rattle.core_syntax.specs.Sorts.{IsSorted}
use Rattle.core_syntax.specs.Word.{Word}
use Rattle.core_syntax.specs.Norm.{norm_word}
use Rattle.core_syntax.specs.Value.{shape_val, then_shape}
use Rattle.core_syntax.specs.TypeEqual.{Same}
use Rattle.core_syntax.specs.Prims.{prim_type, array_of}
use Rattle.core_syntax.specs.Typing.{times, under_sorts, under_terms, Takes, OnArr, OnSigma, defs_only}
use Rattle.core_syntax.specs.Subst.{with_indices, ty_under_index}
use Rattle.core_syntax.specs.Arrays.{array}
use Rattle.core_syntax.specs.Terms.{TApp, TIndexApp, TUnbox, Terms, no_terms, more_terms, term_list, term_items, Cell, TInt, TBool, TChar, TPrim, TFn, TTypeFn, TIndexFn, TBoxed, scalar_of}
use Rattle.core_syntax.specs.Rules.{dims_of, atom_rules}
use Rattle.core_syntax.specs.Typed.{typed, typed_rules, TypedTerm, closed, closed_value}
use Rattle.core_syntax.specs.TermTyping.{Notes, HasTerm, HasCell, TermArgsHave, DefTermsTyped}
use Rattle.core_syntax.proofs.Unique.{then_val}
use Rattle.reduction_laws.proofs.steps.Parts.{IsArr, parts_of}
use Rattle.reduction_laws.proofs.primitives.Args.{arrayed}
use Rattle.typed_fits.proofs.TypedSuits.{application_fits}
use Rattle.core_syntax.specs.DeltaStuck.{delta_stuck}
use Rattle.naturality.specs.Respects.{arr}
use Rattle.naturality.proofs.StuckNatural.{delta_stuck_natural}
use Rattle.core_syntax.specs.NormPut.{norm_value, word_value}
use Rattle.erasure.specs.Erased.{erased, ErasedTerm, erased_rules}
use Rattle.erasure.specs.Erasure.{er, er_terms, er_cell, norm_in, cell_word}
use Rattle.erasure.proofs.together.Answers.{AreClosed, values_erased, erasing_respects}
use Rattle.erasure.proofs.together.Applied.{er_dims, er_atoms, erased_dims}
use Rattle.erasure.proofs.together.Scalars.{prim_closed}
use Rattle.evaluation.specs.Scoped.{with_values, Scoped}
use Rattle.evaluation.specs.Typing.{IsValue, CellsOnly, arrays_of}
use Rattle.evaluation.specs.Witnessed.{Witnessed, dims_of_type}
use Rattle.evaluation.proofs.steps.Rests.{items_back}
use Rattle.evaluation.proofs.environments.Entered.{length_each}
use Rattle.evaluation.proofs.witnesses.TypedScoped.{scope_values, scope_none, typed_scoped}
use Rattle.evaluation.proofs.witnesses.Witness.{is_arr}
use Rattle.evaluation.proofs.witnesses.PrimWitness.{two_count, scalar_cell, prim_cell, sorted_values}

module _ (D : List Ty) where
  -- ---- `ifn`

  -- an `ifn` of a Pi type
  abbrev IfnOf : ℕ → ErasedTerm → Cell typed → List Sort → Type 0
  IfnOf n t x ss = (e : TypedTerm) × (length ss ≡ n) × (er (onto ss []) e ≡ t) × ((u : Ty) × HasTerm (under_sorts ss (defs_only D)) e u)

  ifn_cell : (n : ℕ) (t : ErasedTerm) (x : Cell typed) (ss : List Sort) (b : Ty) → HasCell (defs_only D) x (Pi no_span ss b) → er_cell [] x ≡ TIndexFn n t → IfnOf n t x ss
  ifn_cell n t (TIndexFn rs e) ss b h f =
      let same : rs ≡ ss = h.2.1.0 in
      let count : length rs ≡ n = cc in
      let body : er (onto rs []) e ≡ t = cc in
      (e, subst (λ rs. length rs ≡ n) same count, subst (λ rs. er (onto rs []) e ≡ t) same body, (h.0, subst (λ rs. HasTerm (under_sorts rs (defs_only D)) e h.0) same h.1))
  ifn_cell n t (TInt z) ss b h f = absurd (cc)
  ifn_cell n t (TBool z) ss b h f = absurd (cc)
  ifn_cell n t (TChar z) ss b h f = absurd (cc)
  ifn_cell n t (TPrim p us is) ss b h f = absurd (cc)
  ifn_cell n t (TFn i e) ss b h f = absurd (cc)
  ifn_cell n t (TTypeFn m e) ss b h f = absurd (cc)
  ifn_cell n t (TBoxed is e u) ss b h f = absurd (cc)

  ifn_of : (T : Ty) (n : ℕ) (t : ErasedTerm) (is : List NormIndex) (r : Word) → Witnessed D T (TIndexApp (scalar_of (TIndexFn n t)) is r) → (n ≡ length is) × Scoped true (with_values (onto (each norm_value is) [])) t
  ifn_of T n t is r g = by g.0 g.1 g.2
    where
      by : (w : TypedTerm) → HasTerm (defs_only D) w T → er [] w ≡ TIndexApp (scalar_of (TIndexFn n t)) is r → (n ≡ length is) × Scoped true (with_values (onto (each norm_value is) [])) t
      by (TIndexApp v js m) h e =
          let one : er [] v ≡ scalar_of (TIndexFn n t) = cc in
          let two : each (norm_in []) js ≡ is = cc in
          let c = scalar_cell D (TIndexFn n t) v (Pi no_span h.0 h.1) h.2 h.3 one in
          let f = ifn_cell n t c.0 h.0 h.1 c.1 c.2 in
          let sorts = sorted_values D h.0 js h.4 in
          let scope = typed_scoped (under_sorts h.0 (defs_only D)) (with_values (onto (each norm_value (each (norm_in []) js)) [])) (scope_values h.0 [] (each norm_value (each (norm_in []) js)) [] sorts scope_none) f.0 f.3.0 f.3.1 in (
            sym f.1 ∙ two_count (IsSorted []) h.0 js h.4 ∙ sym (length_each (norm_in []) js) ∙ ap length two,
            subst (λ js. Scoped true (with_values (onto (each norm_value js) [])) t) two (subst (Scoped true (with_values (onto (each norm_value (each (norm_in []) js)) []))) f.2 scope),
          )
      by _ h e = absurd (cc)

  pub index_count : (T : Ty) (n : ℕ) (t : ErasedTerm) (is : List NormIndex) (r : Word) → Witnessed D T (TIndexApp (scalar_of (TIndexFn n t)) is r) → n ≡ length is
  index_count T n t is r g = (ifn_of T n t is r g).0

  pub index_scope : (T : Ty) (n : ℕ) (t : ErasedTerm) (is : List NormIndex) (r : Word) → Witnessed D T (TIndexApp (scalar_of (TIndexFn n t)) is r) → Scoped true (with_values (onto (each norm_value is) [])) t
  index_scope T n t is r g = (ifn_of T n t is r g).1

  -- ---- `unbox`

  -- the indices of a box of a Sigma type
  box_sorts : (u : Ty) (js : List Index) (ss : List Sort) (c : Ty) (P : List Sort → Ty → Type 0) → OnSigma u (λ rs b. EachTwo (IsSorted []) rs js × P rs b) → Same u (Sigma no_span ss c) → EachTwo (IsSorted []) ss js
  box_sorts (Sigma at rs b) js ss c P h s = subst (λ rs. EachTwo (IsSorted []) rs js) s.0 h.0
  box_sorts _ js ss c P h s = absurd h

  box_cell : (is : List NormIndex) (t : ErasedTerm) (x : Cell typed) (ss : List Sort) (c : Ty) → HasCell (defs_only D) x (Sigma no_span ss c) → er_cell [] x ≡ TBoxed is t tt → (js : List Index) × EachTwo (IsSorted []) ss js × (each (norm_in []) js ≡ is)
  box_cell is t (TBoxed js e u) ss c h f = (js, box_sorts u js ss c (λ rs b. HasTerm (defs_only D) e (with_indices js b)) h.1 h.2.1, let two : each (norm_in []) js ≡ is = cc in two)
  box_cell is t (TInt z) ss c h f = absurd (cc)
  box_cell is t (TBool z) ss c h f = absurd (cc)
  box_cell is t (TChar z) ss c h f = absurd (cc)
  box_cell is t (TPrim p us js) ss c h f = absurd (cc)
  box_cell is t (TFn i e) ss c h f = absurd (cc)
  box_cell is t (TTypeFn m e) ss c h f = absurd (cc)
  box_cell is t (TIndexFn rs e) ss c h f = absurd (cc)

  unbox_of : (T : Ty) (n : ℕ) (is : List NormIndex) (t b : ErasedTerm) (r : Word) → Witnessed D T (TUnbox n (scalar_of (TBoxed is t tt)) b r) → (n ≡ length is) × Scoped true (with_values (onto (each norm_value is) [])) b
  unbox_of T n is t b r g = by g.0 g.1 g.2
    where
      by : (w : TypedTerm) → HasTerm (defs_only D) w T → er [] w ≡ TUnbox n (scalar_of (TBoxed is t tt)) b r → (n ≡ length is) × Scoped true (with_values (onto (each norm_value is) [])) b
      by (TUnbox ss v e m) h f =
          let count : length ss ≡ n = cc in
          let one : er [] v ≡ scalar_of (TBoxed is t tt) = cc in
          let body : er (onto ss []) e ≡ b = cc in
          let c = scalar_cell D (TBoxed is t tt) v (Sigma no_span ss h.0) h.1 h.2 one in
          let x = box_cell is t c.0 ss h.0 c.1 c.2 in
          let js = x.0 in
          let sorts = sorted_values D ss js x.1 in
          let scope = typed_scoped (under_terms (h.0 ∷ []) (under_sorts ss (defs_only D))) (with_values (onto (each norm_value (each (norm_in []) js)) [])) (scope_values ss [] (each norm_value (each (norm_in []) js)) [] sorts scope_none) e (times (length ss) ty_under_index m) h.4 in (
            sym count ∙ two_count (IsSorted []) ss js x.1 ∙ sym (length_each (norm_in []) js) ∙ ap length x.2,
            subst (λ js. Scoped true (with_values (onto (each norm_value js) [])) b) x.2 (subst (Scoped true (with_values (onto (each norm_value (each (norm_in []) js)) []))) body scope),
          )
      by _ h f = absurd (cc)

  pub unbox_count : (T : Ty) (n : ℕ) (is : List NormIndex) (t b : ErasedTerm) (r : Word) → Witnessed D T (TUnbox n (scalar_of (TBoxed is t tt)) b r) → n ≡ length is
  unbox_count T n is t b r g = (unbox_of T n is t b r g).0

  pub unbox_scope : (T : Ty) (n : ℕ) (is : List NormIndex) (t b : ErasedTerm) (r : Word) → Witnessed D T (TUnbox n (scalar_of (TBoxed is t tt)) b r) → Scoped true (with_values (onto (each norm_value is) [])) b
  unbox_scope T n is t b r g = (unbox_of T n is t b r g).1

  -- ---- functions on their cells

  -- arguments have the dims of their cells
  two_dims : (es : Terms typed) (cs : List Index) → each (dims_of erased_rules) (term_items (er_terms [] es)) ≡ each word_value (each norm_word cs) → EachTwo (λ e c. dims_of typed_rules e ≡ shape_val closed c) (term_items es) cs
  two_dims no_terms [] e = tt
  two_dims no_terms (c ∷ cs) e = absurd (cc)
  two_dims (more_terms t es) [] e = absurd (cc)
  two_dims (more_terms t es) (c ∷ cs) e =
      let here : dims_of erased_rules (er [] t) ≡ word_value (norm_word c) = cc in
      let rest : each (dims_of erased_rules) (term_items (er_terms [] es)) ≡ each word_value (each norm_word cs) = cc in
      (sym (er_dims [] t) ∙ here ∙ erased_dims c, two_dims es cs rest)

  front_nil : (xs ys : List ℕ) → xs ++ ys ≡ ys → xs ≡ []
  front_nil [] ys e = refl
  front_nil (x ∷ xs) ys e = absurd (let f : suc (length xs + length ys) ≡ length ys = ap suc (sym (length-append xs ys)) ∙ ap length e in omega (arith, f))

  -- so their frames are empty
  no_frames : (es : Terms typed) (us : Tys) (cs ps : List Index) → TermArgsHave (defs_only D) es us cs ps → Each IsArr (term_items es)
      → EachTwo (λ e c. dims_of typed_rules e ≡ shape_val closed c) (term_items es) cs → Each (λ q. shape_val closed q ≡ []) ps
  no_frames no_terms no_tys [] [] h v d = tt
  no_frames (more_terms e es) (more_tys (Arr at a w) us) (c ∷ cs) (q ∷ ps) h v d =
      let p = parts_of D e a (then_shape q w) v.0 h.0.0 in
      let whole : shape_val closed q ++ shape_val closed c ≡ shape_val closed c =
      ap (λ z. shape_val closed q ++ z) (sym (h.0.1.2 closed)) ∙ sym (then_val closed q w) ∙ sym p.dims ∙ d.0 in
      (front_nil (shape_val closed q) (shape_val closed c) whole, no_frames es us cs ps h.1 v.1 d.1)
  no_frames (more_terms e es) (more_tys _ us) (c ∷ cs) (q ∷ ps) h v d = absurd h.0
  no_frames _ _ _ _ h v d = absurd h

  empty_at : (qs : List Index) (k : ℕ) (p : Index) → Each (λ q. shape_val closed q ≡ []) qs → slice_get qs k ≡ Some p → shape_val closed p ≡ []
  empty_at [] k p h e = absurd (cc)
  empty_at (q ∷ qs) zero p h e = let same : q ≡ p = cc in subst (λ q. shape_val closed q ≡ []) same h.0
  empty_at (q ∷ qs) (suc k) p h e = empty_at qs k p h.1 e

  -- the dims of a result
  result_dims : (r n T : Ty) (p : Index) → shape_val closed p ≡ [] → Notes (defs_only D) r n → OnArr r (λ a c. Takes (defs_only D) (array_of a (then_shape p c)) T) → dims_of_type T ≡ word_value (cell_word n)
  result_dims (Arr at a c) (Arr at' a' c') (Arr at'' b j) p none notes h =
      sym (h.1.1 closed) ∙ then_val closed p c ∙ ap (λ z. z ++ shape_val closed c) none ∙ notes.2.1 closed ∙ sym (erased_dims c')
  result_dims (Arr at a c) (Arr at' a' c') _ p none notes h = absurd h.1
  result_dims (Arr at a c) _ T p none notes h = absurd notes.2
  result_dims _ n T p none notes h = absurd h

  arrays_are : (es : Terms typed) → arrays_of (term_items (er_terms [] es)) ≡ each (arr (er_cell [])) (each (arrayed D) (term_items es))
  arrays_are no_terms = refl
  arrays_are (more_terms e es) = λ i. array (er_dims [] e i) (er_atoms [] e i) ∷ arrays_are es i

  values_are : (js : Option (List Index)) → AreClosed js → option_map (each norm_value) (option_map (each (norm_in [])) js) ≡ option_map (each closed_value) js
  values_are None h = refl
  values_are (Some js) h = ap Some (values_erased js h)

  same_some : (vs : Option (List Ty)) (us : Option (Unit {0})) → option_map (λ u. tt) vs ≡ us → is_some vs ≡ is_some us
  same_some None None e = refl
  same_some (Some vs) (Some u) e = refl
  same_some None (Some u) e = absurd (cc)
  same_some (Some vs) None e = absurd (cc)

  module _ (defs : List TypedTerm) (typed_defs : DefTermsTyped D defs) where
    all_arrays : (es : Terms typed) (us : Tys) (cs ps : List Index) → TermArgsHave (defs_only D) es us cs ps → Each (IsValue (each (er []) defs)) (term_items (er_terms [] es)) → Each IsArr (term_items es)
    all_arrays no_terms us cs ps h v = tt
    all_arrays (more_terms e es) (more_tys (Arr at a w) us) (c ∷ cs) (p ∷ ps) h v = (is_arr D defs typed_defs (array_of a (then_shape p w)) (er [] e) (e, h.0.0, refl) v.0, all_arrays es us cs ps h.1 v.1)
    all_arrays (more_terms e es) (more_tys _ us) (c ∷ cs) (p ∷ ps) h v = absurd h.0
    all_arrays (more_terms e es) no_tys cs ps h v = absurd h
    all_arrays (more_terms e es) (more_tys u us) [] ps h v = absurd h
    all_arrays (more_terms e es) (more_tys u us) (c ∷ cs) [] h v = absurd h

    pub app_dims : (T : Ty) (f : Cell erased) (ts : List ErasedTerm) (cs : List Word) (r : Word) → Witnessed D T (TApp (scalar_of f) (term_list ts) cs r) → Each (IsValue (each (er []) defs)) ts → CellsOnly ts cs → dims_of_type T ≡ word_value r
    app_dims T f ts cs r g values cells = by g.0 g.1 g.2
      where
        by : (w : TypedTerm) → HasTerm (defs_only D) w T → er [] w ≡ TApp (scalar_of f) (term_list ts) cs r → dims_of_type T ≡ word_value r
        by (TApp v es ds n) h e =
            let one : er [] v ≡ scalar_of f = cc in
            let two : er_terms [] es ≡ term_list ts = cc in
            let three : each norm_word ds ≡ cs = cc in
            let four : cell_word n ≡ r = cc in
            let items : term_items (er_terms [] es) ≡ ts = ap term_items two ∙ items_back ts in
            let arrays = all_arrays es h.0 ds h.4.0 h.4.1 (subst (Each (IsValue (each (er []) defs))) (sym items) values) in
            let dims = two_dims es ds (ap (each (dims_of erased_rules)) items ∙ cells ∙ ap (each word_value) (sym three)) in
            let c = scalar_cell D f v (Fun no_span h.0 h.1) h.2 h.3 one in
            let whole : HasTerm (defs_only D) (scalar_of c.0) (array_of (Fun no_span h.0 h.1) h.2) = subst (λ v. HasTerm (defs_only D) v (array_of (Fun no_span h.0 h.1) h.2)) c.3 h.3 in
            let scalar : shape_val closed h.2 ≡ [] = let p = parts_of D (scalar_of c.0) (Fun no_span h.0 h.1) h.2 tt whole in sym p.dims in
            let none = empty_at (h.2 ∷ h.4.0) h.4.3.1.0 h.4.3.0 (scalar, no_frames es h.0 ds h.4.0 h.4.1 arrays dims) h.4.3.1.1 in
            result_dims h.1 n T h.4.3.0 none h.4.2 h.4.3.2 ∙ ap word_value four
        by _ h e = absurd (cc)

    pub prim_fits : (T : Ty) (q : Primitive) (us : Option (Unit {0})) (is : Option (List NormIndex)) (ts : List ErasedTerm) (cs : List Word) (r : Word) → Witnessed D T (TApp (scalar_of (TPrim q us is)) (term_list ts) cs r)
        → Each (IsValue (each (er []) defs)) ts → CellsOnly ts cs → delta_stuck (atom_rules erased_rules r) q (is_some us) (option_map (each norm_value) is) (arrays_of ts) ≡ None
    prim_fits T q us is ts cs r g values cells = by g.0 g.1 g.2
      where
        by : (w : TypedTerm) → HasTerm (defs_only D) w T → er [] w ≡ TApp (scalar_of (TPrim q us is)) (term_list ts) cs r → delta_stuck (atom_rules erased_rules r) q (is_some us) (option_map (each norm_value) is) (arrays_of ts) ≡ None
        by (TApp v es ds n) h e =
            let one : er [] v ≡ scalar_of (TPrim q us is) = cc in
            let two : er_terms [] es ≡ term_list ts = cc in
            let three : each norm_word ds ≡ cs = cc in
            let four : cell_word n ≡ r = cc in
            let items : term_items (er_terms [] es) ≡ ts = ap term_items two ∙ items_back ts in
            let arrays = all_arrays es h.0 ds h.4.0 h.4.1 (subst (Each (IsValue (each (er []) defs))) (sym items) values) in
            let dims = two_dims es ds (ap (each (dims_of erased_rules)) items ∙ cells ∙ ap (each word_value) (sym three)) in
            let F = Fun no_span h.0 h.1 in
            let c = scalar_cell D (TPrim q us is) v F h.2 h.3 one in
            let p = prim_cell D q us is c.0 F c.1 c.2 in
            let vs = p.0 in
            let js = p.1 in
            let typed_app : HasTerm (defs_only D) (TApp (scalar_of (TPrim q vs js)) es ds n) T = subst (λ v. HasTerm (defs_only D) (TApp v es ds n) T) (c.3 ∙ ap scalar_of p.5) h in
            let respects = erasing_respects n in
            (λ i. delta_stuck (atom_rules erased_rules (sym four i)) q (sym (same_some vs us p.3) i) ((ap (option_map (each norm_value)) (sym p.4) ∙ values_are js (prim_closed D (prim_type q) vs js F p.2)) i) ((ap arrays_of (sym items) ∙ arrays_are es) i))
            ∙ delta_stuck_natural (er_cell []) (atom_rules typed_rules n) (atom_rules erased_rules (cell_word n)) (respects.looks) q (is_some vs) (option_map (each closed_value) js) (each (arrayed D) (term_items es))
            ∙ application_fits D n q vs js es ds n T typed_app arrays dims
        by _ h e = absurd (cc)
