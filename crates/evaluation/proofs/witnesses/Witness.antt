-- What is known of an erased term whose typed term is closed: its steps, its parts, and its values.
use Rattle.std.proofs.Common.{◌≡◌, refl, sym, ap, subst, ◌∙◌, ℕ, suc, ◌*◌, arith, List, [], ◌∷◌, ◌++◌, length, Some}
use Rattle.std.specs.Prelude.{slice_get}
use Rattle.core_syntax.specs.declared.norm.NormIndex.{NormIndex}
use Rattle.core_syntax.specs.Syntax.{Index, Ty, Fun, Forall, Pi, Sigma, Arr, Tys, no_tys, more_tys, no_span}
use Rattle.core_syntax.specs.Lists.{each, Each, EachTwo, product}
use Rattle.core_syntax.specs.Word.{Word}
use Rattle.core_syntax.specs.Value.{then_shape}
use Rattle.core_syntax.specs.Sorts.{IsSorted}
use Rattle.core_syntax.specs.Subst.{with_indices}
use Rattle.core_syntax.specs.Prims.{array_of}
use Rattle.core_syntax.specs.Typing.{numbers, Takes, OnSigma, defs_only}
use Rattle.core_syntax.specs.Terms.{TVar, TArray, TNoAtoms, TFrame, TNoCells, TApp, TTypeApp, TIndexApp, TUnbox, Terms, no_terms, more_terms, term_items, Cell, TInt, TBool, TChar, TPrim, TFn, TTypeFn, TIndexFn, TBoxed, Cells, no_cells, more_cells, cell_items}
use Rattle.core_syntax.specs.Move.{Move, Rests, Trapped, Goes, Lost}
use Rattle.core_syntax.specs.Rules.{dims_of, atoms_of}
use Rattle.core_syntax.specs.Step.{step}
use Rattle.core_syntax.specs.Typed.{typed, typed_rules, TypedTerm, closed}
use Rattle.core_syntax.specs.TermTyping.{HasTerm, HasCell, CellsHave, TermsHave, TermArgsHave, cell_count, term_count, DefTermsTyped}
use Rattle.reduction_laws.proofs.steps.Parts.{IsArr, numbers_val}
use Rattle.reduction_laws.proofs.runs.TypedRuns.{preservation, never_lost, rests_array}
use Rattle.core_syntax.specs.NormPut.{word_value, number_letters}
use Rattle.erasure.specs.Erased.{erased, ErasedTerm, erased_rules}
use Rattle.erasure.specs.Erasure.{er, er_terms, er_cell, er_cells, cell_word}
use Rattle.erasure.proofs.together.Applied.{move_map}
use Rattle.erasure.proofs.together.Runs.{lost_from}
use Rattle.erasure.proofs.together.Steps.{step_erased}
use Rattle.evaluation.specs.Typing.{SomeType, ContentIs, ContentsAre, IsValue}
use Rattle.evaluation.specs.Witnessed.{Witnessed, dims_of_type}
use Rattle.reduction_laws.proofs.steps.Counts.{product-append}

-- a move whose image goes on does
goes_from : {A B : Type 0} (f : A → B) (m : Move A) (b : B) → move_map f m ≡ Goes b → (a : A) × (m ≡ Goes a) × (f a ≡ b)
goes_from f (Goes a) b e = (a, refl, cc)
goes_from f Rests b e = absurd (cc)
goes_from f (Trapped k) b e = absurd (cc)
goes_from f Lost b e = absurd (cc)

rests_from : {A B : Type 0} (f : A → B) (m : Move A) → move_map f m ≡ Rests → m ≡ Rests
rests_from f Rests e = refl
rests_from f (Trapped k) e = absurd (cc)
rests_from f (Goes a) e = absurd (cc)
rests_from f Lost e = absurd (cc)

-- counts are kept
pub cells_counted : (xs : Cells typed) → length (cell_items (er_cells [] xs)) ≡ cell_count xs
cells_counted no_cells = refl
cells_counted (more_cells x xs) = ap suc (cells_counted xs)

terms_counted : (ts : Terms typed) → length (term_items (er_terms [] ts)) ≡ term_count ts
terms_counted no_terms = refl
terms_counted (more_terms t ts) = ap suc (terms_counted ts)

value_join : (ns : List ℕ) (w : Word) → word_value (number_letters ns ++ w) ≡ ns ++ word_value w
value_join [] w = refl
value_join (n ∷ ns) w = ap (λ z. n ∷ z) (value_join ns w)

-- the dims of an array of a type
array_dims : (D : List Ty) (a : Ty) (dims : List ℕ) (T : Ty) → Takes (defs_only D) (array_of a (numbers dims)) T → dims ≡ dims_of_type T
array_dims D a dims (Arr at c j) k = sym (numbers_val closed dims) ∙ k.1.1 closed
array_dims D a dims _ k = absurd k.1

module _ (D : List Ty) (defs : List TypedTerm) (typed_defs : DefTermsTyped D defs) where
  -- definitions as erased terms
  abbrev E : List ErasedTerm
  E = each (er []) defs

  -- ---- steps

  there : (g : TypedTerm) (T : Ty) → HasTerm (defs_only D) g T → (t : ErasedTerm) → er [] g ≡ t → move_map (er []) (step typed_rules defs g) ≡ step erased_rules E t
  there g T h t e = step_erased D defs typed_defs g T h ∙ ap (step erased_rules E) e

  pub keeps : (T : Ty) (t u : ErasedTerm) → Witnessed D T t → step erased_rules E t ≡ Goes u → Witnessed D T u
  keeps T t u g e =
      let a = goes_from (er []) (step typed_rules defs g.0) u (there g.0 T g.1 t g.2 ∙ e) in
      (a.0, preservation D defs typed_defs g.0 a.0 T g.1 a.1, a.2)

  pub not_lost : (T : Ty) (t : ErasedTerm) → Witnessed D T t → step erased_rules E t ≡ Lost → ⊥
  not_lost T t g e = never_lost D defs typed_defs g.0 T g.1 (lost_from (er []) (step typed_rules defs g.0) (there g.0 T g.1 t g.2 ∙ e))

  -- ---- values

  pub is_arr : (T : Ty) (t : ErasedTerm) (g : Witnessed D T t) → IsValue E t → IsArr g.0
  is_arr T t g e = rests_array D defs typed_defs g.0 T g.1 (rests_from (er []) (step typed_rules defs g.0) (there g.0 T g.1 t g.2 ∙ e))

  arr_dims : (w : TypedTerm) (T : Ty) → IsArr w → HasTerm (defs_only D) w T → dims_of erased_rules (er [] w) ≡ dims_of_type T
  arr_dims (TArray dims no_cells) T a h = absurd h
  arr_dims (TArray dims (more_cells x xs)) T a h = array_dims D h.0 dims T h.3
  arr_dims (TNoAtoms dims n) T a h = array_dims D n dims T h.1
  arr_dims _ T a h = absurd a

  pub value_dims : (T : Ty) (t : ErasedTerm) → Witnessed D T t → IsValue E t → dims_of erased_rules t ≡ dims_of_type T
  value_dims T t g e = ap (dims_of erased_rules) (sym g.2) ∙ arr_dims g.0 T (is_arr T t g e) g.1

  arr_full : (w : TypedTerm) (T : Ty) → IsArr w → HasTerm (defs_only D) w T → length (atoms_of erased_rules (er [] w)) ≡ product (dims_of erased_rules (er [] w))
  arr_full (TArray dims no_cells) T a h = absurd h
  arr_full (TArray dims (more_cells x xs)) T a h = cells_counted (more_cells x xs) ∙ h.4
  arr_full (TNoAtoms dims n) T a h = sym h.2
  arr_full _ T a h = absurd a

  pub value_full : (T : Ty) (t : ErasedTerm) → Witnessed D T t → IsValue E t → length (atoms_of erased_rules t) ≡ product (dims_of erased_rules t)
  value_full T t g e = ap (λ u. length (atoms_of erased_rules u)) (sym g.2) ∙ arr_full g.0 T (is_arr T t g e) g.1 ∙ ap (λ u. product (dims_of erased_rules u)) g.2

  -- ---- parts

  pub no_var : (T : Ty) (k : ℕ) → Witnessed D T (TVar k) → ⊥
  no_var T k g = by g.0 g.1 g.2
    where
      by : (w : TypedTerm) → HasTerm (defs_only D) w T → er [] w ≡ TVar k → ⊥
      by (TVar j) h e = let at : slice_get (let none : List Ty = [] in none) j ≡ Some h.0 = h.1 in cc
      by _ h e = cc

  pub some_atoms : (T : Ty) (dims : List ℕ) → Witnessed D T (TArray dims no_cells) → ⊥
  some_atoms T dims g = by g.0 g.1 g.2
    where
      by : (w : TypedTerm) → HasTerm (defs_only D) w T → er [] w ≡ TArray dims no_cells → ⊥
      by (TArray d no_cells) h e = h
      by (TArray d (more_cells x xs)) h e = cc
      by _ h e = cc

  pub array_full : (T : Ty) (dims : List ℕ) (xs : Cells erased) → Witnessed D T (TArray dims xs) → length (cell_items xs) ≡ product dims
  array_full T dims xs g = by g.0 g.1 g.2
    where
      by : (w : TypedTerm) → HasTerm (defs_only D) w T → er [] w ≡ TArray dims xs → length (cell_items xs) ≡ product dims
      by (TArray d no_cells) h e = absurd h
      by (TArray d (more_cells y ys)) h e =
          let one : d ≡ dims = cc in
          let two : er_cells [] (more_cells y ys) ≡ xs = cc in
          ap (λ z. length (cell_items z)) (sym two) ∙ cells_counted (more_cells y ys) ∙ h.4 ∙ ap product one
      by _ h e = absurd (cc)

  box_content : (u : Ty) (is : List Index) (e : TypedTerm) → OnSigma u (λ ss b. EachTwo (IsSorted []) ss is × HasTerm (defs_only D) e (with_indices is b)) → SomeType (Witnessed D) (er [] e)
  box_content (Sigma at ss b) is e h = (with_indices is b, (e, h.1, refl))
  box_content _ is e h = absurd h

  content : (x : Cell typed) (a : Ty) → HasCell (defs_only D) x a → ContentIs (SomeType (Witnessed D)) (er_cell [] x)
  content (TBoxed is e u) a h = box_content u is e h.1
  content (TInt z) a h = tt
  content (TBool z) a h = tt
  content (TChar z) a h = tt
  content (TPrim p us is) a h = tt
  content (TFn i e) a h = tt
  content (TTypeFn n e) a h = tt
  content (TIndexFn ss e) a h = tt

  contents_of : (xs : Cells typed) (a : Ty) → CellsHave (defs_only D) xs a → ContentsAre (SomeType (Witnessed D)) (er_cells [] xs)
  contents_of no_cells a h = tt
  contents_of (more_cells x xs) a h = (content x a h.0, contents_of xs a h.1)

  pub contents : (T : Ty) (dims : List ℕ) (xs : Cells erased) → Witnessed D T (TArray dims xs) → ContentsAre (SomeType (Witnessed D)) xs
  contents T dims xs g = by g.0 g.1 g.2
    where
      by : (w : TypedTerm) → HasTerm (defs_only D) w T → er [] w ≡ TArray dims xs → ContentsAre (SomeType (Witnessed D)) xs
      by (TArray d no_cells) h e = absurd h
      by (TArray d (more_cells y ys)) h e = let two : er_cells [] (more_cells y ys) ≡ xs = cc in subst (ContentsAre (SomeType (Witnessed D))) two (content y h.0 h.1, contents_of ys h.0 h.2)
      by _ h e = absurd (cc)

  pub some_cells : (T : Ty) (dims : List ℕ) → Witnessed D T (TFrame dims no_terms tt) → ⊥
  some_cells T dims g = by g.0 g.1 g.2
    where
      by : (w : TypedTerm) → HasTerm (defs_only D) w T → er [] w ≡ TFrame dims no_terms tt → ⊥
      by (TFrame d no_terms n) h e = h
      by (TFrame d (more_terms t ts) n) h e = cc
      by _ h e = cc

  pub frame_full : (T : Ty) (dims : List ℕ) (ts : Terms erased) → Witnessed D T (TFrame dims ts tt) → length (term_items ts) ≡ product dims
  frame_full T dims ts g = by g.0 g.1 g.2
    where
      by : (w : TypedTerm) → HasTerm (defs_only D) w T → er [] w ≡ TFrame dims ts tt → length (term_items ts) ≡ product dims
      by (TFrame d no_terms n) h e = absurd h
      by (TFrame d (more_terms u us) n) h e =
          let one : d ≡ dims = cc in
          let two : er_terms [] (more_terms u us) ≡ ts = cc in
          ap (λ z. length (term_items z)) (sym two) ∙ terms_counted (more_terms u us) ∙ h.6 ∙ ap product one
      by _ h e = absurd (cc)

  all_have : (ts : Terms typed) (a : Ty) → TermsHave (defs_only D) ts a → Each (Witnessed D a) (term_items (er_terms [] ts))
  all_have no_terms a h = tt
  all_have (more_terms t ts) a h = ((t, h.0, refl), all_have ts a h.1)

  pub cells : (T : Ty) (dims : List ℕ) (ts : Terms erased) → Witnessed D T (TFrame dims ts tt) → (U : Ty) × Each (Witnessed D U) (term_items ts)
  cells T dims ts g = by g.0 g.1 g.2
    where
      by : (w : TypedTerm) → HasTerm (defs_only D) w T → er [] w ≡ TFrame dims ts tt → (U : Ty) × Each (Witnessed D U) (term_items ts)
      by (TFrame d no_terms n) h e = absurd h
      by (TFrame d (more_terms u us) n) h e =
          let two : er_terms [] (more_terms u us) ≡ ts = cc in
          (array_of h.0 h.1, subst (λ z. Each (Witnessed D (array_of h.0 h.1)) (term_items z)) two ((u, h.2, refl), all_have us (array_of h.0 h.1) h.3))
      by _ h e = absurd (cc)

  pub no_cells_none : (T : Ty) (w : Word) → Witnessed D T (TNoCells w) → product (word_value w) ≡ 0
  no_cells_none T w g = by g.0 g.1 g.2
    where
      by : (v : TypedTerm) → HasTerm (defs_only D) v T → er [] v ≡ TNoCells w → product (word_value w) ≡ 0
      by (TNoCells n) h e =
          let cell = cell_word n.cell in
          let same : number_letters n.dims ++ cell ≡ w = cc in
          ap (λ z. product (word_value z)) (sym same) ∙ ap product (value_join n.dims cell) ∙ product-append n.dims (word_value cell) ∙ ap (λ k. k * product (word_value cell)) h.2
          ∙ (let z : 0 * product (word_value cell) ≡ 0 = omega arith in z)
      by _ h e = absurd (cc)

  pub function : (T : Ty) (f : ErasedTerm) (ts : Terms erased) (cs : List Word) (r : Word) → Witnessed D T (TApp f ts cs r) → SomeType (Witnessed D) f
  function T f ts cs r g = by g.0 g.1 g.2
    where
      by : (w : TypedTerm) → HasTerm (defs_only D) w T → er [] w ≡ TApp f ts cs r → SomeType (Witnessed D) f
      by (TApp v us ds n) h e = let one : er [] v ≡ f = cc in (array_of (Fun no_span h.0 h.1) h.2, (v, h.3, one))
      by _ h e = absurd (cc)

  args_have : (es : Terms typed) (us : Tys) (cs ps : List Index) → TermArgsHave (defs_only D) es us cs ps → Each (SomeType (Witnessed D)) (term_items (er_terms [] es))
  args_have no_terms us cs ps h = tt
  args_have (more_terms e es) (more_tys (Arr at a w) us) (c ∷ cs) (p ∷ ps) h = ((array_of a (then_shape p w), (e, h.0.0, refl)), args_have es us cs ps h.1)
  args_have (more_terms e es) (more_tys _ us) (c ∷ cs) (p ∷ ps) h = absurd h.0
  args_have (more_terms e es) no_tys cs ps h = absurd h
  args_have (more_terms e es) (more_tys u us) [] ps h = absurd h
  args_have (more_terms e es) (more_tys u us) (c ∷ cs) [] h = absurd h

  pub arguments : (T : Ty) (f : ErasedTerm) (ts : Terms erased) (cs : List Word) (r : Word) → Witnessed D T (TApp f ts cs r) → Each (SomeType (Witnessed D)) (term_items ts)
  arguments T f ts cs r g = by g.0 g.1 g.2
    where
      by : (w : TypedTerm) → HasTerm (defs_only D) w T → er [] w ≡ TApp f ts cs r → Each (SomeType (Witnessed D)) (term_items ts)
      by (TApp v us ds n) h e = let two : er_terms [] us ≡ ts = cc in subst (λ z. Each (SomeType (Witnessed D)) (term_items z)) two (args_have us h.0 ds h.4.0 h.4.1)
      by _ h e = absurd (cc)

  pub under_types : (T : Ty) (t : ErasedTerm) (r : Word) → Witnessed D T (TTypeApp t tt r) → SomeType (Witnessed D) t
  under_types T t r g = by g.0 g.1 g.2
    where
      by : (w : TypedTerm) → HasTerm (defs_only D) w T → er [] w ≡ TTypeApp t tt r → SomeType (Witnessed D) t
      by (TTypeApp v us n) h e = let one : er [] v ≡ t = cc in (array_of (Forall no_span h.0 h.1) h.2, (v, h.3, one))
      by _ h e = absurd (cc)

  pub under_indices : (T : Ty) (t : ErasedTerm) (is : List NormIndex) (r : Word) → Witnessed D T (TIndexApp t is r) → SomeType (Witnessed D) t
  under_indices T t is r g = by g.0 g.1 g.2
    where
      by : (w : TypedTerm) → HasTerm (defs_only D) w T → er [] w ≡ TIndexApp t is r → SomeType (Witnessed D) t
      by (TIndexApp v js n) h e = let one : er [] v ≡ t = cc in (array_of (Pi no_span h.0 h.1) h.2, (v, h.3, one))
      by _ h e = absurd (cc)

  pub under_unbox : (T : Ty) (n : ℕ) (t b : ErasedTerm) (r : Word) → Witnessed D T (TUnbox n t b r) → SomeType (Witnessed D) t
  under_unbox T n t b r g = by g.0 g.1 g.2
    where
      by : (w : TypedTerm) → HasTerm (defs_only D) w T → er [] w ≡ TUnbox n t b r → SomeType (Witnessed D) t
      by (TUnbox ss v c m) h e = let one : er [] v ≡ t = cc in (array_of (Sigma no_span ss h.0) h.1, (v, h.2, one))
      by _ h e = absurd (cc)
