-- What is known of a primitive, an `ifn` and a box in the erased term of a closed typed one: they take what they are given.
use Rattle.std.proofs.Common.{◌≡◌, refl, sym, ap, subst, ◌∙◌, ℕ, suc, Bool, true, false, List, [], ◌∷◌, length, Option, Some, None}
use Rattle.std.specs.Prelude.{is_some, option_map}
use Rattle.core_syntax.specs.declared.index.Sort.{Sort}
use Rattle.core_syntax.specs.declared.primitive.Primitive.{Primitive}
use Rattle.core_syntax.specs.declared.primitive.Primitive.TheVariants as p
use Rattle.core_syntax.specs.declared.norm.NormIndex.{NormIndex}
use Rattle.core_syntax.specs.Syntax.{Index, Ty, Forall, Pi, no_span}
use Rattle.core_syntax.specs.Lists.{each, EachTwo}
use Rattle.core_syntax.specs.Sorts.{IsSorted}
use Rattle.core_syntax.specs.Word.{Word}
use Rattle.core_syntax.specs.TypeEqual.{Same}
use Rattle.core_syntax.specs.Prims.{prim_type, array_of}
use Rattle.core_syntax.specs.Typing.{defs_only}
use Rattle.core_syntax.specs.Terms.{TArray, TTypeApp, TIndexApp, Cell, TInt, TBool, TChar, TPrim, TFn, TTypeFn, TIndexFn, TBoxed, no_cells, more_cells, scalar_of}
use Rattle.core_syntax.specs.Rules.{has_types, has_indices, agrees}
use Rattle.core_syntax.specs.Typed.{typed, TypedTerm}
use Rattle.core_syntax.specs.TermTyping.{PrimHas, HasTerm, HasCell}
use Rattle.reduction_laws.proofs.steps.Parts.{cell_same}
use Rattle.reduction_laws.proofs.primitives.Forms.{PrimForm, plain, of_types, of_indices, of_both, prim_form}
use Rattle.core_syntax.specs.NormPut.{norm_value}
use Rattle.erasure.specs.Erased.{erased}
use Rattle.erasure.specs.Erasure.{er, er_cell, norm_in}
use Rattle.erasure.proofs.together.Bodies.{erased_values}
use Rattle.core_syntax.specs.DeltaStuck.{row_sorts, have_sorts}
use Rattle.naturality.proofs.RowTypes.{sorts_of_values}
use Rattle.evaluation.specs.Witnessed.{Witnessed}
use Rattle.evaluation.proofs.environments.Entered.{length_each}

pub two_count : {A B : Type 0} (R : A → B → Type 0) (xs : List A) (ys : List B) → EachTwo R xs ys → length xs ≡ length ys
two_count R [] [] h = refl
two_count R (x ∷ xs) (y ∷ ys) h = ap suc (two_count R xs ys h.1)
two_count R [] (y ∷ ys) h = absurd h
two_count R (x ∷ xs) [] h = absurd h

module _ (D : List Ty) where
  -- a scalar's atom
  pub scalar_cell : (c : Cell erased) (v : TypedTerm) (F : Ty) (s : Index) → HasTerm (defs_only D) v (array_of F s) → er [] v ≡ scalar_of c → (x : Cell typed) × HasCell (defs_only D) x F × (er_cell [] x ≡ c) × (v ≡ scalar_of x)
  scalar_cell c (TArray dims no_cells) F s h e = absurd h
  scalar_cell c (TArray dims (more_cells x no_cells)) F s h e =
      let at : er_cell [] x ≡ c = cc in
      let none : dims ≡ [] = cc in
      (x, cell_same (defs_only D) x h.0 F h.1 h.3.1.0 h.3.0.2, at, ap (λ d. TArray d (more_cells x no_cells)) none)
  scalar_cell c (TArray dims (more_cells x (more_cells y xs))) F s h e = absurd (cc)
  scalar_cell c _ F s h e = absurd (cc)

  -- a primitive with what it has
  abbrev pub PrimOf : Primitive → Option (Unit {0}) → Option (List NormIndex) → Cell typed → Ty → Type 0
  PrimOf q us is x F =
      (vs : Option (List Ty)) × (js : Option (List Index)) × PrimHas (defs_only D) (prim_type q) vs js F × (option_map (λ u. tt) vs ≡ us) × (option_map (each (norm_in [])) js ≡ is) × (x ≡ TPrim q vs js)

  pub prim_cell : (q : Primitive) (us : Option (Unit {0})) (is : Option (List NormIndex)) (x : Cell typed) (F : Ty) → HasCell (defs_only D) x F → er_cell [] x ≡ TPrim q us is → PrimOf q us is x F
  prim_cell q us is (TPrim p vs js) F h e =
      let same : p ≡ q = cc in
      let one : option_map (λ u. tt) vs ≡ us = cc in
      let two : option_map (each (norm_in [])) js ≡ is = cc in
      (vs, js, subst (λ p. PrimHas (defs_only D) (prim_type p) vs js F) same h, one, two, ap (λ p. TPrim p vs js) same)
  prim_cell q us is (TInt z) F h e = absurd (cc)
  prim_cell q us is (TBool z) F h e = absurd (cc)
  prim_cell q us is (TChar z) F h e = absurd (cc)
  prim_cell q us is (TFn i t) F h e = absurd (cc)
  prim_cell q us is (TTypeFn n t) F h e = absurd (cc)
  prim_cell q us is (TIndexFn ss t) F h e = absurd (cc)
  prim_cell q us is (TBoxed js t u) F h e = absurd (cc)

  -- ---- under types

  types_taken : (q : Primitive) → PrimForm q → (n : ℕ) (b : Ty) → Same (prim_type q) (Forall no_span n b) → has_types q ≡ true
  types_taken q (plain ts o e t i) n b s = absurd (subst (λ g. Same g (Forall no_span n b)) e s)
  types_taken q (of_types m ts o e t i) n b s = t
  types_taken q (of_indices ss ts o e t i) n b s = absurd (subst (λ g. Same g (Forall no_span n b)) e s)
  types_taken q (of_both m ss ts o e t i) n b s = t

  pub typed_prim : (T : Ty) (q : Primitive) (r : Word) → Witnessed D T (TTypeApp (scalar_of (TPrim q None None)) tt r) → has_types q ≡ true
  typed_prim T q r g = by g.0 g.1 g.2
    where
      bare : (n : ℕ) (b : Ty) (vs : Option (List Ty)) (js : Option (List Index)) → PrimHas (defs_only D) (prim_type q) vs js (Forall no_span n b) → option_map (λ u. tt) vs ≡ (let none : Option (Unit {0}) = None in none)
          → option_map (each (norm_in [])) js ≡ None → has_types q ≡ true
      bare n b None None h e f = types_taken q (prim_form q) n b h.1
      bare n b None (Some js) h e f = absurd (cc)
      bare n b (Some vs) js h e f = absurd (cc)

      by : (w : TypedTerm) → HasTerm (defs_only D) w T → er [] w ≡ TTypeApp (scalar_of (TPrim q None None)) tt r → has_types q ≡ true
      by (TTypeApp v us n) h e =
          let one : er [] v ≡ scalar_of (TPrim q None None) = cc in
          let c = scalar_cell (TPrim q None None) v (Forall no_span h.0 h.1) h.2 h.3 one in
          let p = prim_cell q None None c.0 (Forall no_span h.0 h.1) c.1 c.2 in
          bare h.0 h.1 p.0 p.1 p.2 p.3 p.4
      by _ h e = absurd (cc)

  -- ---- under indices

  -- a primitive takes indices of these sorts
  abbrev IndexRow : Primitive → Bool → List Sort → Type 0
  IndexRow q typed ss = (row_sorts (prim_type q) ≡ ss) × (has_indices q ≡ true) × (agrees (has_types q) typed ≡ true)

  indices_taken : (q : Primitive) → PrimForm q → (vs : Option (List Ty)) (ss : List Sort) (b : Ty) → PrimHas (defs_only D) (prim_type q) vs None (Pi no_span ss b) → IndexRow q (is_some vs) ss
  indices_taken q (plain ts o e t i) None ss b h = absurd (subst (λ g. PrimHas (defs_only D) g None None (Pi no_span ss b)) e h).1
  indices_taken q (of_types m ts o e t i) None ss b h = absurd (subst (λ g. PrimHas (defs_only D) g None None (Pi no_span ss b)) e h).1
  indices_taken q (of_indices rs ts o e t i) None ss b h = (ap row_sorts e ∙ (subst (λ g. PrimHas (defs_only D) g None None (Pi no_span ss b)) e h).1.0, i, ap (λ b. agrees b false) t)
  indices_taken q (of_both m rs ts o e t i) None ss b h = absurd (subst (λ g. PrimHas (defs_only D) g None None (Pi no_span ss b)) e h).1
  indices_taken q (plain ts o e t i) (Some vs) ss b h = absurd (subst (λ g. PrimHas (defs_only D) g (Some vs) None (Pi no_span ss b)) e h)
  indices_taken q (of_types m ts o e t i) (Some vs) ss b h = absurd (subst (λ g. PrimHas (defs_only D) g (Some vs) None (Pi no_span ss b)) e h).2.1
  indices_taken q (of_indices rs ts o e t i) (Some vs) ss b h = absurd (subst (λ g. PrimHas (defs_only D) g (Some vs) None (Pi no_span ss b)) e h)
  indices_taken q (of_both m rs ts o e t i) (Some vs) ss b h = (ap row_sorts e ∙ (subst (λ g. PrimHas (defs_only D) g (Some vs) None (Pi no_span ss b)) e h).2.1.0, i, ap (λ b. agrees b true) t)

  -- a row that takes indices has a sort
  some_sort : (q : Primitive) → PrimForm q → has_indices q ≡ true → row_sorts (prim_type q) ≡ [] → ⊥
  some_sort q f i e = by q i e
    where
      by : (q : Primitive) → has_indices q ≡ true → row_sorts (prim_type q) ≡ [] → ⊥
      by p.Add i e = cc
      by _ i e = cc

  -- the values of closed indices have their sorts
  pub sorted_values : (ss : List Sort) (is : List Index) → EachTwo (IsSorted []) ss is → have_sorts ss (each norm_value (each (norm_in []) is)) ≡ true
  sorted_values ss is h = ap (have_sorts ss) (erased_values ss is h) ∙ sorts_of_values ss is h

  pub indexed_prim : (T : Ty) (q : Primitive) (us : Option (Unit {0})) (is : List NormIndex) (r : Word) → Witnessed D T (TIndexApp (scalar_of (TPrim q us None)) is r)
      → (length (row_sorts (prim_type q)) ≡ length is) × (row_sorts (prim_type q) ≡ [] → ⊥) × (agrees (has_types q) (is_some us) ≡ true) × (have_sorts (row_sorts (prim_type q)) (each norm_value is) ≡ true)
  indexed_prim T q us is r g = by g.0 g.1 g.2
    where
      same_some : (vs : Option (List Ty)) (us : Option (Unit {0})) → option_map (λ u. tt) vs ≡ us → is_some vs ≡ is_some us
      same_some None None e = refl
      same_some (Some vs) (Some u) e = refl
      same_some None (Some u) e = absurd (cc)
      same_some (Some vs) None e = absurd (cc)

      taken : (ss : List Sort) (b : Ty) (vs : Option (List Ty)) (js : Option (List Index)) → PrimHas (defs_only D) (prim_type q) vs js (Pi no_span ss b) → option_map (each (norm_in [])) js ≡ None → IndexRow q (is_some vs) ss
      taken ss b vs None h f = indices_taken q (prim_form q) vs ss b h
      taken ss b vs (Some js) h f = absurd (cc)

      by : (w : TypedTerm) → HasTerm (defs_only D) w T → er [] w ≡ TIndexApp (scalar_of (TPrim q us None)) is r
          → (length (row_sorts (prim_type q)) ≡ length is) × (row_sorts (prim_type q) ≡ [] → ⊥) × (agrees (has_types q) (is_some us) ≡ true) × (have_sorts (row_sorts (prim_type q)) (each norm_value is) ≡ true)
      by (TIndexApp v js n) h e =
          let one : er [] v ≡ scalar_of (TPrim q us None) = cc in
          let two : each (norm_in []) js ≡ is = cc in
          let c = scalar_cell (TPrim q us None) v (Pi no_span h.0 h.1) h.2 h.3 one in
          let p = prim_cell q us None c.0 (Pi no_span h.0 h.1) c.1 c.2 in
          let row = taken h.0 h.1 p.0 p.1 p.2 p.4 in (
            ap length row.0 ∙ two_count (IsSorted []) h.0 js h.4 ∙ sym (length_each (norm_in []) js) ∙ ap length two,
            some_sort q (prim_form q) row.1,
            ap (agrees (has_types q)) (sym (same_some p.0 us p.3)) ∙ row.2,
            (λ i. have_sorts (row.0 i) (each norm_value (sym two i))) ∙ sorted_values h.0 js h.4,
          )
      by _ h e = absurd (cc)
