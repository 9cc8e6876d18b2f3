-- Erasure and an application of values: a function on scalars, and the rules over a frame.
use Rattle.std.proofs.Common.{◌≡◌, refl, sym, ◌∙◌, ap, ℕ, List, [], ◌∷◌, ◌++◌, Option, Some, None, Bool, true, false, length}
use Rattle.std.specs.Prelude.{option_map, ◌==◌, ◌^◌, nat_lt, is_some, ◌&&◌}
use Rattle.core_syntax.specs.declared.index.Sort.{Sort}
use Rattle.core_syntax.specs.declared.primitive.Primitive.{Primitive}
use Rattle.core_syntax.specs.declared.errors.TrapKind.TheVariants as trap
use Rattle.core_syntax.specs.Arrays.{array, greatest}
use Rattle.core_syntax.specs.Delta.{delta}
use Rattle.core_syntax.specs.Lists.{each, EachTwo, Each, product}
use Rattle.core_syntax.specs.Move.{Move, Rests, first_move, Trapped, Goes, Lost, if_there}
use Rattle.core_syntax.specs.Norm.{norm_word}
use Rattle.core_syntax.specs.Prims.{prim_type}
use Rattle.core_syntax.specs.Rules.{apply, apply_at, apply_atom, agrees, has_types, has_indices, answered, atom_rules, values_of, dims_of, atoms_of, apply_over, goes_empty, frames_of}
use Rattle.core_syntax.specs.Sorts.{IsSorted}
use Rattle.core_syntax.specs.Subst.{put_all}
use Rattle.core_syntax.specs.Syntax.{Ty, Index, Pi}
use Rattle.core_syntax.specs.TermPut.{term_put}
use Rattle.core_syntax.specs.TermTyping.{GivenIndices, PrimHas, HasCell}
use Rattle.core_syntax.specs.Terms.{Cell, TFn, TPrim, TInt, TBool, TChar, TTypeFn, TIndexFn, TBoxed}
use Rattle.core_syntax.specs.Typed.{typed, closed, Inputs, TypedTerm, typed_rules, closed_value}
use Rattle.core_syntax.specs.Typing.{defs_only, Takes}
use Rattle.core_syntax.specs.Value.{shape_val}
use Rattle.erasure.specs.Erased.{erased_rules, ErasedTerm}
use Rattle.erasure.specs.Erasure.{er, er_cell, cell_word, norm_in}
use Rattle.core_syntax.specs.NormPut.{norm_value, word_value}
use Rattle.erasure.proofs.together.Answers.{IsClosedIndex, AreClosed, types_erased, indices_erased, delta_erased}
use Rattle.erasure.proofs.together.Applied.{move_map, er_atoms, er_apply_over, erased_cells, er_frames, er_dims}
use Rattle.erasure.proofs.together.Bodies.{Closed, er_beta}
use Rattle.reduction_laws.proofs.putting.Binders.{length-each}
use Rattle.erasure.proofs.together.Closed.{given_inside}
use Rattle.erasure.proofs.together.Rules.{er_empty, er_result_dims}

-- a part's move on both sides, where the rest is needed only if the part rests
pub first_erased : {A B C D : Type 0} (g : B → D) (h : A → C) (f : A → B) (f' : C → D) (m : Move A) (later : Move B) (later' : Move D) → ((a : A) → g (f a) ≡ f' (h a)) → (m ≡ Rests → move_map g later ≡ later')
    → move_map g (first_move m f later) ≡ first_move (move_map h m) f' later'
first_erased g h f f' Rests later later' e k = k refl
first_erased g h f f' (Trapped q) later later' e k = refl
first_erased g h f f' (Goes a) later later' e k = ap Goes (e a)
first_erased g h f f' Lost later later' e k = refl

-- ---- a typed primitive has closed indices

pub each_sorted : (qs : List Sort) (is : List Index) → EachTwo (IsSorted []) qs is → Each IsClosedIndex is
each_sorted [] [] h = tt
each_sorted (q ∷ qs) (i ∷ is) h = ((q, h.0), each_sorted qs is h.1)
each_sorted [] (i ∷ is) h = absurd h
each_sorted (q ∷ qs) [] h = absurd h

module _ (D : List Ty) where
  given_closed : (g : Ty) (is : List Index) (P : Ty → Type 0) → GivenIndices (defs_only D) g is P → Each IsClosedIndex is
  given_closed (Pi at ss b) is P h = each_sorted ss is h.0
  given_closed _ is P h = absurd h

  pub prim_closed : (g : Ty) (us : Option (List Ty)) (is : Option (List Index)) (t : Ty) → PrimHas (defs_only D) g us is t → AreClosed is
  prim_closed g us None t h = tt
  prim_closed g None (Some is) t h = given_closed g is (λ u. Takes (defs_only D) u t) h
  prim_closed g (Some us) (Some is) t h =
      given_inside (defs_only D) g us (λ u. GivenIndices (defs_only D) u is (λ v. Takes (defs_only D) v t)) (Each IsClosedIndex is) (λ u k. given_closed u is (λ v. Takes (defs_only D) v t) k) h

  -- ---- `beta` and `delta`

  fn_erased : (i : Inputs) (e : TypedTerm) (ts : List TypedTerm) (r : Ty) → Each (Closed D) ts
      → move_map (er []) (apply_atom typed_rules (TFn i e ∷ []) ts r) ≡ apply_atom erased_rules (er_cell [] (TFn i e) ∷ []) (each (er []) ts) (cell_word r)
  fn_erased i e ts r h =
      by (length i.inputs == length ts)
      ∙ ap (λ n. elim (length i.inputs == n) as (λ b. Move ErasedTerm) [ true ↦ Goes (term_put erased_rules erased_rules.put_none (put_all (each (er []) ts)) (er [] e)) | false ↦ Lost ]) (sym (length-each (er []) ts))
    where
      by : (b : Bool) → move_map (er []) (elim b as (λ b. Move TypedTerm) [ true ↦ Goes (term_put typed_rules typed_rules.put_none (put_all ts) e) | false ↦ Lost ])
          ≡ (elim b as (λ b. Move ErasedTerm) [ true ↦ Goes (term_put erased_rules erased_rules.put_none (put_all (each (er []) ts)) (er [] e)) | false ↦ Lost ])
      by true = ap Goes (er_beta D ts e h)
      by false = refl

  is_there : {A B : Type 0} (f : A → B) (o : Option A) → is_some (option_map f o) ≡ is_some o
  is_there f None = refl
  is_there f (Some a) = refl

  prim_erased : (q : Primitive) (us : Option (List Ty)) (is : Option (List Index)) → AreClosed is → (ts : List TypedTerm) (r : Ty)
      → move_map (er []) (apply_atom typed_rules (TPrim q us is ∷ []) ts r) ≡ apply_atom erased_rules (er_cell [] (TPrim q us is) ∷ []) (each (er []) ts) (cell_word r)
  prim_erased q us is h ts r =
      by (agrees (has_types q) (is_some us) && agrees (has_indices q) (is_some is))
      ∙ λ j. elim (agrees (has_types q) (sym (is_there (λ u. tt {0}) us) j) && agrees (has_indices q) (sym (is_there (each (norm_in [])) is) j)) as (λ b. Move ErasedTerm) [ true ↦ given | false ↦ Lost ]
    where
      given : Move ErasedTerm
      given =
          answered erased_rules (cell_word r) (types_erased us) (indices_erased is)
          (delta (atom_rules erased_rules (cell_word r)) q (values_of norm_value (indices_erased is)) (each (λ t. array (dims_of erased_rules t) (atoms_of erased_rules t)) (each (er []) ts)))

      by : (b : Bool) → move_map (er []) (elim b as (λ b. Move TypedTerm) [
        | true ↦ answered typed_rules r us is (delta (atom_rules typed_rules r) q (values_of closed_value is) (each (λ t. array (dims_of typed_rules t) (atoms_of typed_rules t)) ts))
        | false ↦ Lost
      ]) ≡ (elim b as (λ b. Move ErasedTerm) [ true ↦ given | false ↦ Lost ])
      by true = delta_erased q us is h ts r
      by false = refl

  -- a function on scalars
  pub atom_erased : (xs : List (Cell typed)) (a : Ty) → Each (λ x. HasCell (defs_only D) x a) xs → (ts : List TypedTerm) (r : Ty) → Each (Closed D) ts
      → move_map (er []) (apply_atom typed_rules xs ts r) ≡ apply_atom erased_rules (each (er_cell []) xs) (each (er []) ts) (cell_word r)
  atom_erased [] a h ts r c = refl
  atom_erased (TFn i e ∷ []) a h ts r c = fn_erased i e ts r c
  atom_erased (TPrim q us is ∷ []) a h ts r c = prim_erased q us is (prim_closed (prim_type q) us is a h.0) ts r
  atom_erased (TInt z ∷ []) a h ts r c = refl
  atom_erased (TBool b ∷ []) a h ts r c = refl
  atom_erased (TChar z ∷ []) a h ts r c = refl
  atom_erased (TTypeFn n e ∷ []) a h ts r c = refl
  atom_erased (TIndexFn ss e ∷ []) a h ts r c = refl
  atom_erased (TBoxed is e u ∷ []) a h ts r c = refl
  atom_erased (TFn i e ∷ y ∷ ys) a h ts r c = refl
  atom_erased (TPrim q us is ∷ y ∷ ys) a h ts r c = refl
  atom_erased (TInt z ∷ y ∷ ys) a h ts r c = refl
  atom_erased (TBool b ∷ y ∷ ys) a h ts r c = refl
  atom_erased (TChar z ∷ y ∷ ys) a h ts r c = refl
  atom_erased (TTypeFn n e ∷ y ∷ ys) a h ts r c = refl
  atom_erased (TIndexFn ss e ∷ y ∷ ys) a h ts r c = refl
  atom_erased (TBoxed is e u ∷ y ∷ ys) a h ts r c = refl

  -- ---- over a frame

  module _ (f : TypedTerm) (a : Ty) (hf : Each (λ x. HasCell (defs_only D) x a) (atoms_of typed_rules f)) (ts : List TypedTerm) (c : Each (Closed D) ts) (cs : List Index) (r : Ty) where
    over_erased : (F : List ℕ) (frames : List (List ℕ)) → move_map (er []) (apply_over typed_rules F frames f ts cs r) ≡ apply_over erased_rules F frames (er [] f) (each (er []) ts) (each norm_word cs) (cell_word r)
    over_erased [] frames = atom_erased (atoms_of typed_rules f) a hf ts r c ∙ ap (λ xs. apply_atom erased_rules xs (each (er []) ts) (cell_word r)) (sym (er_atoms [] f))
    over_erased (n ∷ F) frames = sym (er_apply_over [] n F frames f ts cs r)

    at_erased : (F : List ℕ) (frames : List (List ℕ)) → move_map (er []) (apply_at typed_rules F frames f ts cs r) ≡ apply_at erased_rules F frames (er [] f) (each (er []) ts) (each norm_word cs) (cell_word r)
    at_erased F frames = by (nat_lt (2 ^ 24) (product F)) (product F == 0)
      where
        empty : move_map (er []) (goes_empty typed_rules (F ++ typed_rules.result_dims r) (typed_rules.result_atom r)) ≡ goes_empty erased_rules (F ++ word_value (cell_word r)) tt
        empty = er_empty [] (F ++ typed_rules.result_dims r) (typed_rules.result_atom r) ∙ ap (λ d. goes_empty erased_rules (F ++ d) tt) (sym (er_result_dims [] r))

        by : (a b : Bool)
            → move_map (er []) (elim a as (λ b. Move TypedTerm) [
              | true ↦ Trapped trap.Size
              | false ↦ elim b as (λ b. Move TypedTerm) [ true ↦ goes_empty typed_rules (F ++ typed_rules.result_dims r) (typed_rules.result_atom r) | false ↦ apply_over typed_rules F frames f ts cs r ]
            ]) ≡ (elim a as (λ b. Move ErasedTerm) [
              | true ↦ Trapped trap.Size
              | false ↦ elim b as (λ b. Move ErasedTerm) [ true ↦ goes_empty erased_rules (F ++ word_value (cell_word r)) tt | false ↦ apply_over erased_rules F frames (er [] f) (each (er []) ts) (each norm_word cs) (cell_word r) ]
            ])
        by true b = refl
        by false true = empty
        by false false = over_erased F frames

    greatest_erased : (frames : List (List ℕ)) (o : Option (List ℕ)) → move_map (er []) (if_there o (λ F. apply_at typed_rules F frames f ts cs r)) ≡ if_there o (λ F. apply_at erased_rules F frames (er [] f) (each (er []) ts) (each norm_word cs) (cell_word r))
    greatest_erased frames None = refl
    greatest_erased frames (Some F) = at_erased F frames

    frames_erased : (o : Option (List (List ℕ)))
        → move_map (er []) (if_there o (λ frames. if_there (greatest (dims_of typed_rules f ∷ frames)) (λ F. apply_at typed_rules F frames f ts cs r)))
        ≡ if_there o (λ frames. if_there (greatest (dims_of typed_rules f ∷ frames)) (λ F. apply_at erased_rules F frames (er [] f) (each (er []) ts) (each norm_word cs) (cell_word r)))
    frames_erased None = refl
    frames_erased (Some frames) = greatest_erased frames (greatest (dims_of typed_rules f ∷ frames))

    -- an application of values
    pub apply_erased : move_map (er []) (apply typed_rules f ts cs r) ≡ apply erased_rules (er [] f) (each (er []) ts) (each norm_word cs) (cell_word r)
    apply_erased =
        frames_erased (frames_of typed_rules (each (shape_val closed) cs) ts)
        ∙ λ i. if_there (sym (ap (λ c. frames_of erased_rules c (each (er []) ts)) (erased_cells cs) ∙ er_frames [] (each (shape_val closed) cs) ts) i)
        (λ frames. if_there (greatest (sym (er_dims [] f) i ∷ frames)) (λ F. apply_at erased_rules F frames (er [] f) (each (er []) ts) (each norm_word cs) (cell_word r)))
