-- Erasure and what a form does at one atom of its type: `t-beta`, `i-beta` and `unbox`.
use Rattle.std.proofs.Common.{◌≡◌, refl, sym, ◌∙◌, ap, subst, List, [], ◌∷◌, Some, None, Bool, true, false}
use Rattle.std.specs.Prelude.{option_map}
use Rattle.core_syntax.specs.declared.index.Sort.{Sort}
use Rattle.core_syntax.specs.declared.errors.TrapKind.TheVariants as trap
use Rattle.core_syntax.specs.Data.{HasSort}
use Rattle.core_syntax.specs.Fits.{all_fit}
use Rattle.core_syntax.specs.Kinds.{is_atom_kind}
use Rattle.core_syntax.specs.Lists.{Each, each, EachTwo, onto}
use Rattle.core_syntax.specs.Move.{Move, Goes, Trapped}
use Rattle.core_syntax.specs.Rules.{type_beta, index_beta, index_beta_at, unbox_one}
use Rattle.core_syntax.specs.Sorts.{IsSorted}
use Rattle.core_syntax.specs.Subst.{put_all, put_first}
use Rattle.core_syntax.specs.Syntax.{Index, Ty, Pi, no_span, Sigma}
use Rattle.core_syntax.specs.TermPut.{term_put}
use Rattle.core_syntax.specs.TermTyping.{HasCell}
use Rattle.core_syntax.specs.Terms.{Cell, TTypeFn, TPrim, TInt, TBool, TChar, TFn, TIndexFn, TBoxed, scalar_of}
use Rattle.core_syntax.specs.Typed.{typed, typed_rules, closed_value, TypedTerm}
use Rattle.core_syntax.specs.Typing.{IsAtomType, defs_only}
use Rattle.erasure.specs.Erased.{erased_rules, ErasedTerm}
use Rattle.erasure.specs.Erasure.{er, er_cell, norm_in}
use Rattle.erasure.proofs.together.Bodies.{er_type_beta, er_index_beta, erased_values, er_unbox, er_values}
use Rattle.reduction_laws.proofs.programs.Printed.{values_have_sorts}
use Rattle.erasure.proofs.together.Applied.{move_map}

module _ (D : List Ty) where
  kinds : (us : List Ty) → Each (IsAtomType (defs_only D)) us → Each (λ u. is_atom_kind u ≡ true) us
  kinds [] h = tt
  kinds (u ∷ us) h = (h.0.0, kinds us h.1)

  -- at an atom of a Forall type
  er_type_act : (us : List Ty) → Each (IsAtomType (defs_only D)) us → (x : Cell typed) → move_map (er []) (type_beta typed_rules us (x ∷ [])) ≡ type_beta erased_rules tt (er_cell [] x ∷ [])
  er_type_act us h (TTypeFn n t) = ap Goes (er_type_beta D us t (kinds us h))
  er_type_act us h (TPrim q None None) = refl
  er_type_act us h (TPrim q (Some vs) None) = refl
  er_type_act us h (TPrim q None (Some ks)) = refl
  er_type_act us h (TPrim q (Some vs) (Some ks)) = refl
  er_type_act us h (TInt z) = refl
  er_type_act us h (TBool z) = refl
  er_type_act us h (TChar z) = refl
  er_type_act us h (TFn i t) = refl
  er_type_act us h (TIndexFn ss t) = refl
  er_type_act us h (TBoxed is t u) = refl

  -- at the atoms of an array of a Forall type
  pub er_type_acts : (us : List Ty) → Each (IsAtomType (defs_only D)) us → (xs : List (Cell typed)) → move_map (er []) (type_beta typed_rules us xs) ≡ type_beta erased_rules tt (each (er_cell []) xs)
  er_type_acts us h [] = refl
  er_type_acts us h (x ∷ []) = er_type_act us h x
  er_type_acts us h (TTypeFn n t ∷ y ∷ ys) = refl
  er_type_acts us h (TPrim q None None ∷ y ∷ ys) = refl
  er_type_acts us h (TPrim q (Some vs) None ∷ y ∷ ys) = refl
  er_type_acts us h (TPrim q None (Some ks) ∷ y ∷ ys) = refl
  er_type_acts us h (TPrim q (Some vs) (Some ks) ∷ y ∷ ys) = refl
  er_type_acts us h (TInt z ∷ y ∷ ys) = refl
  er_type_acts us h (TBool z ∷ y ∷ ys) = refl
  er_type_acts us h (TChar z ∷ y ∷ ys) = refl
  er_type_acts us h (TFn i t ∷ y ∷ ys) = refl
  er_type_acts us h (TIndexFn ss t ∷ y ∷ ys) = refl
  er_type_acts us h (TBoxed is t u ∷ y ∷ ys) = refl

  -- at an atom of a Pi type
  er_index_at : (is : List Index) (rs : List Sort) (bb : Ty) → EachTwo (IsSorted []) rs is → (x : Cell typed) → HasCell (defs_only D) x (Pi no_span rs bb)
      → move_map (er []) (index_beta_at typed_rules (each closed_value is) (x ∷ [])) ≡ index_beta_at erased_rules (each closed_value is) (er_cell [] x ∷ [])
  er_index_at is rs bb s (TIndexFn ss t) h = ap Goes (er_index_beta D ss (each closed_value is) t (subst (λ ss. EachTwo HasSort ss (each closed_value is)) (sym h.2.1.0) (values_have_sorts rs is s)))
  er_index_at is rs bb s (TPrim q vs None) h = ap (λ z. Goes (scalar_of (TPrim q (option_map (λ u. tt {0}) vs) (Some z)))) (er_values (each closed_value is))
  er_index_at is rs bb s (TPrim q vs (Some ks)) h = refl
  er_index_at is rs bb s (TInt z) h = refl
  er_index_at is rs bb s (TBool z) h = refl
  er_index_at is rs bb s (TChar z) h = refl
  er_index_at is rs bb s (TFn i t) h = refl
  er_index_at is rs bb s (TTypeFn n t) h = refl
  er_index_at is rs bb s (TBoxed ks t u) h = refl

  -- at the atoms of an array of a Pi type
  indices_at : (is : List Index) (rs : List Sort) (bb : Ty) → EachTwo (IsSorted []) rs is → (xs : List (Cell typed)) → Each (λ x. HasCell (defs_only D) x (Pi no_span rs bb)) xs
      → move_map (er []) (index_beta_at typed_rules (each closed_value is) xs) ≡ index_beta_at erased_rules (each closed_value is) (each (er_cell []) xs)
  indices_at is rs bb s [] h = refl
  indices_at is rs bb s (x ∷ []) h = er_index_at is rs bb s x h.0
  indices_at is rs bb s (TIndexFn ss t ∷ y ∷ ys) h = refl
  indices_at is rs bb s (TPrim q vs None ∷ y ∷ ys) h = refl
  indices_at is rs bb s (TPrim q vs (Some ks) ∷ y ∷ ys) h = refl
  indices_at is rs bb s (TInt z ∷ y ∷ ys) h = refl
  indices_at is rs bb s (TBool z ∷ y ∷ ys) h = refl
  indices_at is rs bb s (TChar z ∷ y ∷ ys) h = refl
  indices_at is rs bb s (TFn i t ∷ y ∷ ys) h = refl
  indices_at is rs bb s (TTypeFn n t ∷ y ∷ ys) h = refl
  indices_at is rs bb s (TBoxed ks t u ∷ y ∷ ys) h = refl

  pub er_index_acts : (is : List Index) (rs : List Sort) (bb : Ty) → EachTwo (IsSorted []) rs is → (xs : List (Cell typed)) → Each (λ x. HasCell (defs_only D) x (Pi no_span rs bb)) xs
      → move_map (er []) (index_beta typed_rules is xs) ≡ index_beta erased_rules (each (norm_in []) is) (each (er_cell []) xs)
  er_index_acts is rs bb s xs h =
      by (all_fit (each closed_value is))
      ∙ ap (λ vs. elim (all_fit vs) as (λ b. Move ErasedTerm) [ true ↦ index_beta_at erased_rules vs (each (er_cell []) xs) | false ↦ Trapped trap.Size ]) (sym (erased_values rs is s))
    where
      by : (b : Bool) → move_map (er []) (elim b as (λ b. Move TypedTerm) [ true ↦ index_beta_at typed_rules (each closed_value is) xs | false ↦ Trapped trap.Size ])
          ≡ (elim b as (λ b. Move ErasedTerm) [ true ↦ index_beta_at erased_rules (each closed_value is) (each (er_cell []) xs) | false ↦ Trapped trap.Size ])
      by true = indices_at is rs bb s xs h
      by false = refl

  -- at an atom of a Sigma type
  er_unbox_act : (ss : List Sort) (c : Ty) (e : TypedTerm) (x : Cell typed) → HasCell (defs_only D) x (Sigma no_span ss c)
      → move_map (er []) (unbox_one typed_rules e (x ∷ [])) ≡ unbox_one erased_rules (er (onto ss []) e) (er_cell [] x ∷ [])
  er_unbox_act ss c e (TBoxed is t (Sigma at rs b)) h =
      let sorts : EachTwo (IsSorted []) ss is = subst (λ ss. EachTwo (IsSorted []) ss is) h.2.1.0 h.1.0 in
      ap Goes
      (er_unbox D ss (each closed_value is) t e (values_have_sorts ss is sorts) (_, h.1.1)
      ∙ ap (λ vs. term_put erased_rules (put_all vs) (put_first (er [] t ∷ [])) (er (onto ss []) e)) (sym (erased_values ss is sorts)))
  er_unbox_act ss c e (TBoxed is t _) h = absurd h.1
  er_unbox_act ss c e (TPrim q vs ks) h = refl
  er_unbox_act ss c e (TInt z) h = refl
  er_unbox_act ss c e (TBool z) h = refl
  er_unbox_act ss c e (TChar z) h = refl
  er_unbox_act ss c e (TFn i t) h = refl
  er_unbox_act ss c e (TTypeFn n t) h = refl
  er_unbox_act ss c e (TIndexFn rs t) h = refl

  -- at the atoms of an array of a Sigma type
  pub er_unbox_acts : (ss : List Sort) (c : Ty) (e : TypedTerm) (xs : List (Cell typed)) → Each (λ x. HasCell (defs_only D) x (Sigma no_span ss c)) xs
      → move_map (er []) (unbox_one typed_rules e xs) ≡ unbox_one erased_rules (er (onto ss []) e) (each (er_cell []) xs)
  er_unbox_acts ss c e [] h = refl
  er_unbox_acts ss c e (x ∷ []) h = er_unbox_act ss c e x h.0
  er_unbox_acts ss c e (TBoxed is t u ∷ y ∷ ys) h = refl
  er_unbox_acts ss c e (TPrim q vs ks ∷ y ∷ ys) h = refl
  er_unbox_acts ss c e (TInt z ∷ y ∷ ys) h = refl
  er_unbox_acts ss c e (TBool z ∷ y ∷ ys) h = refl
  er_unbox_acts ss c e (TChar z ∷ y ∷ ys) h = refl
  er_unbox_acts ss c e (TFn i t ∷ y ∷ ys) h = refl
  er_unbox_acts ss c e (TTypeFn n t ∷ y ∷ ys) h = refl
  er_unbox_acts ss c e (TIndexFn rs t ∷ y ∷ ys) h = refl
