-- The typed terms of a checked program: those of its definitions have the definitions' types, and that of its body the result type.
use Rattle.std.proofs.Common.{◌≡◌, refl, sym, ◌∙◌, ap, subst, ℕ, zero, suc, arith, List, [], ◌∷◌, ◌++◌, append-nil, append_assoc, true}
use Rattle.core_syntax.specs.Syntax.{Ty, BaseTy, Sigma, Arr, Def, Program}
use Rattle.core_syntax.specs.Lists.{each, Each, EachTwo}
use Rattle.core_syntax.specs.Kinds.{IsWellFormed}
use Rattle.core_syntax.specs.TypeEqual.{Same}
use Rattle.core_syntax.specs.NormTypes.{norm_ty}
use Rattle.core_syntax.specs.Made.{behind_defs, DefsMade, IsWellMade}
use Rattle.core_syntax.specs.Typing.{under_terms, is_printable, is_printable_atom, defs_only, DefsTyped, body_context, Typed}
use Rattle.core_syntax.specs.Notes.{NodeNote, DefsNotesAre}
use Rattle.core_syntax.specs.Checks.{IsChecked}
use Rattle.core_syntax.specs.TermTyping.{HasTerm, DefTermsTyped}
use Rattle.core_syntax.specs.Annotate.{annotated, annotated_defs}
use Rattle.core_syntax.specs.Start.{def_terms, body_term}
use Rattle.core_syntax.proofs.Equality.{same_sym}
use Rattle.core_syntax.proofs.Unique.{unique}
use Rattle.core_syntax.proofs.NormTyLemmas.{norm_same}
use Rattle.core_syntax.proofs.Alike.{Alike, has_alike, are_same_refl}
use Rattle.reduction_laws.proofs.programs.Alikes.{alike_terms}
use Rattle.reduction_laws.proofs.programs.NormFormed.{formed_norm}
use Rattle.reduction_laws.proofs.putting.Wider.{Extends, has_wider}
use Rattle.reduction_laws.proofs.programs.Annotated.{annotated_has}

-- ---- contexts

alike_refl : (D : List Ty) → Alike (defs_only D) (defs_only D)
alike_refl D = record { types = refl; sorts = refl; defs = are_same_refl D; terms = tt }

extends_append : {A : Type 0} (xs ys : List A) → Extends xs (xs ++ ys)
extends_append [] ys k a e = absurd (cc)
extends_append (x ∷ xs) ys zero a e = e
extends_append (x ∷ xs) ys (suc k) a e = extends_append xs ys k a e

are_normal : (ts : List Ty) → EachTwo Same ts (each norm_ty ts)
are_normal [] = tt
are_normal (t ∷ ts) = (same_sym (norm_ty t) t (norm_same t), are_normal ts)

-- the inputs' types and their normal types
inputs_alike : (D ts : List Ty) → Alike (under_terms ts (defs_only D)) (under_terms (each norm_ty ts) (defs_only D))
inputs_alike D ts = alike_terms ts (each norm_ty ts) (defs_only D) (defs_only D) (are_normal ts) (alike_refl D)

inputs_formed : (ts : List Ty) → Each (λ t. IsWellFormed 0 [] t × (is_printable t ≡ true)) ts → Each (IsWellFormed 0 []) (each norm_ty ts)
inputs_formed [] h = tt
inputs_formed (t ∷ ts) h = (formed_norm 0 [] t h.0.0, inputs_formed ts h.1)

-- ---- printable types

mutual
  same_printable : (t u : Ty) → Same t u → is_printable t ≡ true → is_printable u ≡ true
  same_printable (Arr at t i) (Arr at' u j) e h = same_printable_atom t u e.0 h
  same_printable (Arr at t i) _ e h = absurd e
  same_printable _ u e h = absurd (cc)

  same_printable_atom : (t u : Ty) → Same t u → is_printable_atom t ≡ true → is_printable_atom u ≡ true
  same_printable_atom (BaseTy at b) (BaseTy at' c) e h = refl
  same_printable_atom (Sigma at ss t) (Sigma at' rs u) e h = same_printable t u e.1 h
  same_printable_atom (BaseTy at b) _ e h = absurd e
  same_printable_atom (Sigma at ss t) _ e h = absurd e
  same_printable_atom _ u e h = absurd (cc)

-- ---- definitions

-- those behind the definitions with these types, where D are the types of all
defs_annotated : (D earlier : List Ty) (n : ℕ) (ds : List Def) → D ≡ earlier ++ each (λ d. d.ty) ds → DefsMade n ds → DefsTyped earlier ds
    → (ms : List NodeNote) → DefsNotesAre earlier ds ms → (ns rest : List NodeNote) → ns ≡ ms ++ rest
    → EachTwo (λ u t. HasTerm (defs_only D) t u) (each (λ d. d.ty) ds) (annotated_defs ds ns).0 × ((annotated_defs ds ns).1 ≡ rest)
defs_annotated D earlier n [] q m h ms j ns rest e = (tt, e ∙ ap (λ l. l ++ rest) j)
defs_annotated D earlier n (d ∷ ds) q m h ms j ns rest e =
    let r = annotated_has (behind_defs n) (defs_only earlier) (defs_only earlier) (alike_refl earlier) d.value d.ty m.1 h.0.2 j.0 j.3 ns (j.1 ++ rest)
    (e ∙ ap (λ l. l ++ rest) j.2 ∙ append_assoc j.0 j.1 rest) in
    let s = defs_annotated D (earlier ++ d.ty ∷ []) (suc n) ds (q ∙ sym (append_assoc earlier (d.ty ∷ []) (each (λ d. d.ty) ds))) m.2 h.1 j.1 j.4 (annotated d.value ns).1 rest r.1 in (
      (
        has_wider (defs_only earlier) (defs_only D)
            (record {
              defs = subst (Extends earlier) (sym q) (extends_append earlier (d.ty ∷ each (λ d. d.ty) ds));
              types = omega arith;
              sorts = λ k a e. e;
              terms = λ k a e. e;
            }) (annotated d.value ns).0 d.ty r.0,
        s.0,
      ),
      s.1,
    )

-- ---- programs

module _ (P : Program) (result : Ty) (inputs : List Ty) (notes : List NodeNote) (made : IsWellMade P) (typed : Typed P) (checked : IsChecked P result inputs notes) where
  -- the types of the definitions
  abbrev pub types_of : List Ty
  types_of = each (λ d. d.ty) P.defs

  defs_are : EachTwo (λ u t. HasTerm (defs_only types_of) t u) types_of (def_terms P notes) × ((annotated_defs P.defs notes).1 ≡ checked.notes_are.1)
  defs_are =
      let j = checked.notes_are in
      let r = defs_annotated types_of [] 0 P.defs refl made.defs typed.defs j.0 j.3 notes j.1 j.2 in
      (r.0, r.1)

  pub defs_typed : DefTermsTyped types_of (def_terms P notes)
  defs_typed = defs_are.0

  pub body_typed : HasTerm (under_terms (each norm_ty P.inputs) (defs_only types_of)) (body_term P notes) result
  body_typed =
      let j = checked.notes_are in
      (annotated_has _ (body_context P) (under_terms (each norm_ty P.inputs) (defs_only types_of)) (inputs_alike types_of P.inputs) P.body result made.body
      (has_alike (body_context P) (under_terms (each norm_ty P.inputs) (defs_only types_of)) (inputs_alike types_of P.inputs) P.body result checked.result_has)
      j.1 j.4 (annotated_defs P.defs notes).1 [] (defs_are.1 ∙ sym (append-nil j.1))).0

  pub inputs_typed : Each (IsWellFormed 0 []) (each norm_ty P.inputs)
  inputs_typed = inputs_formed P.inputs typed.inputs

  pub result_printable : is_printable result ≡ true
  result_printable = let found = typed.body in same_printable found.0 result (unique (body_context P) P.body found.0 result found.2 checked.result_has) found.1
