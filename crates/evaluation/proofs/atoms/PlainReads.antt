-- Plain atoms are read as atoms of erased terms.
use Rattle.std.proofs.Common.{◌≡◌, refl, sym, ap, subst, ◌∙◌, true, false, List, [], ◌∷◌}
use Rattle.core_syntax.specs.declared.errors.TrapKind.TheVariants as trap
use Rattle.core_syntax.specs.Lists.{each, Each}
use Rattle.core_syntax.specs.Fits.{all_fit}
use Rattle.core_syntax.specs.Subst.{put_first}
use Rattle.core_syntax.specs.Arrays.{Arrayed, array}
use Rattle.core_syntax.specs.Terms.{Cell, TFn, TTypeFn, TIndexFn, TBoxed}
use Rattle.core_syntax.specs.TermPut.{term_put, terms_under}
use Rattle.core_syntax.specs.Move.{Move, Rests, Trapped, first_move}
use Rattle.core_syntax.specs.Rules.{array_term_of, box_rests}
use Rattle.core_syntax.specs.NormPut.{value_norm}
use Rattle.erasure.specs.Erased.{erased, ErasedTerm, erased_rules}
use Rattle.array_values.specs.declared.closure.CloseKind.TheVariants as close
use Rattle.machine_table.specs.Values.{Atom, IntAtom, BoolAtom, CharAtom, PrimAtom, Closure, BoxAtom}
use Rattle.machine_table.specs.Plain.{Plain, PlainInt, PlainBool, PlainChar, PlainPrim, PlainClosure, PlainBox, PlainAtoms, no_plains, more_plains, PlainArrays, no_arrays, more_arrays, plain_items, plain_list, array_items, array_list, plain_parts, plain_made, plain_rules}
use Rattle.lowering.specs.Lower.{Body}
use Rattle.lowering.specs.Evals.{entered}
use Rattle.evaluation.specs.Plugged.{val_term, term_of, atom_cell}
use Rattle.evaluation.specs.Lawful.{IsClosed, FitArray, FitAtom, Reads}
use Rattle.evaluation.specs.PlainValues.{plain_cell, plain_cells, plain_terms, plain_fits, atoms_fit, arrays_fit}
use Rattle.evaluation.proofs.steps.Rests.{norms_back, array_rests}
use Rattle.evaluation.proofs.steps.Contexts.{one_cell}

-- ---- lists there and back

items_back : (xs : List Plain) → plain_items (plain_list xs) ≡ xs
items_back [] = refl
items_back (x ∷ xs) = ap (λ ys. x ∷ ys) (items_back xs)

arrays_back : (as' : List (Arrayed Plain)) → array_items (array_list as') ≡ as'
arrays_back [] = refl
arrays_back (a ∷ as') = λ i. array a.dims (items_back a.atoms i) ∷ arrays_back as' i

made_back : (x : Atom Plain) → plain_parts (plain_made x) ≡ x
made_back (IntAtom z) = refl
made_back (BoolAtom b) = refl
made_back (CharAtom c) = refl
made_back (PrimAtom p typed is) = refl
made_back (Closure kind b n env) = ap (λ xs. Closure kind b n (record { arrays = xs; indices = env.indices })) (arrays_back env.arrays)
made_back (BoxAtom is a) = ap (λ xs. BoxAtom is (array a.dims xs)) (items_back a.atoms)

module _ (bodies : List Body) where
  -- ---- atoms are read by their parts

  pub cells_are : (xs : PlainAtoms) → plain_cells bodies xs ≡ each (plain_cell bodies) (plain_items xs)
  cells_are no_plains = refl
  cells_are (more_plains a xs) = ap (λ ys. plain_cell bodies a ∷ ys) (cells_are xs)

  terms_are : (xs : PlainArrays) → plain_terms bodies xs ≡ each (val_term (plain_cell bodies)) (array_items xs)
  terms_are no_arrays = refl
  terms_are (more_arrays dims xs as') = λ i. array_term_of erased_rules tt dims (cells_are xs i) ∷ terms_are as' i

  read_parts : (a : Plain) → plain_cell bodies a ≡ atom_cell (plain_cell bodies) bodies (plain_parts a)
  read_parts (PlainInt z) = refl
  read_parts (PlainBool b) = refl
  read_parts (PlainChar c) = refl
  read_parts (PlainPrim p true is) = refl
  read_parts (PlainPrim p false is) = refl
  read_parts (PlainClosure close.Fn b n xs is) = ap (λ ts. TFn n (term_put erased_rules (put_first is) (terms_under n (put_first ts)) (term_of (entered bodies b)))) (terms_are xs)
  read_parts (PlainClosure close.TypeFn b n xs is) = ap (λ ts. TTypeFn tt (term_put erased_rules (put_first is) (put_first ts) (term_of (entered bodies b)))) (terms_are xs)
  read_parts (PlainClosure close.IndexFn b n xs is) = ap (λ ts. TIndexFn n (term_put erased_rules (erased_rules.under_sorts n (put_first is)) (put_first ts) (term_of (entered bodies b)))) (terms_are xs)
  read_parts (PlainBox is dims xs) = ap (λ ys. TBoxed (each value_norm is) (array_term_of erased_rules tt dims ys) tt) (cells_are xs)

  -- ---- atoms fit by their parts

  pub items_fit : (xs : PlainAtoms) → atoms_fit bodies xs → Each (plain_fits bodies) (plain_items xs)
  items_fit no_plains h = tt
  items_fit (more_plains a xs) h = (h.0, items_fit xs h.1)

  -- what an environment's array is
  abbrev ArrayFits : Arrayed Plain → Type 0
  ArrayFits a = FitArray bodies (plain_cell bodies) (plain_fits bodies) a × IsClosed (val_term (plain_cell bodies) a)

  env_fits : (xs : PlainArrays) → arrays_fit bodies xs → Each ArrayFits (array_items xs)
  env_fits no_arrays h = tt
  env_fits (more_arrays dims xs as') h = (((h.0.0.0, items_fit xs h.0.0.1), subst (λ ys. IsClosed (array_term_of erased_rules tt dims ys)) (cells_are xs) h.0.1), env_fits as' h.1)

  parts_fit : (a : Plain) → plain_fits bodies a → FitAtom bodies (plain_cell bodies) (plain_fits bodies) (plain_parts a)
  parts_fit (PlainInt z) h = tt
  parts_fit (PlainBool b) h = tt
  parts_fit (PlainChar c) h = tt
  parts_fit (PlainPrim p typed is) h = tt
  parts_fit (PlainClosure close.Fn b n xs is) h = (h.0, env_fits xs h.1)
  parts_fit (PlainClosure close.TypeFn b n xs is) h = (h.0, env_fits xs h.1)
  parts_fit (PlainClosure close.IndexFn b n xs is) h = (h.0, env_fits xs h.1)
  parts_fit (PlainBox is dims xs) h = (h.0, (h.1.0, items_fit xs h.1.1))

  list_fits : (xs : List Plain) → Each (plain_fits bodies) xs → atoms_fit bodies (plain_list xs)
  list_fits [] h = tt
  list_fits (x ∷ xs) h = (h.0, list_fits xs h.1)

  env_made : (as' : List (Arrayed Plain)) → Each ArrayFits as' → arrays_fit bodies (array_list as')
  env_made [] h = tt
  env_made (a ∷ as') h =
      let cells : each (plain_cell bodies) a.atoms ≡ plain_cells bodies (plain_list a.atoms) = ap (each (plain_cell bodies)) (sym (items_back a.atoms)) ∙ sym (cells_are (plain_list a.atoms)) in
      (((h.0.0.0, list_fits a.atoms h.0.0.1), subst (λ ys. IsClosed (array_term_of erased_rules tt a.dims ys)) cells h.0.1), env_made as' h.1)

  made_fits : (x : Atom Plain) → FitAtom bodies (plain_cell bodies) (plain_fits bodies) x → plain_fits bodies (plain_made x)
  made_fits (IntAtom z) h = tt
  made_fits (BoolAtom b) h = tt
  made_fits (CharAtom c) h = tt
  made_fits (PrimAtom p typed is) h = tt
  made_fits (Closure close.Fn b n env) h = (h.0, env_made env.arrays h.1)
  made_fits (Closure close.TypeFn b n env) h = (h.0, env_made env.arrays h.1)
  made_fits (Closure close.IndexFn b n env) h = (h.0, env_made env.arrays h.1)
  made_fits (BoxAtom is a) h = (h.0, (h.1.0, list_fits a.atoms h.1.1))

  -- ---- atoms that fit rest

  mutual
    plain_rests : (defs : List ErasedTerm) (a : Plain) → plain_fits bodies a → one_cell defs (plain_cell bodies a) ≡ Rests
    plain_rests defs (PlainInt z) h = refl
    plain_rests defs (PlainBool b) h = refl
    plain_rests defs (PlainChar c) h = refl
    plain_rests defs (PlainPrim p true is) h = refl
    plain_rests defs (PlainPrim p false is) h = refl
    plain_rests defs (PlainClosure close.Fn b n xs is) h = refl
    plain_rests defs (PlainClosure close.TypeFn b n xs is) h = refl
    plain_rests defs (PlainClosure close.IndexFn b n xs is) h = refl
    plain_rests defs (PlainBox is dims xs) h =
        ap (λ m. first_move m (λ u. TBoxed (each value_norm is) u tt) (box_rests erased_rules (each value_norm is))) (array_rests defs dims (plain_cells bodies xs) (plains_rest defs xs h.1.1))
        ∙ ap (λ js. elim (all_fit js) as (λ b. Move (Cell erased)) [ true ↦ Rests | false ↦ Trapped trap.Size ]) (norms_back is)
        ∙ ap (λ b. elim b as (λ b. Move (Cell erased)) [ true ↦ Rests | false ↦ Trapped trap.Size ]) h.0

    plains_rest : (defs : List ErasedTerm) (xs : PlainAtoms) → atoms_fit bodies xs → Each (λ c. one_cell defs c ≡ Rests) (plain_cells bodies xs)
    plains_rest defs no_plains h = tt
    plains_rest defs (more_plains a xs) h = (plain_rests defs a h.0, plains_rest defs xs h.1)

  pub plain_reads : Reads bodies plain_rules (plain_cell bodies) (plain_fits bodies)
  plain_reads = record { made = made_back; cells = read_parts; fit_parts = parts_fit; fit_made = made_fits; rests = plain_rests }
