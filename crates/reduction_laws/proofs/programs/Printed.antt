-- Data is typed, a program's start is, and a resting term of a printable type that is held has data that fits the type.
use Rattle.std.proofs.Common.{◌≡◌, refl, sym, ◌∙◌, ap, subst, suc, List, [], ◌∷◌, Bool, true, false}
use Rattle.std.specs.Prelude.{length}
use Rattle.core_syntax.specs.declared.index.Sort.{Sort}
use Rattle.core_syntax.specs.declared.index.Sort.TheVariants as sort
use Rattle.core_syntax.specs.declared.ty.Base.TheVariants as base
use Rattle.core_syntax.specs.declared.errors.TrapKind.TheVariants as trap
use Rattle.core_syntax.specs.Syntax.{Index, Num, Var, Sum, Dims, Join, Ty, BaseTy, Fun, Forall, Pi, Sigma, Arr}
use Rattle.core_syntax.specs.Lists.{each, EachTwo, Each}
use Rattle.core_syntax.specs.Sorts.{IsSorted}
use Rattle.core_syntax.specs.Kinds.{IsWellFormed, is_atom_kind}
use Rattle.core_syntax.specs.Subst.{Fates, kept, put_all, indices_under, ty_put, fates_under_index, with_indices}
use Rattle.core_syntax.specs.Typing.{under_terms, defs_only, is_printable, is_printable_atom}
use Rattle.core_syntax.specs.Terms.{IndexValue, DimValue, ShapeValue, TVar, TDef, TArray, TNoAtoms, TFrame, TNoCells, TApp, TTypeApp, TIndexApp, TUnbox, Cell, TInt, TBool, TChar, TPrim, TFn, TTypeFn, TIndexFn, TBoxed, Cells, no_cells, more_cells}
use Rattle.core_syntax.specs.TermPut.{term_put}
use Rattle.core_syntax.specs.Move.{Move, Rests, Trapped, Goes, Lost, first_move}
use Rattle.core_syntax.specs.Fits.{all_fit}
use Rattle.core_syntax.specs.Rules.{box_rests}
use Rattle.core_syntax.specs.Step.{step, cell_step, cells_step}
use Rattle.core_syntax.specs.Data.{Data, DataArray, DataAtom, DataInt, DataBool, DataChar, DataBox, DataFn, DataAtoms, no_data, more_data, data_count, HasSort, FitsType, AtomFits, AtomsFit, FitsValues, data_term, data_cell, data_cells, data_terms, array_of_value, atom_of_cell, atoms_of_cells}
use Rattle.core_syntax.specs.Held.{CellHeld, CellsHeld, IsHeld}
use Rattle.core_syntax.specs.Typed.{typed, typed_rules, TypedTerm, closed, closed_value, value_index}
use Rattle.core_syntax.specs.TermTyping.{HasTerm, HasClosed, HasCell, CellsHave, cell_count}
use Rattle.core_syntax.proofs.Equality.{same_refl, same_trans, same-put}
use Rattle.reduction_laws.proofs.putting.TermSubst.{term_same}
use Rattle.reduction_laws.proofs.putting.ClosedValues.{values_put, values_sorted, with_values}
use Rattle.reduction_laws.proofs.steps.Bodies.{DefsClosed, Filled, body_has, with_formed}
use Rattle.reduction_laws.proofs.primitives.Args.{no_base_prim}
use Rattle.reduction_laws.proofs.steps.Parts.{closed_shape, numbers_val, numbers_sorted, cell_same, nowhere, IsArr}
use Rattle.core_syntax.specs.TypeEqual.{Same}

-- ---- data

value_sorted : (q : Sort) (v : IndexValue) → HasSort q v → IsSorted [] q (value_index v)
value_sorted sort.Dim (DimValue n) h = refl
value_sorted sort.Shape (ShapeValue s) h = numbers_sorted [] s
value_sorted sort.Dim (ShapeValue s) h = absurd h
value_sorted sort.Shape (DimValue n) h = absurd h

all_value_sorted : (ss : List Sort) (vs : List IndexValue) → EachTwo HasSort ss vs → EachTwo (IsSorted []) ss (each value_index vs)
all_value_sorted [] [] h = tt
all_value_sorted (s ∷ ss) (v ∷ vs) h = (value_sorted s v h.0, all_value_sorted ss vs h.1)
all_value_sorted [] (v ∷ vs) h = absurd h
all_value_sorted (s ∷ ss) [] h = absurd h

module _ (D : List Ty) (dc : DefsClosed D) where
  data_counted : (t : Ty) (xs : DataAtoms) → cell_count (data_cells t xs) ≡ data_count xs
  data_counted t no_data = refl
  data_counted t (more_data a xs) = ap suc (data_counted t xs)

  mutual
    -- data that fits a closed type is a term of that type
    pub data_has : (d : Data) (T : Ty) → IsWellFormed 0 [] T → FitsType T d → HasClosed D (data_term T d) T
    data_has (DataArray dims no_data) (Arr at t i) w h = ((w.0, w.2), (w, (same_refl t, λ v. numbers_val v dims ∙ h.0 ∙ closed_shape i w.1 closed v)), sym h.2)
    data_has (DataArray dims (more_data a xs)) (Arr at t i) w h =
        (t, atom_has a t w.2 w.0 h.3.0, atoms_have xs t w.2 w.0 h.3.1, (w, (same_refl t, λ v. numbers_val v dims ∙ h.0 ∙ closed_shape i w.1 closed v)), ap suc (data_counted t xs) ∙ h.2)
    data_has (DataArray dims xs) _ w h = absurd h

    atom_has : (a : DataAtom) (t : Ty) → IsWellFormed 0 [] t → is_atom_kind t ≡ true → AtomFits t a → HasCell (defs_only D) (data_cell t a) t
    atom_has (DataInt z) (BaseTy at base.Int) w k h = (tt, refl)
    atom_has (DataBool z) (BaseTy at base.Bool) w k h = (tt, refl)
    atom_has (DataChar z) (BaseTy at base.Char) w k h = (tt, refl)
    atom_has (DataBox vs d) (Sigma at ss t) w k h =
        let sorts = all_value_sorted ss vs h.0 in
        ((refl, w), (sorts, data_has d (with_indices (each value_index vs) t) (with_formed D dc ss (each value_index vs) t sorts w) h.2), (w, same_refl (Sigma at ss t)))
    atom_has (DataInt z) _ w k h = absurd h
    atom_has (DataBool z) _ w k h = absurd h
    atom_has (DataChar z) _ w k h = absurd h
    atom_has (DataBox vs d) (BaseTy at base.Int) w k h = absurd h
    atom_has (DataBox vs d) (BaseTy at base.Bool) w k h = absurd h
    atom_has (DataBox vs d) (BaseTy at base.Char) w k h = absurd h
    atom_has (DataBox vs d) _ w k h = absurd h
    atom_has DataFn (BaseTy at base.Int) w k h = absurd h
    atom_has DataFn (BaseTy at base.Bool) w k h = absurd h
    atom_has DataFn (BaseTy at base.Char) w k h = absurd h
    atom_has DataFn _ w k h = absurd h

    atoms_have : (xs : DataAtoms) (t : Ty) → IsWellFormed 0 [] t → is_atom_kind t ≡ true → AtomsFit t xs → CellsHave (defs_only D) (data_cells t xs) t
    atoms_have no_data t w k h = tt
    atoms_have (more_data a xs) t w k h = (atom_has a t w k h.0, atoms_have xs t w k h.1)

  data_filled : (ts : List Ty) (ds : List Data) → Each (IsWellFormed 0 []) ts → FitsValues ts ds → EachTwo (Filled D dc) ts (data_terms ts ds)
  data_filled [] [] w h = tt
  data_filled (t ∷ ts) (d ∷ ds) w h = ((w.0, data_has d t w.0 h.0), data_filled ts ds w.1 h.1)
  data_filled [] (d ∷ ds) w h = absurd h
  data_filled (t ∷ ts) [] w h = absurd h

  -- a body with fitting data in the place of its inputs has the body's type
  pub start_has : (ts : List Ty) (ds : List Data) (e : TypedTerm) (T : Ty) → Each (IsWellFormed 0 []) ts → FitsValues ts ds → HasTerm (under_terms ts (defs_only D)) e T
      → HasClosed D (term_put typed_rules typed_rules.put_none (put_all (data_terms ts ds)) e) T
  start_has ts ds e T w h b = body_has D dc ts (data_terms ts ds) e T (data_filled ts ds w h) b

-- ---- values

mutual
  printable_put : (σ : Fates Index) (τ : Fates Ty) (t : Ty) → is_printable t ≡ true → is_printable (ty_put σ τ t) ≡ true
  printable_put σ τ (Arr at t i) h = printable_atom_put σ τ t h
  printable_put σ τ _ h = absurd (cc)

  printable_atom_put : (σ : Fates Index) (τ : Fates Ty) (t : Ty) → is_printable_atom t ≡ true → is_printable_atom (ty_put σ τ t) ≡ true
  printable_atom_put σ τ (BaseTy at b) h = refl
  printable_atom_put σ τ (Sigma at ss t) h = printable_put (indices_under (length ss) σ) (fates_under_index (length ss) τ) t h
  printable_atom_put σ τ _ h = absurd (cc)

value_has_sort : (q : Sort) (i : Index) → IsSorted [] q i → HasSort q (closed_value i)
value_has_sort q (Num at n) h = subst (λ q. HasSort q (DimValue n)) (sym h) tt
value_has_sort q (Var at k) h = absurd (nowhere k q h)
value_has_sort q (Sum at is) h = subst (λ q. HasSort q (closed_value (Sum at is))) (sym h.0) tt
value_has_sort q (Dims at is) h = subst (λ q. HasSort q (closed_value (Dims at is))) (sym h.0) tt
value_has_sort q (Join at is) h = subst (λ q. HasSort q (closed_value (Join at is))) (sym h.0) tt

pub values_have_sorts : (ss : List Sort) (is : List Index) → EachTwo (IsSorted []) ss is → EachTwo HasSort ss (each closed_value is)
values_have_sorts [] [] h = tt
values_have_sorts (s ∷ ss) (i ∷ is) h = (value_has_sort s i h.0, values_have_sorts ss is h.1)
values_have_sorts [] (i ∷ is) h = absurd h
values_have_sorts (s ∷ ss) [] h = absurd h

pub first_rests : {A B : Type 0} (m : Move A) (f : A → B) (later : Move B) → first_move m f later ≡ Rests → (m ≡ Rests) × (later ≡ Rests)
first_rests Rests f later e = (refl, e)
first_rests (Trapped k) f later e = absurd (cc)
first_rests (Goes a) f later e = absurd (cc)
first_rests Lost f later e = absurd (cc)

box_fits : (b : Bool) → (elim b as (λ b. Move (Cell typed)) [ true ↦ Rests | false ↦ Trapped trap.Size ]) ≡ Rests → b ≡ true
box_fits true e = refl
box_fits false e = absurd (cc)

atoms_counted : (xs : Cells typed) → data_count (atoms_of_cells typed_rules xs) ≡ cell_count xs
atoms_counted no_cells = refl
atoms_counted (more_cells x xs) = ap suc (atoms_counted xs)

module _ (D : List Ty) (defs : List TypedTerm) (dc : DefsClosed D) (arrays : (t : TypedTerm) (T : Ty) → HasClosed D t T → step typed_rules defs t ≡ Rests → IsArr t) where
  mutual
    -- a resting term of a printable type that is held has data that fits the type
    pub rests_data : (v : TypedTerm) (T : Ty) → HasClosed D v T → IsHeld v → is_printable T ≡ true → step typed_rules defs v ≡ Rests → FitsType T (array_of_value typed_rules v)
    rests_data (TArray dims no_cells) T h g q r = absurd h
    rests_data (TArray dims (more_cells x xs)) (Arr at t i) h g q r =
        let cells = (first_rests (cells_step typed_rules defs (more_cells x xs)) (TArray dims) Rests r).0 in
        let rs = first_rests (cell_step typed_rules defs x) (λ b. more_cells b xs) (first_move (cells_step typed_rules defs xs) (more_cells x) Rests) cells in (
          sym (numbers_val closed dims) ∙ h.3.1.1 closed,
          g.0,
          ap suc (atoms_counted xs) ∙ h.4,
          (cell_data x t (cell_same (defs_only D) x h.0 t h.1 h.3.1.0 h.3.0.2) h.3.0.2 g.1.0 q rs.0, cells_data xs h.0 t h.2 h.3.1.0 h.3.0.2 g.1.1 q (first_rests (cells_step typed_rules defs xs) (more_cells x) Rests rs.1).0),
        )
    rests_data (TArray dims (more_cells x xs)) _ h g q r = absurd (let e = q in cc)
    rests_data (TNoAtoms dims a) (Arr at t i) h g q r = (sym (numbers_val closed dims) ∙ h.1.1.1 closed, g, sym h.2, tt)
    rests_data (TNoAtoms dims a) _ h g q r = absurd (let e = q in cc)
    rests_data (TVar k) T h g q r = absurd (arrays (TVar k) T h r)
    rests_data (TDef k) T h g q r = absurd (arrays (TDef k) T h r)
    rests_data (TFrame dims ts n) T h g q r = absurd (arrays (TFrame dims ts n) T h r)
    rests_data (TNoCells w) T h g q r = absurd (arrays (TNoCells w) T h r)
    rests_data (TApp f es cs n) T h g q r = absurd (arrays (TApp f es cs n) T h r)
    rests_data (TTypeApp e us n) T h g q r = absurd (arrays (TTypeApp e us n) T h r)
    rests_data (TIndexApp e is n) T h g q r = absurd (arrays (TIndexApp e is n) T h r)
    rests_data (TUnbox ss e b n) T h g q r = absurd (arrays (TUnbox ss e b n) T h r)

    cell_data : (x : Cell typed) (t : Ty) → HasCell (defs_only D) x t → IsWellFormed 0 [] t → CellHeld x → is_printable_atom t ≡ true → cell_step typed_rules defs x ≡ Rests → AtomFits t (atom_of_cell typed_rules x)
    cell_data (TInt z) (BaseTy at base.Int) h w g q r = g
    cell_data (TBool z) (BaseTy at base.Bool) h w g q r = tt
    cell_data (TChar z) (BaseTy at base.Char) h w g q r = g
    cell_data (TInt z) (BaseTy at base.Bool) h w g q r = absurd (let e = h.1 in cc)
    cell_data (TInt z) (BaseTy at base.Char) h w g q r = absurd (let e = h.1 in cc)
    cell_data (TInt z) _ h w g q r = absurd h.1
    cell_data (TBool z) (BaseTy at base.Int) h w g q r = absurd (let e = h.1 in cc)
    cell_data (TBool z) (BaseTy at base.Char) h w g q r = absurd (let e = h.1 in cc)
    cell_data (TBool z) _ h w g q r = absurd h.1
    cell_data (TChar z) (BaseTy at base.Int) h w g q r = absurd (let e = h.1 in cc)
    cell_data (TChar z) (BaseTy at base.Bool) h w g q r = absurd (let e = h.1 in cc)
    cell_data (TChar z) _ h w g q r = absurd h.1
    cell_data (TBoxed is e (Sigma at ss b)) (Sigma at' rs t) h w g q r =
        let sorts : EachTwo (IsSorted []) rs is = subst (λ ss. EachTwo (IsSorted []) ss is) h.2.1.0 h.1.0 in
        let wt = with_formed D dc rs (values_put is) t (values_sorted rs is sorts) w in
        let rs' = first_rests (step typed_rules defs e) (λ u. TBoxed is u (Sigma at ss b)) (box_rests typed_rules is) r in (
          values_have_sorts rs is sorts,
          box_fits (all_fit (each closed_value is)) rs'.1,
          rests_data e (with_indices (values_put is) t)
              (term_same (defs_only D) e (with_indices is b) (with_indices (values_put is) t) h.1.1
              (same_trans (with_indices is b) (with_indices is t) (with_indices (values_put is) t) (same-put (put_all is) kept b t h.2.1.1) (with_values rs is t sorts)) wt) g
              (printable_put (put_all (values_put is)) kept t q) rs'.0,
        )
    cell_data (TBoxed is e (Sigma at ss b)) _ h w g q r = absurd h.2.1
    cell_data (TBoxed is e _) t h w g q r = absurd h.1
    cell_data (TPrim p us is) (BaseTy at b) h w g q r = absurd (no_base_prim D p us is (BaseTy at b) (λ n. n) h)
    cell_data (TPrim p us is) (Sigma at ss t) h w g q r = absurd (no_base_prim D p us is (Sigma at ss t) (λ n. n) h)
    cell_data (TPrim p us is) _ h w g q r = absurd (let e = q in cc)
    cell_data (TFn i b) (Fun at ts u) h w g q r = absurd (let e = q in cc)
    cell_data (TFn i b) _ h w g q r = absurd h.3.1
    cell_data (TTypeFn m b) (Forall at n u) h w g q r = absurd (let e = q in cc)
    cell_data (TTypeFn m b) _ h w g q r = absurd h.2.1
    cell_data (TIndexFn ss b) (Pi at rs u) h w g q r = absurd (let e = q in cc)
    cell_data (TIndexFn ss b) _ h w g q r = absurd h.2.1

    cells_data : (xs : Cells typed) (a t : Ty) → CellsHave (defs_only D) xs a → Same a t → IsWellFormed 0 [] t → CellsHeld xs → is_printable_atom t ≡ true → cells_step typed_rules defs xs ≡ Rests → AtomsFit t (atoms_of_cells typed_rules xs)
    cells_data no_cells a t h e w g q r = tt
    cells_data (more_cells x xs) a t h e w g q r =
        let rs = first_rests (cell_step typed_rules defs x) (λ b. more_cells b xs) (first_move (cells_step typed_rules defs xs) (more_cells x) Rests) r in
        (cell_data x t (cell_same (defs_only D) x a t h.0 e w) w g.0 q rs.0, cells_data xs a t h.1 e w g.1 q (first_rests (cells_step typed_rules defs xs) (more_cells x) Rests rs.1).0)
