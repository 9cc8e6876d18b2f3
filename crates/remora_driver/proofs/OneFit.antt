-- That data fits types is a fact with one proof.
use Rattle.std.proofs.Common.{sym, subst, List, [], ◌∷◌, true}
use Rattle.std.proofs.Math.Logic.{∥∥₁_elim}
use Rattle.std.specs.Coded.{×_prop, Unit-prop, Coded-set, coded_bool, coded_list, coded_ℕ}
use mathlib.Core.HLevel.{×₃_prop, ⊥_prop}
use Rattle.core_syntax.specs.declared.checked.Checked.{Checked}
use Rattle.core_syntax.specs.declared.index.Sort.{Sort}
use Rattle.core_syntax.specs.declared.index.Sort.TheVariants as sort
use Rattle.core_syntax.specs.declared.ty.Base.TheVariants as base
use Rattle.core_syntax.specs.Data.{Data, DataArray, DataAtom, DataInt, DataBool, DataChar, DataBox, DataFn, DataAtoms, no_data, more_data, data_count, HasSort, FitsType, AtomFits, AtomsFit, FitsValues}
use Rattle.core_syntax.specs.Delta.{is_int}
use Rattle.core_syntax.specs.Fits.{forms, all_fit}
use Rattle.core_syntax.specs.Lists.{each, product, EachTwo}
use Rattle.core_syntax.specs.Refine.{ty_of}
use Rattle.core_syntax.specs.Subst.{with_indices}
use Rattle.core_syntax.specs.Syntax.{Ty, BaseTy, TyVar, Fun, Forall, Pi, Sigma, Arr}
use Rattle.core_syntax.specs.Terms.{IndexValue, DimValue, ShapeValue}
use Rattle.core_syntax.specs.Typed.{closed, value_index}
use Rattle.core_syntax.specs.Value.{shape_val}
use Rattle.core_syntax.specs.Wholes.{program_of}
use Rattle.remora_driver.specs.Programs.{input_types}
use Rattle.remora_driver.proofs.Ready.{checked_inputs}

sort_prop : (s : Sort) (v : IndexValue) → IsProp (HasSort s v)
sort_prop sort.Dim (DimValue n) = Unit-prop
sort_prop sort.Dim (ShapeValue ns) = ⊥_prop
sort_prop sort.Shape (DimValue n) = ⊥_prop
sort_prop sort.Shape (ShapeValue ns) = Unit-prop

sorts_prop : (ss : List Sort) (vs : List IndexValue) → IsProp (EachTwo HasSort ss vs)
sorts_prop [] [] = Unit-prop
sorts_prop [] (v ∷ vs) = ⊥_prop
sorts_prop (s ∷ ss) [] = ⊥_prop
sorts_prop (s ∷ ss) (v ∷ vs) = ×_prop (sort_prop s v) (sorts_prop ss vs)

mutual
  fit_prop : (t : Ty) (d : Data) → IsProp (FitsType t d)
  fit_prop (Arr at t i) (DataArray dims xs) =
      λ f g j. (
        Coded-set (coded_list coded_ℕ) dims (shape_val closed i) f.0 g.0 j,
        Coded-set coded_bool (forms dims) true f.1 g.1 j,
        Coded-set coded_ℕ (data_count xs) (product dims) f.2 g.2 j,
        atoms_prop t xs f.3 g.3 j,
      )
  fit_prop (BaseTy at b) (DataArray dims xs) = ⊥_prop
  fit_prop (TyVar at k) (DataArray dims xs) = ⊥_prop
  fit_prop (Fun at ts r) (DataArray dims xs) = ⊥_prop
  fit_prop (Forall at n t) (DataArray dims xs) = ⊥_prop
  fit_prop (Pi at ss t) (DataArray dims xs) = ⊥_prop
  fit_prop (Sigma at ss t) (DataArray dims xs) = ⊥_prop

  atom_prop : (t : Ty) (a : DataAtom) → IsProp (AtomFits t a)
  atom_prop (BaseTy at base.Int) (DataInt z) = Coded-set coded_bool (is_int z) true
  atom_prop (BaseTy at base.Int) (DataBool b) = ⊥_prop
  atom_prop (BaseTy at base.Int) (DataChar c) = ⊥_prop
  atom_prop (BaseTy at base.Int) (DataBox vs d) = ⊥_prop
  atom_prop (BaseTy at base.Int) DataFn = ⊥_prop
  atom_prop (BaseTy at base.Bool) (DataInt z) = ⊥_prop
  atom_prop (BaseTy at base.Bool) (DataBool b) = Unit-prop
  atom_prop (BaseTy at base.Bool) (DataChar c) = ⊥_prop
  atom_prop (BaseTy at base.Bool) (DataBox vs d) = ⊥_prop
  atom_prop (BaseTy at base.Bool) DataFn = ⊥_prop
  atom_prop (BaseTy at base.Char) (DataInt z) = ⊥_prop
  atom_prop (BaseTy at base.Char) (DataBool b) = ⊥_prop
  atom_prop (BaseTy at base.Char) (DataChar c) = Coded-set coded_bool _ true
  atom_prop (BaseTy at base.Char) (DataBox vs d) = ⊥_prop
  atom_prop (BaseTy at base.Char) DataFn = ⊥_prop
  atom_prop (Sigma at ss t) (DataBox vs d) =
      ×₃_prop (sorts_prop ss vs) (Coded-set coded_bool (all_fit vs) true) (fit_prop (with_indices (each value_index vs) t) d)
  atom_prop (Sigma at ss t) (DataInt z) = ⊥_prop
  atom_prop (Sigma at ss t) (DataBool b) = ⊥_prop
  atom_prop (Sigma at ss t) (DataChar c) = ⊥_prop
  atom_prop (Sigma at ss t) DataFn = ⊥_prop
  atom_prop (TyVar at k) _ = ⊥_prop
  atom_prop (Fun at ts r) _ = ⊥_prop
  atom_prop (Forall at n t) _ = ⊥_prop
  atom_prop (Pi at ss t) _ = ⊥_prop
  atom_prop (Arr at t i) _ = ⊥_prop

  atoms_prop : (t : Ty) (xs : DataAtoms) → IsProp (AtomsFit t xs)
  atoms_prop t no_data = Unit-prop
  atoms_prop t (more_data a xs) = ×_prop (atom_prop t a) (atoms_prop t xs)

pub fits_prop : (ts : List Ty) (xs : List Data) → IsProp (FitsValues ts xs)
fits_prop [] [] = Unit-prop
fits_prop [] (x ∷ xs) = ⊥_prop
fits_prop (t ∷ ts) [] = ⊥_prop
fits_prop (t ∷ ts) (x ∷ xs) = ×_prop (fit_prop t x) (fits_prop ts xs)

-- data that fits the types of a checked program's inputs fits those that the check gives
pub checked_fits : (c : Checked) (xs : List Data) → FitsValues (input_types (program_of c.program)) xs → FitsValues (each ty_of c.inputs) xs
checked_fits c xs fits = ∥∥₁_elim (checked_inputs c) (fits_prop (each ty_of c.inputs) xs) (λ same. subst (λ (ts : List Ty). FitsValues ts xs) (sym same) fits)
