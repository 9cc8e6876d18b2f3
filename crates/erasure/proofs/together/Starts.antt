-- Erasing data, and the start of an erased program's run.
use Rattle.std.proofs.Common.{◌≡◌, refl, ap, zero, suc, List, [], ◌∷◌}
use Rattle.core_syntax.specs.declared.index.Sort.{Sort}
use Rattle.core_syntax.specs.declared.ty.Base.TheVariants as base
use Rattle.core_syntax.specs.declared.norm.NormIndex.TheVariants as norm
use Rattle.core_syntax.specs.Data.{Data, data_term, DataArray, no_data, more_data, data_cell, data_cells, DataAtom, DataInt, DataBool, DataChar, DataBox, DataFn, DataAtoms, FitsType, AtomFits, AtomsFit, FitsValues, data_terms}
use Rattle.core_syntax.specs.Lists.{each, EachTwo, onto}
use Rattle.core_syntax.specs.NormTypes.{norm_ty}
use Rattle.core_syntax.specs.Notes.{NodeNote}
use Rattle.core_syntax.specs.Start.{start_term, body_term}
use Rattle.core_syntax.specs.Subst.{with_indices, put_first, put_all, kept}
use Rattle.core_syntax.specs.Syntax.{Arr, Ty, Sigma, Program, BaseTy}
use Rattle.core_syntax.specs.TermPut.{term_put}
use Rattle.core_syntax.specs.Terms.{IndexValue, DimValue, ShapeValue, TArray, more_cells, TBoxed}
use Rattle.core_syntax.specs.Typed.{value_index, TypedTerm, typed_rules}
use Rattle.erasure.specs.Erased.{ErasedTerm, erased_rules}
use Rattle.erasure.specs.Erasure.{er, norm_in, er_cell, er_cells}
use Rattle.core_syntax.specs.NormPut.{value_norm}
use Rattle.erasure.specs.Programs.{erased_data, erased_atom, erased_atoms, erased_start, erased_program}
use Rattle.erasure.proofs.together.Bodies.{nothing_er}
use Rattle.reduction_laws.proofs.steps.Bodies.{two_onto}
use Rattle.erasure.proofs.together.NormPuts.{numeral_letters}
use Rattle.erasure.proofs.together.Puts.{ErFates, er_put}

-- ---- data

-- a value as an index, erased, whatever the variables
value_erased : (ss : List Sort) (v : IndexValue) → norm_in ss (value_index v) ≡ value_norm v
value_erased ss (DimValue n) = refl
value_erased ss (ShapeValue ns) = ap norm.Shape (numeral_letters ns)

each_value_erased : (ss : List Sort) (vs : List IndexValue) → each (norm_in ss) (each value_index vs) ≡ each value_norm vs
each_value_erased ss [] = refl
each_value_erased ss (v ∷ vs) = λ i. value_erased ss v i ∷ each_value_erased ss vs i

mutual
  -- data that fits a type, as a term of that type, erased
  pub data_erased : (ss : List Sort) (t : Ty) (d : Data) → FitsType t d → er ss (data_term t d) ≡ erased_data d
  data_erased ss (Arr at t i) (DataArray dims no_data) h = refl
  data_erased ss (Arr at t i) (DataArray dims (more_data a xs)) h = λ j. TArray dims (more_cells (atom_erased ss t a h.3.0 j) (atoms_erased ss t xs h.3.1 j))
  data_erased ss _ (DataArray dims xs) h = absurd h

  atom_erased : (ss : List Sort) (t : Ty) (a : DataAtom) → AtomFits t a → er_cell ss (data_cell t a) ≡ erased_atom a
  atom_erased ss t (DataInt z) h = refl
  atom_erased ss t (DataBool b) h = refl
  atom_erased ss t (DataChar c) h = refl
  atom_erased ss (Sigma at qs t) (DataBox vs d) h = λ j. TBoxed (each_value_erased ss vs j) (data_erased ss (with_indices (each value_index vs) t) d h.2 j) tt
  atom_erased ss (BaseTy at base.Int) (DataBox vs d) h = absurd h
  atom_erased ss (BaseTy at base.Bool) (DataBox vs d) h = absurd h
  atom_erased ss (BaseTy at base.Char) (DataBox vs d) h = absurd h
  atom_erased ss _ (DataBox vs d) h = absurd h
  atom_erased ss t DataFn h = refl

  atoms_erased : (ss : List Sort) (t : Ty) (xs : DataAtoms) → AtomsFit t xs → er_cells ss (data_cells t xs) ≡ erased_atoms xs
  atoms_erased ss t no_data h = refl
  atoms_erased ss t (more_data a xs) h = λ j. more_cells (atom_erased ss t a h.0 j) (atoms_erased ss t xs h.1 j)

-- ---- data in the place of inputs

-- a term is erased to this one, whatever the index variables
abbrev ErasesTo : TypedTerm → ErasedTerm → Type 0
ErasesTo v w = (ss : List Sort) → er ss v ≡ w

terms_erase : (ts : List Ty) (xs : List Data) → FitsValues ts xs → EachTwo ErasesTo (data_terms ts xs) (each erased_data xs)
terms_erase [] [] h = tt
terms_erase (t ∷ ts) (x ∷ xs) h = ((λ ss. data_erased ss t x h.0), terms_erase ts xs h.1)
terms_erase [] (x ∷ xs) h = absurd h
terms_erase (t ∷ ts) [] h = absurd h

fates_erase : (vs : List TypedTerm) (ws : List ErasedTerm) → EachTwo ErasesTo vs ws → ErFates (put_first vs) (put_first ws)
fates_erase [] [] h k = refl
fates_erase (v ∷ vs) (w ∷ ws) h zero = (w, refl, h.0)
fates_erase (v ∷ vs) (w ∷ ws) h (suc k) = fates_erase vs ws h.1 k
fates_erase [] (w ∷ ws) h k = absurd h
fates_erase (v ∷ vs) [] h k = absurd h

-- a term with data in the place of its variables
pub filled_erased : (ts : List Ty) (xs : List Data) → FitsValues ts xs → (e : TypedTerm)
    → er [] (term_put typed_rules typed_rules.put_none (put_all (data_terms ts xs)) e) ≡ term_put erased_rules erased_rules.put_none (put_all (each erased_data xs)) (er [] e)
filled_erased ts xs h e =
    er_put [] [] typed_rules.put_none kept (put_all (data_terms ts xs)) (put_all (each erased_data xs)) nothing_er
    (fates_erase (onto (data_terms ts xs) []) (onto (each erased_data xs) []) (two_onto ErasesTo (data_terms ts xs) (each erased_data xs) [] [] (terms_erase ts xs h) tt)) e

-- the start of an erased program is that of the program, erased
pub start_erased : (P : Program) (notes : List NodeNote) (xs : List Data) → FitsValues (each norm_ty P.inputs) xs → er [] (start_term P notes xs) ≡ erased_start (erased_program P notes) xs
start_erased P notes xs h = filled_erased (each norm_ty P.inputs) xs h (body_term P notes)
