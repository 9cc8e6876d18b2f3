-- The erasure of a program that is merely known to be checked is within the measures.
use Rattle.std.proofs.Common.{List, [], ◌∷◌, Option, Some, None, false}
use Rattle.std.proofs.Math.Logic.{∥∥₁_elim}
use Rattle.std.specs.Coded.{×_prop, le_prop, Unit-prop, Coded-set, coded_bool}
use mathlib.Core.HLevel.{×₃_prop}
use Rattle.core_syntax.specs.declared.norm.NormIndex.{NormIndex}
use Rattle.core_syntax.specs.declared.norm.NormIndex.TheVariants as norm
use Rattle.core_syntax.specs.Lists.{Each}
use Rattle.core_syntax.specs.Norm.{is_large, has_large}
use Rattle.core_syntax.specs.Word.{Word}
use Rattle.core_syntax.specs.Checks.{IsChecked}
use Rattle.core_syntax.specs.Notes.{NodeNote}
use Rattle.core_syntax.specs.Syntax.{Ty, Program}
use Rattle.core_syntax.specs.Terms.{TVar, TDef, TArray, TNoAtoms, TFrame, TNoCells, TApp, TTypeApp, TIndexApp, TUnbox, Terms, no_terms, more_terms, TInt, TBool, TChar, TPrim, TFn, TTypeFn, TIndexFn, TBoxed, Cells, no_cells, more_cells}
use Rattle.erasure.specs.Erased.{erased, ErasedTerm, ErasedCell}
use Rattle.erasure.specs.Programs.{ErasedProgram, erased_program}
use Rattle.erasure.specs.Measured.{WordFits, IndexFits, GivenFit, TermFits, TermsFit, CellFits, CellsFit, ProgramFits}
use Rattle.erasure.proofs.bounded.MeasuredTerms.{program_fits}

-- ---- facts with one proof

four_prop : {A B C D : Type 0} → IsProp A → IsProp B → IsProp C → IsProp D → IsProp (A × B × C × D)
four_prop h k l m u v = λ i. (h u.0 v.0 i, k u.1 v.1 i, l u.2 v.2 i, m u.3 v.3 i)

each_prop : {A : Type 0} (P : A → Type 0) → ((x : A) → IsProp (P x)) → (xs : List A) → IsProp (Each P xs)
each_prop P p [] = Unit-prop
each_prop P p (x ∷ xs) = ×_prop (p x) (each_prop P p xs)

word_prop : (w : Word) → IsProp (WordFits w)
word_prop w = ×_prop (Coded-set coded_bool (has_large w) false) le_prop

index_prop : (i : NormIndex) → IsProp (IndexFits i)
index_prop (norm.Dim d) = ×_prop (Coded-set coded_bool (is_large d) false) le_prop
index_prop (norm.Shape w) = word_prop w

given_prop : (is : Option (List NormIndex)) → IsProp (GivenFit is)
given_prop None = Unit-prop
given_prop (Some is) = each_prop IndexFits index_prop is

mutual
  fits_prop : (t : ErasedTerm) → IsProp (TermFits t)
  fits_prop (TVar k) = Unit-prop
  fits_prop (TDef k) = Unit-prop
  fits_prop (TArray dims xs) = cells_fit_prop xs
  fits_prop (TNoAtoms dims a) = Unit-prop
  fits_prop (TFrame dims ts n) = terms_fit_prop ts
  fits_prop (TNoCells w) = word_prop w
  fits_prop (TApp f ts cs r) = four_prop (fits_prop f) (terms_fit_prop ts) (each_prop WordFits word_prop cs) (word_prop r)
  fits_prop (TTypeApp t us r) = ×_prop (fits_prop t) (word_prop r)
  fits_prop (TIndexApp t is r) = ×₃_prop (fits_prop t) (each_prop IndexFits index_prop is) (word_prop r)
  fits_prop (TUnbox n t b r) = ×₃_prop (fits_prop t) (fits_prop b) (word_prop r)

  terms_fit_prop : (ts : Terms erased) → IsProp (TermsFit ts)
  terms_fit_prop no_terms = Unit-prop
  terms_fit_prop (more_terms t ts) = ×_prop (fits_prop t) (terms_fit_prop ts)

  cell_fits_prop : (x : ErasedCell) → IsProp (CellFits x)
  cell_fits_prop (TInt z) = Unit-prop
  cell_fits_prop (TBool b) = Unit-prop
  cell_fits_prop (TChar c) = Unit-prop
  cell_fits_prop (TPrim p us is) = given_prop is
  cell_fits_prop (TFn n t) = fits_prop t
  cell_fits_prop (TTypeFn n t) = fits_prop t
  cell_fits_prop (TIndexFn n t) = fits_prop t
  cell_fits_prop (TBoxed is t b) = ×_prop (each_prop IndexFits index_prop is) (fits_prop t)

  cells_fit_prop : (xs : Cells erased) → IsProp (CellsFit xs)
  cells_fit_prop no_cells = Unit-prop
  cells_fit_prop (more_cells x xs) = ×_prop (cell_fits_prop x) (cells_fit_prop xs)

program_fits_prop : (E : ErasedProgram) → IsProp (ProgramFits E)
program_fits_prop E = ×_prop (each_prop TermFits fits_prop E.defs) (fits_prop E.body)

-- ---- the erasure of a program that is merely known to be checked

pub checked_fits : (P : Program) (result : Ty) (inputs : List Ty) (notes : List NodeNote) → ∥ IsChecked P result inputs notes ∥₁ → ProgramFits (erased_program P notes)
checked_fits P result inputs notes h = ∥∥₁_elim h (program_fits_prop (erased_program P notes)) (program_fits P result inputs notes)
