-- The array of an erased value is that of the typed one.
use Rattle.std.proofs.Common.{◌≡◌, refl, List, []}
use Rattle.core_syntax.specs.Syntax.{Ty, Sigma}
use Rattle.core_syntax.specs.Subst.{with_indices}
use Rattle.core_syntax.specs.Typing.{defs_only}
use Rattle.core_syntax.specs.Terms.{TVar, TDef, TArray, TNoAtoms, TFrame, TNoCells, TApp, TTypeApp, TIndexApp, TUnbox, Cell, TInt, TBool, TChar, TPrim, TFn, TTypeFn, TIndexFn, TBoxed, Cells, no_cells, more_cells}
use Rattle.core_syntax.specs.Data.{DataArray, DataBox, more_data, array_of_value, atom_of_cell, atoms_of_cells}
use Rattle.core_syntax.specs.Typed.{typed, typed_rules, TypedTerm}
use Rattle.core_syntax.specs.TermTyping.{HasTerm, HasCell, CellsHave}
use Rattle.erasure.specs.Erased.{erased_rules}
use Rattle.erasure.specs.Erasure.{er, er_cell, er_cells}
use Rattle.erasure.proofs.together.Bodies.{erased_values}

module _ (D : List Ty) where
  mutual
    pub array_kept : (t : TypedTerm) (T : Ty) → HasTerm (defs_only D) t T → array_of_value erased_rules (er [] t) ≡ array_of_value typed_rules t
    array_kept (TArray dims no_cells) T h = absurd h
    array_kept (TArray dims (more_cells x xs)) T h = λ i. DataArray dims (more_data (atom_kept x h.0 h.1 i) (atoms_kept xs h.0 h.2 i))
    array_kept (TNoAtoms dims a) T h = refl
    array_kept (TVar k) T h = refl
    array_kept (TDef k) T h = refl
    array_kept (TFrame dims ts n) T h = refl
    array_kept (TNoCells w) T h = refl
    array_kept (TApp f ts cs n) T h = refl
    array_kept (TTypeApp t us n) T h = refl
    array_kept (TIndexApp t is n) T h = refl
    array_kept (TUnbox ss t b n) T h = refl

    atom_kept : (x : Cell typed) (a : Ty) → HasCell (defs_only D) x a → atom_of_cell erased_rules (er_cell [] x) ≡ atom_of_cell typed_rules x
    atom_kept (TBoxed is e (Sigma at ss b)) a h = λ i. DataBox (erased_values ss is h.1.0 i) (array_kept e (with_indices is b) h.1.1 i)
    atom_kept (TBoxed is e _) a h = absurd h.1
    atom_kept (TInt z) a h = refl
    atom_kept (TBool z) a h = refl
    atom_kept (TChar z) a h = refl
    atom_kept (TPrim q us is) a h = refl
    atom_kept (TFn i t) a h = refl
    atom_kept (TTypeFn n t) a h = refl
    atom_kept (TIndexFn ss t) a h = refl

    atoms_kept : (xs : Cells typed) (a : Ty) → CellsHave (defs_only D) xs a → atoms_of_cells erased_rules (er_cells [] xs) ≡ atoms_of_cells typed_rules xs
    atoms_kept no_cells a h = refl
    atoms_kept (more_cells x xs) a h = λ i. more_data (atom_kept x a h.0 i) (atoms_kept xs a h.1 i)
