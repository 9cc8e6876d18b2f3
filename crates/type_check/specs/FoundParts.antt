-- What is found of the atoms of an array, the cells of a frame and the arguments of an application.
use Rattle.std.specs.Prelude.{◌≡◌, List, [], ◌∷◌, Result, Ok, Err}
use Rattle.core_syntax.specs.declared.index.Sort.TheVariants as sort
use Rattle.core_syntax.specs.Syntax.{Index, Ty, Tys, no_tys, more_tys, Expr, Exprs, no_exprs, more_exprs, Atom, Atoms, no_atoms, more_atoms}
use Rattle.core_syntax.specs.Lists.{each, Each}
use Rattle.core_syntax.specs.Sorts.{IsSorted}
use Rattle.core_syntax.specs.Word.{Word}
use Rattle.core_syntax.specs.Norm.{norm_word}
use Rattle.core_syntax.specs.Typing.{Context, AtomsHave, ExprsHave, ArgsHave}
use Rattle.core_syntax.specs.Blame.{Premises, later_atoms, later_cells, args_premises}
use Rattle.core_syntax.specs.Notes.{NodeNote, AtomsNotesAre, ExprsNotesAre}
use Rattle.type_check.specs.declared.refusal.TypeRefusal.{TypeRefusal}
use Rattle.type_check.specs.Contexts.{Like}
use Rattle.type_check.specs.Found.{Refuses}

-- atoms behind the first of an array meet their premises and have its type t, with these notes
pub record FoundAtoms (Γ : Context) (t : Ty) (xs : Atoms) (ns : List NodeNote) : Type 0 where
  pub met : (later_atoms Γ t xs).met
  pub have : AtomsHave Γ xs t
  pub notes : AtomsNotesAre Γ xs ns

-- cells behind the first of a frame do
pub record FoundCells (Γ : Context) (t : Ty) (es : Exprs) (ns : List NodeNote) : Type 0 where
  pub met : (later_cells Γ t es).met
  pub have : ExprsHave Γ es t
  pub notes : ExprsNotesAre Γ es ns

-- arguments meet their premises, and their frames before the cells of these input types have these words
pub record FoundArgs (Γ : Context) (ts : Tys) (es : Exprs) (words : List Word) (ns : List NodeNote) : Type 0 where
  pub met : (args_premises Γ es ts).met
  pub frames : List Index
  pub have : ArgsHave Γ es ts frames
  pub sorted : Each (IsSorted Γ.sorts sort.Shape) frames
  pub normal : each norm_word frames ≡ words
  pub notes : ExprsNotesAre Γ es ns

-- what an answer says in each context like N, where these premises are tested and this is found
abbrev pub FindsAll : {V : Type 0} → Context → (Context → Premises) → (Context → V → Type 0) → Result V TypeRefusal → Type 0
FindsAll N ps found (Ok v) = (Γ : Context) → Like Γ N → found Γ v
FindsAll N ps found (Err r) = (Γ : Context) → Like Γ N → Refuses (ps Γ) r

-- what a test of a later atom says, whose type was found: it has the first's type t, or it is the one to blame, whatever stands behind it
abbrev pub TestsAtom : {V : Type 0} → Context → Ty → Atom → List NodeNote → Result V TypeRefusal → Type 0
TestsAtom Γ t x ns (Ok v) = FoundAtoms Γ t (more_atoms x no_atoms) ns
TestsAtom Γ t x ns (Err r) = (xs : Atoms) → Refuses (later_atoms Γ t (more_atoms x xs)) r

-- of a later cell
abbrev pub TestsCell : {V : Type 0} → Context → Ty → Expr → List NodeNote → Result V TypeRefusal → Type 0
TestsCell Γ t e ns (Ok v) = FoundCells Γ t (more_exprs e no_exprs) ns
TestsCell Γ t e ns (Err r) = (es : Exprs) → Refuses (later_cells Γ t (more_exprs e es)) r

-- of an argument, whose frame before the cell of the input type t has this word
abbrev pub TestsArg : Context → Ty → Expr → List NodeNote → Result Word TypeRefusal → Type 0
TestsArg Γ t e ns (Ok w) = FoundArgs Γ (more_tys t no_tys) (more_exprs e no_exprs) (w ∷ []) ns
TestsArg Γ t e ns (Err r) = (ts : Tys) (es : Exprs) → Refuses (args_premises Γ (more_exprs e es) (more_tys t ts)) r
