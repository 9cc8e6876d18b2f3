-- What the checker's calls answer in a state.
use Rattle.std.specs.Prelude.{ℕ, ◌≡◌, List, [], ◌∷◌, ◌++◌, Result, Ok, Err}
use Rattle.core_syntax.specs.declared.index.Sort.{Sort}
use Rattle.core_syntax.specs.declared.note.Note.{Note}
use Rattle.core_syntax.specs.declared.span.Span.{Span}
use Rattle.core_syntax.specs.declared.ty.Ty.{Ty as Tree}
use Rattle.core_syntax.specs.Syntax.{Ty, Tys, no_tys, more_tys, Expr, expr_at, Exprs, no_exprs, more_exprs, Atom, Atoms, no_atoms, more_atoms}
use Rattle.core_syntax.specs.Refine.{ty_of}
use Rattle.core_syntax.specs.Lists.{each}
use Rattle.core_syntax.specs.Kinds.{IsWellFormed}
use Rattle.core_syntax.specs.Made.{IsArray}
use Rattle.core_syntax.specs.NormTypes.{norm_ty}
use Rattle.core_syntax.specs.Word.{Word}
use Rattle.core_syntax.specs.Notes.{NodeNote, note_of}
use Rattle.core_syntax.specs.Blame.{Premises, expr_premises, atom_premises, later_atoms, later_cells, args_premises}
use Rattle.core_syntax.specs.Typing.{Context, under_sorts, under_terms}
use Rattle.type_check.specs.declared.refusal.TypeRefusal.{TypeRefusal}
use Rattle.type_check.specs.declared.concluded.Concluded.{Concluded}
use Rattle.type_check.specs.Contexts.{Like}
use Rattle.type_check.specs.Found.{Refuses, Found, FoundAtom}
use Rattle.type_check.specs.FoundParts.{FoundAtoms, FoundCells, FoundArgs}
use Rattle.type_check.specs.State.{State, context_of}

-- what is in scope is as it was, notes stand behind the earlier ones, and in each context like that of the state this holds of them
abbrev pub Finding : (Context → List NodeNote → Type 0) → State → State → Type 0
Finding P old now = (notes : List Note) × (now ≡ record old { notes = old.notes ++ notes }) × ((Γ : Context) → Like Γ (context_of old) → P Γ (each note_of notes))

-- what an answer says: this of its value and of the notes, or that these premises are refused
abbrev pub Answers : {V : Type 0} → (Context → V → List NodeNote → Type 0) → (Context → Premises) → State → State → Result V TypeRefusal → Type 0
Answers P ps old now (Ok v) = Finding (λ Γ. P Γ v) old now
Answers P ps old now (Err r) = (Γ : Context) → Like Γ (context_of old) → Refuses (ps Γ) r

-- of an expression: its type, and its notes
abbrev pub ExprAnswers : State → State → Expr → Result Tree TypeRefusal → Type 0
ExprAnswers old now e r = Answers (λ Γ t notes. Found Γ e (ty_of t) notes) (λ Γ. expr_premises Γ e) old now r

-- of a node: its type, and its note before those of the parts
abbrev pub NodeAnswers : State → State → Expr → Result Concluded TypeRefusal → Type 0
NodeAnswers old now e r = Answers (λ Γ c notes. Found Γ e (ty_of c.ty) (note_of c.note ∷ notes)) (λ Γ. expr_premises Γ e) old now r

-- of an atom: its type, and the notes in it
abbrev pub AtomAnswers : State → State → Atom → Result Tree TypeRefusal → Type 0
AtomAnswers old now a r = Answers (λ Γ t notes. FoundAtom Γ a (ty_of t) notes) (λ Γ. atom_premises Γ a) old now r

-- of the atoms behind the first of an array, whose type this is
abbrev pub AtomsAnswer : {V : Type 0} → Ty → Atoms → State → State → Result V TypeRefusal → Type 0
AtomsAnswer t xs old now r = Answers (λ Γ v notes. FoundAtoms Γ t xs notes) (λ Γ. later_atoms Γ t xs) old now r

-- of one of them: it is the one to blame, whatever stands behind it
abbrev pub LaterAtomAnswers : {V : Type 0} → Ty → Atom → State → State → Result V TypeRefusal → Type 0
LaterAtomAnswers t x old now (Ok v) = Finding (λ Γ. FoundAtoms Γ t (more_atoms x no_atoms)) old now
LaterAtomAnswers t x old now (Err r) = (Γ : Context) → Like Γ (context_of old) → (xs : Atoms) → Refuses (later_atoms Γ t (more_atoms x xs)) r

-- the same of the cells of a frame
abbrev pub CellsAnswer : {V : Type 0} → Ty → Exprs → State → State → Result V TypeRefusal → Type 0
CellsAnswer t es old now r = Answers (λ Γ v notes. FoundCells Γ t es notes) (λ Γ. later_cells Γ t es) old now r

abbrev pub LaterCellAnswers : {V : Type 0} → Ty → Expr → State → State → Result V TypeRefusal → Type 0
LaterCellAnswers t e old now (Ok v) = Finding (λ Γ. FoundCells Γ t (more_exprs e no_exprs)) old now
LaterCellAnswers t e old now (Err r) = (Γ : Context) → Like Γ (context_of old) → (es : Exprs) → Refuses (later_cells Γ t (more_exprs e es)) r

-- of the arguments of an application, with these input types: the words of their frames
abbrev pub ArgsAnswer : {V : Type 0} → (V → List Word) → Tys → Exprs → State → State → Result V TypeRefusal → Type 0
ArgsAnswer view ts es old now r = Answers (λ Γ ws notes. FoundArgs Γ ts es (view ws) notes) (λ Γ. args_premises Γ es ts) old now r

-- of one of them: it is the one to blame, whatever stands behind it
abbrev pub ArgAnswers : Ty → Expr → State → State → Result Word TypeRefusal → Type 0
ArgAnswers t e old now (Ok w) = Finding (λ Γ. FoundArgs Γ (more_tys t no_tys) (more_exprs e no_exprs) (w ∷ [])) old now
ArgAnswers t e old now (Err r) = (Γ : Context) → Like Γ (context_of old) → (ts : Tys) (es : Exprs) → Refuses (args_premises Γ (more_exprs e es) (more_tys t ts)) r

-- a normal array type that is well formed with these variables, as the inputs of a function are
pub record IsInput (types : ℕ) (sorts : List Sort) (t : Ty) : Type 0 where
  pub array : IsArray t
  pub normal : norm_ty t ≡ t
  pub formed : IsWellFormed types sorts t

-- of the body of an `unbox` of these sorts, whose content has this type
abbrev pub InBoxAnswers : List Sort → Ty → Expr → State → State → Result Tree TypeRefusal → Type 0
InBoxAnswers ss t e old now r =
    Answers (λ Γ u notes. Found (under_terms (t ∷ []) (under_sorts ss Γ)) e (ty_of u) notes) (λ Γ. expr_premises (under_terms (t ∷ []) (under_sorts ss Γ)) e) old now r

-- an expression at this place was found to have this type, before this state
abbrev pub IsFoundBefore : Span → Ty → State → Type 0
IsFoundBefore at t now = (before : State) × (e : Expr) × (expr_at e ≡ at) × Finding (λ Γ. Found Γ e t) before now
