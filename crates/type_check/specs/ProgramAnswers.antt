-- What the checker's calls answer of the parts of a program.
use Rattle.std.specs.Prelude.{ℕ, ◌≡◌, true, List, [], ◌∷◌, ◌++◌, Result, Ok, Err}
use Rattle.core_syntax.specs.declared.span.Span.{Span}
use Rattle.core_syntax.specs.declared.ty.Ty.{Ty as Tree}
use Rattle.core_syntax.specs.Syntax.{Ty, ty_at, Expr, expr_at, Def, Program}
use Rattle.core_syntax.specs.Kinds.{IsWellFormed}
use Rattle.core_syntax.specs.Lists.{each, EachTwo}
use Rattle.core_syntax.specs.NormTypes.{norm_ty}
use Rattle.core_syntax.specs.Refine.{ty_of}
use Rattle.core_syntax.specs.TypeEqual.{Same}
use Rattle.core_syntax.specs.Typing.{Context, Has, is_syntactic_value, is_printable, defs_only, body_context}
use Rattle.core_syntax.specs.Blame.{Premises, premise, with_any, ◌then◌, written, expr_premises, def_premises, defs_premises, inputs_premises, program_premises}
use Rattle.core_syntax.specs.Notes.{NotesAre, note_of, ProgramNotesAre}
use Rattle.type_check.specs.declared.refusal.TypeRefusal.{TypeRefusal}
use Rattle.type_check.specs.declared.refusal.TypeRefusal.TheVariants.{Refused}
use Rattle.type_check.specs.Answers.{Answers}
use Rattle.type_check.specs.Found.{Refuses}
use Rattle.type_check.specs.ProgramState.{IsEntered, IsBehind, input_premises}
use Rattle.type_check.specs.State.{State}
use Rattle.type_check.specs.Written.{Tells}

-- of the test of a premise with this number, at this place
abbrev pub Tests : {V : Type 0} → ℕ → Span → Type 0 → Result V TypeRefusal → Type 0
Tests n at P (Ok v) = P
Tests n at P (Err r) = (¬ P) × (r ≡ Refused n at)

-- of a type that is written where no variables are in scope: it is well formed, and this is its normal type
abbrev pub ClosedAnswers : Ty → Result Tree TypeRefusal → Type 0
ClosedAnswers t r = (defs : List Ty) → Tells (written (defs_only defs) t) (λ n. IsWellFormed 0 [] t × (ty_of n ≡ norm_ty t)) r

-- the premises of a definition behind that of its written type
abbrev pub value_premises : Context → Def → Premises
value_premises Γ d =
    premise 28 (expr_at d.value) (is_syntactic_value d.value ≡ true)
    then expr_premises Γ d.value
    then with_any (Has Γ d.value) (λ t. premise 27 (ty_at d.ty) (Same t d.ty))

-- of a definition's value, whose written type is known
abbrev pub ValueAnswers : {V : Type 0} → Def → State → State → Result V TypeRefusal → Type 0
ValueAnswers d old now r = Answers (λ Γ v notes. (value_premises Γ d).met × NotesAre Γ d.value notes) (λ Γ. value_premises Γ d) old now r

-- of a definition: the state is behind it, or it is the one to blame
abbrev pub DefAnswers : {V : Type 0} → Def → State → State → Result V TypeRefusal → Type 0
DefAnswers d old now (Ok v) = (defs : List Def) → IsBehind defs [] old → IsBehind (defs ++ d ∷ []) [] now
DefAnswers d old now (Err r) = (defs : List Def) → IsBehind defs [] old → Refuses (def_premises (each (λ d. d.ty) defs) d) r

-- of all definitions
abbrev pub DefsAnswer : {V : Type 0} → List Def → State → Result V TypeRefusal → Type 0
DefsAnswer defs now (Ok v) = IsBehind defs [] now
DefsAnswer defs now (Err r) = Refuses (defs_premises [] defs) r

-- of the type of an input: its normal type
abbrev pub InputTypeAnswers : Ty → Result Tree TypeRefusal → Type 0
InputTypeAnswers t r = Tells (input_premises t) (λ n. IsWellFormed 0 [] t × (ty_of n ≡ norm_ty t)) r

-- of an input: its premises are met and the state is behind it, or it is the one to blame
abbrev pub InputAnswers : {V : Type 0} → Ty → State → State → Result V TypeRefusal → Type 0
InputAnswers t old now (Ok v) =
    (now.sorts ≡ old.sorts) × (input_premises t).met × ((defs : List Def) (inputs : List Ty) → IsBehind defs inputs old → IsBehind defs (inputs ++ t ∷ []) now)
InputAnswers t old now (Err r) = Refuses (input_premises t) r

-- of all inputs
abbrev pub InputsAnswer : {V : Type 0} → List Ty → State → State → Result V TypeRefusal → Type 0
InputsAnswer inputs old now (Ok v) = (defs : List Def) → IsBehind defs [] old → IsBehind defs inputs now
InputsAnswer inputs old now (Err r) = Refuses (inputs_premises inputs) r

-- the premises of a program's body
abbrev pub body_premises : Context → Expr → Premises
body_premises Γ e = expr_premises Γ e then with_any (Has Γ e) (λ t. premise 30 (expr_at e) (is_printable t ≡ true))

-- of a program's body: its type
abbrev pub BodyAnswers : Expr → State → State → Result Tree TypeRefusal → Type 0
BodyAnswers e old now r = Answers (λ Γ t notes. (body_premises Γ e).met × Has Γ e (ty_of t) × NotesAre Γ e notes) (λ Γ. body_premises Γ e) old now r

-- a program's premises are met, this is the type of its body, and its normal input types and its notes are in the state
pub record IsTyped (P : Program) (t : Ty) (s : State) : Type 0 where
  pub met : (program_premises P).met
  pub has : Has (body_context P) P.body t
  pub inputs_are : EachTwo IsEntered P.inputs s.terms
  pub notes_are : ProgramNotesAre P (each note_of s.notes)

-- of a program: the type of its body
abbrev pub ProgramAnswers : Program → State → Result Tree TypeRefusal → Type 0
ProgramAnswers P now (Ok t) = IsTyped P (ty_of t) now
ProgramAnswers P now (Err r) = Refuses (program_premises P) r
