-- What an answer of the checker says: the premises are met and this is the type, or this is the first premise that isn't met.
use Rattle.std.specs.Prelude.{List, ◌∷◌, Result, Ok, Err, ⊤}
use Rattle.core_syntax.specs.Syntax.{Ty, Expr, Atom}
use Rattle.core_syntax.specs.Typing.{Context, Has, HasAtom}
use Rattle.core_syntax.specs.Blame.{Premises, expr_premises, atom_premises}
use Rattle.core_syntax.specs.Notes.{NodeNote, note_of, NotesAre, AtomNotesAre}
use Rattle.core_syntax.specs.Refine.{ty_of}
use Rattle.type_check.specs.declared.concluded.Concluded.{Concluded}
use Rattle.type_check.specs.declared.refusal.TypeRefusal.{TypeRefusal}
use Rattle.type_check.specs.declared.refusal.TypeRefusal.TheVariants.{Refused, Memory}
use Rattle.type_check.specs.Contexts.{Like, IsSound, IsSoundAtom}

-- the first premise that isn't met is this refusal's, or there was no memory
abbrev pub Refuses : Premises → TypeRefusal → Type 0
Refuses ps (Refused n at) = ps.blames (n, at)
Refuses ps Memory = ⊤

-- an expression meets its premises and has this type, with these notes
pub record Found (Γ : Context) (e : Expr) (t : Ty) (ns : List NodeNote) : Type 0 where
  pub met : (expr_premises Γ e).met
  pub has : Has Γ e t
  pub sound : IsSound Γ.types Γ.sorts t
  pub notes : NotesAre Γ e ns

-- an atom does
pub record FoundAtom (Γ : Context) (a : Atom) (t : Ty) (ns : List NodeNote) : Type 0 where
  pub met : (atom_premises Γ a).met
  pub has : HasAtom Γ a t
  pub sound : IsSoundAtom Γ t
  pub notes : AtomNotesAre Γ a ns

-- what an answer says of an expression in each context like N, with these notes, where the answer's type is seen so
abbrev pub Finds : {V : Type 0} → (V → Ty) → Context → Expr → List NodeNote → Result V TypeRefusal → Type 0
Finds view N e ns (Ok v) = (Γ : Context) → Like Γ N → Found Γ e (view v) ns
Finds view N e ns (Err r) = (Γ : Context) → Like Γ N → Refuses (expr_premises Γ e) r

-- and of an atom
abbrev pub FindsAtom : {V : Type 0} → (V → Ty) → Context → Atom → List NodeNote → Result V TypeRefusal → Type 0
FindsAtom view N a ns (Ok v) = (Γ : Context) → Like Γ N → FoundAtom Γ a (view v) ns
FindsAtom view N a ns (Err r) = (Γ : Context) → Like Γ N → Refuses (atom_premises Γ a) r

-- what a rule concludes at a node, behind the parts' notes: its premises are met and it has this type, or the first premise that isn't met
abbrev pub Concludes : Context → Expr → List NodeNote → Result Concluded TypeRefusal → Type 0
Concludes Γ e ns (Ok c) = Found Γ e (ty_of c.ty) (note_of c.note ∷ ns)
Concludes Γ e ns (Err r) = Refuses (expr_premises Γ e) r
