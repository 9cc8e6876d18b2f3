-- A checked program, as a check that the laws' premises can be met: `(main () (+ 1 2))`, and what the laws say of its run.
use Rattle.std.proofs.Common.{refl, ℕ, zero, pos, arith, List, [], ◌∷◌}
use Rattle.core_syntax.specs.declared.primitive.Primitive.TheVariants as p
use Rattle.core_syntax.specs.Syntax.{Index, Ty, Fun, Tys, no_tys, more_tys, no_span, Expr, Array, App, Exprs, no_exprs, more_exprs, Atom, IntAtom, PrimAtom, no_atoms, more_atoms, Program}
use Rattle.core_syntax.specs.Kinds.{IsWellFormed}
use Rattle.core_syntax.specs.Value.{IndexEqual, IsPrefix, then_shape}
use Rattle.core_syntax.specs.declared.index.Sort.TheVariants as sort
use Rattle.core_syntax.specs.Prims.{scalar, int_ty, array_of}
use Rattle.core_syntax.specs.Made.{DimsOf, IsWellMade}
use Rattle.core_syntax.specs.Typing.{Context, numbers, defs_only, IsPrincipal, Has, HasAtom, ArgsHave}
use Rattle.core_syntax.specs.Blame.{concluding, premises, expr_premises, IsAccepted}
use Rattle.core_syntax.specs.Notes.{NodeNote, no_note, app_note, NotesAre}
use Rattle.core_syntax.specs.Checks.{IsChecked}
use Rattle.core_syntax.specs.Terms.{TInt, scalar_of}
use Rattle.core_syntax.specs.TermTyping.{HasClosed}
use Rattle.core_syntax.specs.Start.{Reaches}
use Rattle.core_syntax.proofs.Equality.{same_refl}
use Rattle.core_syntax.specs.Data.{FitsType, DataArray, DataInt, more_data, no_data}
use Rattle.core_syntax.specs.Literals.{LiteralsFit}
use Rattle.reduction_laws.specs.Laws.{IsReady}
use Rattle.reduction_laws.proofs.runs.Results.{keeps_type, reaches_data}

-- ---- the program

abbrev literal : Atom → Expr
literal a = Array no_span [] (more_atoms a no_atoms)

abbrev number : ℕ → Expr
number n = literal (IntAtom no_span (pos n))

abbrev plus : Expr
plus = literal (PrimAtom no_span p.Add)

abbrev arguments : Exprs
arguments = more_exprs (number 1) (more_exprs (number 2) no_exprs)

abbrev program : Program
program = record { defs = []; inputs = []; body = App no_span plus arguments }

abbrev Γ : Context
Γ = defs_only []

-- dims of one item
one_item : DimsOf [] 1
one_item = (omega arith, omega arith, omega arith, refl)

made : IsWellMade program
made = record {
  defs = tt;
  inputs = tt;
  body = ((one_item, (tt, tt)), omega arith, ((one_item, (tt, tt)), ((one_item, (tt, tt)), tt)));
  nodes_few = omega arith;
  defs_few = omega arith;
  inputs_few = omega arith;
}

-- ---- its types

abbrev int : Ty
int = scalar int_ty

abbrev inputs : Tys
inputs = more_tys int (more_tys int no_tys)

abbrev function : Ty
function = array_of (Fun no_span inputs int) (numbers [])

-- the type of a number that is an argument: with its frame () in front
abbrev framed : Ty
framed = array_of int_ty (then_shape (numbers []) (numbers []))

int_formed : IsWellFormed 0 [] int
int_formed = (refl, (refl, tt), tt)

plus_atom_has : HasAtom Γ (PrimAtom no_span p.Add) (Fun no_span inputs int)
plus_atom_has = (((int_formed, (int_formed, tt)), int_formed), same_refl (Fun no_span inputs int))

plus_has : Has Γ plus function
plus_has = (
  Fun no_span inputs int,
  plus_atom_has,
  tt,
  ((refl, (refl, tt), ((int_formed, (int_formed, tt)), int_formed)), same_refl function),
)

number_has : (n : ℕ) → Has Γ (number n) framed
number_has n = (int_ty, (tt, refl), tt, ((refl, (refl, ((refl, tt), ((refl, tt), tt))), tt), (refl, λ v. refl)))

same_frame : IsPrefix [] (numbers []) (numbers [])
same_frame = (numbers [], ((refl, ((refl, tt), ((refl, tt), tt))), (refl, tt), λ v. refl))

abbrev frames : List Index
frames = numbers [] ∷ numbers [] ∷ []

arguments_have : ArgsHave Γ arguments inputs frames
arguments_have = (number_has 1, (number_has 2, tt))

principal : IsPrincipal Γ (numbers [] ∷ frames) (numbers [])
principal = (zero, refl, (same_frame, (same_frame, (same_frame, tt))))

sum_has : Has Γ program.body int
sum_has = (inputs, int, numbers [], plus_has, (frames, arguments_have, (numbers [], principal, (int_formed, (refl, λ v. refl)))))

-- ---- what a checker finds

number_met : (n : ℕ) → (concluding Γ (number n) (premises Γ (number n))).met
number_met n = ((tt, (int_ty, (tt, refl), tt)), (framed, number_has n, refl))

fits : IndexEqual [] sort.Shape (then_shape (numbers []) (numbers [])) (then_shape (numbers []) (numbers []))
fits = ((refl, ((refl, tt), ((refl, tt), tt))), (refl, ((refl, tt), ((refl, tt), tt))), λ v. refl)

sum_met : (expr_premises Γ program.body).met
sum_met = (
  (
    ((tt, (Fun no_span inputs int, plus_atom_has, tt)), (function, plus_has, refl)),
    (function, plus_has, (tt, (refl, ((number_met 1, ((framed, number_has 1, (refl, (numbers [], fits))), (number_met 2, ((framed, number_has 2, (refl, (numbers [], fits))), tt)))), (frames, arguments_have, (numbers [], principal)))))),
  ),
  (int, sum_has, refl),
)

accepted : IsAccepted program
accepted = (tt, (tt, (sum_met, (int, sum_has, refl))))

abbrev notes : List NodeNote
notes = app_note inputs int ∷ no_note ∷ no_note ∷ no_note ∷ []

number_notes : (n : ℕ) → NotesAre Γ (number n) (no_note ∷ [])
number_notes n = (refl, ([], [], refl, refl, refl))

plus_notes : NotesAre Γ plus (no_note ∷ [])
plus_notes = (refl, ([], [], refl, refl, refl))

notes_are : NotesAre Γ program.body notes
notes_are = (
  inputs,
  int,
  numbers [],
  plus_has,
  (refl, (no_note ∷ [], no_note ∷ no_note ∷ [], refl, plus_notes, (no_note ∷ [], no_note ∷ [], refl, number_notes 1, (no_note ∷ [], [], refl, number_notes 2, refl)))),
)

checked : IsChecked program int [] notes
checked = record {
  accepted = accepted;
  result_normal = refl;
  result_has = sum_has;
  inputs_are = refl;
  notes_are = ([], notes, refl, refl, notes_are);
}

ready : IsReady program int notes []
ready = record { inputs = []; made = made; checked = checked; fits = tt }

-- ---- its run

reaches_three : Reaches program notes [] 1 (scalar_of (TInt (pos 3)))
reaches_three = (refl, refl)

three_typed : HasClosed [] (scalar_of (TInt (pos 3))) int
three_typed = keeps_type program int notes [] ready 1 (scalar_of (TInt (pos 3))) refl

-- its numbers are of 64 bits, and its arrays have no dims
literals : LiteralsFit program
literals = (tt, ((refl, (tt, tt)), ((refl, (refl, tt)), ((refl, (refl, tt)), tt))))

three_fits : FitsType int (DataArray [] (more_data (DataInt (pos 3)) no_data))
three_fits = reaches_data program int notes [] ready literals 1 (scalar_of (TInt (pos 3))) reaches_three
