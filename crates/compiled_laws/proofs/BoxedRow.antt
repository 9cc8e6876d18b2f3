-- A program with an input, as a check that the premises of the laws can be met: `(main ((b (Sigma ((s Shape)) (A Int s)))) (unbox (s x b) Int 7))`, on a box that hides a shape.
use Rattle.std.proofs.Common.{◌≡◌, refl, sym, ap, subst, ◌∙◌, ℕ, pos, arith, List, [], ◌∷◌}
use Rattle.core_syntax.specs.declared.index.Sort.{Sort}
use Rattle.core_syntax.specs.declared.index.Sort.TheVariants as sort
use Rattle.core_syntax.specs.Syntax.{Ty, Sigma, Var, no_span, Expr, TermVar, Array as Literal, Unbox, IntAtom, more_atoms, no_atoms, Program}
use Rattle.core_syntax.specs.Kinds.{IsWellFormed}
use Rattle.core_syntax.specs.Lists.{each}
use Rattle.core_syntax.specs.Prims.{scalar, int_ty, array_of}
use Rattle.core_syntax.specs.Made.{DimsOf, IsWellMade}
use Rattle.core_syntax.specs.Typing.{Context, numbers, body_context, under_terms, under_sorts, Has}
use Rattle.core_syntax.specs.Blame.{concluding, premises, expr_premises, IsAccepted}
use Rattle.core_syntax.specs.Notes.{NodeNote, no_note, unbox_note, NotesAre}
use Rattle.core_syntax.specs.Checks.{IsChecked}
use Rattle.core_syntax.specs.Terms.{ShapeValue, TInt, scalar_of}
use Rattle.core_syntax.specs.Start.{Reaches}
use Rattle.core_syntax.specs.Data.{array_of_value, Data, DataArray, DataBox, DataInt, more_data, no_data, FitsValues}
use Rattle.core_syntax.specs.Literals.{LiteralsFit}
use Rattle.core_syntax.proofs.Equality.{same_refl}
use Rattle.reduction_laws.specs.Laws.{IsReady}
use Rattle.array_values.specs.Values.{Array}
use Rattle.array_values.specs.Data.{array_data}
use Rattle.erasure.specs.Erased.{erased_rules}
use Rattle.machine_table.specs.Ends.{Ends}
use Rattle.machine_table.specs.Machine.{Done}
use Rattle.machine_table.specs.ValueRules.{value_rules}
use Rattle.lowering.specs.Laws.{code_of_program}
use Rattle.evaluation.specs.Inputs.{data_array}
use Rattle.evaluation.proofs.atoms.ValueReads.{values_reading}
use Rattle.compiled_laws.specs.Laws.{Bounds, DoesAsSource}
use Rattle.compiled_laws.proofs.ValueData.{array_same}
use Rattle.compiled_laws.proofs.Results.{code_does}

-- ---- the program

abbrev sorts : List Sort
sorts = sort.Shape ∷ []

-- arrays of a hidden shape
abbrev content : Ty
content = array_of int_ty (Var no_span 0)

-- a box of one
abbrev box : Ty
box = array_of (Sigma no_span sorts content) (numbers [])

abbrev int : Ty
int = scalar int_ty

abbrev seven : Expr
seven = Literal no_span [] (more_atoms (IntAtom no_span (pos 7)) no_atoms)

abbrev program : Program
program = record { defs = []; inputs = box ∷ []; body = Unbox no_span 1 (TermVar no_span 0) int seven }

abbrev Γ : Context
Γ = body_context program

-- where the body of the `unbox` stands
abbrev inside : Context
inside = under_terms (content ∷ []) (under_sorts sorts Γ)

one_item : DimsOf [] 1
one_item = (omega arith, omega arith, omega arith, refl)

made : IsWellMade program
made = record {
  defs = tt;
  inputs = ((refl, ((omega arith, (omega arith, omega arith, omega arith), refl, (tt, omega arith)), tt)), tt);
  body = (omega arith, omega arith, (refl, (tt, tt)), (omega arith, omega arith, omega arith), (one_item, (tt, tt)));
  nodes_few = omega arith;
  defs_few = omega arith;
  inputs_few = omega arith;
}

-- ---- its types

int_formed : IsWellFormed 0 [] int
int_formed = (refl, (refl, tt), tt)

int_inside : IsWellFormed 0 sorts int
int_inside = (refl, (refl, tt), tt)

box_formed : IsWellFormed 0 [] box
box_formed = (refl, (refl, tt), (refl, refl, tt))

box_has : Has Γ (TermVar no_span 0) box
box_has = (box, refl, (box_formed, same_refl box))

seven_has : Has inside seven int
seven_has = (int_ty, (tt, refl), tt, (int_inside, same_refl int))

body_has : Has Γ program.body int
body_has = (sorts, content, numbers [], box_has, refl, int_formed, seven_has, (int_formed, (refl, λ v. refl)))

-- ---- what a checker finds

seven_met : (concluding inside seven (premises inside seven)).met
seven_met = ((tt, (int_ty, (tt, refl), tt)), (int, seven_has, refl))

body_met : (expr_premises Γ program.body).met
body_met = (((tt, (box, box_has, refl)), (box, box_has, (tt, (refl, ((refl, refl), (seven_met, (int, seven_has, same_refl int))))))), (int, body_has, refl))

accepted : IsAccepted program
accepted = (tt, ((((refl, refl), refl), tt), (body_met, (int, body_has, refl))))

abbrev notes : List NodeNote
notes = unbox_note sorts int ∷ no_note ∷ no_note ∷ []

notes_are : NotesAre Γ program.body notes
notes_are = (sorts, content, numbers [], box_has, (refl, (no_note ∷ [], no_note ∷ [], refl, (refl, refl), (refl, ([], [], refl, refl, refl)))))

checked : IsChecked program int (box ∷ []) notes
checked = record {
  accepted = accepted;
  result_normal = refl;
  result_has = body_has;
  inputs_are = refl;
  notes_are = ([], notes, refl, refl, notes_are);
}

-- ---- its data

-- a box that hides the shape (2), with 5 and 6 inside
abbrev boxed : Data
boxed = DataArray [] (more_data (DataBox (ShapeValue (2 ∷ []) ∷ []) (DataArray (2 ∷ []) (more_data (DataInt (pos 5)) (more_data (DataInt (pos 6)) no_data)))) no_data)

fits : FitsValues (box ∷ []) (boxed ∷ [])
fits = ((refl, refl, refl, (((tt, tt), refl, (refl, refl, refl, (refl, (refl, tt)))), tt)), tt)

ready : IsReady program int notes (boxed ∷ [])
ready = record { inputs = box ∷ []; made = made; checked = checked; fits = fits }

literals : LiteralsFit program
literals = (tt, (tt, (refl, (refl, tt))))

reaches_seven : Reaches program notes (boxed ∷ []) 1 (scalar_of (TInt (pos 7)))
reaches_seven = (refl, refl)

-- ---- what its code does

-- the data as an array of the machine
abbrev array : Array
array = data_array value_rules boxed

array_is : array_data array ≡ boxed
array_is = sym (array_same [] array) ∙ ap (array_of_value erased_rules) (values_reading.data_is [] boxed)

inputs_are : (each array_data (array ∷ [])) ≡ boxed ∷ []
inputs_are = ap (λ d. d ∷ []) array_is

does : DoesAsSource program notes (array ∷ [])
does = code_does program int notes (array ∷ []) (subst (IsReady program int notes) (sym inputs_are) ready) literals

-- it ends with 7, within the bounds
ends_with_seven : (n : ℕ) × (a : Array) × Ends value_rules (code_of_program program notes) (array ∷ []) n (Done a) × (array_data a ≡ DataArray [] (more_data (DataInt (pos 7)) no_data)) × Bounds program n 1
ends_with_seven = does.reaches 1 (scalar_of (TInt (pos 7))) (subst (λ xs. Reaches program notes xs 1 (scalar_of (TInt (pos 7)))) (sym inputs_are) reaches_seven)
