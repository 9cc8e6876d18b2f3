-- Runs of a checked program on data that fits.
use Rattle.std.proofs.Common.{subst, List, length}
use Rattle.core_syntax.specs.Syntax.{Ty, Program}
use Rattle.core_syntax.specs.Lists.{each, Each}
use Rattle.core_syntax.specs.NormTypes.{norm_ty}
use Rattle.core_syntax.specs.Literals.{LiteralsFit}
use Rattle.core_syntax.specs.Made.{terms_more, behind_defs}
use Rattle.core_syntax.specs.Typing.{Typed}
use Rattle.core_syntax.specs.Notes.{NodeNote}
use Rattle.core_syntax.specs.Typed.{typed_rules}
use Rattle.core_syntax.specs.TermTyping.{DefTermsTyped}
use Rattle.core_syntax.specs.Data.{Data, FitsValues}
use Rattle.core_syntax.specs.Annotate.{annotated_defs}
use Rattle.core_syntax.specs.Held.{IsHeld}
use Rattle.core_syntax.specs.Start.{def_terms, body_term, start_term}
use Rattle.reduction_laws.specs.Laws.{IsReady, def_types, StartsTyped, KeepsType, NeverStuck, ReachesData, HasOutcome, HasOneOutcome, EndsOnce, TrapsOnce}
use Rattle.reduction_laws.proofs.programs.Accepted.{accepted_typed}
use Rattle.reduction_laws.proofs.programs.Checked.{defs_typed, body_typed, inputs_typed, result_printable}
use Rattle.reduction_laws.proofs.held.Runs.{held_after}
use Rattle.reduction_laws.proofs.held.Start.{annotated_held, definitions_held, start_held}
use Rattle.reduction_laws.proofs.runs.Once.{one_value, one_trap}
use Rattle.reduction_laws.proofs.programs.Printed.{start_has, rests_data}
use Rattle.reduction_laws.proofs.runs.TypedRuns.{defs_closed, never_lost, rests_array, after_has, outcome, value_or_trap, value_or_goes, trap_or_goes}

-- the program is typed
is_typed : (P : Program) (result : Ty) (notes : List NodeNote) (xs : List Data) → IsReady P result notes xs → Typed P
is_typed P result notes xs r = accepted_typed P r.made r.checked.accepted

-- the terms of the definitions have the definitions' types
pub defs_ready : (P : Program) (result : Ty) (notes : List NodeNote) (xs : List Data) → IsReady P result notes xs → DefTermsTyped (def_types P) (def_terms P notes)
defs_ready P result notes xs r = defs_typed P result r.inputs notes r.made (is_typed P result notes xs r) r.checked

pub starts_typed : StartsTyped
starts_typed P result notes xs r =
    start_has (def_types P) (defs_closed (def_types P) (def_terms P notes) (defs_ready P result notes xs r)) (each norm_ty P.inputs) xs (body_term P notes) result
    (inputs_typed P result r.inputs notes r.made (is_typed P result notes xs r) r.checked) (subst (λ ts. FitsValues ts xs) r.checked.inputs_are r.fits) (body_typed P result r.inputs notes r.made (is_typed P result notes xs r) r.checked)

pub keeps_type : KeepsType
keeps_type P result notes xs r k u e =
    after_has (def_types P) (def_terms P notes) (defs_ready P result notes xs r) k (start_term P notes xs) u result (starts_typed P result notes xs r) e

pub never_stuck : NeverStuck
never_stuck P result notes xs r k u e = never_lost (def_types P) (def_terms P notes) (defs_ready P result notes xs r) u result (keeps_type P result notes xs r k u e)

-- the terms of the definitions are held
defs_kept : (P : Program) (result : Ty) (notes : List NodeNote) (xs : List Data) → IsReady P result notes xs → LiteralsFit P → Each IsHeld (def_terms P notes)
defs_kept P result notes xs r l = definitions_held 0 P.defs notes r.made.defs l.0

starts_held : (P : Program) (result : Ty) (notes : List NodeNote) (xs : List Data) → IsReady P result notes xs → LiteralsFit P → IsHeld (start_term P notes xs)
starts_held P result notes xs r l =
    start_held (each norm_ty P.inputs) xs (body_term P notes) (subst (λ ts. FitsValues ts xs) r.checked.inputs_are r.fits)
    (annotated_held (terms_more (length P.inputs) (behind_defs (length P.defs))) P.body (annotated_defs P.defs notes).1 r.made.body l.1)

pub reaches_data : ReachesData
reaches_data P result notes xs r l k v h =
    let d = defs_ready P result notes xs r in
    rests_data (def_types P) (def_terms P notes) (defs_closed (def_types P) (def_terms P notes) d) (rests_array (def_types P) (def_terms P notes) d) v result
    (keeps_type P result notes xs r k v h.0)
    (held_after (def_types P) (def_terms P notes) d (defs_kept P result notes xs r l) k (start_term P notes xs) v result (starts_typed P result notes xs r) (starts_held P result notes xs r l) h.0)
    (result_printable P result r.inputs notes r.made (is_typed P result notes xs r) r.checked) h.1

pub has_outcome : HasOutcome
has_outcome P result notes xs r k = outcome (def_types P) (def_terms P notes) (defs_ready P result notes xs r) k (start_term P notes xs) result (starts_typed P result notes xs r)

pub has_one_outcome : HasOneOutcome
has_one_outcome P result notes xs r k =
    let d = defs_ready P result notes xs r in (
      value_or_trap (def_types P) (def_terms P notes) d k (start_term P notes xs),
      value_or_goes (def_types P) (def_terms P notes) d k (start_term P notes xs),
      trap_or_goes (def_types P) (def_terms P notes) d k (start_term P notes xs),
    )

pub ends_once : EndsOnce
ends_once P notes xs j k v w h i = one_value typed_rules (def_terms P notes) j k (start_term P notes xs) v w h i

pub traps_once : TrapsOnce
traps_once P notes xs j k a b h i = one_trap typed_rules (def_terms P notes) j k (start_term P notes xs) a b h i
