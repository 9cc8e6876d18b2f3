use Rattle.std.proofs.Common.{◌≡◌, take}
use Rattle.core_syntax.specs.Annotate.{annotated_defs}
use Rattle.core_syntax.specs.Lists.{each}
use Rattle.core_syntax.specs.Programs.{def_of}
use Rattle.core_syntax.specs.RefineTerms.{term_of}
use Rattle.reduction_laws.specs.Readings.{notes_from}
use Rattle.typed_start.proofs.starting.annotated_defs.Given as goal

abbrev pub invariant-loop-def : goal.invariant-loop-def
invariant-loop-def l = annotated_defs (each def_of (take l.def-index l.defs)) (notes_from l.fn.at l.notes) ≡ (each term_of l.terms.items, notes_from l.at l.notes)
