use Rattle.std.proofs.Common.{length}
use Rattle.core_syntax.specs.RefineTerms.{term_of}
use Rattle.core_syntax.specs.Rules.{atoms_of}
use Rattle.core_syntax.specs.Typed.{typed_rules}
use Rattle.typed_step.proofs.CellTrees.{Mapped}
use Rattle.typed_step.proofs.lifting.all_mapped.Given as goal

abbrev pub invariant-loop-place : goal.invariant-loop-place
invariant-loop-place l =
    Mapped l.cells.items (length l.yielded) l.count (atoms_of typed_rules (term_of l.application.function.now)) l.ranks l.application.args.now l.application.cells.now l.application.answer.now
