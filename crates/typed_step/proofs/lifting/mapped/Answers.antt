use Rattle.core_syntax.specs.Lists.{each}
use Rattle.core_syntax.specs.RefineTerms.{term_of, cell_of}
use Rattle.core_syntax.specs.Terms.{scalar_of}
use Rattle.typed_step.specs.Frames.{cells_at}
use Rattle.typed_step.proofs.CellTrees.{app_is}
use Rattle.typed_step.proofs.lifting.mapped.Goals as goal

pub returns-in-Ok : goal.returns-in-Ok
returns-in-Ok c =
    app_is (term_of c.application.result) (scalar_of (cell_of c.args.function.now)) c.in-Ok.args.items (cells_at c.args.place c.args.ranks.now (each term_of c.args.application.args.now))
    c.in_ok-cells.cells c.args.application.cells.now c.in_ok-answer.answer c.args.application.answer.now (term_of c.in_ok-function.function)
    c.application.ensures c.in_ok-function.ensures c.in-Ok.ensures c.in_ok-cells.ensures c.in_ok-answer.ensures
