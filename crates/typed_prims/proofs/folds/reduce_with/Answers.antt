use Rattle.std.proofs.Common.{◌≡◌, ◌∙◌, ◌<◌, ap, subst, arith, IfOk}
use Rattle.core_syntax.specs.Lists.{each}
use Rattle.core_syntax.specs.Refine.{index_of, ty_of}
use Rattle.core_syntax.specs.RefineTerms.{cell_of, term_of}
use Rattle.typed_prims.specs.Outcomes.{move_of}
use Rattle.typed_prims.proofs.FoldTerms.{reduce_gives}
use Rattle.typed_prims.proofs.folds.reduce_with.Goals as goal

pub returns-in-Ok : goal.returns-in-Ok
returns-in-Ok c =
    let some : 0 < c.args.cells.count = grind arith in
    subst (λ m. IfOk c.goes.result (λ o. move_of o ≡ m))
    (reduce_gives (cell_of c.args.function.now) (each ty_of c.args.types.now) (index_of c.args.shape.now) c.args.cells.count c.args.cells.dims.now (each cell_of c.args.cells.atoms.now) (ty_of c.in_ok-answer.answer)
    (each index_of c.as_slice.result.now) (term_of c.in-Ok.first) some c.in_ok-answer.ensures (ap (each index_of) (c.as_slice.ensures ∙ c.in_ok-shapes.ensures)) c.in-Ok.ensures)
    (c.goes.ensures _ c.nested.ensures)
