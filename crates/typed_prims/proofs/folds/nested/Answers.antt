use Rattle.std.proofs.Common.{arith, ◌≤◌, ◌<◌}
use Rattle.core_syntax.specs.Lists.{each}
use Rattle.core_syntax.specs.Refine.{index_of, ty_of}
use Rattle.core_syntax.specs.RefineTerms.{cell_of, term_of}
use Rattle.core_syntax.specs.Typed.{atom_type}
use Rattle.typed_prims.proofs.FoldTerms.{nested_more, nested_end}
use Rattle.typed_prims.proofs.folds.nested.Goals as goal

pub loop-place-preserved : goal.loop-place-preserved
loop-place-preserved c =
    let f = c.args.fold in
    let cells = c.args.cells in
    let k = c.loop-place.place in
    nested_more (cell_of f.function.now) (each index_of f.shapes.now) (ty_of f.answer.now) (atom_type (ty_of f.item.now)) cells.count k cells.dims.now (each cell_of cells.atoms.now) (term_of c.loop-place.acc) _ _ (omega (arith, c.loop-place-test.true)) c.loop-place.invariant c.in_ok-acc.ensures

pub returns : goal.returns
returns c =
    let f = c.args.fold in
    let cells = c.args.cells in
    let k = c.loop-place.place in
    nested_end (cell_of f.function.now) (each index_of f.shapes.now) (ty_of f.answer.now) (atom_type (ty_of f.item.now)) cells.count k cells.dims.now (each cell_of cells.atoms.now) (term_of c.loop-place.acc) _ (omega (arith, c.loop-place-test.false)) c.loop-place.invariant
