use Rattle.reduction_laws.proofs.programs.LiteralRows.{array_literals, frame_literals, app_literals, type_app_literals, index_app_literals, unbox_literals, fn_literals, type_fn_literals, index_fn_literals, boxed_literals, exprs_more, atoms_more}
use Rattle.reduction_laws.proofs.literals.+literals.Goals as goal

pub read_atom-returns-in-Fn : goal.read_atom-returns-in-Fn
read_atom-returns-in-Fn t c = fn_literals c.args.atom.now c.get.result.now c.in-Fn.body c.get.ensures c.read_expr.ensures _ _ c.in-Fn.is

pub read_atom-returns-in-TypeFn : goal.read_atom-returns-in-TypeFn
read_atom-returns-in-TypeFn t c = type_fn_literals c.args.atom.now c.get-in-TypeFn.result.now c.in-TypeFn.body c.get-in-TypeFn.ensures c.read_expr-in-TypeFn.ensures _ c.in-TypeFn.is

pub read_atom-returns-in-IndexFn : goal.read_atom-returns-in-IndexFn
read_atom-returns-in-IndexFn t c = index_fn_literals c.args.atom.now c.get-in-IndexFn.result.now c.in-IndexFn.body c.get-in-IndexFn.ensures c.read_expr-in-IndexFn.ensures _ c.in-IndexFn.is

pub read_atom-returns-in-Boxed : goal.read_atom-returns-in-Boxed
read_atom-returns-in-Boxed t c = boxed_literals c.args.atom.now c.get-in-Boxed.result.now c.in-Boxed.content c.get-in-Boxed.ensures c.read_expr-in-Boxed.ensures _ _ c.in-Boxed.is

pub read_atoms-loop-atom-preserved : goal.read_atoms-loop-atom-preserved
read_atoms-loop-atom-preserved t c = atoms_more c.args.atoms.now c.loop-atom.atom-index c.atom-item.result c.loop-atom-test.true c.atom-item.is c.loop-atom.invariant c.read_atom.ensures

pub read_expr-returns-in-Array : goal.read_expr-returns-in-Array
read_expr-returns-in-Array t c =
    array_literals c.args.expr.now c.as_slice.result.now c.in-Array.dims c.as_slice-in-Array.result.now c.in-Array.atoms c.as_slice.ensures c.as_slice-in-Array.ensures c.in-Array.is c.read_dims.ensures c.read_atoms.ensures

pub read_expr-returns-in-Frame : goal.read_expr-returns-in-Frame
read_expr-returns-in-Frame t c = frame_literals c.args.expr.now _ c.as_slice-in-Frame.result.now c.in-Frame.cells c.as_slice-in-Frame.ensures c.in-Frame.is c.read_exprs.ensures

pub read_expr-returns-in-App : goal.read_expr-returns-in-App
read_expr-returns-in-App t c =
    app_literals c.args.expr.now c.get.result.now c.in-App.function c.as_slice-in-App.result.now c.in-App.args c.get.ensures c.as_slice-in-App.ensures c.in-App.is c.read_expr.ensures c.read_exprs-in-App.ensures

pub read_expr-returns-in-TypeApp : goal.read_expr-returns-in-TypeApp
read_expr-returns-in-TypeApp t c = type_app_literals c.args.expr.now c.get-in-TypeApp.result.now c.in-TypeApp.function _ c.get-in-TypeApp.ensures c.in-TypeApp.is c.read_expr-in-TypeApp.ensures

pub read_expr-returns-in-IndexApp : goal.read_expr-returns-in-IndexApp
read_expr-returns-in-IndexApp t c = index_app_literals c.args.expr.now c.get-in-IndexApp.result.now c.in-IndexApp.function _ c.get-in-IndexApp.ensures c.in-IndexApp.is c.read_expr-in-IndexApp.ensures

pub read_expr-returns-in-Unbox : goal.read_expr-returns-in-Unbox
read_expr-returns-in-Unbox t c =
    unbox_literals c.args.expr.now _ c.get-in-Unbox.result.now c.in-Unbox.boxed _ c.get-in-Unbox-2.result.now c.in-Unbox.body c.get-in-Unbox.ensures c.get-in-Unbox-2.ensures c.in-Unbox.is c.read_expr-in-Unbox.ensures c.read_expr-in-Unbox-2.ensures

pub read_exprs-loop-expr-preserved : goal.read_exprs-loop-expr-preserved
read_exprs-loop-expr-preserved t c = exprs_more c.args.exprs.now c.loop-expr.expr-index c.expr-item.result c.loop-expr-test.true c.expr-item.is c.loop-expr.invariant c.read_expr.ensures
