use Rattle.std.proofs.Common.{◌≡◌, ◌∙◌, ap, subst, IfOk}
use Rattle.core_syntax.specs.Lists.{each}
use Rattle.core_syntax.specs.Refine.{index_of, ty_of}
use Rattle.core_syntax.specs.RefineTerms.{cell_of, term_of}
use Rattle.core_syntax.specs.Rules.{array_term_of}
use Rattle.core_syntax.specs.Typed.{atom_type, typed_rules}
use Rattle.typed_prims.specs.Answers.{array_of}
use Rattle.typed_prims.specs.Outcomes.{move_of}
use Rattle.typed_prims.proofs.FoldTerms.{fold_gives}
use Rattle.typed_prims.proofs.folds.fold_with.Goals as goal

pub returns-in-Ok : goal.returns-in-Ok
returns-in-Ok c =
    let a = ty_of c.in_ok-answer.answer in
    subst (λ m. IfOk c.goes.result (λ o. move_of o ≡ m))
    (fold_gives (cell_of c.args.function.now) (each ty_of c.args.types.now) (index_of c.args.shape.now) (index_of c.args.accumulated.now) c.args.cells.count c.args.cells.dims.now (each cell_of c.args.cells.atoms.now)
    (array_of c.args.first.now) a (ty_of c.in_ok-item.item) (each index_of c.as_slice.result.now) (term_of c.in-Ok.first) c.in_ok-answer.ensures c.in_ok-item.ensures
    (ap (each index_of) (c.as_slice.ensures ∙ c.in_ok-shapes.ensures)) (c.in-Ok.ensures ∙ (λ i. array_term_of typed_rules (atom_type a) (c.dims-dims.ensures i) (c.atoms.ensures i))))
    (c.goes.ensures _ c.nested.ensures)
