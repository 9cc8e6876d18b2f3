use Rattle.std.proofs.Common.{[]}
use Rattle.core_syntax.specs.Lists.{each}
use Rattle.core_syntax.specs.Refine.{index_of, ty_of}
use Rattle.core_syntax.specs.RefineTerms.{term_of}
use Rattle.core_syntax.specs.Rules.{dims_of, lifted, all_lifted}
use Rattle.core_syntax.specs.Typed.{typed_rules}
use Rattle.typed_step.specs.Frames.{fronts, backs}
use Rattle.typed_step.proofs.LiftTrees.{application_of}
use Rattle.typed_step.proofs.lifting.lift.Goals as goal

pub returns : goal.returns
returns c =
    let f = term_of c.args.application.function.now in
    let args = c.args.application.args.now in
    let ds = each (λ a. dims_of typed_rules (term_of a)) args in
    let ts = all_lifted typed_rules c.args.frame.now (fronts c.args.ranks.now ds) (backs c.args.ranks.now ds) (each term_of args) in
    application_of c.applied.result (term_of c.in_ok-function.function) (lifted typed_rules c.args.frame.now (dims_of typed_rules f) [] f) (each term_of c.in_ok-args.args.items) ts (each index_of c.args.application.cells.now)
    (ty_of c.args.application.answer.now) c.in_ok-function.ensures c.in_ok-args.ensures c.applied.ensures
