use Rattle.std.proofs.Common.{◌≡◌, subst, IfOk}
use Rattle.core_syntax.specs.Refine.{ty_of}
use Rattle.core_syntax.specs.Rules.{answered, values_of}
use Rattle.core_syntax.specs.Typed.{closed_value, typed_rules}
use Rattle.typed_prims.specs.Outcomes.{move_of}
use Rattle.typed_prims.proofs.deltas.on_boxes.Goals as goal

pub returns-in-Ok : goal.returns-in-Ok
returns-in-Ok c = λ us is.
    let r = ty_of c.args.answer.now in
    subst (λ a. IfOk c.answer_term.result (λ o. move_of o ≡ answered typed_rules r us is a)) (c.in-Ok.ensures (values_of closed_value is)) (c.answer_term.ensures us is)
