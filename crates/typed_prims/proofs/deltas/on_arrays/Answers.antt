use Rattle.std.proofs.Common.{◌≡◌, subst, IfOk, option_map}
use Rattle.core_syntax.specs.Lists.{each}
use Rattle.core_syntax.specs.Refine.{index_of, ty_of}
use Rattle.core_syntax.specs.Rules.{answered}
use Rattle.core_syntax.specs.Typed.{typed_rules}
use Rattle.typed_prims.specs.Outcomes.{move_of}
use Rattle.typed_prims.proofs.deltas.on_arrays.Goals as goal

pub returns-in-Ok : goal.returns-in-Ok
returns-in-Ok c = λ us.
    let r = ty_of c.args.answer.now in
    let is = option_map (each index_of) c.args.indices.now in
    subst (λ a. IfOk c.answer_term.result (λ o. move_of o ≡ answered typed_rules r us is a)) (c.in-Ok.ensures r) (c.answer_term.ensures us is)
