use Rattle.std.proofs.Common.{◌≡◌, subst, IfOk, option_map}
use Rattle.core_syntax.specs.Lists.{each}
use Rattle.core_syntax.specs.Refine.{index_of, ty_of}
use Rattle.core_syntax.specs.Rules.{answered, values_of}
use Rattle.core_syntax.specs.Typed.{closed_value, typed_rules}
use Rattle.typed_prims.specs.Outcomes.{move_of}
use Rattle.typed_prims.proofs.deltas.answer_of.Goals as goal

pub returns-in_default : goal.returns-in_default
returns-in_default c =
    let r = ty_of c.args.answer.now in
    let us = option_map (each ty_of) c.args.types.now in
    let is = option_map (each index_of) c.args.indices.now in
    subst (λ a. IfOk c.given_term.result (λ o. move_of o ≡ answered typed_rules r us is a)) (c.on_scalars.ensures r (values_of closed_value is)) (c.given_term.ensures r us is)
