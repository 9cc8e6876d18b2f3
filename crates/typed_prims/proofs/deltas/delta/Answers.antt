use Rattle.std.proofs.Common.{◌≡◌, ◌∙◌, sym, subst, ◌&&◌, IfOk, option_map}
use Rattle.core_syntax.specs.Lists.{each}
use Rattle.core_syntax.specs.Refine.{index_of, ty_of}
use Rattle.core_syntax.specs.Rules.{agrees, has_types, has_indices}
use Rattle.typed_prims.specs.Outcomes.{move_of}
use Rattle.typed_prims.proofs.ScalarAnswers.{complete_moves, some_map}
use Rattle.typed_prims.proofs.deltas.delta.Goals as goal

pub returns-then-is_complete : goal.returns-then-is_complete
returns-then-is_complete c =
    let q = c.args.primitive in
    let us = option_map (each ty_of) c.args.types.now in
    let is = option_map (each index_of) c.args.indices.now in
    subst (λ m. IfOk c.answer_of.result (λ o. move_of o ≡ m))
    (sym (complete_moves (ty_of c.args.answer.now) q us is c.args.args.now
    ((λ i. agrees (has_types q) (some_map (each ty_of) c.args.types.now i) && agrees (has_indices q) (some_map (each index_of) c.args.indices.now i)) ∙ sym c.is_complete.ensures ∙ c.if-is_complete.true))) c.answer_of.ensures
