use Rattle.std.proofs.Common.{sym, ap, ◌∙◌}
use Rattle.core_syntax.specs.Lists.{onto}
use Rattle.core_syntax.specs.Sorts.{is_sort}
use Rattle.kind_check.proofs.BlameLemmas.{other_found}
use Rattle.kind_check.proofs.sorts.first_other.Goals as goal

pub returns-then-not-has_sort : goal.returns-then-not-has_sort
returns-then-not-has_sort c =
    other_found (onto c.args.scope.now c.args.around.now) c.args.want c.args.parts.now c.loop-part.part-index c.part-item.result c.loop-part-test.true c.part-item.is
    (sym (ap (is_sort c.args.want) c.own_sort.ensures) ∙ sym c.has_sort.ensures ∙ c.if-not-has_sort.true) ∙ sym c.loop-part.invariant
