use Rattle.std.proofs.Common.{sym, ◌∙◌, arith}
use Rattle.core_syntax.specs.declared.index.Sort.TheVariants as sort
use Rattle.kind_check.proofs.ContextLemmas.{near, far}
use Rattle.kind_check.proofs.sorts.sort_at.Goals as goal

pub returns-then-place-scope : goal.returns-then-place-scope
returns-then-place-scope c =
    sym (near c.args.scope.now c.args.around.now c.args.var sort.Dim c.if-place-scope.true)

pub returns-else-place-scope : goal.returns-else-place-scope
returns-else-place-scope c =
    c.item.ensures ∙ sym (far c.args.scope.now c.args.around.now c.args.var (omega (arith, c.if-place-scope.false)))
