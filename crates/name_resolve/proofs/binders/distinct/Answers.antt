use Rattle.std.proofs.Common.{sym, ap, subst, ◌∙◌, ◌+◌, arith}
use Rattle.std.specs.Option.{is_some}
use Rattle.name_resolve.proofs.BinderLemmas.{TestedTo, tested_none, tested_one, tested_repeat, tested_all, not_some}
use Rattle.name_resolve.proofs.Refusals.{is_refused}
use Rattle.name_resolve.proofs.binders.distinct.Goals as goal

pub loop-binder-init : goal.loop-binder-init
loop-binder-init c = subst (λ xs. TestedTo c.args.binders.now xs 0) (sym c.new-before.ensures) (tested_none c.args.binders.now)

pub returns-then-is_some : goal.returns-then-is_some
returns-then-is_some c = is_refused _ 9 _ _ c.repeated.ensures (tested_repeat c.args.binders.now c.loop-binder.before c.loop-binder.binder-index _ c.loop-binder-test.true c.loop-binder.invariant (ap is_some (sym c.find.ensures) ∙ sym c.is_some.ensures ∙ c.if-is_some.true))

pub enter-requires : goal.enter-requires
enter-requires c = omega (arith, c.loop-binder.invariant.count)

pub loop-binder-preserved : goal.loop-binder-preserved
loop-binder-preserved c =
    subst (λ xs. TestedTo c.args.binders.now xs (c.loop-binder.binder-index + 1)) (sym c.in_ok-enter.ensures.entered)
    (tested_one c.args.binders.now c.loop-binder.before c.loop-binder.binder-index _ c.loop-binder-test.true c.loop-binder.invariant (sym c.find.ensures ∙ not_some c.find.result (sym c.is_some.ensures ∙ c.if-is_some.false)))

pub returns : goal.returns
returns c = tested_all c.args.binders.now c.loop-binder.before c.loop-binder.binder-index c.loop-binder-test.false c.loop-binder.invariant
