use Rattle.std.proofs.Common.{ℕ, sym, ap, arith}
use Rattle.core_syntax.specs.Subst.{in_place}
use Rattle.type_equal.proofs.FateLemmas.{item_bound, item_kept, item_put}
use Rattle.type_equal.proofs.counting.size_at.Goals as goal

abbrev one : ℕ → ℕ
one k = 1

pub returns-then-var-under : goal.returns-then-var-under
returns-then-var-under c = sym (ap (in_place one) (item_bound c.args.sizes.now c.args.under c.args.var c.if-var-under.true))

pub returns-then-place-sizes : goal.returns-then-place-sizes
returns-then-place-sizes c = sym (ap (in_place one) (item_kept c.args.sizes.now c.args.under c.args.var (omega arith) (omega arith)))

pub returns : goal.returns
returns c = sym (ap (in_place one) (item_put c.args.sizes.now c.args.under c.args.var 0 (omega arith) (omega arith)))
