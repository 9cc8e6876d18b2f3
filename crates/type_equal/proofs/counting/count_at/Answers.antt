use Rattle.std.proofs.Common.{sym, ap, false, arith}
use Rattle.core_syntax.specs.Subst.{in_place}
use Rattle.type_equal.specs.Counted.{kept_count}
use Rattle.type_equal.proofs.FateLemmas.{item_bound, item_kept, item_put}
use Rattle.type_equal.proofs.counting.count_at.Goals as goal

pub returns-then-var-under : goal.returns-then-var-under
returns-then-var-under c = sym (ap (in_place kept_count) (item_bound c.args.counts.now c.args.under c.args.var c.if-var-under.true))

pub returns-then-place-counts : goal.returns-then-place-counts
returns-then-place-counts c = sym (ap (in_place kept_count) (item_kept c.args.counts.now c.args.under c.args.var (omega arith) (omega arith)))

pub returns : goal.returns
returns c =
    sym (ap (in_place kept_count) (item_put c.args.counts.now c.args.under c.args.var (record { constant = 0; variables = 0; letters = 0; large = false }) (omega arith) (omega arith)))
