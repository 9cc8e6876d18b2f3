use Rattle.std.proofs.Common.{◌≡◌, ◌+◌, sym, arith}
use Rattle.type_equal.specs.Moved.{up, moved_from}
use Rattle.type_equal.proofs.MoveLemmas.{past_bound, moved_free}
use Rattle.type_equal.proofs.moving.moved_variable.Goals as goal

pub overflow_add-result : goal.overflow_add-result
overflow_add-result c =
    let e : moved_from c.args.shift.by c.args.shift.from c.args.var ≡ c.args.shift.by + c.args.var = moved_free _ _ _ (omega arith) in
    omega (arith, e, c.requires)

pub returns-then-var-shift : goal.returns-then-var-shift
returns-then-var-shift c = sym (past_bound (up c.args.shift.by) _ _ c.if-var-shift.true)

pub returns-else-var-shift : goal.returns-else-var-shift
returns-else-var-shift c = sym (moved_free c.args.shift.by c.args.shift.from c.args.var (omega arith))
