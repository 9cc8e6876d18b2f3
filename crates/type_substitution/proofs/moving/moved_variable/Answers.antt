use Rattle.std.proofs.Common.{◌≡◌, sym, subst, IfOk, arith}
use Rattle.type_substitution.specs.Putting.{up}
use Rattle.type_substitution.proofs.Fates.{past_bound, moved_free}
use Rattle.type_substitution.proofs.moving.moved_variable.Goals as goal

pub returns-then-var-shift : goal.returns-then-var-shift
returns-then-var-shift c = sym (past_bound (up c.args.shift.by) c.args.shift.from c.args.var c.if-var-shift.true)

pub returns : goal.returns
returns c = subst (λ n. IfOk c.more.result (λ k. k ≡ n)) (sym (moved_free c.args.shift.by c.args.shift.from c.args.var (omega arith))) c.more.ensures
