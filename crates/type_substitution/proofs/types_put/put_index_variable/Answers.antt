use Rattle.std.proofs.Common.{◌≡◌, sym, ap, subst, IfOk, arith}
use Rattle.core_syntax.specs.Syntax.{Var}
use Rattle.core_syntax.specs.Refine.{index_of}
use Rattle.core_syntax.specs.Subst.{in_place}
use Rattle.type_substitution.proofs.Fates.{index_bound, index_kept, index_put_at}
use Rattle.type_substitution.proofs.types_put.put_index_variable.Goals as goal

pub returns-then-var-under : goal.returns-then-var-under
returns-then-var-under c = sym (ap (in_place (Var c.args.at)) (index_bound c.args.with.now c.args.under c.args.var c.if-var-under.true))

pub returns-then-place-with : goal.returns-then-place-with
returns-then-place-with c = sym (ap (in_place (Var c.args.at)) (index_kept c.args.with.now c.args.under c.args.var (omega arith) (omega arith)))

pub returns : goal.returns
returns c =
    subst (λ i. IfOk c.index_inside.result (λ r. index_of r ≡ i))
    (sym (ap (in_place (Var c.args.at)) (index_put_at c.args.with.now c.args.under c.args.var c.index-with-with.result (omega arith) (omega arith) c.index-with-with.is)))
    c.index_inside.ensures
