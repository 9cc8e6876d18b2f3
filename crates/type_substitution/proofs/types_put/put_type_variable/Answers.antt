use Rattle.std.proofs.Common.{◌≡◌, sym, ap, subst, IfOk, arith}
use Rattle.core_syntax.specs.Syntax.{TyVar}
use Rattle.core_syntax.specs.Refine.{ty_of}
use Rattle.core_syntax.specs.Subst.{in_place}
use Rattle.type_substitution.proofs.Fates.{type_bound, type_kept, type_put_at}
use Rattle.type_substitution.proofs.types_put.put_type_variable.Goals as goal

pub returns-then-var-under : goal.returns-then-var-under
returns-then-var-under c = sym (ap (in_place (TyVar c.args.at)) (type_bound c.args.with.now c.args.under.types c.args.under.indices c.args.var c.if-var-under.true))

pub returns-then-place-with : goal.returns-then-place-with
returns-then-place-with c = sym (ap (in_place (TyVar c.args.at)) (type_kept c.args.with.now c.args.under.types c.args.under.indices c.args.var (omega arith) (omega arith)))

pub returns : goal.returns
returns c =
    subst (λ u. IfOk c.type_inside.result (λ r. ty_of r ≡ u))
    (sym (ap (in_place (TyVar c.args.at)) (type_put_at c.args.with.now c.args.under.types c.args.under.indices c.args.var c.index-with-with.result (omega arith) (omega arith) c.index-with-with.is)))
    c.type_inside.ensures
