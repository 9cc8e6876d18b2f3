use Rattle.std.proofs.Common.{◌∙◌, sym, ap, arith}
use Rattle.std.proofs.lemmas.Result.{IfOk-weaker}
use Rattle.core_syntax.specs.RefineTerms.{term_of}
use Rattle.core_syntax.specs.Subst.{in_place}
use Rattle.core_syntax.specs.Terms.{TVar}
use Rattle.type_substitution.proofs.Fates.{term_bound, term_kept, term_put_at}
use Rattle.substitution.proofs.putting.put_variable.Goals as goal

pub returns-then-var-under : goal.returns-then-var-under
returns-then-var-under c = sym (ap (in_place TVar) (term_bound c.args.terms.now c.args.under c.args.var c.if-var-under.true))

pub returns-then-place-terms : goal.returns-then-place-terms
returns-then-place-terms c = sym (ap (in_place TVar) (term_kept c.args.terms.now c.args.under c.args.var (omega arith) (omega arith)))

pub returns : goal.returns
returns c =
    let x = c.index-terms-terms.result in
    IfOk-weaker c.copy.result _ _
    (λ t e. ap term_of e ∙ sym (ap (in_place TVar) (term_put_at c.args.terms.now c.args.under c.args.var x (omega arith) (omega arith) c.index-terms-terms.is)))
    c.copy.ensures
