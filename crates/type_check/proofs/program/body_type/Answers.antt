use Rattle.std.proofs.Common.{sym, subst}
use Rattle.core_syntax.specs.Refine.{ty_of, expr_of}
use Rattle.type_check.specs.Answers.{Finding}
use Rattle.type_check.specs.Found.{Found}
use Rattle.type_check.proofs.trees.ExprParts.{at_expr}
use Rattle.type_check.proofs.whole_programs.ProgramParts.{unprintable_body}
use Rattle.type_check.proofs.program.body_type.Goals as goal

pub returns-in-Err-printable : goal.returns-in-Err-printable
returns-in-Err-printable c =
    unprintable_body (expr_of c.args.body.now) c.args.checker.now c.expression.new.checker (ty_of c.ty.result.now)
    (subst (λ t. Finding (λ Γ. Found Γ (expr_of c.args.body.now) (ty_of t)) c.args.checker.now c.expression.new.checker) (sym c.ty.ensures.tree) c.in-Ok.ensures) c.args.body.now.at (sym (at_expr c.args.body.now)) c.in-Err-printable.refusal c.in-Err-printable.ensures
