use Rattle.std.proofs.Common.{◌≡◌, ◌∙◌, sym, true}
use Rattle.core_syntax.specs.Programs.{def_of}
use Rattle.core_syntax.specs.Refine.{ty_of}
use Rattle.core_syntax.proofs.TyRows.{at_ty_form}
use Rattle.type_check.proofs.trees.ExprParts.{at_expr}
use Rattle.type_check.proofs.whole_programs.ProgramParts.{valued, value_refused, no_value}
use Rattle.type_check.proofs.program.definition_value.Goals as goal

pub returns-then-not-is_value : goal.returns-then-not-is_value
returns-then-not-is_value c Γ l =
    no_value (def_of c.args.def.now) c.args.def.now.value.at (sym (at_expr c.args.def.now.value))
    (λ h. let e : c.is_value.result ≡ true = c.is_value.ensures ∙ h in let f = c.if-not-is_value.true in cc) Γ

pub returns-in-Ok : goal.returns-in-Ok
returns-in-Ok c =
    valued (def_of c.args.def.now) c.args.checker.now c.expression.new.checker (ty_of c.in-Ok.found)
    (let f = c.if-not-is_value.false in let e = c.is_value.ensures in cc)
    c.in-Ok.ensures c.args.def.now.ty.at (sym (at_ty_form c.args.def.now.ty.at c.args.def.now.ty.form)) c.has_written_type.result
    (c.has_written_type.ensures (ty_of c.args.def.now.ty) c.requires.written)

pub returns-in-Err : goal.returns-in-Err
returns-in-Err c =
    value_refused (def_of c.args.def.now) c.args.checker.now c.expression.new.checker c.in-Err.refusal
    (let f = c.if-not-is_value.false in let e = c.is_value.ensures in cc) c.in-Err.ensures
