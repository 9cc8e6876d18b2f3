use Rattle.std.proofs.Common.{[], sym}
use Rattle.core_syntax.specs.Refine.{ty_of}
use Rattle.core_syntax.proofs.TyRows.{at_ty_form}
use Rattle.type_check.proofs.whole_programs.ProgramParts.{unprintable_input, input_type_refused}
use Rattle.type_check.proofs.program.printable_type.Goals as goal

pub returns-in-Ok-printable : goal.returns-in-Ok-printable
returns-in-Ok-printable c = (((c.in-Ok.ensures []).0, c.in-Ok-printable.ensures), (c.in-Ok.ensures []).1)

pub returns-in-Err-printable : goal.returns-in-Err-printable
returns-in-Err-printable c =
    unprintable_input (ty_of c.args.ty.now) c.in-Ok.normal c.in-Ok.ensures c.args.ty.now.at (sym (at_ty_form c.args.ty.now.at c.args.ty.now.form)) c.in-Err-printable.refusal c.in-Err-printable.ensures

pub returns-in-Err : goal.returns-in-Err
returns-in-Err c = input_type_refused (ty_of c.args.ty.now) c.in-Err.refusal c.in-Err.ensures
