use Rattle.core_syntax.specs.NormTypes.{measure_ty}
use Rattle.core_syntax.specs.Refine.{ty_of}
use Rattle.type_check.proofs.written.normal_at.Goals as goal

pub returns-in-Err : goal.returns-in-Err
returns-in-Err c = c.measured.ensures (measure_ty (ty_of c.args.t.now)) c.in-Err.ensures.refused
