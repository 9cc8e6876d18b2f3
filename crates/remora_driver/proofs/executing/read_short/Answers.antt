use Rattle.std.proofs.Common.{refl, sym, subst, Err}
use Rattle.code_text.specs.Blame.{IsDue}
use Rattle.remora_driver.specs.declared.errors.SourceRefusal.{SourceRefusal}
use Rattle.remora_driver.specs.Sources.{ReadsCode, blamed}
use Rattle.remora_driver.proofs.executing.read_short.Goals as goal

pub refused-requires-clause-blame : goal.refused-requires-clause-blame
refused-requires-clause-blame c = subst (IsDue c.args.text.now) c.in-Err-Refused.field-0-is c.in-Err-Refused.ensures.refused

pub returns-in-Ok : goal.returns-in-Ok
returns-in-Ok c = (c.requires, c.in-Ok.ensures.found)

pub returns-in-Err-Refused : goal.returns-in-Err-Refused
returns-in-Err-Refused c =
    subst (λ (e : SourceRefusal). ReadsCode c.args.text.now (Err e)) (sym c.refused.ensures)
    (blamed c.in-Err-Refused.kind c.in-Err-Refused.at c.requires (subst (IsDue c.args.text.now) c.in-Err-Refused.field-0-is c.in-Err-Refused.ensures.refused) refl refl)
