use Rattle.core_syntax.proofs.OneBlame.{accepted_alone}
use Rattle.type_check.proofs.whole_programs.Accepted.{accepted_typed}
use Rattle.type_check.proofs.laws.accepted_is_typed.Goals as goal

pub returns : goal.returns
returns c = record { typed = accepted_typed; unrefused = accepted_alone }
