use Rattle.std.proofs.Common.{ap, refl}
use Rattle.machine.specs.Works.{arguments_of}
use Rattle.machine.proofs.Turns.{its_arguments}
use Rattle.machine.proofs.scalars.push_places.Goals as goal

pub push_scalars-requires-clause-arguments : goal.push_scalars-requires-clause-arguments
push_scalars-requires-clause-arguments c =
    its_arguments c.args.frame.now c.args.frame.now c.args.count c.args.work.now c.in-Apply.function c.as_slice-arguments.result.now c.in-Apply.arguments.items c.requires.fits (ap arguments_of c.in-Apply.is) refl c.as_slice-arguments.ensures.value
