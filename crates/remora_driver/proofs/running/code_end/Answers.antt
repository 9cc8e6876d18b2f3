use Rattle.remora_driver.proofs.Dues.{answered}
use Rattle.remora_driver.proofs.running.code_end.Goals as goal

pub returns : goal.returns
returns c =
    let m = c.in_ok-machine.machine in
    answered c.end.result c.args.code.now m.code c.args.inputs.now m.inputs c.args.budget m.steps c.in_ok-machine.ensures.code c.in_ok-machine.ensures.inputs c.in_ok-machine.ensures.steps c.end.ensures
