use Rattle.machine.proofs.Principal as frames
use Rattle.machine.proofs.laws.cell_at_place.Goals as goal

pub returns : goal.returns
returns c = λ f rest cell a j full lt. frames.cell_at_place f rest cell a j full lt
