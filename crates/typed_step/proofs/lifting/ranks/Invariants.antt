use Rattle.typed_step.proofs.FrameRanks.{Ranked}
use Rattle.typed_step.proofs.lifting.ranks.Given as goal

abbrev pub invariant-loop-place : goal.invariant-loop-place
invariant-loop-place l = Ranked l.ranks.items l.cells l.args l.place
