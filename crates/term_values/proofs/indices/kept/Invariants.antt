use Rattle.term_values.proofs.Kepts.{Keeping}
use Rattle.term_values.proofs.indices.kept.Given as goal

abbrev pub invariant-loop-index : goal.invariant-loop-index
invariant-loop-index l = Keeping l.values.items l.indices l.index-index
