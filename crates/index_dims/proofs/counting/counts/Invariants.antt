use Rattle.std.proofs.Common.{◌≡◌, [], take}
use Rattle.index_dims.specs.Counting.{count_all}
use Rattle.index_dims.proofs.counting.counts.Given as goal

abbrev pub invariant-loop-var : goal.invariant-loop-var
invariant-loop-var l = l.coefs.items ≡ count_all (take l.var-index l.variables) []
