use Rattle.std.proofs.Common.{◌≡◌, ◌++◌, take}
use Rattle.term_values.proofs.terms.joined.Given as goal

abbrev pub invariant-loop-dim : goal.invariant-loop-dim
invariant-loop-dim l = l.dims.items ≡ l.front ++ take l.dim-index l.back
