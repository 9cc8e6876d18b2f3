use Rattle.std.proofs.Common.{◌≡◌, take}
use Rattle.term_values.proofs.terms.copied_indices.Given as goal

abbrev pub invariant-loop-index : goal.invariant-loop-index
invariant-loop-index l = l.copies.items ≡ take l.index-index l.indices
