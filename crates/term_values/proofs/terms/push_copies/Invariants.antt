use Rattle.std.proofs.Common.{◌≡◌, ◌++◌, take}
use Rattle.term_values.proofs.terms.push_copies.Given as goal

abbrev pub invariant-loop-atom : goal.invariant-loop-atom
invariant-loop-atom l = l.copies.items ≡ l.fn.copies.items ++ take l.atom-index l.atoms
