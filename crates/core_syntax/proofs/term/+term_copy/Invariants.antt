use Rattle.std.proofs.Common.{◌≡◌, take}
use Rattle.core_syntax.proofs.term.+term_copy.Given as goal

abbrev pub invariant-copy_terms-loop-term : goal.invariant-copy_terms-loop-term
invariant-copy_terms-loop-term l = l.copies.items ≡ take l.term-index l.terms

abbrev pub invariant-copy_atoms-loop-atom : goal.invariant-copy_atoms-loop-atom
invariant-copy_atoms-loop-atom l = l.copies.items ≡ take l.atom-index l.atoms
