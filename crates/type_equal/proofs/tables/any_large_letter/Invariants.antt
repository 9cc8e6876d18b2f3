use Rattle.std.proofs.Common.{◌≡◌, drop}
use Rattle.core_syntax.specs.Norm.{has_large}
use Rattle.type_equal.proofs.tables.any_large_letter.Given as goal

abbrev pub invariant-loop-letter : goal.invariant-loop-letter
invariant-loop-letter l = has_large l.letters ≡ has_large (drop l.letter-index l.letters)
