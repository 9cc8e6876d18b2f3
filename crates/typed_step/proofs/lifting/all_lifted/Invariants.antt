use Rattle.std.proofs.Common.{◌≡◌, take}
use Rattle.core_syntax.specs.Lists.{each}
use Rattle.core_syntax.specs.RefineTerms.{term_of}
use Rattle.typed_step.proofs.Pairs.{pairs, lifted_at}
use Rattle.typed_step.proofs.lifting.all_lifted.Given as goal

abbrev pub invariant-loop-place : goal.invariant-loop-place
invariant-loop-place l = each term_of l.all.items ≡ take l.place (pairs (lifted_at l.frame) l.ranks l.args)
