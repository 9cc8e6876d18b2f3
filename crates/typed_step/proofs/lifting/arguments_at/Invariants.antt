use Rattle.std.proofs.Common.{◌≡◌, take}
use Rattle.core_syntax.specs.Lists.{each}
use Rattle.core_syntax.specs.RefineTerms.{term_of}
use Rattle.typed_step.specs.Frames.{one_at}
use Rattle.typed_step.proofs.Pairs.{pairs}
use Rattle.typed_step.proofs.lifting.arguments_at.Given as goal

abbrev pub invariant-loop-i : goal.invariant-loop-i
invariant-loop-i l = each term_of l.cells.items ≡ take l.i (pairs (λ k t. one_at l.place k (term_of t)) l.ranks l.args)
