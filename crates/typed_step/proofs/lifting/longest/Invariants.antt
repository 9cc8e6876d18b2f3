use Rattle.std.proofs.Common.{◌∷◌, take}
use Rattle.core_syntax.specs.RefineTerms.{term_of}
use Rattle.core_syntax.specs.Rules.{dims_of}
use Rattle.core_syntax.specs.Typed.{typed_rules}
use Rattle.typed_step.specs.Frames.{IsLongest}
use Rattle.typed_step.proofs.FrontLists.{fronts_of}
use Rattle.typed_step.proofs.lifting.longest.Given as goal

abbrev pub invariant-loop-place : goal.invariant-loop-place
invariant-loop-place l = IsLongest l.longest (dims_of typed_rules (term_of l.function) ∷ take l.place (fronts_of l.ranks l.args))
