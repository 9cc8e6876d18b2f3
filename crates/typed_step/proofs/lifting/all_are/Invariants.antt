use Rattle.std.proofs.Common.{◌≡◌, ◌∷◌, drop}
use Rattle.core_syntax.specs.Arrays.{all_frames_are}
use Rattle.core_syntax.specs.RefineTerms.{term_of}
use Rattle.core_syntax.specs.Rules.{dims_of}
use Rattle.core_syntax.specs.Typed.{typed_rules}
use Rattle.typed_step.proofs.FrontLists.{fronts_of}
use Rattle.typed_step.proofs.lifting.all_are.Given as goal

abbrev pub invariant-loop-place : goal.invariant-loop-place
invariant-loop-place l = all_frames_are l.frame (dims_of typed_rules (term_of l.function) ∷ fronts_of l.ranks l.args) ≡ all_frames_are l.frame (drop l.place (fronts_of l.ranks l.args))
