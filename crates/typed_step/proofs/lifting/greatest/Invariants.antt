use Rattle.std.proofs.Common.{◌≡◌, ◌∷◌, drop}
use Rattle.core_syntax.specs.Arrays.{all_prefixes}
use Rattle.core_syntax.specs.RefineTerms.{term_of}
use Rattle.core_syntax.specs.Rules.{dims_of}
use Rattle.core_syntax.specs.Typed.{typed_rules}
use Rattle.typed_step.proofs.FrontLists.{fronts_of}
use Rattle.typed_step.proofs.lifting.greatest.Given as goal

abbrev pub invariant-loop-place : goal.invariant-loop-place
invariant-loop-place l = all_prefixes (dims_of typed_rules (term_of l.function) ∷ fronts_of l.ranks l.args) l.frame ≡ all_prefixes (drop l.place (fronts_of l.ranks l.args)) l.frame
