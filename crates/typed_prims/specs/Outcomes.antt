-- What a rule gives, as a move.
use Rattle.core_syntax.specs.Move.{Move, Rests, Trapped, Goes, Lost}
use Rattle.core_syntax.specs.Typed.{TypedTerm}
use Rattle.core_syntax.specs.RefineTerms.{term_of}
use Rattle.typed_prims.specs.declared.outcome.Outcome.{Outcome}
use Rattle.typed_prims.specs.declared.outcome.Outcome.TheVariants as outcome

-- what a rule gives, as a move
abbrev pub move_of : Outcome → Move TypedTerm
move_of outcome.Rests = Rests
move_of (outcome.Trap k) = Trapped k
move_of (outcome.Goes t) = Goes (term_of t)
move_of outcome.Lost = Lost
