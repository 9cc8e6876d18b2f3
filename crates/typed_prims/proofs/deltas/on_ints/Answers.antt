use Rattle.std.proofs.Common.{◌∙◌, w64}
use Rattle.std.proofs.lemmas.Int.{to_z-of_z}
use Rattle.core_syntax.specs.Delta.{quotient, remainder}
use Rattle.core_syntax.specs.Rules.{atom_rules}
use Rattle.core_syntax.specs.Typed.{typed_rules}
use Rattle.typed_prims.proofs.ScalarAnswers.{of_div, of_mod}
use Rattle.typed_prims.proofs.deltas.on_ints.Goals as goal

pub returns-in-Div : goal.returns-in-Div
returns-in-Div c = λ r.
    of_div r c.args.primitive c.args.x c.args.y _ c.in-Div.is
    (c.quotient.ensures r ∙ (λ i. quotient (atom_rules typed_rules r) (to_z-of_z w64 c.args.x c.ranges.x i) (to_z-of_z w64 c.args.y c.ranges.y i)))

pub returns-in-Mod : goal.returns-in-Mod
returns-in-Mod c = λ r.
    of_mod r c.args.primitive c.args.x c.args.y _ c.in-Mod.is
    (c.remainder.ensures r ∙ (λ i. remainder (atom_rules typed_rules r) (to_z-of_z w64 c.args.x c.ranges.x i) (to_z-of_z w64 c.args.y c.ranges.y i)))
