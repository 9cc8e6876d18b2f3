use Rattle.std.proofs.Common.{rules, ◌≡◌, ◌∙◌, ap, ◌∷◌}
use Rattle.core_syntax.specs.Refine.{tys_of}
use Rattle.core_syntax.specs.Syntax.{App}
use Rattle.type_check.specs.Found.{Found}
use Rattle.type_check.specs.FoundParts.{FoundArgs}
use Rattle.type_check.proofs.exits.RuleLemmas.{ruled_two}
use Rattle.type_check.proofs.rules.application_rule.Goals as goal

pub returns-in-Ok-insert : goal.returns-in-Ok-insert
returns-in-Ok-insert c = λ before f es t mid g is count h.
    let e : c.as_slice.result.now ≡ c.in-Ok.own ∷ c.args.words.items = search rules in
    ruled_two before mid c.args.checker.now (App c.args.at f es) (λ Γ. Found Γ f t) (λ Γ. FoundArgs Γ (tys_of c.args.function.now.inputs.now) es c.args.words.items) g h c.application.result
    (λ Γ ns ms p q. c.application.ensures Γ f es t ns p is count c.args.words.items ms q (e ∙ ap (λ w. w ∷ c.args.words.items) c.in-Ok.ensures.word))
