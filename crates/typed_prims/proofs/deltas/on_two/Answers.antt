use Rattle.std.proofs.Common.{◌∙◌, sym, rules, FitsSigned, w64, [], ◌∷◌}
use Rattle.std.proofs.lemmas.Int.{to_z-of_z}
use Rattle.core_syntax.specs.Answer.{AnInt}
use Rattle.typed_prims.specs.Answers.{answer_on_looks, look_of}
use Rattle.typed_prims.proofs.deltas.on_two.Goals as goal

pub returns-in-Int-Int : goal.returns-in-Int-Int
returns-in-Int-Int c = λ r.
    let x = c.in-Int-Int.x in
    let y = c.in-Int-Int.y in
    let fx : FitsSigned w64 x = search rules in
    let fy : FitsSigned w64 y = search rules in
    c.on_ints.ensures r
    ∙ (λ i. answer_on_looks r c.args.primitive (AnInt (to_z-of_z w64 x fx i) ∷ AnInt (to_z-of_z w64 y fy i) ∷ []))
    ∙ (λ i. answer_on_looks r c.args.primitive (look_of (sym c.in-Int-Int.is-0 i) ∷ look_of (sym c.in-Int-Int.is-1 i) ∷ []))
