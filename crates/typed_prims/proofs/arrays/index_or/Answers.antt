use Rattle.std.proofs.Common.{◌≡◌, ap, subst, rules, FitsSigned, w64, IfOk}
use Rattle.std.proofs.lemmas.Int.{to_z-of_z}
use Rattle.typed_prims.specs.Answers.{look_of}
use Rattle.typed_prims.specs.ArrayAnswers.{answer_is}
use Rattle.typed_prims.proofs.ArrayRows.{index_or_int}
use Rattle.typed_prims.proofs.arrays.index_or.Goals as goal

pub returns-in-Int : goal.returns-in-Int
returns-in-Int c = λ r.
    let z = c.in-Int.place in
    let fits : FitsSigned w64 z = search rules in
    subst (λ m. IfOk c.cell_or.result (λ x. answer_is x ≡ m))
    (index_or_int r c.args.a.now c.args.place.now c.args.other.now c.dims.result.now c.atoms.result.now (look_of c.seen.result) z _ c.dims.ensures c.atoms.ensures c.in-len1-up.len_at_least c.seen.ensures (ap look_of c.in-Int.is)
    (to_z-of_z w64 z fits)) (c.cell_or.ensures r)
