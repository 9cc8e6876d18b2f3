use Rattle.std.proofs.Common.{◌≡◌, subst, w64, IfOk}
use Rattle.std.proofs.lemmas.Int.{to_z-of_z}
use Rattle.typed_prims.specs.Answers.{array_of}
use Rattle.typed_prims.specs.ArrayAnswers.{answer_is}
use Rattle.typed_prims.proofs.ArrayRows.{cell_taken, cell_other}
use Rattle.typed_prims.proofs.arrays.cell_or.Goals as goal

pub returns-in-Some : goal.returns-in-Some
returns-in-Some c = λ r.
    subst (λ m. IfOk c.copied.result (λ x. answer_is x ≡ m))
    (cell_taken r c.args.count c.args.cell.now c.args.atoms.now c.at.result.now (array_of c.args.other.now) c.args.place _ c.in-Some.place c.cell_place.result c.at.ensures (to_z-of_z w64 c.args.place c.ranges.place) c.cell_place.ensures c.in-Some.is)
    c.copied.ensures

pub returns-in-None : goal.returns-in-None
returns-in-None c = λ r.
    subst (λ m. IfOk c.copied-in-None.result (λ x. answer_is x ≡ m))
    (cell_other r c.args.count c.args.cell.now c.args.atoms.now c.atoms.result.now c.dims.result.now c.args.other.now c.args.place _ c.cell_place.result c.dims.ensures c.atoms.ensures (to_z-of_z w64 c.args.place c.ranges.place) c.cell_place.ensures
    c.in-None.is) c.copied-in-None.ensures
