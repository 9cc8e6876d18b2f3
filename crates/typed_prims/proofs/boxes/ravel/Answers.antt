use Rattle.std.proofs.Common.{◌≡◌, ◌∙◌, subst, IfOk, rules, length}
use Rattle.core_syntax.specs.Refine.{ty_of}
use Rattle.typed_prims.specs.ArrayAnswers.{answer_is}
use Rattle.typed_prims.proofs.BoxRows.{ravel_gives}
use Rattle.typed_prims.proofs.boxes.ravel.Goals as goal

pub returns-in-Ok : goal.returns-in-Ok
returns-in-Ok c =
    let same : c.in-Ok.count ≡ length c.atoms-atoms.result.now = search rules in
    subst (λ m. IfOk c.raveled.result (λ x. answer_is x ≡ m)) (ravel_gives (ty_of c.args.cell.now) c.args.a.now c.atoms-atoms.result.now c.in-Ok.count c.atoms-atoms.ensures same) c.raveled.ensures
