use Rattle.std.proofs.Common.{◌≡◌, ◌∙◌, ap, subst, IfOk, take}
use Rattle.core_syntax.specs.Refine.{ty_of}
use Rattle.typed_prims.specs.ArrayAnswers.{answer_is}
use Rattle.typed_prims.proofs.BoxRows.{filter_gives}
use Rattle.typed_prims.proofs.boxes.filter.Goals as goal

pub returns-in_ok-atoms-in-len1-up : goal.returns-in_ok-atoms-in-len1-up
returns-in_ok-atoms-in-len1-up c =
    let r = ty_of c.args.cell.now in
    subst (λ m. IfOk c.boxed_by_count.result (λ x. answer_is x ≡ m))
    (filter_gives r c.args.mask.now c.args.a.now c.dims.result.now c.in_ok-dims-in-len1-up.dims c.atoms-marks.result.now c.atoms.result.now c.in_ok-atoms-in-len1-up.atoms.items c.kept_count-kept.result c.atoms-marks.ensures
    c.dims.ensures c.atoms.ensures c.in-len1-up.len_at_least c.kept_count-kept.ensures c.in_ok-dims-in-len1-up.ensures (c.in_ok-atoms-in-len1-up.ensures r)) c.boxed_by_count.ensures
