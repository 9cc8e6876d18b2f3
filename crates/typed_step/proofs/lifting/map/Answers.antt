use Rattle.std.proofs.Common.{◌≡◌, ◌∙◌, sym, ap, List, arith}
use Rattle.core_syntax.specs.Lists.{each, product}
use Rattle.core_syntax.specs.Refine.{index_of, ty_of}
use Rattle.core_syntax.specs.RefineTerms.{term_of}
use Rattle.core_syntax.specs.Rules.{atoms_of, apps}
use Rattle.core_syntax.specs.Typed.{typed_rules, TypedTerm}
use Rattle.typed_step.specs.Frames.{columns_at}
use Rattle.typed_step.proofs.CellTrees.{frame_is}
use Rattle.typed_step.proofs.PlaceCells.{columns_are}
use Rattle.typed_step.proofs.lifting.map.Goals as goal

pub returns-in-Ok : goal.returns-in-Ok
returns-in-Ok c =
    let F = c.args.frame.now in
    let ks = c.args.ranks.now in
    let a = c.args.application in
    let ts = a.args.now in
    let on = λ (tss : List (List TypedTerm)). apps typed_rules (atoms_of typed_rules (term_of a.function.now)) tss (each index_of a.cells.now) (ty_of a.answer.now) in
    let count : c.count.result ≡ product F = omega (arith, c.count.ensures, c.requires.count) in
    let cells = c.in-Ok.ensures ∙ ap (λ n. on (columns_at 0 n ks (each term_of ts))) count ∙ sym (ap on (columns_are F ks ts)) in
    frame_is (term_of c.frame.result) c.in_ok-dims.dims F c.in-Ok.cells.items _ c.in_ok-dims.answer a.answer.now c.frame.ensures c.in_ok-dims.ensures.0 cells c.in_ok-dims.ensures.1
