use Rattle.std.proofs.Common.{rules, arith, ◌≡◌, ◌∙◌, ap, ◌^◌, ◌≤◌, ◌<◌, [], ◌∷◌, ◌++◌, length}
use Rattle.core_syntax.specs.Lists.{each}
use Rattle.core_syntax.specs.RefineTerms.{cell_of}
use Rattle.prim_kernels.proofs.Asked.{no_form}
use Rattle.typed_prims.specs.Boxes.{wanted}
use Rattle.typed_prims.proofs.BoxRows.{no_rank, wanted_more}
use Rattle.typed_prims.proofs.boxes.asked_dims.Goals as goal

pub returns-then-atoms-gt-MOST_DIMS : goal.returns-then-atoms-gt-MOST_DIMS
returns-then-atoms-gt-MOST_DIMS c =
    let many : 64 < length c.args.atoms.now = omega (arith, c.if-atoms-gt-MOST_DIMS.true) in
    no_rank c.args.atoms.now many

pub returns-then-dim-from : goal.returns-then-dim-from
returns-then-dim-from c =
    let large : 2 ^ 32 ≤ c.asked_at-dim.result = omega (arith, c.from.ensures, c.if-dim-from.true) in
    no_form (each wanted (each cell_of c.args.atoms.now)) c.loop-place.place c.asked_at-dim.result c.asked_at-dim.ensures large

pub loop-place-preserved : goal.loop-place-preserved
loop-place-preserved c =
    let d = c.asked_at-dim.result in
    let pushed : c.push.new.self.items ≡ c.loop-place.dims.items ++ d ∷ [] = search rules in
    pushed ∙ ap (λ ys. ys ++ d ∷ []) c.loop-place.invariant ∙ wanted_more c.args.atoms.now c.loop-place.place d c.asked_at-dim.ensures
