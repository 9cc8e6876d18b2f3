use Rattle.std.proofs.Common.{◌<◌, ◌^◌, ℕ, get_or, sym, ap, ◌∙◌, rules}
use Rattle.std.proofs.lemmas.List.Elements.{All-from_get_or}
use Rattle.core_syntax.specs.Arrays.{frame_before}
use Rattle.core_syntax.specs.Refine.{index_of}
use Rattle.core_syntax.specs.Typed.{closed}
use Rattle.core_syntax.specs.Value.{shape_val}
use Rattle.typed_step.proofs.FrameRanks.{front_large}
use Rattle.typed_step.proofs.lifting.rank.Goals as goal

pub returns-in-None-clause-frame : goal.returns-in-None-clause-frame
returns-in-None-clause-frame c =
    let cell = shape_val closed (index_of c.args.cell.now) in
    let fit : (i : ℕ) → get_or c.dims-dims.result.now i 0 < 2 ^ 32 = search rules in
    let low = All-from_get_or (λ d. d < 2 ^ 32) c.dims-dims.result.now 0 (λ i h. fit i) in
    front_large cell c.dims-dims.result.now low (sym c.in-None.is ∙ c.in_ok-shape_dims.ensures) ∙ ap (frame_before cell) c.dims-dims.ensures
