use Rattle.std.proofs.Common.{ap, ◌∙◌, ◌+◌, ◌^◌, min}
use Rattle.core_syntax.specs.Lists.{each}
use Rattle.array_values.specs.Envs.{index_data}
use Rattle.array_values.specs.Forms.{cells}
use Rattle.machine.proofs.Starts.{some_places}
use Rattle.machine.proofs.applied.over.Goals as goal

pub returns : goal.returns
returns c =
    some_places (each index_data c.args.indices.now) c.args.frame.items c.args.result_cell.now c.args.function c.args.arguments.items c.count_cells-count.result (c.count_cells-count.ensures ∙ ap (λ (l : _). min (cells l) (2 ^ 24 + 1)) c.deref.ensures.value)
    c.started.result.frame.items _ c.if-count-gt-MOST_PLACES.false c.if-count-eq0.false c.started.ensures.frame c.started.ensures.places
