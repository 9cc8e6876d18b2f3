use Rattle.std.proofs.Common.{◌≡◌, ◌∙◌, ap, sym, ◌^◌, ◌-◌, ◌≤◌, min, length, rules}
use Rattle.core_syntax.specs.Lists.{product}
use Rattle.typed_step.proofs.CellTrees.{cell_is}
use Rattle.typed_step.proofs.lifting.cell_at.Goals as goal

pub returns-in_ok-push_copies-in_default : goal.returns-in_ok-push_copies-in_default
returns-in_ok-push_copies-in_default c =
    let cell : c.in_ok-dims.dims ≡ c.back-cell.result.now = search rules in
    let copies : c.push_copies.new.copies.items ≡ c.run_at.result.now = search rules in
    let few : length c.atoms.result.now ≤ 2 ^ 64 - 1 = search rules in
    cell_is c.args.term.now c.array.result c.args.place c.args.rank c.size.result (2 ^ 64 - 1) c.dims.result.now c.in_ok-dims.dims c.atoms.result.now c.run_at.result.now c.push_copies.new.copies.items
    c.in_default.not-NoAtoms c.dims.ensures (cell ∙ c.back-cell.ensures) c.atoms.ensures few (c.size.ensures ∙ ap (λ ds. min (product ds) (2 ^ 64 - 1)) (sym cell)) c.run_at.ensures copies c.array.ensures
