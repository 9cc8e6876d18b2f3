use Rattle.std.proofs.Common.{◌≡◌, subst, ◌<◌, ◌^◌, length, IfOk, rules}
use Rattle.core_syntax.specs.Lists.{each}
use Rattle.core_syntax.specs.RefineTerms.{cell_of}
use Rattle.typed_step.proofs.LiftTrees.{over_counted}
use Rattle.typed_step.proofs.lifting.over_frame.Goals as goal

pub returns : goal.returns
returns c =
    let short : length c.args.atoms.now < 2 ^ 64 = search rules in
    let same = over_counted cell_of c.args.own.now c.args.rest.now c.args.cell.now c.count.result c.count-2.result c.size.result c.args.atoms.now c.requires c.count.ensures c.count-2.ensures c.size.ensures short in
    subst (λ l. IfOk c.replicated.result (λ all. each cell_of all.items ≡ l)) same c.replicated.ensures
