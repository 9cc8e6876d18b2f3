use Rattle.std.proofs.Common.{◌∙◌, ap, ◌++◌}
use Rattle.core_syntax.specs.Lists.{product}
use Rattle.prim_kernels.proofs.ArrayCuts.{no_column, column_more}
use Rattle.typed_prims.proofs.arrays.push_column.Goals as goal

pub loop-row-init : goal.loop-row-init
loop-row-init c = no_column c.args.column c.args.row_length (product c.args.cell.now) c.args.atoms.now c.args.all.now.items

pub loop-row-preserved : goal.loop-row-preserved
loop-row-preserved c =
    c.in_ok-push_copies.ensures ∙ ap (λ zs. c.loop-row.all.items ++ zs) c.at.ensures
    ∙ column_more c.args.column c.args.row_length (product c.args.cell.now) c.loop-row.row c.args.atoms.now c.args.all.now.items c.loop-row.all.items c.requires c.loop-row.invariant
