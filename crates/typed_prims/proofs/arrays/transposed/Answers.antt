use Rattle.std.proofs.Common.{◌≡◌, ◌∙◌, sym, ◌*◌, length, arith}
use Rattle.std.proofs.lemmas.List.{nil_from_length}
use Rattle.core_syntax.specs.Arrays.{runs}
use Rattle.core_syntax.specs.Lists.{each, product}
use Rattle.prim_kernels.proofs.ArrayCuts.{nothing_transposed, transposed_more}
use Rattle.typed_prims.proofs.arrays.transposed.Goals as goal

pub returns-then-is_empty : goal.returns-then-is_empty
returns-then-is_empty c =
    let h : length c.args.atoms.now ≡ 0 = grind arith in
    c.new-all.ensures.items ∙ sym (nothing_transposed c.args.rows c.args.row_length (product c.args.cell.now) c.args.atoms.now (nil_from_length c.args.atoms.now h))

pub loop-column-preserved : goal.loop-column-preserved
loop-column-preserved c =
    let size = product c.args.cell.now in
    transposed_more c.loop-column.column (each (runs c.args.row_length size) (runs c.args.rows (c.args.row_length * size) c.args.atoms.now)) c.loop-column.all.items c.push_column.new.all.items c.loop-column.invariant
    c.in_ok-push_column.ensures
