use Rattle.prim_kernels.proofs.ArrayRows.{reversed_end}
use Rattle.prim_kernels.proofs.arrays.reverse.Goals as goal

pub returns-in_ok-atoms-in-len1-up : goal.returns-in_ok-atoms-in-len1-up
returns-in_ok-atoms-in-len1-up c =
    reversed_end c.args.a.now c.dims.result.now c.in_ok-dims-in-len1-up.dims.items c.width.result c.in_ok-atoms-in-len1-up.atoms.items c.dims.ensures.array c.dims.ensures.dims c.in-len1-up.len_at_least
    c.width.ensures c.in_ok-dims-in-len1-up.ensures c.in_ok-atoms-in-len1-up.ensures
