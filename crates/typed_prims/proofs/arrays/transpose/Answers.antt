use Rattle.typed_prims.proofs.ArrayRows.{transposed_end}
use Rattle.typed_prims.proofs.arrays.transpose.Goals as goal

pub returns-in_ok-atoms-in-len2-up : goal.returns-in_ok-atoms-in-len2-up
returns-in_ok-atoms-in-len2-up c = λ r.
    transposed_end r c.args.a.now c.dims.result.now c.in_ok-inner-in-len2-up.inner c.as_slice.result.now c.in_ok-dims-in-len2-up.dims c.atoms.result.now c.in_ok-atoms-in-len2-up.atoms.items c.dims.ensures c.atoms.ensures
    c.in-len2-up.len_at_least c.in_ok-inner-in-len2-up.ensures c.as_slice.ensures c.in_ok-dims-in-len2-up.ensures c.in_ok-atoms-in-len2-up.ensures
