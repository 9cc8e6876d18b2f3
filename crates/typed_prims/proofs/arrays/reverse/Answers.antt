use Rattle.typed_prims.proofs.ArrayRows.{reversed_end}
use Rattle.typed_prims.proofs.arrays.reverse.Goals as goal

pub returns-in_ok-atoms-in-len1-up : goal.returns-in_ok-atoms-in-len1-up
returns-in_ok-atoms-in-len1-up c = λ r.
    reversed_end r c.args.a.now c.dims.result.now c.in_ok-dims-in-len1-up.dims c.atoms.result.now c.in_ok-atoms-in-len1-up.atoms.items c.dims.ensures c.atoms.ensures c.in-len1-up.len_at_least c.in_ok-dims-in-len1-up.ensures
    c.in_ok-atoms-in-len1-up.ensures
