use Rattle.typed_prims.proofs.ArrayRows.{replicated_end}
use Rattle.typed_prims.proofs.arrays.replicate.Goals as goal

pub returns-in_ok-atoms-in-Some : goal.returns-in_ok-atoms-in-Some
returns-in_ok-atoms-in-Some c = λ r.
    replicated_end r c.args.a.now c.dims.result.now c.in-Some.dims c.atoms.result.now c.in_ok-atoms-in-Some.atoms.items c.args.count c.from.result c.in_ok-formed.field-0 c.dims.ensures c.atoms.ensures c.from.ensures c.in_ok-formed.ensures
    c.in-Some.is c.in_ok-atoms-in-Some.ensures
