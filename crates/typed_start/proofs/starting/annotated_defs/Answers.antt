use Rattle.std.proofs.Common.{◌≡◌, ◌++◌, ◌∷◌, [], rules}
use Rattle.typed_start.proofs.ReadRows.{defs_read}
use Rattle.typed_start.proofs.starting.annotated_defs.Goals as goal

pub loop-def-preserved : goal.loop-def-preserved
loop-def-preserved c =
    let e : c.push.new.self.items ≡ c.loop-def.terms.items ++ c.in_ok-term.term ∷ [] = search rules in
    defs_read c.args.defs.now _ c.def-item.result _ _ _ _ _ c.in_ok-term.term c.loop-def-test.true c.def-item.is e c.in_ok-term.ensures c.loop-def.invariant
