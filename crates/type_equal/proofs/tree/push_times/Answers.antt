use Rattle.std.proofs.Common.{◌≡◌, refl, [], ◌∷◌, ◌++◌, rules}
use Rattle.core_syntax.specs.Syntax.{no_span}
use Rattle.core_syntax.specs.declared.index.Index.{Index as Tree}
use Rattle.core_syntax.specs.declared.index.IndexForm.TheVariants.{Var}
use Rattle.type_equal.proofs.PartsLemmas.{pushed_times}
use Rattle.type_equal.proofs.tree.push_times.Goals as goal

pub loop-turn-preserved : goal.loop-turn-preserved
loop-turn-preserved c =
    let p : Tree = record { at = no_span; form = Var c.args.var } in
    let e : c.push.new.self.items ≡ c.loop-turn.parts.items ++ p ∷ [] = search rules in
    pushed_times _ _ p _ _ c.args.var e refl c.loop-turn.invariant
