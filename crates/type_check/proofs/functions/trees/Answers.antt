use Rattle.std.proofs.Common.{rules, ◌≡◌, sym, subst}
use Rattle.core_syntax.specs.NormTypes.{norm_tys}
use Rattle.core_syntax.specs.Refine.{tys_of}
use Rattle.type_check.proofs.one_by_one.FnSteps.{trees_go_on, trees_normal}
use Rattle.type_check.proofs.functions.trees.Goals as goal

pub loop-ty-preserved : goal.loop-ty-preserved
loop-ty-preserved c =
    trees_go_on c.args.types.now c.loop-ty.trees.items c.push.new.self.items c.loop-ty.ty-index c.ty-item.result c.ty.result.now c.in_ok-tree.tree c.loop-ty-test.true c.ty-item.is c.ty.ensures.tree c.ty.ensures.normal
    c.in_ok-tree.ensures (search rules) c.loop-ty.invariant

pub returns-clause-normal : goal.returns-clause-normal
returns-clause-normal c = subst (λ ts. norm_tys (tys_of ts) ≡ tys_of ts) (sym c.from_vec.ensures) (trees_normal c.loop-ty.trees.items c.loop-ty.invariant.1)
