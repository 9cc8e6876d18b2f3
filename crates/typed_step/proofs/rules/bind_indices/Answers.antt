use Rattle.std.proofs.Common.{◌≡◌, subst, IfOk}
use Rattle.core_syntax.specs.Lists.{each}
use Rattle.core_syntax.specs.Refine.{index_of}
use Rattle.core_syntax.specs.RefineTerms.{cell_of}
use Rattle.core_syntax.specs.Typed.{closed_value}
use Rattle.typed_prims.specs.Outcomes.{move_of}
use Rattle.typed_step.proofs.BindAtoms.{values_kept, all_fitting}
use Rattle.typed_step.proofs.rules.bind_indices.Goals as goal

pub returns-in-Some : goal.returns-in-Some
returns-in-Some c =
    let is = each index_of c.args.indices.now in
    let kept = values_kept is c.in_ok-kept.field-0 c.in-Some.values c.in-Some.is c.in_ok-kept.ensures in
    subst (λ m. IfOk c.bind_values.result (λ o. move_of o ≡ m)) (all_fitting is (each cell_of c.args.atoms.now) kept.0) (c.bind_values.ensures (each closed_value is) kept.1)
