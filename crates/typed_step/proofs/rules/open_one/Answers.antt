use Rattle.std.proofs.Common.{◌≡◌, rules}
use Rattle.core_syntax.specs.Lists.{each}
use Rattle.core_syntax.specs.Refine.{index_of}
use Rattle.core_syntax.specs.RefineTerms.{term_of}
use Rattle.typed_step.proofs.BindAtoms.{box_opened}
use Rattle.typed_step.proofs.rules.open_one.Goals as goal

pub returns-in_ok-body-in-Boxed : goal.returns-in_ok-body-in-Boxed
returns-in_ok-body-in-Boxed c =
    let same : each index_of c.as_slice-in-Boxed.result.now ≡ each index_of c.in_ok-values-in-Boxed.values = search rules in
    box_opened (term_of c.args.body.now) c.in-Boxed.indices c.as_slice.result.now c.in-Boxed.content c.get.result.now c.in-Boxed.field-2 c.args.atom.now c.in_ok-kept-in-Boxed.field-0 c.in_ok-values-in-Boxed.values
    (each index_of c.as_slice-in-Boxed.result.now) (term_of c.in_ok-body-in-Boxed.body) c.as_slice.ensures c.get.ensures c.in-Boxed.is c.in_ok-values-in-Boxed.ensures.ok_part c.in_ok-kept-in-Boxed.ensures same
    c.in_ok-body-in-Boxed.ensures
