use Rattle.std.proofs.Common.{◌≡◌, ◌∙◌, rules}
use Rattle.core_syntax.specs.Lists.{each}
use Rattle.core_syntax.specs.Refine.{index_of}
use Rattle.core_syntax.specs.RefineTerms.{term_of}
use Rattle.typed_step.proofs.BindAtoms.{index_fn_bound}
use Rattle.typed_step.proofs.rules.bind_values_of.Goals as goal

pub returns-in_ok-body-in-IndexFn : goal.returns-in_ok-body-in-IndexFn
returns-in_ok-body-in-IndexFn c = λ vs e.
    let same : each index_of c.as_slice.result.now ≡ each index_of c.args.values = search rules in
    index_fn_bound vs (each index_of c.as_slice.result.now) c.args.atom.now c.in-IndexFn.field-0 c.in-IndexFn.body c.get.result.now (term_of c.in_ok-body-in-IndexFn.body) (same ∙ e) c.get.ensures c.in-IndexFn.is
    c.in_ok-body-in-IndexFn.ensures
