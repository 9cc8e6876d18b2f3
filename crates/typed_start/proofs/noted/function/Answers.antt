use Rattle.std.proofs.Common.{◌∙◌}
use Rattle.core_syntax.specs.Lists.{each}
use Rattle.core_syntax.specs.Refine.{ty_of}
use Rattle.core_syntax.specs.RefineTerms.{term_of}
use Rattle.core_syntax.specs.Terms.{TFn}
use Rattle.core_syntax.proofs.RowsOfTerms.{of_fn}
use Rattle.typed_start.proofs.noted.function.Goals as goal

pub returns : goal.returns
returns c = of_fn c.in_ok-inputs.inputs c.in_ok-answer.answer c.args.body ∙ (λ i. TFn (record { inputs = each ty_of (c.in_ok-inputs.ensures i); result = ty_of (c.in_ok-answer.ensures i) }) (term_of c.args.body))
