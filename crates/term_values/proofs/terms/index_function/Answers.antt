use Rattle.std.proofs.Common.{◌∙◌, ap}
use Rattle.core_syntax.specs.RefineTerms.{term_of}
use Rattle.core_syntax.specs.Terms.{TIndexFn}
use Rattle.core_syntax.proofs.RowsOfTerms.{of_index_fn}
use Rattle.term_values.proofs.terms.index_function.Goals as goal

pub returns : goal.returns
returns c = of_index_fn c.in_ok-sorts.sorts c.args.body ∙ ap (λ ss. TIndexFn ss (term_of c.args.body)) c.in_ok-sorts.ensures
