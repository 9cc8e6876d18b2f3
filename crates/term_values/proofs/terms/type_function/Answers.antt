use Rattle.core_syntax.proofs.RowsOfTerms.{of_type_fn}
use Rattle.term_values.proofs.terms.type_function.Goals as goal

pub returns : goal.returns
returns c = of_type_fn c.args.count c.args.body
