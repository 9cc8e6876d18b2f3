use Rattle.core_syntax.proofs.RowsOfTerms.{of_index_app}
use Rattle.term_values.proofs.terms.index_application.Goals as goal

pub returns : goal.returns
returns c = of_index_app c.args.function c.args.indices c.args.answer
