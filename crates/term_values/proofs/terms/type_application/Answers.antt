use Rattle.core_syntax.proofs.RowsOfTerms.{of_type_app}
use Rattle.term_values.proofs.terms.type_application.Goals as goal

pub returns : goal.returns
returns c = of_type_app c.args.function c.args.types c.args.answer
