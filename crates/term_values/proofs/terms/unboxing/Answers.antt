use Rattle.core_syntax.proofs.RowsOfTerms.{of_unbox}
use Rattle.term_values.proofs.terms.unboxing.Goals as goal

pub returns : goal.returns
returns c = of_unbox c.args.sorts c.args.boxed c.args.body c.args.answer
