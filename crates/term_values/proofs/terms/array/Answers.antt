use Rattle.std.proofs.Common.{◌∙◌, ap}
use Rattle.core_syntax.specs.RefineTerms.{cells_of}
use Rattle.core_syntax.specs.Terms.{TArray}
use Rattle.core_syntax.proofs.RowsOfTerms.{of_array}
use Rattle.term_values.proofs.terms.array.Goals as goal

pub returns : goal.returns
returns c = of_array c.args.dims c.from_vec.result ∙ ap (λ xs. TArray c.args.dims (cells_of xs)) c.from_vec.ensures
