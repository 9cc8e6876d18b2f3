use Rattle.std.proofs.Common.{◌∙◌, ap}
use Rattle.core_syntax.specs.RefineTerms.{cells_of}
use Rattle.core_syntax.specs.Terms.{TArray}
use Rattle.term_values.proofs.terms.array_over.Goals as goal

pub returns : goal.returns
returns c = c.array.ensures ∙ ap (λ ds. TArray ds (cells_of c.args.atoms.items)) c.in_ok-dims.ensures
