use Rattle.std.proofs.Common.{◌∙◌, ap}
use Rattle.core_syntax.specs.Refine.{ty_of}
use Rattle.core_syntax.specs.RefineTerms.{terms_of}
use Rattle.core_syntax.specs.Terms.{TFrame}
use Rattle.core_syntax.proofs.RowsOfTerms.{of_frame}
use Rattle.term_values.proofs.terms.frame.Goals as goal

pub returns : goal.returns
returns c = of_frame c.args.dims c.from_vec.result c.args.cell ∙ ap (λ ts. TFrame c.args.dims (terms_of ts) (ty_of c.args.cell)) c.from_vec.ensures
