use Rattle.std.proofs.Common.{◌∙◌, ap}
use Rattle.core_syntax.specs.Lists.{each}
use Rattle.core_syntax.specs.Refine.{index_of, ty_of}
use Rattle.core_syntax.specs.RefineTerms.{term_of, terms_of}
use Rattle.core_syntax.specs.Terms.{TApp}
use Rattle.core_syntax.proofs.RowsOfTerms.{of_app}
use Rattle.term_values.proofs.terms.application.Goals as goal

pub returns : goal.returns
returns c = of_app c.args.function c.from_vec.result c.args.cells c.args.answer ∙ ap (λ ts. TApp (term_of c.args.function) (terms_of ts) (each index_of c.args.cells) (ty_of c.args.answer)) c.from_vec.ensures
