use Rattle.std.proofs.Common.{ap, sym, ◌∙◌, Ok}
use Rattle.core_syntax.specs.Refine.{expr_of}
use Rattle.sexp_reader.specs.Forms.{forms_of}
use Rattle.core_syntax.specs.Syntax.{IndexApp, index_items}
use Rattle.name_resolve.specs.Headers.{applied_of}
use Rattle.name_resolve.specs.IndexForms.{indices}
use Rattle.name_resolve.specs.Reading.{mapped}
use Rattle.name_resolve.proofs.ExprLemmas.{index_items-of}
use Rattle.name_resolve.proofs.Refusals.{same_answer}
use Rattle.name_resolve.proofs.headers.apply.Goals as goal

pub returns-in-Ok-indices-clause-read : goal.returns-in-Ok-indices-clause-read
returns-in-Ok-indices-clause-read c =
    same_answer expr_of c.on_indices.result _ _
    (ap (λ a. applied_of a c.args.scopes.now c.args.at (forms_of c.args.rest.now) (expr_of c.args.function)) c.in-Index.is
    ∙ ap (mapped (λ is. IndexApp c.args.at (expr_of c.args.function) (index_items is))) (ap (λ xs. indices xs (forms_of c.args.rest.now)) (sym c.indices.ensures) ∙ c.in-Ok-indices.ensures)
    ∙ ap Ok (ap (IndexApp c.args.at (expr_of c.args.function)) (index_items-of c.in-Ok-indices.indices)))
    c.on_indices.ensures
