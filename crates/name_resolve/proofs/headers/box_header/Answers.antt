use Rattle.std.proofs.Common.{ap, sym, ◌∙◌}
use Rattle.core_syntax.specs.Refine.{indices_of}
use Rattle.sexp_reader.specs.Forms.{form_of, forms_of}
use Rattle.name_resolve.specs.Held.{held_names}
use Rattle.name_resolve.specs.IndexForms.{indices}
use Rattle.name_resolve.proofs.ExprLemmas.{index_items-of}
use Rattle.name_resolve.proofs.HeaderLemmas.{box_read, box_held}
use Rattle.name_resolve.proofs.headers.box_header.Goals as goal

pub returns-clause-read : goal.returns-clause-read
returns-clause-read c =
    box_read c.args.scopes.now c.args.at (form_of c.args.first.now) (forms_of c.args.rest.now) (form_of c.in-Some.content.now) (form_of c.in-Some.answer.now) (forms_of c.in-Some-some_listed.list.now)
    (indices_of c.in_ok-indices.indices) c.in-Some.ensures c.in-Some-some_listed.ensures
    (ap (λ xs. indices xs (forms_of c.in-Some-some_listed.list.now)) (sym c.indices.ensures) ∙ c.in_ok-indices.ensures)
    ∙ box_held c.args.at (form_of c.in-Some.content.now) (form_of c.in-Some.answer.now) c.args.scopes.now _ _ _ (index_items-of c.in_ok-indices.indices) (ap held_names c.new.ensures.items)
