use Rattle.std.proofs.Common.{sym, ap, ◌∙◌, Some}
use Rattle.sexp_reader.specs.Forms.{form_of, forms_of}
use Rattle.name_resolve.specs.Held.{held}
use Rattle.name_resolve.proofs.TopLemmas.{is_definition}
use Rattle.name_resolve.proofs.top.as_definition.Goals as goal

pub returns-in_ok-name-in-Some-Define-clause-parts : goal.returns-in_ok-name-in-Some-Define-clause-parts
returns-in_ok-name-in-Some-Define-clause-parts c =
    is_definition (form_of c.args.form.now) (forms_of c.in_ok-listed.field-0.now) c.in_ok-listed.ensures (form_of c.in_ok-head.head.now) (form_of c.in_ok-head.name.now) (form_of c.in_ok-head.ty.now) (form_of c.in_ok-head.value.now)
    c.in_ok-head.ensures (held c.in_ok-name-in-Some-Define.name) (sym c.in-Some-Define.ensures ∙ ap Some c.in-Some-Define.field-0-is) c.in_ok-name-in-Some-Define.ensures
