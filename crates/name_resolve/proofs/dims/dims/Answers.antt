use Rattle.std.proofs.Common.{sym, ap, ◌∙◌, min, max, Ok, ◌^◌, ◌-◌}
use Rattle.core_syntax.specs.Lists.{product}
use Rattle.sexp_reader.specs.Forms.{form_of}
use Rattle.name_resolve.proofs.DimLemmas.{one_too_many, counted, miscounted}
use Rattle.name_resolve.proofs.Refusals.{is_refused}
use Rattle.name_resolve.proofs.dims.dims.Goals as goal

pub returns-in-Some-get : goal.returns-in-Some-get
returns-in-Some-get c =
    is_refused _ 12 _ _ c.too_many.ensures
    (one_too_many c.args.at (form_of c.args.list.now) c.args.items c.in-Some.forms.now c.in_ok-numbers.numbers.items c.in-Some.ensures c.in_ok-numbers.ensures c.in-Some-get.form.now _ c.in-Some-get.ensures.lookup.0 c.in-Some-get.ensures.lookup.1)

pub returns-then-items-count : goal.returns-then-items-count
returns-then-items-count c =
    is_refused _ 10 _ _ c.wrong_count.ensures
    (miscounted c.args.at (form_of c.args.list.now) c.args.items c.in-Some.forms.now c.in_ok-numbers.numbers.items c.in-Some.ensures c.in_ok-numbers.ensures c.in_default-get.ensures.lookup.0
    (λ e. c.if-items-count.true (e ∙ sym (c.max-count.ensures ∙ ap (λ m. max m 1) (c.saturated_product.ensures ∙ ap (λ xs. min (product xs) (2 ^ 64 - 1)) c.as_slice.ensures.value)))) c.requires)

pub returns : goal.returns
returns c =
    counted c.args.at (form_of c.args.list.now) c.args.items c.in-Some.forms.now c.in_ok-numbers.numbers.items c.in-Some.ensures c.in_ok-numbers.ensures c.in_default-get.ensures.lookup.0
    (c.if-items-count.false ∙ (c.max-count.ensures ∙ ap (λ m. max m 1) (c.saturated_product.ensures ∙ ap (λ xs. min (product xs) (2 ^ 64 - 1)) c.as_slice.ensures.value))) c.requires
    ∙ ap Ok (sym c.from_vec.ensures)
