use Rattle.std.proofs.Common.{rules, refl, sym, ap, ◌∙◌, Ok}
use Rattle.sexp_reader.specs.Forms.{forms_of}
use Rattle.core_syntax.specs.Refine.{index_of, indices_of}
use Rattle.name_resolve.specs.Reading.{mapped}
use Rattle.name_resolve.specs.IndexForms.{index, indices, index_made}
use Rattle.core_syntax.specs.Syntax.{end, more}
use Rattle.name_resolve.proofs.IndexLemmas.{is_empty, with_word, with_none, before-none}
use Rattle.name_resolve.proofs.Loops.{loop_init, loop_step, loop_refused, loop_end}
use Rattle.name_resolve.proofs.Refusals.{is_refused, same_answer, refuses-mapped}
use Rattle.name_resolve.proofs.indices.+indices.Goals as goal

pub index-returns-in_default-as_slice : goal.index-returns-in_default-as_slice
index-returns-in_default-as_slice t c =
    is_refused _ 7 c.args.form.now.at _ c.malformed-in_default-as_slice.ensures
    (ap (index c.args.names.now) (is_empty c.args.form.now c.in-Seq.items c.as_slice-in-Seq.result.now c.in-Seq.is c.as_slice-in-Seq.ensures c.in_default-as_slice.len_below))

pub index-returns-in_default-head_index_word : goal.index-returns-in_default-head_index_word
index-returns-in_default-head_index_word t c =
    is_refused _ 7 c.args.form.now.at _ c.malformed-in_default-head_index_word.ensures
    (with_none c.args.names.now c.args.form.now c.in-Seq.items c.as_slice-in-Seq.result.now c.head-item.result c.head-item.result c.in-Seq.is c.as_slice-in-Seq.ensures c.in-len1-up.len_at_least c.head-item.is
    (sym c.head_index_word.ensures ∙ c.in_default-head_index_word.is))

pub index-returns-in_err-parts-in-Seq : goal.index-returns-in_err-parts-in-Seq
index-returns-in_err-parts-in-Seq t c =
    let w = with_word c.args.names.now c.args.form.now c.in-Seq.items c.as_slice-in-Seq.result.now c.head-item.result c.head-item.result c.in-Seq.is c.as_slice-in-Seq.ensures c.in-len1-up.len_at_least c.head-item.is
    c.in-Some-head_index_word.word (sym c.head_index_word.ensures ∙ c.in-Some-head_index_word.is) in
    let h = refuses-mapped c.in_err-parts-in-Seq.field-0.0 (index_made c.in-Some-head_index_word.word c.args.form.now.at) _ c.in_err-parts-in-Seq.ensures in
    same_answer index_of c.from_residual.result _ _ w (search rules)

pub index-returns-in_ok-parts-in-Seq : goal.index-returns-in_ok-parts-in-Seq
index-returns-in_ok-parts-in-Seq t c =
    with_word c.args.names.now c.args.form.now c.in-Seq.items c.as_slice-in-Seq.result.now c.head-item.result c.head-item.result c.in-Seq.is c.as_slice-in-Seq.ensures c.in-len1-up.len_at_least c.head-item.is
    c.in-Some-head_index_word.word (sym c.head_index_word.ensures ∙ c.in-Some-head_index_word.is)
    ∙ ap (mapped (index_made c.in-Some-head_index_word.word c.args.form.now.at)) c.in_ok-parts-in-Seq.ensures
    ∙ ap Ok (sym (c.index_form.ensures c.args.form.now.at))

pub indices-loop-form-init : goal.indices-loop-form-init
indices-loop-form-init t c = loop_init index_of more (indices c.args.names.now) c.args.forms.now c.in_ok-read.read.items c.in_ok-read.ensures.items

pub indices-returns-in_err-part : goal.indices-returns-in_err-part
indices-returns-in_err-part t c =
    let h = loop_refused index_of (index c.args.names.now) (indices c.args.names.now) end more refl (λ f fs. refl) (indices c.args.names.now (forms_of c.args.forms.now)) c.args.forms.now c.loop-form.form-index
    c.loop-form.read.items c.loop-form.invariant c.form-item.result c.form-item.result c.loop-form-test.true c.form-item.is c.in_err-part.field-0.0 c.in_err-part.ensures in
    same_answer indices_of c.from_residual-in_err-part.result _ (indices c.args.names.now (forms_of c.args.forms.now)) refl (search rules)

pub indices-loop-form-preserved : goal.indices-loop-form-preserved
indices-loop-form-preserved t c =
    loop_step index_of (index c.args.names.now) (indices c.args.names.now) end more refl (λ f fs. refl) (indices c.args.names.now (forms_of c.args.forms.now)) c.args.forms.now c.loop-form.form-index
    c.loop-form.read.items c.loop-form.invariant c.form-item.result c.form-item.result c.loop-form-test.true c.form-item.is c.in_ok-part.part c.push.new.self.items (search rules) c.in_ok-part.ensures

pub indices-returns : goal.indices-returns
indices-returns t c =
    loop_end index_of (index c.args.names.now) (indices c.args.names.now) end more refl (λ f fs. refl) (indices c.args.names.now (forms_of c.args.forms.now)) c.args.forms.now c.loop-form.form-index
    c.loop-form.read.items c.loop-form.invariant c.loop-form-test.false
    ∙ ap Ok (before-none c.loop-form.read.items)
    ∙ ap (λ xs. Ok (indices_of xs)) (sym c.from_vec.ensures)
