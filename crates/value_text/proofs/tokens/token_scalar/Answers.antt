use Rattle.std.proofs.Common.{rules, sym, ap, subst, ◌∙◌, [], Ok}
use Rattle.array_values.specs.Data.{array_data}
use Rattle.core_syntax.specs.Data.{DataArray}
use Rattle.core_syntax.specs.Typed.{atom_type}
use Rattle.sexp_reader.specs.Forms.{form_of}
use Rattle.value_text.specs.Answers.{Refuses, inside}
use Rattle.value_text.specs.DataForms.{one_atom}
use Rattle.value_text.specs.DataRead.{atom}
use Rattle.value_text.specs.InputTypes.{param_type}
use Rattle.value_text.specs.Reading.{mapped}
use Rattle.value_text.proofs.InputLemmas.{elem_is}
use Rattle.value_text.proofs.Refusals.{same_answer, refuses-mapped}
use Rattle.value_text.proofs.tokens.token_scalar.Goals as goal

pub returns-in_err-atom : goal.returns-in_err-atom
returns-in_err-atom c =
    let vs = inside c.args.hidden.now in
    let read = atom vs (atom_type (param_type c.args.param.now)) (form_of c.args.form.now) in
    let e = c.in_ok-test_array.ensures.read (mapped one_atom read) in
    let r = subst (λ u. Refuses c.in_err-atom.field-0.0 (atom vs u (form_of c.args.form.now))) (elem_is c.args.param.now) (c.in_err-atom.ensures vs) in
    let h = refuses-mapped c.in_err-atom.field-0.0 (DataArray []) (mapped one_atom read) (refuses-mapped c.in_err-atom.field-0.0 one_atom read r) in
    same_answer array_data c.from_residual-in_err-atom.result _ _ e (search rules)

pub returns : goal.returns
returns c =
    let vs = inside c.args.hidden.now in
    c.in_ok-test_array.ensures.read (mapped one_atom (atom vs (atom_type (param_type c.args.param.now)) (form_of c.args.form.now)))
    ∙ ap (λ r. mapped (DataArray []) (mapped one_atom r)) (sym (ap (λ u. atom vs u (form_of c.args.form.now)) (elem_is c.args.param.now)) ∙ c.in_ok-atom.ensures vs)
    ∙ ap Ok (sym c.in_ok-array.ensures)
