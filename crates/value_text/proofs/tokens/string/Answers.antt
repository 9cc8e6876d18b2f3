use Rattle.std.proofs.Common.{rules, ◌≡◌, sym, ap, subst, ◌∙◌, [], ◌∷◌, length, Ok}
use Rattle.array_values.specs.Data.{array_data}
use Rattle.core_syntax.specs.Data.{DataArray}
use Rattle.core_syntax.specs.Typed.{atom_type}
use Rattle.value_text.specs.Answers.{Refuses, inside}
use Rattle.value_text.specs.DataRead.{array, string_atoms}
use Rattle.value_text.specs.InputTypes.{param_type}
use Rattle.value_text.specs.Reading.{mapped}
use Rattle.value_text.proofs.InputLemmas.{elem_is}
use Rattle.value_text.proofs.Refusals.{same_answer, refuses-mapped}
use Rattle.value_text.proofs.tokens.string.Goals as goal

pub returns-in_err-atoms : goal.returns-in_err-atoms
returns-in_err-atoms c =
    let t = param_type c.args.param.now in
    let as' = string_atoms (atom_type t) c.args.at c.args.bytes.now in
    let l : c.in-Ok.len ≡ length c.args.bytes.now = search rules in
    let e = ap (λ n. array (inside c.args.hidden.now) t c.args.at (n ∷ []) (length c.args.bytes.now) as') (sym l) ∙ c.in_ok-test_array.ensures.read as' in
    let r = subst (λ u. Refuses c.in_err-atoms.field-0.0 (string_atoms u c.args.at c.args.bytes.now)) (elem_is c.args.param.now) c.in_err-atoms.ensures.read in
    let h = refuses-mapped c.in_err-atoms.field-0.0 (DataArray (c.in-Ok.len ∷ [])) as' r in
    same_answer array_data c.from_residual-in_err-atoms.result _ _ e (search rules)

pub returns : goal.returns
returns c =
    let t = param_type c.args.param.now in
    let as' = string_atoms (atom_type t) c.args.at c.args.bytes.now in
    let l : c.in-Ok.len ≡ length c.args.bytes.now = search rules in
    ap (λ n. array (inside c.args.hidden.now) t c.args.at (n ∷ []) (length c.args.bytes.now) as') (sym l)
    ∙ c.in_ok-test_array.ensures.read as'
    ∙ ap (mapped (DataArray (c.in-Ok.len ∷ []))) (sym (ap (λ u. string_atoms u c.args.at c.args.bytes.now) (elem_is c.args.param.now)) ∙ c.in_ok-atoms.ensures.read)
    ∙ ap Ok (sym c.in_ok-array.ensures)
