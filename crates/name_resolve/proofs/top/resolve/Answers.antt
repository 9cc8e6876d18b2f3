use Rattle.std.proofs.Common.{◌≡◌, refl, sym, ap, subst, ◌∙◌, ◌-◌, length, take, ◌<◌, ◌^◌, Ok}
use Rattle.core_syntax.specs.Lists.{each}
use Rattle.core_syntax.specs.Programs.{def_of}
use Rattle.core_syntax.specs.Wholes.{program_of}
use Rattle.sexp_reader.specs.Forms.{form_of, forms_of, form_size, forms_size}
use Rattle.name_resolve.specs.Answers.{Refuses}
use Rattle.name_resolve.specs.Means.{body, program}
use Rattle.name_resolve.specs.Scopes.{Scopes, HasRoom, behind}
use Rattle.name_resolve.specs.Tops.{body_of, definitions_read, all_known}
use Rattle.name_resolve.proofs.MadeTops.{program_made}
use Rattle.name_resolve.proofs.ProgramLemmas.{parted, sizes_parts, shorts_parts, first_room, last_room, first_refused, last_refused, program_is}
use Rattle.name_resolve.proofs.Refusals.{carried}
use Rattle.name_resolve.proofs.top.resolve.Goals as goal

pub read_definitions-requires-clause-room : goal.read_definitions-requires-clause-room
read_definitions-requires-clause-room c =
    let fs = c.args.forms.now in let ds = take (length fs - 1) fs in
    subst (λ Γ. HasRoom Γ (forms_size (forms_of ds))) (sym c.new-scopes.ensures)
    (first_room fs ds c.last-item.result (parted fs c.last-item.result c.last-item.result c.in-len1-up.len_at_least c.last-item.is) c.requires.small)

pub returns-in_err-defs : goal.returns-in_err-defs
returns-in_err-defs c =
    let fs = c.args.forms.now in let ds = take (length fs - 1) fs in
    carried program_of c.from_residual.result c.in_err-defs.field-0.0 (program (forms_of fs)) c.from_residual.ensures.1
    (first_refused fs ds c.last-item.result (parted fs c.last-item.result c.last-item.result c.in-len1-up.len_at_least c.last-item.is) c.in_err-defs.field-0.0
    (subst (λ (Γ : Scopes). Refuses c.in_err-defs.field-0.0 (definitions_read Γ.defs (forms_of ds))) c.new-scopes.ensures c.in_err-defs.ensures.read))

pub read_body-requires-clause-room : goal.read_body-requires-clause-room
read_body-requires-clause-room c =
    let fs = c.args.forms.now in let ds = take (length fs - 1) fs in
    subst (λ Γ. HasRoom Γ (form_size (form_of c.last-item.result))) (sym (c.in_ok-defs.ensures.known ∙ ap (λ (Γ : Scopes). behind (all_known Γ.defs (forms_of ds))) c.new-scopes.ensures))
    (last_room fs ds c.last-item.result (parted fs c.last-item.result c.last-item.result c.in-len1-up.len_at_least c.last-item.is) c.requires.small)

pub returns-in_err-inputs : goal.returns-in_err-inputs
returns-in_err-inputs c =
    let fs = c.args.forms.now in let ds = take (length fs - 1) fs in
    let known = c.in_ok-defs.ensures.known ∙ ap (λ (Γ : Scopes). behind (all_known Γ.defs (forms_of ds))) c.new-scopes.ensures in
    carried program_of c.from_residual-in_err-inputs.result c.in_err-inputs.field-0.0 (program (forms_of fs)) c.from_residual-in_err-inputs.ensures.1
    (last_refused fs ds c.last-item.result (parted fs c.last-item.result c.last-item.result c.in-len1-up.len_at_least c.last-item.is)
    (each def_of c.in_ok-defs.defs) (subst (λ (Γ : Scopes). definitions_read Γ.defs (forms_of ds) ≡ Ok (each def_of c.in_ok-defs.defs)) c.new-scopes.ensures c.in_ok-defs.ensures.read) c.in_err-inputs.field-0.0
    (subst (λ (Γ : Scopes). Refuses c.in_err-inputs.field-0.0 (body Γ.defs (form_of c.last-item.result))) known c.in_err-inputs.ensures))

pub invariant_of-result : goal.invariant_of-result
invariant_of-result c =
    let fs = c.args.forms.now in let ds = take (length fs - 1) fs in
    let known = c.in_ok-defs.ensures.known ∙ ap (λ (Γ : Scopes). behind (all_known Γ.defs (forms_of ds))) c.new-scopes.ensures in
    let p = parted fs c.last-item.result c.last-item.result c.in-len1-up.len_at_least c.last-item.is in
    let shorts = shorts_parts fs ds c.last-item.result p c.requires.short in
    record {
      well_made = program_made (forms_of ds) (form_of c.last-item.result) (each def_of c.in_ok-defs.defs) (body_of c.in_ok-inputs.field-0)
          (subst (λ n. n < 2 ^ 26) (sizes_parts fs ds c.last-item.result p) c.requires.small)
          (first_room fs ds c.last-item.result p c.requires.small) (last_room fs ds c.last-item.result p c.requires.small) shorts.0 shorts.1
          (subst (λ (Γ : Scopes). definitions_read Γ.defs (forms_of ds) ≡ Ok (each def_of c.in_ok-defs.defs)) c.new-scopes.ensures c.in_ok-defs.ensures.read)
          (subst (λ (Γ : Scopes). body Γ.defs (form_of c.last-item.result) ≡ Ok (body_of c.in_ok-inputs.field-0)) known c.in_ok-inputs.ensures);
    }

pub returns : goal.returns
returns c =
    let fs = c.args.forms.now in let ds = take (length fs - 1) fs in
    let known = c.in_ok-defs.ensures.known ∙ ap (λ (Γ : Scopes). behind (all_known Γ.defs (forms_of ds))) c.new-scopes.ensures in
    program_is fs ds c.last-item.result (parted fs c.last-item.result c.last-item.result c.in-len1-up.len_at_least c.last-item.is)
    (each def_of c.in_ok-defs.defs) (subst (λ (Γ : Scopes). definitions_read Γ.defs (forms_of ds) ≡ Ok (each def_of c.in_ok-defs.defs)) c.new-scopes.ensures c.in_ok-defs.ensures.read)
    (body_of c.in_ok-inputs.field-0) refl
    (subst (λ (Γ : Scopes). body Γ.defs (form_of c.last-item.result) ≡ Ok (body_of c.in_ok-inputs.field-0)) known c.in_ok-inputs.ensures)
