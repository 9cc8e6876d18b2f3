use Rattle.std.proofs.Common.{◌≡◌, ◌∙◌, ap, subst, IfOk, ◌^◌, ◌+◌, min}
use Rattle.core_syntax.specs.Lists.{each, product}
use Rattle.core_syntax.specs.Refine.{ty_of}
use Rattle.core_syntax.specs.RefineTerms.{cell_of, term_of}
use Rattle.core_syntax.specs.Rules.{atoms_of}
use Rattle.core_syntax.specs.Typed.{typed_rules}
use Rattle.prim_kernels.specs.Kernels.{formed_dims}
use Rattle.typed_prims.specs.ArrayAnswers.{answer_is}
use Rattle.typed_prims.specs.Boxes.{wanted}
use Rattle.typed_prims.proofs.BoxRows.{formed_count, iota_gives, iota_traps}
use Rattle.typed_prims.proofs.boxes.iota.Goals as goal

pub returns-in-None : goal.returns-in-None
returns-in-None c =
    iota_traps (ty_of c.args.cell.now) (each wanted (atoms_of typed_rules (term_of c.args.q.now))) c.in_ok-asked_dims.field-0
    (c.in_ok-asked_dims.ensures ∙ ap (λ xs. formed_dims (each wanted xs)) c.atoms.ensures) c.in-None.is

pub returns-in_ok-atoms-in-Some : goal.returns-in_ok-atoms-in-Some
returns-in_ok-atoms-in-Some c =
    let r = ty_of c.args.cell.now in
    let q = each wanted (atoms_of typed_rules (term_of c.args.q.now)) in
    let ds = c.in-Some.dims in
    let o = c.in_ok-asked_dims.field-0 in
    let asked = c.in_ok-asked_dims.ensures ∙ ap (λ xs. formed_dims (each wanted xs)) c.atoms.ensures in
    let sized = formed_count r q ds o c.count.result asked c.in-Some.is (c.count.ensures ∙ ap (λ d. min (product d) (2 ^ 24 + 1)) c.as_slice.ensures) in
    subst (λ m. IfOk c.boxed_by_dims.result (λ x. answer_is x ≡ m))
    (iota_gives r q ds o c.count.result asked c.in-Some.is sized (each cell_of c.in_ok-atoms-in-Some.atoms.items) c.in_ok-atoms-in-Some.ensures) c.boxed_by_dims.ensures
