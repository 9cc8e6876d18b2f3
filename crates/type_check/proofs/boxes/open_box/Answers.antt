use Rattle.std.proofs.Common.{◌∙◌, sym, subst, []}
use Rattle.core_syntax.specs.Lists.{onto, each}
use Rattle.core_syntax.specs.Kinds.{IsWellFormed}
use Rattle.core_syntax.specs.Refine.{index_of, ty_of}
use Rattle.type_check.proofs.normal_forms.Free.{bare, bare_scope}
use Rattle.type_check.proofs.trees.WrittenLemmas.{rescoped}
use Rattle.type_check.proofs.exits.BoxRule.{ill_written}
use Rattle.type_check.proofs.boxes.open_box.Goals as goal

pub box_content-requires-clause-fits : goal.box_content-requires-clause-fits
box_content-requires-clause-fits c = (c.in-Ok.ensures.written (bare c.args.types c.args.sorts.now.items) (bare_scope c.args.types c.args.sorts.now.items)).0.1

pub box_content-requires-clause-formed : goal.box_content-requires-clause-formed
box_content-requires-clause-formed c =
    subst (λ ss. IsWellFormed c.args.types (onto ss []) (ty_of c.args.t.now)) (sym (c.as_slice.ensures.value ∙ c.in-Ok.ensures.kept))
    (c.in-Ok.ensures.written (bare c.args.types c.args.sorts.now.items) (bare_scope c.args.types c.args.sorts.now.items)).1.0.1

pub returns-in-Ok-box_content-clause-opens : goal.returns-in-Ok-box_content-clause-opens
returns-in-Ok-box_content-clause-opens c Γ scope =
    let told = c.in-Ok.ensures.written Γ scope in
    c.in-Ok-box_content.ensures Γ (rescoped c.args.types c.args.sorts.now.items c.as_slice.result.now Γ (c.as_slice.ensures.value ∙ c.in-Ok.ensures.kept) scope) told.0 told.1.0 c.in-Ok.ty told.1.1

pub returns-in-Err-box_content-clause-opens : goal.returns-in-Err-box_content-clause-opens
returns-in-Err-box_content-clause-opens c Γ scope =
    let told = c.in-Ok.ensures.written Γ scope in
    c.in-Err-box_content.ensures Γ (rescoped c.args.types c.args.sorts.now.items c.as_slice.result.now Γ (c.as_slice.ensures.value ∙ c.in-Ok.ensures.kept) scope) told.0 told.1.0

pub returns-in-Err-clause-opens : goal.returns-in-Err-clause-opens
returns-in-Err-clause-opens c Γ scope e = ill_written Γ c.args.at (each index_of c.args.given.now) (ty_of c.args.t.now) e c.in-Err.refusal (c.in-Err.ensures.written Γ scope)
