use Rattle.std.proofs.Common.{◌≡◌, ◌∙◌, refl, sym, ap, subst, length, None, arith}
use Rattle.core_syntax.specs.Lists.{each}
use Rattle.core_syntax.specs.NormTypes.{measure_ty}
use Rattle.core_syntax.specs.Refine.{index_of, ty_of}
use Rattle.core_syntax.proofs.TyRows.{is_sigma}
use Rattle.type_check.proofs.normal_forms.FormLemmas.{sum_fits, sum_few, length_each}
use Rattle.type_check.proofs.normal_forms.Free.{bare, sum_body_small, given_indices_small}
use Rattle.type_check.proofs.exits.BoxRule.{sum_ill_given, content_told}
use Rattle.type_check.specs.Written.{AreNormalIndicesOf}
use Rattle.type_check.proofs.boxes.box_content.Goals as goal

pub content_type-requires-clause-fits : goal.content_type-requires-clause-fits
content_type-requires-clause-fits c =
    let form = is_sigma c.args.t.now c.in-Sigma.bound c.as_slice.result.now c.in-Sigma.body c.get.result.now c.as_slice.ensures c.get.ensures c.in-Sigma.is in
    sum_fits c.args.t.now.at c.as_slice.result.now (ty_of c.get.result.now) (subst (λ t. measure_ty t ≡ None) form c.requires.fits)

pub content_type-requires-clause-body : goal.content_type-requires-clause-body
content_type-requires-clause-body c =
    let form = is_sigma c.args.t.now c.in-Sigma.bound c.as_slice.result.now c.in-Sigma.body c.get.result.now c.as_slice.ensures c.get.ensures c.in-Sigma.is in
    sum_body_small c.args.types c.args.sorts.now c.as_slice.result.now (ty_of c.args.t.now) c.args.t.now.at (ty_of c.get.result.now) c.requires.room
    (sum_few c.args.t.now.at c.as_slice.result.now (ty_of c.get.result.now) (subst (λ t. measure_ty t ≡ None) form c.requires.fits)) c.requires.formed form

pub content_type-requires-clause-given : goal.content_type-requires-clause-given
content_type-requires-clause-given c =
    given_indices_small c.args.types c.args.sorts.now c.as_slice.result.now (each index_of c.args.given.now) c.in-Ok.given.items c.as_slice-in-Ok.result.now c.requires.room
    (c.in-Ok.ensures (bare c.args.types c.args.sorts.now) refl).1 c.as_slice-in-Ok.ensures.value

pub returns-in-Ok : goal.returns-in-Ok
returns-in-Ok c Γ scope tested atom =
    let form = is_sigma c.args.t.now c.in-Sigma.bound c.as_slice.result.now c.in-Sigma.body c.get.result.now c.as_slice.ensures c.get.ensures c.in-Sigma.is in
    let count : length c.args.given.now ≡ length c.as_slice.result.now = let s = ap length c.as_slice.ensures in omega (arith, s, c.len.ensures) in
    let told = c.in-Ok.ensures Γ scope.sorts_are in
    content_told Γ c.args.at (each index_of c.args.given.now) (ty_of c.args.t.now) c.args.t.now.at c.as_slice.result.now (ty_of c.get.result.now) form tested
    (length_each index_of c.args.given.now ∙ count) atom c.as_slice-in-Ok.result.now
    (told.0, subst (AreNormalIndicesOf Γ c.as_slice.result.now (each index_of c.args.given.now)) (sym c.as_slice-in-Ok.ensures.value) told.1)
    c.content_type.result c.content_type.ensures

pub returns-in-Err : goal.returns-in-Err
returns-in-Err c Γ scope tested atom e =
    let form = is_sigma c.args.t.now c.in-Sigma.bound c.as_slice.result.now c.in-Sigma.body c.in-Sigma.body c.as_slice.ensures refl c.in-Sigma.is in
    let count : length c.args.given.now ≡ length c.as_slice.result.now = let s = ap length c.as_slice.ensures in omega (arith, s, c.len.ensures) in
    sum_ill_given Γ c.args.at (each index_of c.args.given.now) (ty_of c.args.t.now) c.args.t.now.at c.as_slice.result.now (ty_of c.in-Sigma.body) form tested
    (length_each index_of c.args.given.now ∙ count) e c.in-Err.refusal (c.in-Err.ensures Γ scope.sorts_are)
