use Rattle.std.proofs.Common.{◌≡◌, ◌∙◌, refl, sym, ap, subst, [], length, arith}
use Rattle.core_syntax.specs.Lists.{onto, each}
use Rattle.core_syntax.specs.NormTypes.{norm_ty}
use Rattle.core_syntax.specs.Refine.{index_of, ty_of}
use Rattle.core_syntax.specs.Subst.{with_indices}
use Rattle.type_equal.specs.Put.{index_tree}
use Rattle.type_check.specs.Contexts.{IsSound}
use Rattle.type_check.specs.Found.{Found}
use Rattle.type_check.specs.Written.{AreNormalIndicesOf}
use Rattle.type_check.proofs.normal_forms.FormLemmas.{array_read, pi_read, length_each}
use Rattle.type_check.proofs.normal_forms.NotForms.{not_pi as another}
use Rattle.type_check.proofs.normal_forms.Free.{bare, pi_body_small, given_indices_small}
use Rattle.type_check.proofs.exits.IndexAppRule.{not_pi, miscounted, ill_given, applied}
use Rattle.type_check.proofs.applied.apply_indices.Goals as goal

pub returns-then-not-is_product : goal.returns-then-not-is_product
returns-then-not-is_product c Γ e ns scope place found =
    not_pi Γ c.args.at e (each index_of c.args.given.now) (ty_of c.args.callee.now) ns found c.args.callee_at place
    (another (ty_of c.args.callee.now) (ty_of c.get-elem.result.now) c.ty.result.now.at (index_of c.in-Arr.frame)
    (array_read c.args.callee.now c.ty.result.now c.in-Arr.elem c.get-elem.result.now c.in-Arr.frame c.ty.ensures.tree c.in-Arr.is c.get-elem.ensures)
    c.if-not-is_product.ensures)

pub returns-then-given-len : goal.returns-then-given-len
returns-then-given-len c Γ e ns scope place found =
    let form = pi_read c.args.callee.now c.ty.result.now c.in-Arr.elem c.get-elem.result.now c.in-Pi.body c.in-Pi.body c.in-Arr.frame c.in-Pi.bound c.in-Pi.bound
    c.ty.ensures.tree c.ty.ensures.normal c.ty.ensures.measured c.in-Arr.is c.get-elem.ensures c.in-Pi.is refl refl in
    miscounted Γ c.args.at e (each index_of c.args.given.now) ns c.in-Pi.bound (ty_of c.in-Pi.body) (index_of c.in-Arr.frame) (subst (λ t. Found Γ e t ns) form.is found)
    (λ h. let k = length_each index_of c.args.given.now in let m = c.if-given-len.true in omega (arith, c.len.ensures))

pub applied_indices-requires-clause-normal : goal.applied_indices-requires-clause-normal
applied_indices-requires-clause-normal c =
    (pi_read c.args.callee.now c.ty.result.now c.in-Arr.elem c.get-elem.result.now c.in-Pi.body c.get.result.now c.in-Arr.frame c.in-Pi.bound c.as_slice.result.now
    c.ty.ensures.tree c.ty.ensures.normal c.ty.ensures.measured c.in-Arr.is c.get-elem.ensures c.in-Pi.is c.as_slice.ensures c.get.ensures).normal

pub applied_indices-requires-clause-fits : goal.applied_indices-requires-clause-fits
applied_indices-requires-clause-fits c =
    (pi_read c.args.callee.now c.ty.result.now c.in-Arr.elem c.get-elem.result.now c.in-Pi.body c.get.result.now c.in-Arr.frame c.in-Pi.bound c.as_slice.result.now
    c.ty.ensures.tree c.ty.ensures.normal c.ty.ensures.measured c.in-Arr.is c.get-elem.ensures c.in-Pi.is c.as_slice.ensures c.get.ensures).fits

pub applied_indices-requires-clause-body : goal.applied_indices-requires-clause-body
applied_indices-requires-clause-body c =
    let form = pi_read c.args.callee.now c.ty.result.now c.in-Arr.elem c.get-elem.result.now c.in-Pi.body c.get.result.now c.in-Arr.frame c.in-Pi.bound c.as_slice.result.now
    c.ty.ensures.tree c.ty.ensures.normal c.ty.ensures.measured c.in-Arr.is c.get-elem.ensures c.in-Pi.is c.as_slice.ensures c.get.ensures in
    pi_body_small c.args.types c.args.sorts.now c.as_slice.result.now (ty_of c.args.callee.now) c.get.result.now (index_of c.in-Arr.frame) c.requires.room form.few c.requires.sound form.is

pub applied_indices-requires-clause-given : goal.applied_indices-requires-clause-given
applied_indices-requires-clause-given c =
    given_indices_small c.args.types c.args.sorts.now c.as_slice.result.now (each index_of c.args.given.now) c.in-Ok.given.items c.as_slice-in-Ok.result.now c.requires.room
    (c.in-Ok.ensures (bare c.args.types c.args.sorts.now) refl).1 c.as_slice-in-Ok.ensures.value

pub applied_indices-requires-clause-array : goal.applied_indices-requires-clause-array
applied_indices-requires-clause-array c =
    let form = pi_read c.args.callee.now c.ty.result.now c.in-Arr.elem c.get-elem.result.now c.in-Pi.body c.get.result.now c.in-Arr.frame c.in-Pi.bound c.as_slice.result.now
    c.ty.ensures.tree c.ty.ensures.normal c.ty.ensures.measured c.in-Arr.is c.get-elem.ensures c.in-Pi.is c.as_slice.ensures c.get.ensures in
    (subst (IsSound c.args.types (onto c.args.sorts.now [])) form.is c.requires.sound).inside.0

pub applied_indices-requires-clause-frame : goal.applied_indices-requires-clause-frame
applied_indices-requires-clause-frame c =
    (pi_read c.args.callee.now c.ty.result.now c.in-Arr.elem c.get-elem.result.now c.in-Pi.body c.get.result.now c.in-Arr.frame c.in-Pi.bound c.as_slice.result.now
    c.ty.ensures.tree c.ty.ensures.normal c.ty.ensures.measured c.in-Arr.is c.get-elem.ensures c.in-Pi.is c.as_slice.ensures c.get.ensures).small

pub returns-in-Ok : goal.returns-in-Ok
returns-in-Ok c Γ e ns scope place found =
    let form = pi_read c.args.callee.now c.ty.result.now c.in-Arr.elem c.get-elem.result.now c.in-Pi.body c.get.result.now c.in-Arr.frame c.in-Pi.bound c.as_slice.result.now
    c.ty.ensures.tree c.ty.ensures.normal c.ty.ensures.measured c.in-Arr.is c.get-elem.ensures c.in-Pi.is c.as_slice.ensures c.get.ensures in
    let count : length c.args.given.now ≡ length c.as_slice.result.now = let s = ap length c.as_slice.ensures in let m = c.if-given-len.false in omega (arith, s, c.len.ensures) in
    let told = c.in-Ok.ensures Γ scope.sorts_are in
    applied Γ c.args.at e (each index_of c.args.given.now) ns c.as_slice.result.now (ty_of c.get.result.now) (index_of c.in-Arr.frame) (subst (λ t. Found Γ e t ns) form.is found)
    (length_each index_of c.args.given.now ∙ count) c.as_slice-in-Ok.result.now
    (told.0, subst (AreNormalIndicesOf Γ c.as_slice.result.now (each index_of c.args.given.now)) (sym c.as_slice-in-Ok.ensures.value) told.1)
    (norm_ty (with_indices (each index_tree c.as_slice-in-Ok.result.now) (ty_of c.get.result.now))) refl c.applied_indices.result c.applied_indices.ensures

pub returns-in-Err : goal.returns-in-Err
returns-in-Err c Γ e ns scope place found =
    let form = pi_read c.args.callee.now c.ty.result.now c.in-Arr.elem c.get-elem.result.now c.in-Pi.body c.in-Pi.body c.in-Arr.frame c.in-Pi.bound c.as_slice.result.now
    c.ty.ensures.tree c.ty.ensures.normal c.ty.ensures.measured c.in-Arr.is c.get-elem.ensures c.in-Pi.is c.as_slice.ensures refl in
    let count : length c.args.given.now ≡ length c.as_slice.result.now = let s = ap length c.as_slice.ensures in let m = c.if-given-len.false in omega (arith, s, c.len.ensures) in
    ill_given Γ c.args.at e (each index_of c.args.given.now) ns c.as_slice.result.now (ty_of c.in-Pi.body) (index_of c.in-Arr.frame) (subst (λ t. Found Γ e t ns) form.is found)
    c.in-Err.refusal (length_each index_of c.args.given.now ∙ count) (c.in-Err.ensures Γ scope.sorts_are)
