use Rattle.std.proofs.Common.{◌≡◌, ◌∙◌, refl, sym, subst, [], length, arith}
use Rattle.core_syntax.specs.Lists.{onto, each}
use Rattle.core_syntax.specs.NormTypes.{norm_ty}
use Rattle.core_syntax.specs.Refine.{index_of, ty_of}
use Rattle.core_syntax.specs.Subst.{with_types}
use Rattle.type_check.specs.Contexts.{IsSound}
use Rattle.type_check.specs.Found.{Found}
use Rattle.type_check.specs.Written.{AreNormalAtomsOf}
use Rattle.type_check.proofs.one_by_one.Loops.{each_inside}
use Rattle.type_check.proofs.normal_forms.FormLemmas.{array_read, forall_read, length_each}
use Rattle.type_check.proofs.normal_forms.NotForms.{not_forall as another}
use Rattle.type_check.proofs.normal_forms.Free.{bare, bare_scope, forall_body_small, given_types_small}
use Rattle.type_check.proofs.exits.TypeAppRule.{not_forall, miscounted, unwritten, applied}
use Rattle.type_check.proofs.applied.apply_types.Goals as goal

pub returns-then-not-is_universal-clause-concludes : goal.returns-then-not-is_universal-clause-concludes
returns-then-not-is_universal-clause-concludes c Γ e ns scope place found =
    not_forall Γ c.args.at e (each ty_of c.args.given.now) (ty_of c.args.callee.now) ns found c.args.callee_at place
    (another (ty_of c.args.callee.now) (ty_of c.get-elem.result.now) c.ty.result.now.at (index_of c.in-Arr.frame)
    (array_read c.args.callee.now c.ty.result.now c.in-Arr.elem c.get-elem.result.now c.in-Arr.frame c.ty.ensures.tree c.in-Arr.is c.get-elem.ensures)
    c.if-not-is_universal.ensures)

pub returns-then-given-count-clause-concludes : goal.returns-then-given-count-clause-concludes
returns-then-given-count-clause-concludes c Γ e ns scope place found =
    let form = forall_read c.args.callee.now c.ty.result.now c.in-Arr.elem c.get-elem.result.now c.in-Forall.body c.in-Forall.body c.in-Arr.frame c.in-Forall.count
    c.ty.ensures.tree c.ty.ensures.normal c.ty.ensures.measured c.in-Arr.is c.get-elem.ensures c.in-Forall.is refl in
    miscounted Γ c.args.at e (each ty_of c.args.given.now) ns c.in-Forall.count (ty_of c.in-Forall.body) (index_of c.in-Arr.frame) (subst (λ t. Found Γ e t ns) form.is found)
    (λ h. let k = length_each ty_of c.args.given.now in let m = c.if-given-count.true in omega arith)

pub applied_types-requires-clause-normal : goal.applied_types-requires-clause-normal
applied_types-requires-clause-normal c =
    (forall_read c.args.callee.now c.ty.result.now c.in-Arr.elem c.get-elem.result.now c.in-Forall.body c.get.result.now c.in-Arr.frame c.in-Forall.count
    c.ty.ensures.tree c.ty.ensures.normal c.ty.ensures.measured c.in-Arr.is c.get-elem.ensures c.in-Forall.is c.get.ensures).normal

pub applied_types-requires-clause-fits : goal.applied_types-requires-clause-fits
applied_types-requires-clause-fits c =
    (forall_read c.args.callee.now c.ty.result.now c.in-Arr.elem c.get-elem.result.now c.in-Forall.body c.get.result.now c.in-Arr.frame c.in-Forall.count
    c.ty.ensures.tree c.ty.ensures.normal c.ty.ensures.measured c.in-Arr.is c.get-elem.ensures c.in-Forall.is c.get.ensures).fits

pub applied_types-requires-clause-body : goal.applied_types-requires-clause-body
applied_types-requires-clause-body c =
    let form = forall_read c.args.callee.now c.ty.result.now c.in-Arr.elem c.get-elem.result.now c.in-Forall.body c.get.result.now c.in-Arr.frame c.in-Forall.count
    c.ty.ensures.tree c.ty.ensures.normal c.ty.ensures.measured c.in-Arr.is c.get-elem.ensures c.in-Forall.is c.get.ensures in
    forall_body_small c.args.types c.in-Forall.count c.args.sorts.now.items (ty_of c.args.callee.now) c.get.result.now (index_of c.in-Arr.frame) c.requires.room form.few c.requires.sound form.is

pub applied_types-requires-clause-given : goal.applied_types-requires-clause-given
applied_types-requires-clause-given c =
    given_types_small c.args.types c.args.sorts.now.items (each ty_of c.args.given.now) c.in-Ok.given.items c.as_slice.result.now c.requires.room
    (c.in-Ok.ensures.written (bare c.args.types c.args.sorts.now.items) (bare_scope c.args.types c.args.sorts.now.items)).1 c.as_slice.ensures.value

pub applied_types-requires-clause-array : goal.applied_types-requires-clause-array
applied_types-requires-clause-array c =
    let form = forall_read c.args.callee.now c.ty.result.now c.in-Arr.elem c.get-elem.result.now c.in-Forall.body c.get.result.now c.in-Arr.frame c.in-Forall.count
    c.ty.ensures.tree c.ty.ensures.normal c.ty.ensures.measured c.in-Arr.is c.get-elem.ensures c.in-Forall.is c.get.ensures in
    (subst (IsSound c.args.types (onto c.args.sorts.now.items [])) form.is c.requires.sound).inside.0

pub applied_types-requires-clause-frame : goal.applied_types-requires-clause-frame
applied_types-requires-clause-frame c =
    (forall_read c.args.callee.now c.ty.result.now c.in-Arr.elem c.get-elem.result.now c.in-Forall.body c.get.result.now c.in-Arr.frame c.in-Forall.count
    c.ty.ensures.tree c.ty.ensures.normal c.ty.ensures.measured c.in-Arr.is c.get-elem.ensures c.in-Forall.is c.get.ensures).small

pub returns-in-Ok-clause-concludes : goal.returns-in-Ok-clause-concludes
returns-in-Ok-clause-concludes c Γ e ns scope place found =
    let form = forall_read c.args.callee.now c.ty.result.now c.in-Arr.elem c.get-elem.result.now c.in-Forall.body c.get.result.now c.in-Arr.frame c.in-Forall.count
    c.ty.ensures.tree c.ty.ensures.normal c.ty.ensures.measured c.in-Arr.is c.get-elem.ensures c.in-Forall.is c.get.ensures in
    let count : length c.args.given.now ≡ c.in-Forall.count = let m = c.if-given-count.false in omega arith in
    let told = c.in-Ok.ensures.written Γ scope in
    applied Γ c.args.at e (each ty_of c.args.given.now) ns c.in-Forall.count (ty_of c.get.result.now) (index_of c.in-Arr.frame) (subst (λ t. Found Γ e t ns) form.is found)
    (length_each ty_of c.args.given.now ∙ count) c.as_slice.result.now (each_inside c.args.types (length c.args.sorts.now.items) (each ty_of c.args.given.now) c.requires.written)
    (told.0, subst (AreNormalAtomsOf Γ (each ty_of c.args.given.now)) (sym c.as_slice.ensures.value) told.1)
    (norm_ty (with_types (each ty_of c.as_slice.result.now) (ty_of c.get.result.now))) refl c.applied_types.result c.applied_types.ensures

pub returns-in-Err-clause-concludes : goal.returns-in-Err-clause-concludes
returns-in-Err-clause-concludes c Γ e ns scope place found =
    let form = forall_read c.args.callee.now c.ty.result.now c.in-Arr.elem c.get-elem.result.now c.in-Forall.body c.in-Forall.body c.in-Arr.frame c.in-Forall.count
    c.ty.ensures.tree c.ty.ensures.normal c.ty.ensures.measured c.in-Arr.is c.get-elem.ensures c.in-Forall.is refl in
    let count : length c.args.given.now ≡ c.in-Forall.count = let m = c.if-given-count.false in omega arith in
    unwritten Γ c.args.at e (each ty_of c.args.given.now) ns c.in-Forall.count (ty_of c.in-Forall.body) (index_of c.in-Arr.frame) (subst (λ t. Found Γ e t ns) form.is found)
    c.in-Err.refusal (length_each ty_of c.args.given.now ∙ count) (c.in-Err.ensures.written Γ scope)
