use Rattle.std.proofs.Common.{◌≡◌, refl, ap, subst, length, arith}
use Rattle.core_syntax.specs.Refine.{index_of, ty_of}
use Rattle.type_check.specs.Found.{Found}
use Rattle.type_check.proofs.normal_forms.FormLemmas.{array_read, sigma_read}
use Rattle.type_check.proofs.normal_forms.NotForms.{not_sigma as another}
use Rattle.type_check.proofs.normal_forms.Free.{bare, bare_scope, written_moves}
use Rattle.type_check.proofs.exits.UnboxRule.{no_boxes, miscounted, unwritten, opens_told}
use Rattle.type_check.proofs.boxes.open_unbox.Goals as goal

pub returns-then-not-is_sum-clause-opens : goal.returns-then-not-is_sum-clause-opens
returns-then-not-is_sum-clause-opens c Γ e ns scope place found b =
    no_boxes Γ c.args.at c.args.count e (ty_of c.args.cell.now) b (ty_of c.args.boxes.now) ns found c.args.boxes_at place
    (another (ty_of c.args.boxes.now) (ty_of c.get-elem.result.now) c.ty.result.now.at (index_of c.in-Arr._frame)
    (array_read c.args.boxes.now c.ty.result.now c.in-Arr.elem c.get-elem.result.now c.in-Arr._frame c.ty.ensures.tree c.in-Arr.is c.get-elem.ensures)
    c.if-not-is_sum.ensures)

pub returns-then-count-len-clause-opens : goal.returns-then-count-len-clause-opens
returns-then-count-len-clause-opens c Γ e ns scope place found b =
    let form = sigma_read c.args.boxes.now c.ty.result.now c.in-Arr.elem c.get-elem.result.now c.in-Sigma.body c.in-Sigma.body c.in-Arr._frame c.in-Sigma.bound c.in-Sigma.bound
    c.ty.ensures.tree c.ty.ensures.normal c.ty.ensures.measured c.in-Arr.is c.get-elem.ensures c.in-Sigma.is refl refl in
    miscounted Γ c.args.at c.args.count e (ty_of c.args.cell.now) b ns c.in-Sigma.bound (ty_of c.in-Sigma.body) (index_of c.in-Arr._frame) (subst (λ t. Found Γ e t ns) form.is found)
    (λ h. let m = c.if-count-len.true in omega (arith, c.len.ensures))

pub opened_unbox-requires-clause-fits : goal.opened_unbox-requires-clause-fits
opened_unbox-requires-clause-fits c =
    (sigma_read c.args.boxes.now c.ty.result.now c.in-Arr.elem c.get-elem.result.now c.in-Sigma.body c.get.result.now c.in-Arr._frame c.in-Sigma.bound c.as_slice.result.now
    c.ty.ensures.tree c.ty.ensures.normal c.ty.ensures.measured c.in-Arr.is c.get-elem.ensures c.in-Sigma.is c.as_slice.ensures c.get.ensures).fits

pub opened_unbox-requires-clause-few : goal.opened_unbox-requires-clause-few
opened_unbox-requires-clause-few c =
    (sigma_read c.args.boxes.now c.ty.result.now c.in-Arr.elem c.get-elem.result.now c.in-Sigma.body c.get.result.now c.in-Arr._frame c.in-Sigma.bound c.as_slice.result.now
    c.ty.ensures.tree c.ty.ensures.normal c.ty.ensures.measured c.in-Arr.is c.get-elem.ensures c.in-Sigma.is c.as_slice.ensures c.get.ensures).few

pub opened_unbox-requires-clause-free : goal.opened_unbox-requires-clause-free
opened_unbox-requires-clause-free c =
    let form = sigma_read c.args.boxes.now c.ty.result.now c.in-Arr.elem c.get-elem.result.now c.in-Sigma.body c.get.result.now c.in-Arr._frame c.in-Sigma.bound c.as_slice.result.now
    c.ty.ensures.tree c.ty.ensures.normal c.ty.ensures.measured c.in-Arr.is c.get-elem.ensures c.in-Sigma.is c.as_slice.ensures c.get.ensures in
    written_moves c.args.types (length c.as_slice.result.now) c.args.sorts.now.items (ty_of c.args.cell.now) (ty_of c.in-Ok.cell) c.requires.room form.few
    (c.in-Ok.ensures.written (bare c.args.types c.args.sorts.now.items) (bare_scope c.args.types c.args.sorts.now.items)).1

pub returns-in-Ok-clause-opens : goal.returns-in-Ok-clause-opens
returns-in-Ok-clause-opens c Γ e ns scope place found =
    let form = sigma_read c.args.boxes.now c.ty.result.now c.in-Arr.elem c.get-elem.result.now c.in-Sigma.body c.get.result.now c.in-Arr._frame c.in-Sigma.bound c.as_slice.result.now
    c.ty.ensures.tree c.ty.ensures.normal c.ty.ensures.measured c.in-Arr.is c.get-elem.ensures c.in-Sigma.is c.as_slice.ensures c.get.ensures in
    let count : c.args.count ≡ length c.as_slice.result.now = let s = ap length c.as_slice.ensures in let m = c.if-count-len.false in omega (arith, s, c.len.ensures) in
    opens_told Γ c.args.at c.args.count e (ty_of c.args.cell.now) (ty_of c.args.boxes.now) c.as_slice.result.now (ty_of c.get.result.now) (index_of c.in-Arr._frame) c.in-Ok.cell form.is form.normal count
    (c.in-Ok.ensures.written Γ scope) c.opened_unbox.result c.opened_unbox.ensures.sorts c.opened_unbox.ensures.content c.opened_unbox.ensures.cell c.opened_unbox.ensures.expected c.opened_unbox.ensures.memory

pub returns-in-Err-clause-opens : goal.returns-in-Err-clause-opens
returns-in-Err-clause-opens c Γ e ns scope place found b =
    let form = sigma_read c.args.boxes.now c.ty.result.now c.in-Arr.elem c.get-elem.result.now c.in-Sigma.body c.in-Sigma.body c.in-Arr._frame c.in-Sigma.bound c.in-Sigma.bound
    c.ty.ensures.tree c.ty.ensures.normal c.ty.ensures.measured c.in-Arr.is c.get-elem.ensures c.in-Sigma.is refl refl in
    let count : c.args.count ≡ length c.in-Sigma.bound = let m = c.if-count-len.false in omega (arith, c.len.ensures) in
    unwritten Γ c.args.at c.args.count e (ty_of c.args.cell.now) b ns c.in-Sigma.bound (ty_of c.in-Sigma.body) (index_of c.in-Arr._frame) (subst (λ t. Found Γ e t ns) form.is found)
    c.in-Err.refusal count (c.in-Err.ensures.written Γ scope)
