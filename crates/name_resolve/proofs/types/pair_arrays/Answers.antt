use Rattle.std.proofs.Common.{rules, ◌≡◌, refl, sym, ap, subst, ◌∙◌, Ok}
use Rattle.sexp_reader.specs.Forms.{form_of, forms_of, form_size}
use Rattle.name_resolve.specs.Answers.{Refuses}
use Rattle.name_resolve.specs.Scopes.{HasRoom}
use Rattle.core_syntax.specs.Refine.{ty_of, tys_of}
use Rattle.core_syntax.specs.Syntax.{no_tys, more_tys}
use Rattle.name_resolve.specs.TypeForms.{pair_array, pair_arrays}
use Rattle.name_resolve.proofs.TypeLemmas.{before-none}
use Rattle.name_resolve.proofs.Loops.{loop_init, loop_step, loop_refused, loop_end}
use Rattle.name_resolve.proofs.Refusals.{same_answer}
use Rattle.name_resolve.proofs.RoomLemmas.{room_less, item_size}
use Rattle.name_resolve.proofs.types.pair_arrays.Goals as goal

pub loop-pair-init : goal.loop-pair-init
loop-pair-init c = (refl, loop_init ty_of more_tys (pair_arrays c.args.scopes.now) c.args.pairs.now c.in_ok-read.read.items c.in_ok-read.ensures.items)

pub pair_array-requires : goal.pair_array-requires
pair_array-requires c =
    let s = item_size c.loop-pair.pair-index c.args.pairs.now c.pair-item.result c.pair-item.result c.loop-pair-test.true c.pair-item.is in
    subst (λ Γ. HasRoom Γ (form_size (form_of c.pair-item.result))) (sym c.loop-pair.invariant.0) (room_less c.args.scopes.now _ _ c.requires s)

pub returns-in_err-part-clause-read : goal.returns-in_err-part-clause-read
returns-in_err-part-clause-read c =
    let h = loop_refused ty_of (pair_array c.args.scopes.now) (pair_arrays c.args.scopes.now) no_tys more_tys refl (λ f fs. refl) ((pair_arrays c.args.scopes.now) (forms_of c.args.pairs.now)) c.args.pairs.now c.loop-pair.pair-index c.loop-pair.read.items c.loop-pair.invariant.1
    c.pair-item.result c.pair-item.result c.loop-pair-test.true c.pair-item.is c.in_err-part.field-0.0 (subst (λ Γ. Refuses c.in_err-part.field-0.0 (pair_array Γ (form_of c.pair-item.result))) c.loop-pair.invariant.0 c.in_err-part.ensures.read) in
    same_answer tys_of c.from_residual-in_err-part.result _ ((pair_arrays c.args.scopes.now) (forms_of c.args.pairs.now)) refl (search rules)

pub loop-pair-preserved : goal.loop-pair-preserved
loop-pair-preserved c = (
  c.in_ok-part.ensures.same ∙ c.loop-pair.invariant.0,
  loop_step ty_of (pair_array c.args.scopes.now) (pair_arrays c.args.scopes.now) no_tys more_tys refl (λ f fs. refl) ((pair_arrays c.args.scopes.now) (forms_of c.args.pairs.now)) c.args.pairs.now c.loop-pair.pair-index c.loop-pair.read.items c.loop-pair.invariant.1
      c.pair-item.result c.pair-item.result c.loop-pair-test.true c.pair-item.is c.in_ok-part.part c.push.new.self.items (search rules) (subst (λ Γ. pair_array Γ (form_of c.pair-item.result) ≡ Ok (ty_of c.in_ok-part.part)) c.loop-pair.invariant.0 c.in_ok-part.ensures.read),
)

pub returns-clause-read : goal.returns-clause-read
returns-clause-read c =
    loop_end ty_of (pair_array c.args.scopes.now) (pair_arrays c.args.scopes.now) no_tys more_tys refl (λ f fs. refl) ((pair_arrays c.args.scopes.now) (forms_of c.args.pairs.now)) c.args.pairs.now c.loop-pair.pair-index c.loop-pair.read.items c.loop-pair.invariant.1 c.loop-pair-test.false
    ∙ ap Ok (before-none c.loop-pair.read.items) ∙ ap (λ ts. Ok (tys_of ts)) (sym c.from_vec.ensures)

pub returns-clause-same : goal.returns-clause-same
returns-clause-same c = c.loop-pair.invariant.0
