use Rattle.std.proofs.Common.{rules, refl, sym, ap, ◌∙◌, [], ◌∷◌, Ok}
use Rattle.sexp_reader.specs.Forms.{forms_of}
use Rattle.name_resolve.specs.TypeForms.{pair_sort, pair_sorts}
use Rattle.name_resolve.proofs.TypeLemmas.{before-items}
use Rattle.name_resolve.proofs.Loops.{loop_init, loop_step, loop_refused, loop_end}
use Rattle.name_resolve.proofs.Refusals.{same_answer}
use Rattle.name_resolve.proofs.types.pair_sorts.Goals as goal

pub loop-pair-init : goal.loop-pair-init
loop-pair-init c = loop_init (λ s. s) (λ s ss. s ∷ ss) pair_sorts c.args.pairs.now c.in_ok-read.read.items c.in_ok-read.ensures.items

pub returns-in_err-part : goal.returns-in_err-part
returns-in_err-part c =
    let h = loop_refused (λ s. s) pair_sort pair_sorts [] (λ s ss. s ∷ ss) refl (λ f fs. refl) (pair_sorts (forms_of c.args.pairs.now)) c.args.pairs.now c.loop-pair.pair-index c.loop-pair.read.items c.loop-pair.invariant
    c.pair-item.result c.pair-item.result c.loop-pair-test.true c.pair-item.is c.in_err-part.field-0.0 c.in_err-part.ensures in
    same_answer (λ ss. ss) c.from_residual-in_err-part.result _ (pair_sorts (forms_of c.args.pairs.now)) refl (search rules)

pub loop-pair-preserved : goal.loop-pair-preserved
loop-pair-preserved c =
    loop_step (λ s. s) pair_sort pair_sorts [] (λ s ss. s ∷ ss) refl (λ f fs. refl) (pair_sorts (forms_of c.args.pairs.now)) c.args.pairs.now c.loop-pair.pair-index c.loop-pair.read.items c.loop-pair.invariant
    c.pair-item.result c.pair-item.result c.loop-pair-test.true c.pair-item.is c.in_ok-part.part c.push.new.self.items (search rules) c.in_ok-part.ensures

pub returns : goal.returns
returns c =
    loop_end (λ s. s) pair_sort pair_sorts [] (λ s ss. s ∷ ss) refl (λ f fs. refl) (pair_sorts (forms_of c.args.pairs.now)) c.args.pairs.now c.loop-pair.pair-index c.loop-pair.read.items c.loop-pair.invariant c.loop-pair-test.false
    ∙ ap Ok (before-items c.loop-pair.read.items) ∙ ap Ok (sym c.from_vec.ensures)
