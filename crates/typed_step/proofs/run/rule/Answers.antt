use Rattle.std.proofs.Common.{◌≡◌, subst, IfOk}
use Rattle.core_syntax.specs.Lists.{each}
use Rattle.core_syntax.specs.RefineTerms.{term_of}
use Rattle.typed_prims.specs.Outcomes.{move_of}
use Rattle.typed_step.proofs.TreeRules.{frame_fires, app_fires, type_app_fires, index_app_fires, unbox_fires}
use Rattle.typed_step.proofs.run.rule.Goals as goal

pub returns-in-Frame : goal.returns-in-Frame
returns-in-Frame c =
    subst (λ m. IfOk c.collapse.result (λ o. move_of o ≡ m))
    (frame_fires (each term_of c.args.defs.now) c.args.term.now c.in-Frame.dims _ c.in-Frame.cells _ c.in-Frame.cell c.in-Frame.is c.as_slice.ensures c.as_slice-in-Frame.ensures) c.collapse.ensures

pub returns-in-App : goal.returns-in-App
returns-in-App c =
    subst (λ m. IfOk c.apply.result (λ o. move_of o ≡ m))
    (app_fires (each term_of c.args.defs.now) c.args.term.now c.in-App.function _ c.in-App.args _ c.in-App.cells _ c.in-App.answer c.in-App.is c.get.ensures c.as_slice-in-App.ensures c.as_slice-in-App-2.ensures) c.apply.ensures

pub returns-in-TypeApp : goal.returns-in-TypeApp
returns-in-TypeApp c =
    subst (λ m. IfOk c.apply_types.result (λ o. move_of o ≡ m))
    (type_app_fires (each term_of c.args.defs.now) c.args.term.now c.in-TypeApp.function _ c.in-TypeApp.types _ c.in-TypeApp.answer c.in-TypeApp.is c.get-in-TypeApp.ensures c.as_slice-in-TypeApp.ensures) c.apply_types.ensures

pub returns-in-IndexApp : goal.returns-in-IndexApp
returns-in-IndexApp c =
    subst (λ m. IfOk c.apply_indices.result (λ o. move_of o ≡ m))
    (index_app_fires (each term_of c.args.defs.now) c.args.term.now c.in-IndexApp.function _ c.in-IndexApp.indices _ c.in-IndexApp.answer c.in-IndexApp.is c.get-in-IndexApp.ensures c.as_slice-in-IndexApp.ensures) c.apply_indices.ensures

pub returns-in-Unbox : goal.returns-in-Unbox
returns-in-Unbox c =
    subst (λ m. IfOk c.unbox.result (λ o. move_of o ≡ m))
    (unbox_fires (each term_of c.args.defs.now) c.args.term.now c.in-Unbox.sorts _ c.in-Unbox.boxed _ c.in-Unbox.body _ c.in-Unbox.answer c.in-Unbox.is c.as_slice-in-Unbox.ensures c.get-in-Unbox.ensures c.get-in-Unbox-2.ensures) c.unbox.ensures
