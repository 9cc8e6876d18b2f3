use Rattle.std.specs.Prelude.{OnOk}
use Rattle.std.proofs.Common.{◌≡◌, sym, ap, subst, ◌∙◌, length, ◌<◌, ◌^◌, ◌++◌, ◌∷◌, []}
use Rattle.type_check.specs.State.{State, bound_at}
use Rattle.type_check.proofs.binders.enter_box.Goals as goal

pub enter_term-requires : goal.enter_term-requires
enter_term-requires c = subst (λ (s : State). length s.sorts < 2 ^ 31) (sym c.in-Ok.ensures.entered) c.requires

pub returns-in-Ok-clause-entered : goal.returns-in-Ok-clause-entered
returns-in-Ok-clause-entered c =
    subst (λ (s : State). OnOk c.enter_term.result (c.enter_term.new.self ≡ record s { terms = s.terms ++ bound_at s c.args.content ∷ [] })) c.in-Ok.ensures.entered c.enter_term.ensures.entered
