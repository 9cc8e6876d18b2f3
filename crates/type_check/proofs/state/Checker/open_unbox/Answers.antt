use Rattle.std.proofs.Common.{sym, ap, ◌∙◌, []}
use Rattle.core_syntax.specs.Lists.{onto}
use Rattle.type_check.specs.State.{State}
use Rattle.type_check.proofs.state.Checker.open_unbox.Goals as goal

pub returns-clause-opens : goal.returns-clause-opens
returns-clause-opens c = λ Γ e ns h.
    c.open_unbox.ensures.opens Γ e ns
    (record { types_are = h.types_are ∙ sym (ap (λ (s : State). s.types) c.self.view_is); sorts_are = h.sorts_are ∙ sym (ap (λ (s : State). onto s.sorts []) c.self.view_is) })
