use Rattle.std.proofs.Common.{sym, ap, ◌∙◌, []}
use Rattle.core_syntax.specs.Lists.{onto}
use Rattle.type_check.specs.State.{State}
use Rattle.type_check.proofs.state.Checker.written_atom.Goals as goal

pub returns-clause-written : goal.returns-clause-written
returns-clause-written c = λ Γ h.
    c.written_atom.ensures.written Γ
    (record { types_are = h.types_are ∙ sym (ap (λ (s : State). s.types) c.self.view_is); sorts_are = h.sorts_are ∙ sym (ap (λ (s : State). onto s.sorts []) c.self.view_is) })
