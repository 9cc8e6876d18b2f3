use Rattle.std.proofs.Common.{◌≡◌, [], drop}
use Rattle.core_syntax.specs.Lists.{onto}
use Rattle.core_syntax.specs.Typing.{Context}
use Rattle.type_check.proofs.exits.GivenLemmas.{IndicesLeave}
use Rattle.type_check.proofs.given.given_indices.Given as goal

abbrev pub invariant-loop-place : goal.invariant-loop-place
invariant-loop-place l =
    (Γ : Context) → Γ.sorts ≡ onto l.sorts [] → IndicesLeave Γ l.bound l.given (drop l.place l.bound) (drop l.place l.given) l.all.items
