use Rattle.std.proofs.Common.{◌≡◌, drop}
use Rattle.core_syntax.specs.Typing.{Context}
use Rattle.type_check.specs.Written.{HasScope}
use Rattle.type_check.proofs.trees.ListsWritten.{TypesLeave}
use Rattle.type_check.proofs.written.written_types.Given as goal

abbrev pub invariant-loop-t : goal.invariant-loop-t
invariant-loop-t l =
    (l.sorts.items ≡ l.fn.sorts.items)
    × ((Γ : Context) → HasScope l.types l.fn.sorts.items Γ → TypesLeave Γ l.fn.given (drop l.t-index l.fn.given) l.all.items)
