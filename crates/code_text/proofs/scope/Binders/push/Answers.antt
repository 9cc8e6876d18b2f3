use Rattle.std.proofs.Common.{arith, reverse}
use Rattle.std.proofs.lemmas.List.{length-reverse}
use Rattle.code_text.proofs.types.Stack.{dims_few}
use Rattle.code_text.proofs.scope.Binders.push.Goals as goal

pub overflow_add-dims : goal.overflow_add-dims
overflow_add-dims c =
    let sorts = c.self.inside.sorts in omega (arith, c.self.invariant, dims_few (reverse sorts.items), length-reverse sorts.items, sorts.ok.0, sorts.small)
