use Rattle.std.proofs.Common.{◌≡◌, drop}
use Rattle.core_syntax.specs.Lists.{onto}
use Rattle.core_syntax.specs.Refine.{indices_of}
use Rattle.core_syntax.specs.Sorts.{inners_blame}
use Rattle.kind_check.proofs.sorts.+blame.Given as goal

abbrev pub invariant-first_inside_each-loop-part : goal.invariant-first_inside_each-loop-part
invariant-first_inside_each-loop-part l =
    inners_blame (onto l.scope l.around) (indices_of l.fn.parts) ≡ inners_blame (onto l.scope l.around) (indices_of (drop l.part-index l.fn.parts))
