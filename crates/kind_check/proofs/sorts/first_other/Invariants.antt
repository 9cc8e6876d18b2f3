use Rattle.std.proofs.Common.{◌≡◌, drop}
use Rattle.core_syntax.specs.Lists.{onto}
use Rattle.core_syntax.specs.Refine.{indices_of}
use Rattle.core_syntax.specs.Sorts.{own_blame}
use Rattle.kind_check.proofs.sorts.first_other.Given as goal

abbrev pub invariant-loop-part : goal.invariant-loop-part
invariant-loop-part l =
    own_blame (onto l.scope l.around) l.want (indices_of l.fn.parts) ≡ own_blame (onto l.scope l.around) l.want (indices_of (drop l.part-index l.fn.parts))
