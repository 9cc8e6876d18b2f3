use Rattle.std.proofs.Common.{◌≡◌, ◌++◌, drop}
use Rattle.core_syntax.specs.Refine.{indices_of}
use Rattle.core_syntax.specs.Norm.{index_texts, spaced}
use Rattle.type_equal.proofs.show.+index.Given as goal

abbrev pub invariant-put_parts-loop-part : goal.invariant-put_parts-loop-part
invariant-put_parts-loop-part l =
    l.out.items ++ spaced (index_texts l.binders (indices_of (drop l.part-index l.parts))) ≡ l.initial.out.items ++ spaced (index_texts l.binders (indices_of l.parts))
