use Rattle.std.proofs.Common.{◌≡◌, sym, ◌∙◌, Some}
use Rattle.core_syntax.specs.Lists.{onto}
use Rattle.core_syntax.specs.Refine.{index_of}
use Rattle.core_syntax.specs.Sorts.{inner_blame}
use Rattle.kind_check.proofs.SortLemmas.{sorted_from, sorted_to, own_made}
use Rattle.kind_check.proofs.sorts.sort_in.Goals as goal

pub returns-in-Some-clause-unsorted : goal.returns-in-Some-clause-unsorted
returns-in-Some-clause-unsorted c = λ s h.
    let none = (sorted_to (onto c.args.scope.now c.args.around.now) s (index_of c.args.i.now) h).1 in
    let some : Some (14, c.in-Some.span) ≡ inner_blame (onto c.args.scope.now c.args.around.now) (index_of c.args.i.now) = c.in-Some.ensures in
    cc

pub unreachable-requires : goal.unreachable-requires
unreachable-requires c = own_made (onto c.args.scope.now c.args.around.now) (index_of c.args.i.now) c.requires (sym c.own_sort.ensures ∙ c.in-None.is)

pub returns-clause-sorted : goal.returns-clause-sorted
returns-clause-sorted c =
    sorted_from (onto c.args.scope.now c.args.around.now) c.in-Some-own_sort.sort (index_of c.args.i.now) (sym c.own_sort.ensures ∙ c.in-Some-own_sort.is) (sym c.in_default.ensures)
