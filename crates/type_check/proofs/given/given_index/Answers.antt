use Rattle.std.proofs.Common.{◌∙◌, sym, []}
use Rattle.core_syntax.specs.Lists.{onto}
use Rattle.core_syntax.specs.Refine.{index_of}
use Rattle.core_syntax.proofs.TreeRows.{at_form}
use Rattle.type_check.proofs.exits.GivenLemmas.{of_another, of_this, sorted_given}
use Rattle.type_check.proofs.given.given_index.Goals as goal

pub returns-then-are_same : goal.returns-then-are_same
returns-then-are_same c =
    sorted_given (onto c.args.sorts.now []) c.args.sort c.args.i.now
    (of_this (onto c.args.sorts.now []) c.in-Ok.own c.args.sort (index_of c.args.i.now) c.in-Ok.ensures.sorted (sym c.are_same.ensures ∙ c.if-are_same.true))
    c.normal_index.result c.normal_index.ensures

pub returns-else-are_same : goal.returns-else-are_same
returns-else-are_same c =
    of_another (onto c.args.sorts.now []) c.in-Ok.own c.args.sort (index_of c.args.i.now) c.args.i.now.at c.in-Ok.ensures.sorted (sym c.are_same.ensures ∙ c.if-are_same.false)
    (sym (at_form c.args.i.now.at c.args.i.now.form))
