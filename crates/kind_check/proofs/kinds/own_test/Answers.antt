use Rattle.std.proofs.Common.{sym, ap, ◌∙◌}
use Rattle.core_syntax.specs.declared.index.Sort.TheVariants as sort
use Rattle.core_syntax.specs.Lists.{onto}
use Rattle.core_syntax.specs.Sorts.{is_sort}
use Rattle.kind_check.proofs.KindLemmas.{kind_other, sort_other}
use Rattle.kind_check.proofs.kinds.own_test.Goals as goal

pub returns-then-not-is_atom : goal.returns-then-not-is_atom
returns-then-not-is_atom c =
    kind_other (onto c.args.scope.now c.args.around.now) c.args.elem.now c.args.shape.now (sym c.is_atom.ensures ∙ c.if-not-is_atom.true)

pub returns-then-not-has_sort : goal.returns-then-not-has_sort
returns-then-not-has_sort c =
    sort_other (onto c.args.scope.now c.args.around.now) c.args.elem.now c.args.shape.now (sym c.is_atom.ensures ∙ c.if-not-is_atom.false)
    (sym (ap (is_sort sort.Shape) c.own_sort.ensures) ∙ sym c.has_sort.ensures ∙ c.if-not-has_sort.true)
