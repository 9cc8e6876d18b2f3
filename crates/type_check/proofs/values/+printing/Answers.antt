use Rattle.std.proofs.Common.{refl, sym, ap, ◌∙◌}
use Rattle.core_syntax.specs.Typing.{is_printable as prints, is_printable_atom as prints_atom}
use Rattle.core_syntax.proofs.TyRows.{is_sigma, is_arr}
use Rattle.type_check.proofs.values.+printing.Goals as goal

pub is_printable-returns-in-Arr : goal.is_printable-returns-in-Arr
is_printable-returns-in-Arr t c = c.is_printable_atom.ensures ∙ sym (ap prints (is_arr c.args.t.now _ _ c.in-Arr.field-1 c.get.ensures c.in-Arr.is))

pub is_printable_atom-returns-in-Sigma : goal.is_printable_atom-returns-in-Sigma
is_printable_atom-returns-in-Sigma t c =
    c.is_printable.ensures ∙ sym (ap prints_atom (is_sigma c.args.t.now c.in-Sigma.field-0 c.in-Sigma.field-0 _ _ refl c.get.ensures c.in-Sigma.is))
