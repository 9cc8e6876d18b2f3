use Rattle.std.proofs.Common.{◌∙◌, refl, sym, ap}
use Rattle.core_syntax.specs.Typing.{is_syntactic_value}
use Rattle.type_check.proofs.trees.ExprParts.{is_array}
use Rattle.type_check.proofs.values.is_value.Goals as goal

pub returns-in-Array : goal.returns-in-Array
returns-in-Array c =
    c.are_values.ensures ∙ sym (ap is_syntactic_value (is_array c.args.e.now c.in-Array.field-0 c.in-Array.field-0 c.in-Array.atoms c.as_slice.result.now refl c.as_slice.ensures c.in-Array.is))
