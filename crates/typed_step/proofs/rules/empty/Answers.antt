use Rattle.std.proofs.Common.{sym, ◌∙◌}
use Rattle.core_syntax.specs.Refine.{ty_of}
use Rattle.core_syntax.specs.Typed.{atom_type, closed, shape_of}
use Rattle.core_syntax.specs.Value.{shape_val}
use Rattle.typed_step.proofs.EmptyRules.{empty_large}
use Rattle.typed_step.proofs.rules.empty.Goals as goal

pub returns-in-None : goal.returns-in-None
returns-in-None c =
    let t = ty_of c.args.cell.now in
    empty_large c.args.frame.now (shape_val closed (shape_of t)) (atom_type t) (sym c.in-None.is ∙ c.in_ok-type_dims.ensures)
