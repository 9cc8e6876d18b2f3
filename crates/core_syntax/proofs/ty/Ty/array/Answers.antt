use Rattle.std.proofs.Common.{ap, ◌∙◌}
use Rattle.core_syntax.specs.Refine.{ty_of, index_of}
use Rattle.core_syntax.proofs.TyRows.{form_of_arr}
use Rattle.core_syntax.specs.Syntax as syntax
use Rattle.core_syntax.proofs.ty.Ty.array.Goals as goal

pub returns : goal.returns
returns c = form_of_arr c.args.at c.in_ok-element.element c.args.shape ∙ ap (λ t. syntax.Arr c.args.at (ty_of t) (index_of c.args.shape)) c.in_ok-element.ensures
