use Rattle.std.proofs.Common.{◌≡◌, subst, IfOk}
use Rattle.core_syntax.specs.Arrays.{array}
use Rattle.core_syntax.specs.Delta.{gives_box}
use Rattle.core_syntax.specs.Lists.{each}
use Rattle.core_syntax.specs.Refine.{ty_of}
use Rattle.core_syntax.specs.RefineTerms.{cell_of}
use Rattle.core_syntax.specs.Rules.{atom_rules}
use Rattle.core_syntax.specs.Terms.{DimValue}
use Rattle.core_syntax.specs.Typed.{typed_rules}
use Rattle.typed_prims.specs.ArrayAnswers.{answer_is}
use Rattle.typed_prims.proofs.boxes.raveled.Goals as goal

pub returns : goal.returns
returns c =
    subst (λ m. IfOk c.boxed_by_count.result (λ x. answer_is x ≡ m))
    (λ i. gives_box (atom_rules typed_rules (ty_of c.args.cell.now)) (DimValue c.args.count) (array (c.in_ok-dims.ensures i) (each cell_of (c.in_ok-atoms.ensures i)))) c.boxed_by_count.ensures
