use Rattle.std.proofs.Common.{◌≡◌, ap, subst, IfOk}
use Rattle.core_syntax.specs.Lists.{each}
use Rattle.core_syntax.specs.Refine.{index_of, ty_of}
use Rattle.core_syntax.specs.RefineTerms.{cell_of, term_of}
use Rattle.core_syntax.specs.Typed.{atom_type}
use Rattle.typed_prims.specs.ArrayAnswers.{answer_is, gives_single}
use Rattle.typed_prims.proofs.BoxRows.{boxed_is}
use Rattle.typed_prims.proofs.boxes.boxed.Goals as goal

pub returns-in-Ok : goal.returns-in-Ok
returns-in-Ok c = λ v e.
    subst (λ a. IfOk c.boxed_content.result (λ x. answer_is x ≡ gives_single a))
    (boxed_is (atom_type (ty_of c.args.cell.now)) v (each index_of c.args.indices) (each index_of c.as_slice.result.now) (term_of c.in-Ok.content) c.args.dims (each cell_of c.args.atoms.items) e
    (ap (each index_of) c.as_slice.ensures) c.in-Ok.ensures) c.boxed_content.ensures
