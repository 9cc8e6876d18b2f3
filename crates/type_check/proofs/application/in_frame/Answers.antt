use Rattle.std.proofs.Common.{subst}
use Rattle.core_syntax.specs.Refine.{ty_of, tys_of}
use Rattle.core_syntax.specs.Norm.{word_tree}
use Rattle.core_syntax.specs.Notes.{app_note}
use Rattle.type_check.specs.Forms.{Follows}
use Rattle.type_check.proofs.trees.ArrayLemmas.{framed_one}
use Rattle.type_check.proofs.application.in_frame.Goals as goal

pub returns-in-Ok : goal.returns-in-Ok
returns-in-Ok c = λ t framed.
    subst (λ t. Follows c.args.at t (app_note (tys_of c.args.function.now.inputs.now) (ty_of c.args.function.now.output.now)) c.noted.result)
    (framed_one (word_tree c.args.frame.now) (ty_of c.args.function.now.output.now) (ty_of c.in-Ok.ty) t c.in-Ok.ensures framed) c.noted.ensures
