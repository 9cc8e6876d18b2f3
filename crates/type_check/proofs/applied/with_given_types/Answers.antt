use Rattle.core_syntax.specs.Lists.{each}
use Rattle.core_syntax.specs.NormTypes.{norm_ty, measure_ty}
use Rattle.core_syntax.specs.Refine.{index_of, ty_of}
use Rattle.core_syntax.specs.Subst.{kept, put_all, with_types}
use Rattle.type_check.specs.Framed.{framed}
use Rattle.type_check.proofs.substitution.PutArrays.{array_put}
use Rattle.type_check.proofs.trees.FramedLemmas.{instance_refused}
use Rattle.type_check.proofs.applied.with_given_types.Goals as goal

pub returns-in-Err : goal.returns-in-Err
returns-in-Err c =
    let instance = with_types (each ty_of c.args.given.now) (ty_of c.args.body.now) in
    c.measured.ensures (measure_ty (framed (index_of c.args.frame.now) (norm_ty instance)))
    (instance_refused (index_of c.args.frame.now) instance c.in-Err.refusal (array_put kept (put_all (each ty_of c.args.given.now)) (ty_of c.args.body.now) c.requires.array) c.requires.frame c.in-Err.ensures.refused)
