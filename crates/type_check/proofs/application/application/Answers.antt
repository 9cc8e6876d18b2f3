use Rattle.core_syntax.specs.Refine.{index_of, ty_of, tys_of}
use Rattle.type_check.proofs.exits.ApplyLemmas.{app_follows, refused_frames}
use Rattle.type_check.proofs.application.application.Goals as goal

pub returns-in-Some : goal.returns-in-Some
returns-in-Some c = λ Γ f es t ns found form count words ms args are.
    app_follows Γ c.args.at f es t ns found (tys_of c.args.function.now.inputs.now) (ty_of c.args.function.now.output.now) (index_of c.args.function.now.shape.now) form
    count words ms args c.args.frames.now are c.in-Some.place _ c.in-Some.ensures.indices c.index-frames-place.is c.in_frame.result c.in_frame.ensures c.requires.output

pub returns-in-None : goal.returns-in-None
returns-in-None c = λ Γ f es t ns found form count words ms args are.
    refused_frames Γ c.args.at f es t ns found (tys_of c.args.function.now.inputs.now) (ty_of c.args.function.now.output.now) (index_of c.args.function.now.shape.now) form
    count words ms args c.args.frames.now are c.in-None.ensures.indices
