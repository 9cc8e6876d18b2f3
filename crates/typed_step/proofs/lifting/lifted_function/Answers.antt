use Rattle.std.proofs.Common.{ap, length}
use Rattle.core_syntax.specs.RefineTerms.{term_of}
use Rattle.core_syntax.specs.Rules.{dims_of}
use Rattle.core_syntax.specs.Typed.{typed_rules}
use Rattle.typed_step.proofs.LiftTrees.{whole_frame}
use Rattle.typed_step.proofs.lifting.lifted_function.Goals as goal

pub returns : goal.returns
returns c =
    let t = term_of c.args.function.now in
    whole_frame c.new.result c.in_ok-function.function c.args.frame.now (dims_of typed_rules t) (length c.dims-rank.result.now) t (ap length c.dims-rank.ensures) c.in_ok-function.ensures c.new.ensures
