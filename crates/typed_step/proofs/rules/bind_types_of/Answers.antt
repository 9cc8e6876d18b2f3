use Rattle.core_syntax.specs.Lists.{each}
use Rattle.core_syntax.specs.Refine.{ty_of}
use Rattle.core_syntax.specs.RefineTerms.{term_of}
use Rattle.typed_step.proofs.BindAtoms.{type_fn_bound}
use Rattle.typed_step.proofs.rules.bind_types_of.Goals as goal

pub returns-in_ok-body-in-TypeFn : goal.returns-in_ok-body-in-TypeFn
returns-in_ok-body-in-TypeFn c =
    type_fn_bound (each ty_of c.args.types.now) c.args.atom.now c.in-TypeFn.field-0 c.in-TypeFn.body c.get.result.now (term_of c.in_ok-body-in-TypeFn.body) c.get.ensures c.in-TypeFn.is c.in_ok-body-in-TypeFn.ensures
