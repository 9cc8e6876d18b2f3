use Rattle.std.proofs.Common.{◌≡◌, sym, ap, ◌∙◌, Some, inr}
use Rattle.core_syntax.specs.Lists.{onto}
use Rattle.core_syntax.specs.Refine.{ty_of}
use Rattle.core_syntax.specs.Kinds.{kind_blame}
use Rattle.kind_check.specs.Faults.{fault_of}
use Rattle.kind_check.proofs.FormedLemmas.{formed_from, formed_to}
use Rattle.kind_check.proofs.kinds.kind_in_context.Goals as goal

pub returns-in-Ok-Some-clause-ill : goal.returns-in-Ok-Some-clause-ill
returns-in-Ok-Some-clause-ill c = inr (λ h.
    let none = formed_to c.args.types (onto c.args.scope.now.items c.args.around.now) (ty_of c.args.t.now) h in
    let some : fault_of (Some c.in-Ok-Some.fault) ≡ kind_blame (onto c.args.scope.now.items c.args.around.now) (ty_of c.args.t.now) =
    sym (ap fault_of c.in-Ok-Some.field-0-is) ∙ c.in-Ok-Some.ensures.found in
    cc)

pub returns-in-Ok-None-clause-formed : goal.returns-in-Ok-None-clause-formed
returns-in-Ok-None-clause-formed c =
    formed_from c.args.types (onto c.args.scope.now.items c.args.around.now) (ty_of c.args.t.now) c.requires (sym c.in-Ok-None.ensures.found ∙ ap fault_of c.in-Ok-None.field-0-is)
