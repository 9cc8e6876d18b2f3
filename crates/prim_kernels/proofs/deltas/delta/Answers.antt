use Rattle.std.proofs.Common.{◌≡◌, ◌∙◌, sym, refl, subst, IfOk}
use Rattle.prim_kernels.specs.Deltas.{entry_of}
use Rattle.prim_kernels.proofs.Looks.{wrong_entry, given_entry}
use Rattle.prim_kernels.proofs.deltas.delta.Goals as goal

pub returns-in-Some-clause-entry : goal.returns-in-Some-clause-entry
returns-in-Some-clause-entry c =
    let p = c.args.p.now in
    wrong_entry p.op p.typed p.indices c.args.args.now c.in-Some.kind (sym c.stuck.ensures ∙ c.in-Some.is)

pub returns-in-None-clause-entry : goal.returns-in-None-clause-entry
returns-in-None-clause-entry c =
    let p = c.args.p.now in
    subst (λ e. IfOk c.given.result (λ d. entry_of d ≡ e)) (given_entry p.op p.typed p.indices c.args.args.now _ (sym c.stuck.ensures ∙ c.in-None.is) refl) c.given.ensures.entry
