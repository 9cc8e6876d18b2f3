use Rattle.std.proofs.Common.{◌≡◌, ◌∙◌, sym, subst, ◌++◌, ◌∷◌, [], length, drop, rules}
use Rattle.std.proofs.lemmas.List.{drop_all}
use Rattle.core_syntax.specs.Refine.{ty_of}
use Rattle.type_check.specs.Written.{IsWritten}
use Rattle.type_check.proofs.one_by_one.Loops.{each_item}
use Rattle.type_check.proofs.trees.WrittenLemmas.{rescoped}
use Rattle.type_check.proofs.trees.ListsWritten.{type_next, type_refused, types_end}
use Rattle.type_check.proofs.written.written_types.Goals as goal

pub written-requires : goal.written-requires
written-requires c =
    subst (λ ss. IsWritten c.args.types (length ss) (ty_of c.t-item.result)) (sym c.loop-t.invariant.0)
    (each_item ty_of (IsWritten c.args.types (length c.args.sorts.now.items)) c.args.given.now c.loop-t.t-index c.t-item.result c.loop-t-test.true c.t-item.is c.requires)

pub returns-in-Err-clause-written : goal.returns-in-Err-clause-written
returns-in-Err-clause-written c Γ scope =
    type_refused Γ c.args.given.now c.loop-t.all.items c.loop-t.all.items c.loop-t.t-index c.t-item.result c.loop-t-test.true c.t-item.is c.in-Err.refusal
    (c.loop-t.invariant.1 Γ scope) (c.in-Err.ensures.written Γ (rescoped c.args.types _ _ Γ c.loop-t.invariant.0 scope))

pub loop-t-preserved : goal.loop-t-preserved
loop-t-preserved c =
    let e : c.push.new.self.items ≡ c.loop-t.all.items ++ c.in-Ok.ty ∷ [] = search rules in (
      c.in-Ok.ensures.kept ∙ c.loop-t.invariant.0,
      λ Γ scope. type_next Γ c.args.given.now c.loop-t.all.items c.push.new.self.items c.loop-t.t-index c.t-item.result c.loop-t-test.true c.t-item.is c.in-Ok.ty e
          (c.loop-t.invariant.1 Γ scope) (c.in-Ok.ensures.written Γ (rescoped c.args.types _ _ Γ c.loop-t.invariant.0 scope)),
    )

pub returns-clause-written : goal.returns-clause-written
returns-clause-written c Γ scope =
    types_end Γ c.args.given.now (drop c.loop-t.t-index c.args.given.now) c.loop-t.all.items (drop_all c.loop-t.t-index c.args.given.now c.loop-t-test.false) (c.loop-t.invariant.1 Γ scope)
