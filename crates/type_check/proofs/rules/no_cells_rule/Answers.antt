use Rattle.std.proofs.Common.{sym, subst}
use Rattle.core_syntax.specs.Made.{IsArray}
use Rattle.core_syntax.specs.Refine.{ty_of}
use Rattle.core_syntax.specs.Syntax.{NoCells}
use Rattle.type_check.proofs.trees.MadeWritten.{made_holds}
use Rattle.type_check.proofs.exits.RuleLemmas.{scope_like, written_of, ruled_alone, no_cells_refused, array_normal}
use Rattle.type_check.proofs.one_by_one.Steps.{like_itself}
use Rattle.type_check.specs.Contexts.{scope_of}
use Rattle.type_check.specs.State.{context_of}
use Rattle.type_check.proofs.rules.no_cells_rule.Goals as goal

pub written-requires : goal.written-requires
written-requires c = written_of c.args.checker.now (ty_of c.args.ty.now) c.requires.made.1.1

pub empty_frame-requires : goal.empty_frame-requires
empty_frame-requires c =
    let w = c.in-Ok.ensures.written (context_of c.args.checker.now) (scope_like c.args.checker.now (context_of c.args.checker.now) (like_itself (context_of c.args.checker.now))) in
    subst IsArray (sym w.1.1) (array_normal (ty_of c.args.ty.now) c.requires.made.1.0)

pub returns-in-Ok : goal.returns-in-Ok
returns-in-Ok c =
    ruled_alone c.args.checker.now c.written.new.self (NoCells c.args.at c.args.dims.now (ty_of c.args.ty.now)) c.in-Ok.ensures.kept c.empty_frame.result
    (λ Γ l. let w = c.in-Ok.ensures.written Γ (scope_like c.args.checker.now Γ l) in
    c.empty_frame.ensures Γ (ty_of c.args.ty.now) w.0 (record { formed = w.1.0; top = c.requires.made.1.0; inside = made_holds (scope_of (context_of c.args.checker.now)) (ty_of c.args.ty.now) c.requires.made.1.1 }) w.1.1)

pub returns-in-Err : goal.returns-in-Err
returns-in-Err c = λ Γ l. no_cells_refused Γ c.args.at c.args.dims.now (ty_of c.args.ty.now) c.in-Err.refusal (c.in-Err.ensures.written Γ (scope_like c.args.checker.now Γ l))
