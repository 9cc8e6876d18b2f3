use Rattle.core_syntax.specs.Refine.{ty_of}
use Rattle.core_syntax.specs.Syntax.{NoAtoms}
use Rattle.type_check.proofs.trees.MadeWritten.{made_holds}
use Rattle.type_check.proofs.exits.RuleLemmas.{scope_like, written_of, ruled_alone, no_atoms_refused}
use Rattle.type_check.specs.Contexts.{scope_of}
use Rattle.type_check.specs.State.{context_of}
use Rattle.type_check.proofs.rules.no_atoms_rule.Goals as goal

pub written_atom-requires : goal.written_atom-requires
written_atom-requires c = written_of c.args.checker.now (ty_of c.args.ty.now) c.requires.made.1

pub returns-in-Ok : goal.returns-in-Ok
returns-in-Ok c =
    ruled_alone c.args.checker.now c.written_atom.new.self (NoAtoms c.args.at c.args.dims.now (ty_of c.args.ty.now)) c.in-Ok.ensures.kept c.empty_literal.result
    (λ Γ l. let w = c.in-Ok.ensures.written Γ (scope_like c.args.checker.now Γ l) in
    c.empty_literal.ensures Γ (ty_of c.args.ty.now) w.0 (record { formed = w.1.0.1; top = w.1.0.0; inside = made_holds (scope_of (context_of c.args.checker.now)) (ty_of c.args.ty.now) c.requires.made.1 }) w.1.1)

pub returns-in-Err : goal.returns-in-Err
returns-in-Err c = λ Γ l. no_atoms_refused Γ c.args.at c.args.dims.now (ty_of c.args.ty.now) c.in-Err.refusal (c.in-Err.ensures.written Γ (scope_like c.args.checker.now Γ l))
