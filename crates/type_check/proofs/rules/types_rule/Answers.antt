use Rattle.core_syntax.specs.Lists.{each}
use Rattle.core_syntax.specs.Refine.{ty_of}
use Rattle.core_syntax.specs.Syntax.{TypeApp}
use Rattle.type_check.specs.Found.{Found}
use Rattle.type_check.proofs.exits.RuleLemmas.{room_of, types_written, ruled_scoped}
use Rattle.type_check.proofs.rules.types_rule.Goals as goal

pub apply_types-requires : goal.apply_types-requires
apply_types-requires c =
    record { sound = c.requires.sound; room = room_of c.args.checker.now c.requires.steady; written = types_written c.args.checker.now (each ty_of c.args.types.now) c.requires.made }

pub returns : goal.returns
returns c = λ before e at f.
    ruled_scoped before c.args.checker.now c.apply_types.new.self (TypeApp c.args.at e (each ty_of c.args.types.now)) (λ Γ. Found Γ e (ty_of c.args.callee.now)) f c.apply_types.ensures.kept c.apply_types.result
    (λ Γ ns scope p. c.apply_types.ensures.concludes Γ e ns scope at p)
