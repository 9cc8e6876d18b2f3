use Rattle.std.proofs.Common.{◌≡◌, take, [], List}
use Rattle.core_syntax.specs.Lists.{each}
use Rattle.core_syntax.specs.Refine.{ty_of}
use Rattle.core_syntax.specs.Syntax.{Def}
use Rattle.core_syntax.specs.Blame.{inputs_premises}
use Rattle.type_check.specs.ProgramState.{IsBehind}
use Rattle.type_check.proofs.program.inputs.Given as goal

abbrev pub invariant-loop-ty : goal.invariant-loop-ty
invariant-loop-ty l =
    (l.checker.sorts ≡ l.fn.checker.sorts) × (inputs_premises (each ty_of (take l.ty-index l.fn.types))).met
    × ((defs : List Def) → IsBehind defs [] l.fn.checker → IsBehind defs (each ty_of (take l.ty-index l.fn.types)) l.checker)
