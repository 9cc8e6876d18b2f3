use Rattle.core_syntax.specs.Lists.{each}
use Rattle.core_syntax.specs.Refine.{index_of, ty_of}
use Rattle.type_check.proofs.exits.RuleLemmas.{scope_like, room_of, written_of, indices_made}
use Rattle.type_check.proofs.rules.box_opened.Goals as goal

pub open_box-requires : goal.open_box-requires
open_box-requires c =
    let s = c.args.checker.now in
    record { room = room_of s c.requires.steady; written = written_of s (ty_of c.args.ty.now) c.requires.ty; made = indices_made s (each index_of c.args.indices.now) c.requires.indices }

pub returns-clause-opens : goal.returns-clause-opens
returns-clause-opens c = λ Γ l. c.open_box.ensures.opens Γ (scope_like c.args.checker.now Γ l)
