use Rattle.std.proofs.Common.{[]}
use Rattle.core_syntax.specs.Refine.{ty_of}
use Rattle.type_check.proofs.contexts.VariableLemmas.{definition_is, definition_moves, def_few}
use Rattle.type_check.proofs.one_by_one.NodeLemmas.{unchanged}
use Rattle.type_check.proofs.variables.definition.Goals as goal

pub definition_type-requires : goal.definition_type-requires
definition_type-requires c = def_few c.args.checker.now c.args.k c.requires.defined

pub moved-requires : goal.moved-requires
moved-requires c = definition_moves c.args.checker.now c.args.k c.definition_type.result.now c.requires.steady.ready c.definition_type.ensures

pub returns-in-Ok : goal.returns-in-Ok
returns-in-Ok c = (
  [],
  unchanged c.args.checker.now,
  definition_is c.args.checker.now c.args._at c.args.k c.definition_type.result.now (ty_of c.in-Ok.ty) _ c.no_note-note.ensures c.requires.steady.ready (def_few c.args.checker.now c.args.k c.requires.defined) c.definition_type.ensures
      c.in-Ok.ensures.moved c.in-Ok.ensures.measured,
)
