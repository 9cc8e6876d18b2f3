use Rattle.std.proofs.Common.{rules}
use Rattle.name_resolve.proofs.DefinitionLemmas.{names_insert}
use Rattle.name_resolve.proofs.definitions.Definitions.enter.Goals as goal

pub returns-clause-entered : goal.returns-clause-entered
returns-clause-entered c =
    names_insert c.self.inside.names.keys c.insert.new.self.keys c.args.name c.args.self.now c.self.view_is c.requires.new (search rules)
