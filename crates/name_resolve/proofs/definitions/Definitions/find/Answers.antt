use Rattle.std.proofs.Common.{ap, ◌∙◌}
use Rattle.name_resolve.specs.Scopes.{number_of}
use Rattle.name_resolve.proofs.DefinitionLemmas.{position_number}
use Rattle.name_resolve.proofs.definitions.Definitions.find.Goals as goal

pub returns-in_err-number : goal.returns-in_err-number
returns-in_err-number c =
    c.from_residual.ensures ∙ c.in_err-number.ensures.index ∙ position_number c.args.name.now c.self.inside.names.keys ∙ ap (number_of c.args.name.now) c.self.view_is

pub returns : goal.returns
returns c = c.in_ok-number.ensures.index ∙ position_number c.args.name.now c.self.inside.names.keys ∙ ap (number_of c.args.name.now) c.self.view_is
