use Rattle.name_resolve.proofs.Refusals.{is_refused}
use Rattle.name_resolve.proofs.TopLemmas.{no_definition}
use Rattle.name_resolve.proofs.top.read_definition.Goals as goal

pub returns-in_default-clause-read : goal.returns-in_default-clause-read
returns-in_default-clause-read c = is_refused _ 7 c.args.form.now.at _ c.malformed.ensures (no_definition c.args.scopes.now.defs c.args.form.now c.in_default.ensures.parts)
