use Rattle.compiled_laws.proofs.Results as results
use Rattle.compiled_laws.proofs.laws.code_ends_once.Goals as goal

pub returns : goal.returns
returns c = results.code_ends_once
