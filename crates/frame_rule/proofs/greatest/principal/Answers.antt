use Rattle.std.proofs.Common.{List, sym, subst}
use Rattle.core_syntax.specs.Word.{Word, Begins}
use Rattle.frame_rule.specs.Principal.{IsPrincipal}
use Rattle.frame_rule.proofs.PrincipalLemmas.{principal_indices}
use Rattle.frame_rule.proofs.greatest.principal.Goals as goal

pub returns-clause-indices : goal.returns-clause-indices
returns-clause-indices c = λ sorts all sorted same.
    let found = c.first_greatest.ensures in
    principal_indices sorts all _ sorted (subst (λ (ws : List Word). IsPrincipal Begins ws c.first_greatest.result) (sym same) found)
