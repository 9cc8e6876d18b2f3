use Rattle.std.proofs.Common.{◌≡◌, ◌∙◌, ap, [], ◌∷◌, rules}
use Rattle.core_syntax.specs.Refine.{form_of, indices_of}
use Rattle.core_syntax.specs.Syntax as syntax
use Rattle.core_syntax.specs.declared.index.IndexForm.{Join}
use Rattle.core_syntax.proofs.TreeRows.{form_of_join}
use Rattle.type_check.proofs.shapes.then_shape.Goals as goal

pub returns : goal.returns
returns c =
    let items : c.from_vec.result ≡ c.args.frame ∷ c.args.cell ∷ [] = search rules in
    ap (λ at. form_of at (Join c.from_vec.result)) c.nowhere.ensures ∙ form_of_join syntax.no_span c.from_vec.result
    ∙ ap (λ xs. syntax.Join syntax.no_span (indices_of xs)) items
