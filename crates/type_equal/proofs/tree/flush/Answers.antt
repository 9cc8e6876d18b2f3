use Rattle.std.proofs.Common.{◌≡◌, ◌∙◌, ap, [], ◌∷◌, ◌++◌, rules}
use Rattle.core_syntax.specs.Lists.{each}
use Rattle.core_syntax.specs.Refine.{index_of, indices_of}
use Rattle.core_syntax.specs.Syntax.{no_span}
use Rattle.core_syntax.specs.Syntax as syntax
use Rattle.core_syntax.proofs.TreeRows.{form_of_dims}
use Rattle.core_syntax.specs.declared.index.Index.{Index as Tree}
use Rattle.core_syntax.specs.declared.index.IndexForm.{Dims}
use Rattle.type_equal.proofs.PartsLemmas.{pushed, some_run}
use Rattle.type_equal.proofs.tree.flush.Goals as goal

pub returns : goal.returns
returns c =
    let p : Tree = record { at = no_span; form = Dims c.from_vec.result } in
    let e : c.push.new.self.items ≡ c.args.parts.now.items ++ p ∷ [] = search rules in
    let ne : c.args.run.items ≡ [] → ⊥ = search rules in
    pushed _ _ p e ∙ ap (λ i. each index_of c.args.parts.now.items ++ i ∷ []) (form_of_dims no_span c.from_vec.result ∙ ap (λ xs. syntax.Dims no_span (indices_of xs)) c.from_vec.ensures)
    ∙ ap (λ l. each index_of c.args.parts.now.items ++ l) (some_run c.args.run.items ne)
