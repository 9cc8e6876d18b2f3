use Rattle.std.proofs.Common.{◌≡◌, ◌∙◌, ap, sym, subst, ◌≤◌, length, take, arith}
use Rattle.std.proofs.lemmas.List.{take_all}
use Rattle.core_syntax.specs.Lists.{each}
use Rattle.core_syntax.specs.Refine.{form_of, index_of, indices_of}
use Rattle.core_syntax.specs.Nodes.{number}
use Rattle.core_syntax.specs.Syntax as syntax
use Rattle.core_syntax.specs.declared.index.IndexForm.{Dims}
use Rattle.core_syntax.proofs.TreeRows.{form_of_dims}
use Rattle.type_check.proofs.trees.TreesMade.{numbers_done}
use Rattle.type_check.proofs.shapes.numbers.Goals as goal

pub returns : goal.returns
returns c =
    let past : length c.args.dims.now ≤ c.loop-dim.dim-index = omega (arith, c.loop-dim-test.false) in
    let items : each index_of c.loop-dim.parts.items ≡ each (λ n. number n) c.args.dims.now =
    c.loop-dim.invariant ∙ ap (each (λ n. number n)) (take_all c.loop-dim.dim-index c.args.dims.now past) in
    ap (λ at. form_of at (Dims c.from_vec.result)) c.nowhere-2.ensures ∙ form_of_dims syntax.no_span c.from_vec.result
    ∙ ap (λ xs. syntax.Dims syntax.no_span (indices_of xs)) c.from_vec.ensures
    ∙ ap (syntax.Dims syntax.no_span) (numbers_done c.loop-dim.parts.items c.args.dims.now items)
