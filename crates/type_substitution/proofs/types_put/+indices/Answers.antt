use Rattle.std.proofs.Common.{◌≡◌, ◌∙◌, refl, sym, ap, ◌++◌, ◌∷◌, [], rules}
use Rattle.core_syntax.specs.Syntax as syntax
use Rattle.core_syntax.specs.Subst.{index_put, indices_put}
use Rattle.core_syntax.proofs.TreeRows.{form_of_sum, form_of_dims, form_of_join}
use Rattle.core_syntax.proofs.PartLemmas.{is_sum, is_dims, is_join}
use Rattle.type_substitution.specs.Putting.{indices_at}
use Rattle.type_substitution.proofs.Made.{indices_made}
use Rattle.type_substitution.proofs.types_put.+indices.Goals as goal

pub put_index-returns-in_ok-put_indices-in-Sum : goal.put_index-returns-in_ok-put_indices-in-Sum
put_index-returns-in_ok-put_indices-in-Sum t c =
    form_of_sum c.args.i.now.at c.in_ok-put_indices-in-Sum.field-0 ∙ ap (syntax.Sum c.args.i.now.at) c.in_ok-put_indices-in-Sum.ensures
    ∙ sym (ap (index_put (indices_at c.args.under c.args.with.now)) (is_sum c.args.i.now _ _ c.as_slice.ensures c.in-Sum.is))

pub put_index-returns-in_ok-put_indices-in-Dims : goal.put_index-returns-in_ok-put_indices-in-Dims
put_index-returns-in_ok-put_indices-in-Dims t c =
    form_of_dims c.args.i.now.at c.in_ok-put_indices-in-Dims.field-0 ∙ ap (syntax.Dims c.args.i.now.at) c.in_ok-put_indices-in-Dims.ensures
    ∙ sym (ap (index_put (indices_at c.args.under c.args.with.now)) (is_dims c.args.i.now _ _ c.as_slice-in-Dims.ensures c.in-Dims.is))

pub put_index-returns-in_ok-put_indices-in-Join : goal.put_index-returns-in_ok-put_indices-in-Join
put_index-returns-in_ok-put_indices-in-Join t c =
    form_of_join c.args.i.now.at c.in_ok-put_indices-in-Join.field-0 ∙ ap (syntax.Join c.args.i.now.at) c.in_ok-put_indices-in-Join.ensures
    ∙ sym (ap (index_put (indices_at c.args.under c.args.with.now)) (is_join c.args.i.now _ _ c.as_slice-in-Join.ensures c.in-Join.is))

pub put_indices-loop-index-preserved : goal.put_indices-loop-index-preserved
put_indices-loop-index-preserved t c =
    let e : c.push.new.self.items ≡ c.loop-index.put.items ++ c.in_ok-one.one ∷ [] = search rules in
    let σ = indices_at c.args.under c.args.with.now in
    indices_made (index_put σ) (indices_put σ) refl (λ i is. refl) c.args.indices.now _ _ _ c.index-item.result c.in_ok-one.one c.loop-index-test.true c.index-item.is e
    c.in_ok-one.ensures c.loop-index.invariant
