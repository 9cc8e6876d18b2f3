use Rattle.std.proofs.Common.{◌≡◌, ◌∙◌, refl, sym, ap, ◌++◌, ◌∷◌, [], rules}
use Rattle.core_syntax.specs.Syntax as syntax
use Rattle.core_syntax.specs.Subst.{index_renamed, indices_renamed}
use Rattle.core_syntax.proofs.TreeRows.{form_of_sum, form_of_dims, form_of_join}
use Rattle.core_syntax.proofs.PartLemmas.{is_sum, is_dims, is_join}
use Rattle.type_substitution.specs.Putting.{moved_from}
use Rattle.type_substitution.proofs.Made.{indices_made}
use Rattle.type_substitution.proofs.moving.+indices.Goals as goal

pub moved_index-returns-in_ok-moved_indices-in-Sum : goal.moved_index-returns-in_ok-moved_indices-in-Sum
moved_index-returns-in_ok-moved_indices-in-Sum t c =
    form_of_sum c.args.i.now.at c.in_ok-moved_indices-in-Sum.field-0 ∙ ap (syntax.Sum c.args.i.now.at) c.in_ok-moved_indices-in-Sum.ensures
    ∙ sym (ap (index_renamed (moved_from c.args.shift.by c.args.shift.from)) (is_sum c.args.i.now _ _ c.as_slice.ensures c.in-Sum.is))

pub moved_index-returns-in_ok-moved_indices-in-Dims : goal.moved_index-returns-in_ok-moved_indices-in-Dims
moved_index-returns-in_ok-moved_indices-in-Dims t c =
    form_of_dims c.args.i.now.at c.in_ok-moved_indices-in-Dims.field-0 ∙ ap (syntax.Dims c.args.i.now.at) c.in_ok-moved_indices-in-Dims.ensures
    ∙ sym (ap (index_renamed (moved_from c.args.shift.by c.args.shift.from)) (is_dims c.args.i.now _ _ c.as_slice-in-Dims.ensures c.in-Dims.is))

pub moved_index-returns-in_ok-moved_indices-in-Join : goal.moved_index-returns-in_ok-moved_indices-in-Join
moved_index-returns-in_ok-moved_indices-in-Join t c =
    form_of_join c.args.i.now.at c.in_ok-moved_indices-in-Join.field-0 ∙ ap (syntax.Join c.args.i.now.at) c.in_ok-moved_indices-in-Join.ensures
    ∙ sym (ap (index_renamed (moved_from c.args.shift.by c.args.shift.from)) (is_join c.args.i.now _ _ c.as_slice-in-Join.ensures c.in-Join.is))

pub moved_indices-loop-index-preserved : goal.moved_indices-loop-index-preserved
moved_indices-loop-index-preserved t c =
    let e : c.push.new.self.items ≡ c.loop-index.moved.items ++ c.in_ok-one.one ∷ [] = search rules in
    let ρ = moved_from c.args.shift.by c.args.shift.from in
    indices_made (index_renamed ρ) (indices_renamed ρ) refl (λ i is. refl) c.args.indices.now _ _ _ c.index-item.result c.in_ok-one.one c.loop-index-test.true c.index-item.is e
    c.in_ok-one.ensures c.loop-index.invariant
