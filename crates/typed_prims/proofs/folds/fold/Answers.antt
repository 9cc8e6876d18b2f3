use Rattle.std.proofs.Common.{◌≡◌, subst, IfOk, Some, option_map}
use Rattle.core_syntax.specs.declared.primitive.Primitive.TheVariants as p
use Rattle.core_syntax.specs.Delta.{folds}
use Rattle.core_syntax.specs.Lists.{each}
use Rattle.core_syntax.specs.Refine.{index_of, ty_of}
use Rattle.core_syntax.specs.Rules.{answered, atom_rules}
use Rattle.core_syntax.specs.Typed.{typed_rules}
use Rattle.prim_kernels.proofs.Items.{three_items}
use Rattle.typed_prims.specs.Answers.{array_of, move_on}
use Rattle.typed_prims.specs.Outcomes.{move_of}
use Rattle.typed_prims.proofs.folds.fold.Goals as goal

pub returns-in-len3 : goal.returns-in-len3
returns-in-len3 c = λ r.
    let us = option_map (each ty_of) c.args.types.now in
    let is = option_map (each index_of) c.args.indices.now in
    let first = c.first-item.result in
    let items = c.items-item.result in
    subst (λ ts. IfOk c.fold_over.result (λ o. move_of o ≡ move_on r p.Fold us is ts))
    (three_items c.args.args.now c.function-item.result first items c.in-len3.len_at_least c.in-len3.len_below c.function-item.is c.first-item.is c.items-item.is)
    (subst (λ xs. IfOk c.fold_over.result (λ o. move_of o ≡ answered typed_rules r us is (folds (atom_rules typed_rules r) xs (Some (array_of first)) (array_of items)))) c.atoms-function.ensures (c.fold_over.ensures r))
