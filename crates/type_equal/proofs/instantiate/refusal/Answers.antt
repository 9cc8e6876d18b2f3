use Rattle.std.proofs.Common.{◌≡◌, ◌∙◌, ap, ◌-◌, ◌^◌, min}
use Rattle.core_syntax.specs.Lists.{each}
use Rattle.core_syntax.specs.NormTypes.{ty_size, ty_depth, ty_has_large}
use Rattle.core_syntax.specs.Refine.{ty_of}
use Rattle.type_equal.specs.Counted.{count_of, clipped, put_under, put_size, put_large_ty}
use Rattle.type_equal.specs.Put.{index_tree, put_in}
use Rattle.type_equal.specs.Refusal.{number_of}
use Rattle.type_equal.proofs.ClipLemmas.{large_by_table, size_by_table, refused_early}
use Rattle.type_equal.proofs.instantiate.refusal.Goals as goal

pub returns : goal.returns
returns c =
    let ts = c.args.types.now in
    let is = c.args.indices.now in
    let t = ty_of c.ty.result.now in
    let sizes : c.as_slice.result.now ≡ each (λ u. ty_size (ty_of u)) ts = c.as_slice.ensures.value ∙ c.in_ok-sizes.ensures.sizes in
    let counts : c.as_slice-2.result.now ≡ each (λ i. clipped (count_of (index_tree i))) is = c.as_slice-2.ensures.value ∙ c.in_ok-counts.ensures in
    let large : put_large_ty (put_under 0 c.as_slice-2.result.now) t ≡ ty_has_large (put_in ts is (ty_of c.args.body.now)) =
    ap (λ x. put_large_ty (put_under 0 x) t) counts ∙ large_by_table ts is t c.in_ok-sizes.ensures.none
    ∙ ap (λ u. ty_has_large (put_in ts is (ty_of u))) c.ty.ensures.tree in
    let size : min (put_size (put_under 0 c.as_slice.result.now) (put_under 0 c.as_slice-2.result.now) t) (2 ^ 64 - 1) ≡ min (ty_size (put_in ts is (ty_of c.args.body.now))) (2 ^ 64 - 1) =
    (λ j. min (put_size (put_under 0 (sizes j)) (put_under 0 (counts j)) t) (2 ^ 64 - 1)) ∙ size_by_table ts is t
    ∙ ap (λ u. min (ty_size (put_in ts is (ty_of u))) (2 ^ 64 - 1)) c.ty.ensures.tree in
    refused_early (number_of c.refusal_by.result) (put_large_ty (put_under 0 c.as_slice-2.result.now) t) (ty_has_large (put_in ts is (ty_of c.args.body.now)))
    (put_size (put_under 0 c.as_slice.result.now) (put_under 0 c.as_slice-2.result.now) t) (ty_size (put_in ts is (ty_of c.args.body.now)))
    (ty_depth (put_in ts is (ty_of c.args.body.now))) c.refusal_by.ensures large size
