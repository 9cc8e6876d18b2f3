use Rattle.std.proofs.Common.{◌≡◌, ◌∙◌, refl, sym, ap, ℕ, ◌+◌, ◌++◌, length, arith, rules}
use Rattle.std.specs.Prelude.{codes}
use Rattle.core_syntax.specs.declared.ty.TyForm.{the_lemmas}
use Rattle.core_syntax.specs.Refine.{index_of, ty_of}
use Rattle.core_syntax.specs.Word.{word_size}
use Rattle.core_syntax.specs.Norm.{norm_word, index_text}
use Rattle.core_syntax.specs.NormTypes.{ty_size, list_text, binder_texts}
use Rattle.core_syntax.proofs.TyRows.{is_sigma, is_arr}
use Rattle.type_equal.specs.Shown.{text_under}
use Rattle.type_equal.proofs.ShowLemmas.{two_parts}
use Rattle.type_equal.proofs.show.+put_type.Goals as goal

pub put_type-requires : goal.put_type-requires
put_type-requires t c = (
  search (rules, the_lemmas),
  let e : ty_size (ty_of c.args.ty.now) ≡ 1 + (length c.in-Sigma.sorts + ty_size (ty_of c.get.result.now)) = ap ty_size (is_sigma c.args.ty.now c.in-Sigma.sorts c.in-Sigma.sorts _ _ refl c.get.ensures c.in-Sigma.is) in
      omega (arith, e, c.requires),
)

pub put_type-requires-in-Arr : goal.put_type-requires-in-Arr
put_type-requires-in-Arr t c = (
  search (rules, the_lemmas),
  let e : ty_size (ty_of c.args.ty.now) ≡ 1 + (ty_size (ty_of c.get-in-Arr.result.now) + word_size (norm_word (index_of c.in-Arr.shape))) = ap ty_size (is_arr c.args.ty.now _ _ c.in-Arr.shape c.get-in-Arr.ensures c.in-Arr.is) in
      omega (arith, e, c.requires),
)

pub returns-in_ok-put_type-in-Sigma : goal.returns-in_ok-put_type-in-Sigma
returns-in_ok-put_type-in-Sigma t c =
    let s : length c.as_slice.result.now ≡ length c.in-Sigma.sorts = ap length c.as_slice.ensures in
    let n : c.args.binders + c.len.result ≡ length c.as_slice.result.now + c.args.binders = omega (arith, s) in
    two_parts c.put-in-Sigma-2.result c.args.out.now.items c.put.new.out.items c.put_list.new.out.items c.put-in-Sigma.new.out.items c.put_type.new.out.items c.put-in-Sigma-2.new.out.items (codes "(Sigma ")
    (list_text (binder_texts c.args.binders c.as_slice.result.now)) (text_under (length c.as_slice.result.now + c.args.binders) (ty_of c.get.result.now)) _
    c.in_ok-put-in-Sigma.ensures c.in_ok-put_list-in-Sigma.ensures c.in_ok-put-in-Sigma-2.ensures
    (c.in_ok-put_type-in-Sigma.ensures ∙ ap (λ (k : ℕ). c.put-in-Sigma.new.out.items ++ text_under k (ty_of c.get.result.now)) n)
    (sym (ap (text_under c.args.binders) (is_sigma c.args.ty.now _ _ _ _ c.as_slice.ensures c.get.ensures c.in-Sigma.is))) c.put-in-Sigma-2.ensures

pub returns-in_ok-put_index-in-Arr : goal.returns-in_ok-put_index-in-Arr
returns-in_ok-put_index-in-Arr t c =
    two_parts c.put-in-Arr-3.result c.args.out.now.items c.put-in-Arr.new.out.items c.put_type-in-Arr.new.out.items c.put-in-Arr-2.new.out.items c.put_index.new.out.items c.put-in-Arr-3.new.out.items (codes "(A ")
    (text_under c.args.binders (ty_of c.get-in-Arr.result.now)) (index_text c.args.binders (index_of c.in-Arr.shape)) _
    c.in_ok-put-in-Arr.ensures c.in_ok-put_type-in-Arr.ensures c.in_ok-put-in-Arr-2.ensures c.in_ok-put_index-in-Arr.ensures
    (sym (ap (text_under c.args.binders) (is_arr c.args.ty.now _ _ c.in-Arr.shape c.get-in-Arr.ensures c.in-Arr.is))) c.put-in-Arr-3.ensures
