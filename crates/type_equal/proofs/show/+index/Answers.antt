use Rattle.std.proofs.Common.{sym, ap}
use Rattle.std.specs.Prelude.{codes}
use Rattle.core_syntax.specs.Refine.{indices_of}
use Rattle.core_syntax.specs.Norm.{index_text, index_texts, spaced}
use Rattle.core_syntax.proofs.PartLemmas.{is_sum, is_dims, is_join}
use Rattle.type_equal.proofs.ShowLemmas.{one_part}
use Rattle.type_equal.proofs.show.+index.Goals as goal

pub put_index-returns-in_ok-put_parts-in-Sum : goal.put_index-returns-in_ok-put_parts-in-Sum
put_index-returns-in_ok-put_parts-in-Sum t c =
    one_part c.put-in-Sum.result c.args.out.now.items c.put.new.out.items c.put_parts.new.out.items c.put-in-Sum.new.out.items (codes "(+")
    (spaced (index_texts c.args.binders (indices_of c.as_slice.result.now))) _ c.in_ok-put-in-Sum.ensures c.in_ok-put_parts-in-Sum.ensures
    (sym (ap (index_text c.args.binders) (is_sum c.args.index.now _ _ c.as_slice.ensures c.in-Sum.is))) c.put-in-Sum.ensures

pub put_index-returns-in_ok-put_parts-in-Dims : goal.put_index-returns-in_ok-put_parts-in-Dims
put_index-returns-in_ok-put_parts-in-Dims t c =
    one_part c.put-in-Dims-2.result c.args.out.now.items c.put-in-Dims.new.out.items c.put_parts-in-Dims.new.out.items c.put-in-Dims-2.new.out.items (codes "(shape")
    (spaced (index_texts c.args.binders (indices_of c.as_slice-in-Dims.result.now))) _ c.in_ok-put-in-Dims.ensures c.in_ok-put_parts-in-Dims.ensures
    (sym (ap (index_text c.args.binders) (is_dims c.args.index.now _ _ c.as_slice-in-Dims.ensures c.in-Dims.is))) c.put-in-Dims-2.ensures

pub put_index-returns-in_ok-put_parts-in-Join : goal.put_index-returns-in_ok-put_parts-in-Join
put_index-returns-in_ok-put_parts-in-Join t c =
    one_part c.put-in-Join-2.result c.args.out.now.items c.put-in-Join.new.out.items c.put_parts-in-Join.new.out.items c.put-in-Join-2.new.out.items (codes "(++")
    (spaced (index_texts c.args.binders (indices_of c.as_slice-in-Join.result.now))) _ c.in_ok-put-in-Join.ensures c.in_ok-put_parts-in-Join.ensures
    (sym (ap (index_text c.args.binders) (is_join c.args.index.now _ _ c.as_slice-in-Join.ensures c.in-Join.is))) c.put-in-Join-2.ensures
