use Rattle.std.proofs.Common.{◌≡◌, ◌∙◌, ◌<◌, ◌+◌, ◌-◌, length, arith, sym, ap}
use Rattle.core_syntax.specs.declared.norm.Coef.{Coef}
use Rattle.index_dims.proofs.CountingLemmas.{counted_behind, counted_first, counted_last, times-le-total, same_read}
use Rattle.index_dims.proofs.counting.count.Goals as goal
use Rattle.index_dims.proofs.counting.count.Goals.{else-end-gt0-via-then-end-gt0+else-index-var, else-end-gt0-via-else-end-gt0}

pub overflow_add-index_mut : goal.overflow_add-index_mut
overflow_add-index_mut c =
    let lt : c.len-end.result - 1 < length c.args.coefs.now.items = omega arith in
    omega (arith, times-le-total _ _ _ lt c.index_mut.ensures.value)

pub returns-then-index-var : goal.returns-then-index-var
returns-then-index-var c =
    let lt : c.len-end.result - 1 < length c.args.coefs.now.items = omega arith in
    let end : length c.args.coefs.now.items ≡ (c.len-end.result - 1) + 1 = omega arith in
    let same = same_read _ _ _ _ lt c.index_mut.ensures.value c.index.ensures in
    counted_last _ _ _ _ _ end c.requires.ascending c.requires.greatest c.index_mut.ensures.value (ap (λ (x : Coef). x.var) same ∙ c.if-index-var.true)

pub returns-in_ok-push : goal.returns-in_ok-push
returns-in_ok-push c =
    c.in_ok-push.ensures.items ∙ sym (elim c.else-end-gt0.branch [
      | else-end-gt0-via-then-end-gt0+else-index-var w ↦
          let end : length c.args.coefs.now.items ≡ (c.len-end.result - 1) + 1 = omega arith in
          counted_behind _ _ _ _ _ end c.requires.ascending c.requires.greatest w.index.ensures w.if-index-var.false
      | else-end-gt0-via-else-end-gt0 w ↦ counted_first _ _ (omega arith)
    ])
