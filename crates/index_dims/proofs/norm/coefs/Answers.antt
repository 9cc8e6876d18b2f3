use Rattle.std.proofs.Common.{◌≡◌, List, sym, subst, IfOk}
use Rattle.std.specs.List.Sorted.{IsSorted, IsPermutation}
use Rattle.std.specs.Ordering.{nat_cmp}
use Rattle.core_syntax.specs.declared.norm.Coef.{Coef}
use Rattle.core_syntax.specs.Refine.{index_of}
use Rattle.index_dims.specs.Counting.{variables_of}
use Rattle.index_dims.proofs.CountLemmas.{counted}
use Rattle.index_dims.proofs.norm.coefs.Goals as goal

pub counts-requires : goal.counts-requires
counts-requires c = subst (IsSorted nat_cmp) (sym c.as_slice.ensures.value) c.in_ok-variables.ensures.rising

pub returns : goal.returns
returns c =
    let all = subst (IsPermutation (variables_of (index_of c.args.i.now))) (sym c.as_slice.ensures.value) c.in_ok-variables.ensures.all in
    subst (λ (cs : List Coef). IfOk c.counts.result (λ coefs. coefs.items ≡ cs)) (counted (index_of c.args.i.now) _ all) c.counts.ensures
