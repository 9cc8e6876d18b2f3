use Rattle.std.proofs.Common.{◌≡◌, ◌∙◌, sym, ap, arith, length, [], ◌∷◌}
use Rattle.prim_kernels.specs.Deltas.{folded}
use Rattle.prim_kernels.proofs.Items.{sole}
use Rattle.prim_kernels.proofs.folds.fold_over.Goals as goal

pub returns-in_ok-items-in-len1-up-clause-fold : goal.returns-in_ok-items-in-len1-up-clause-fold
returns-in_ok-items-in-len1-up-clause-fold c =
    let function = c.args.function.now in
    let one : length function.atoms ≡ 1 = omega (arith, c.len.ensures.len, c.if-len-ne1.false) in
    record {
      function = ap (λ xs. xs ∷ []) (sym (sole function.atoms c.in_ok-f-in-len1-up.f one c.in_ok-f-in-len1-up.ensures));
      others = λ i. folded (sym c.in_ok-acc-in-len1-up.ensures i) (sym c.in_ok-items-in-len1-up.ensures i);
      lead = omega (arith, c.in-len1-up.len_at_least, ap (λ d. length d) (c.dims.ensures.dims ∙ ap (λ a. a.dims) (sym c.in_ok-items-in-len1-up.ensures)));
    }
