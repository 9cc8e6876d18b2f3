use Rattle.std.proofs.Common.{◌≡◌, refl, sym, ap, subst, ◌∙◌, ◌++◌, IfOk, arith}
use Rattle.core_syntax.specs.Lists.{onto}
use Rattle.core_syntax.specs.Refine.{index_of, ty_of}
use Rattle.core_syntax.specs.Sorts.{inner_blame}
use Rattle.core_syntax.specs.Kinds.{kind_blame}
use Rattle.core_syntax.proofs.TyRows.{is_fun, is_forall, is_pi, is_sigma}
use Rattle.kind_check.specs.Faults.{fault_of, own_fault}
use Rattle.kind_check.proofs.ContextLemmas.{onto-append}
use Rattle.kind_check.proofs.KindLemmas.{fault_found, fault_passed, arr_own, arr_inside}
use Rattle.kind_check.proofs.kinds.+kinds.Goals as goal

pub blame-returns-in-Some-clause-found : goal.blame-returns-in-Some-clause-found
blame-returns-in-Some-clause-found t c =
    fault_found _ _ _ _ (sym (ap fault_of c.in-Some.is) ∙ c.in_ok-fault-in-Fun.ensures.found)
    ∙ sym (ap (kind_blame (onto c.args.scope.now.items c.args.around.now)) (is_fun c.args.t.now _ _ c.in-Fun.output c.in-Fun.output c.as_slice.ensures refl c.in-Fun.is))

pub blame-returns-in-None-clause-found : goal.blame-returns-in-None-clause-found
blame-returns-in-None-clause-found t c =
    subst (λ o. IfOk c.blame.result (λ r. fault_of r ≡ o))
    (ap (λ ss. kind_blame (onto ss c.args.around.now) (ty_of c.get.result.now)) c.in_ok-fault-in-Fun.ensures.kept
    ∙ fault_passed _ _ (sym (ap fault_of c.in-None.is) ∙ c.in_ok-fault-in-Fun.ensures.found)
    ∙ sym (ap (kind_blame (onto c.args.scope.now.items c.args.around.now)) (is_fun c.args.t.now _ _ _ _ c.as_slice.ensures c.get.ensures c.in-Fun.is)))
    c.blame.ensures.found

pub blame-returns-in-Forall-clause-found : goal.blame-returns-in-Forall-clause-found
blame-returns-in-Forall-clause-found t c =
    subst (λ o. IfOk c.blame-in-Forall.result (λ r. fault_of r ≡ o))
    (sym (ap (kind_blame (onto c.args.scope.now.items c.args.around.now)) (is_forall c.args.t.now _ _ _ c.get-in-Forall.ensures c.in-Forall.is)))
    c.blame-in-Forall.ensures.found

pub blame-returns-in-Pi-clause-found : goal.blame-returns-in-Pi-clause-found
blame-returns-in-Pi-clause-found t c =
    subst (λ o. IfOk c.under.result (λ r. fault_of r ≡ o))
    (sym (ap (kind_blame (onto c.args.scope.now.items c.args.around.now)) (is_pi c.args.t.now _ _ _ _ c.as_slice-in-Pi.ensures c.get-in-Pi.ensures c.in-Pi.is)))
    c.under.ensures.found

pub blame-returns-in-Sigma-clause-found : goal.blame-returns-in-Sigma-clause-found
blame-returns-in-Sigma-clause-found t c =
    subst (λ o. IfOk c.under-in-Sigma.result (λ r. fault_of r ≡ o))
    (sym (ap (kind_blame (onto c.args.scope.now.items c.args.around.now)) (is_sigma c.args.t.now _ _ _ _ c.as_slice-in-Sigma.ensures c.get-in-Sigma.ensures c.in-Sigma.is)))
    c.under-in-Sigma.ensures.found

pub blame-returns-in-Some-own_test-clause-found : goal.blame-returns-in-Some-own_test-clause-found
blame-returns-in-Some-own_test-clause-found t c =
    arr_own (onto c.args.scope.now.items c.args.around.now) c.args.t.now _ _ c.in-Arr.is c.get-in-Arr.result.now _ c.get-in-Arr.ensures
    (sym (ap fault_of c.in-Some-own_test.is) ∙ c.own_test.ensures
    ∙ ap (λ ss. own_fault (onto ss c.args.around.now) (ty_of c.get-in-Arr.result.now) (index_of c.in-Arr.shape)) c.as_slice-in-Arr.ensures.value)

pub blame-returns-in-Some-2-clause-found : goal.blame-returns-in-Some-2-clause-found
blame-returns-in-Some-2-clause-found t c =
    fault_found _ _ _ _ (sym (ap fault_of c.in-Some-2.is) ∙ c.in_ok-fault-in-None-own_test.ensures.found)
    ∙ arr_inside (onto c.args.scope.now.items c.args.around.now) c.args.t.now _ _ c.in-Arr.is c.get-in-Arr.result.now c.get-in-None-own_test.result.now c.get-in-Arr.ensures c.get-in-None-own_test.ensures
    (sym (ap fault_of c.in-None-own_test.is) ∙ c.own_test.ensures
    ∙ ap (λ ss. own_fault (onto ss c.args.around.now) (ty_of c.get-in-Arr.result.now) (index_of c.in-Arr.shape)) c.as_slice-in-Arr.ensures.value)

pub blame-returns-in-None-2-clause-found : goal.blame-returns-in-None-2-clause-found
blame-returns-in-None-2-clause-found t c =
    c.in_shape.ensures
    ∙ ap (λ ss. inner_blame (onto ss c.args.around.now) (index_of c.in-Arr.shape)) (c.as_slice-in-None-2.ensures.value ∙ c.in_ok-fault-in-None-own_test.ensures.kept)
    ∙ fault_passed _ _ (sym (ap fault_of c.in-None-2.is) ∙ c.in_ok-fault-in-None-own_test.ensures.found)
    ∙ arr_inside (onto c.args.scope.now.items c.args.around.now) c.args.t.now _ _ c.in-Arr.is c.get-in-Arr.result.now c.get-in-None-own_test.result.now c.get-in-Arr.ensures c.get-in-None-own_test.ensures
    (sym (ap fault_of c.in-None-own_test.is) ∙ c.own_test.ensures
    ∙ ap (λ ss. own_fault (onto ss c.args.around.now) (ty_of c.get-in-Arr.result.now) (index_of c.in-Arr.shape)) c.as_slice-in-Arr.ensures.value)

pub under-returns-clause-found : goal.under-returns-clause-found
under-returns-clause-found t c =
    let extended : c.extend_from_slice.new.self.items ≡ c.args.scope.now.items ++ c.args.bound.now = grind arith in
    subst (λ o. IfOk c.blame-found.result (λ r. fault_of r ≡ o))
    (ap (λ ss. kind_blame ss (ty_of c.args.body.now))
    (ap (λ xs. onto xs c.args.around.now) extended ∙ onto-append c.args.scope.now.items c.args.bound.now c.args.around.now))
    c.blame-found.ensures.found
