use Rattle.std.proofs.Common.{refl, sym, ap, ◌∙◌}
use Rattle.core_syntax.specs.Refine.{index_of, ty_of, tys_of}
use Rattle.core_syntax.proofs.TyRows.{is_fun, is_forall, is_pi, is_sigma, is_arr}
use Rattle.core_syntax.specs.Norm.{norm_word, has_large}
use Rattle.core_syntax.specs.NormTypes.{ty_has_large, tys_have_large}
use Rattle.type_equal.proofs.MeasureLemmas.{or_true, or_false}
use Rattle.type_equal.proofs.measuring.+large.Goals as goal

pub is_large-returns-then-any_large : goal.is_large-returns-then-any_large
is_large-returns-then-any_large t c =
    c.if-any_large.true ∙ or_true (tys_have_large (tys_of c.as_slice.result.now)) (ty_has_large (ty_of c.in-Fun.output)) (sym c.any_large.ensures ∙ c.if-any_large.true)
    ∙ sym (ap ty_has_large (is_fun c.args.t.now _ _ c.in-Fun.output c.in-Fun.output c.as_slice.ensures refl c.in-Fun.is))

pub is_large-returns-else-any_large : goal.is_large-returns-else-any_large
is_large-returns-else-any_large t c =
    c.is_large.ensures ∙ or_false (tys_have_large (tys_of c.as_slice.result.now)) (ty_has_large (ty_of c.get.result.now)) (sym c.any_large.ensures ∙ c.if-any_large.false)
    ∙ sym (ap ty_has_large (is_fun c.args.t.now _ _ _ _ c.as_slice.ensures c.get.ensures c.in-Fun.is))

pub is_large-returns-in-Forall : goal.is_large-returns-in-Forall
is_large-returns-in-Forall t c =
    c.is_large-in-Forall.ensures ∙ sym (ap ty_has_large (is_forall c.args.t.now _ _ _ c.get-in-Forall.ensures c.in-Forall.is))

pub is_large-returns-in-Pi : goal.is_large-returns-in-Pi
is_large-returns-in-Pi t c =
    c.is_large-in-Pi.ensures ∙ sym (ap ty_has_large (is_pi c.args.t.now c.in-Pi.field-0 c.in-Pi.field-0 _ _ refl c.get-in-Pi.ensures c.in-Pi.is))

pub is_large-returns-in-Sigma : goal.is_large-returns-in-Sigma
is_large-returns-in-Sigma t c =
    c.is_large-in-Sigma.ensures ∙ sym (ap ty_has_large (is_sigma c.args.t.now c.in-Sigma.field-0 c.in-Sigma.field-0 _ _ refl c.get-in-Sigma.ensures c.in-Sigma.is))

pub is_large-returns-then-is_large : goal.is_large-returns-then-is_large
is_large-returns-then-is_large t c =
    c.if-is_large.true ∙ or_true (ty_has_large (ty_of c.get-in-Arr.result.now)) (has_large (norm_word (index_of c.in-Arr.shape))) (sym c.is_large-in-Arr.ensures ∙ c.if-is_large.true)
    ∙ sym (ap ty_has_large (is_arr c.args.t.now _ _ c.in-Arr.shape c.get-in-Arr.ensures c.in-Arr.is))

pub is_large-returns-else-is_large : goal.is_large-returns-else-is_large
is_large-returns-else-is_large t c =
    c.has_large.ensures ∙ or_false (ty_has_large (ty_of c.get-in-Arr.result.now)) (has_large (norm_word (index_of c.in-Arr.shape))) (sym c.is_large-in-Arr.ensures ∙ c.if-is_large.false)
    ∙ sym (ap ty_has_large (is_arr c.args.t.now _ _ c.in-Arr.shape c.get-in-Arr.ensures c.in-Arr.is))
