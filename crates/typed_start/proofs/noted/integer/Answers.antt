use Rattle.std.proofs.Common.{◌≡◌, ◌∙◌, ap, subst, IfOk}
use Rattle.core_syntax.specs.Prims.{int_ty}
use Rattle.core_syntax.specs.Refine.{ty_of, indices_of}
use Rattle.core_syntax.specs.Syntax.{Dims, Arr, no_span}
use Rattle.core_syntax.proofs.TreeRows.{form_of_dims}
use Rattle.typed_start.proofs.noted.integer.Goals as goal

pub returns : goal.returns
returns c =
    subst (λ i. IfOk c.array.result (λ t. ty_of t ≡ Arr no_span int_ty i)) (form_of_dims no_span c.new.result ∙ ap (λ xs. Dims no_span (indices_of xs)) c.new.ensures)
    c.array.ensures
