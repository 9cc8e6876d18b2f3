use Rattle.std.proofs.Common.{◌≡◌, ◌∙◌, sym, ap}
use Rattle.core_syntax.specs.Refine.{index_of, ty_of, tys_of}
use Rattle.type_check.proofs.exits.ApplyLemmas.{function_is, refused_count, items_length}
use Rattle.type_check.proofs.application.function.Goals as goal

pub returns-then-inputs-count-clause-refused : goal.returns-then-inputs-count-clause-refused
returns-then-inputs-count-clause-refused c = λ Γ f es ns is count found.
    refused_count Γ c.args.at f es (ty_of c.args.t.now) ns found (tys_of c.function_parts.result.0.now) (ty_of c.function_parts.result.1.now) (index_of c.array_parts.result.1.now)
    (function_is _ _ _ _ _ _ _ (sym (ap ty_of c.ty-tree.ensures.tree) ∙ c.array_parts.ensures) c.function_parts.ensures)
    (λ e. c.if-inputs-count.true (sym (items_length c.function_parts.result.0.now) ∙ e ∙ count))
