use Rattle.std.proofs.Common.{◌∙◌, sym, ap}
use Rattle.std.proofs.lemmas.Result.{IfOk-weaker}
use Rattle.core_syntax.specs.Annotate.{annotated}
use Rattle.core_syntax.specs.Lists.{each}
use Rattle.core_syntax.specs.Refine.{expr_of}
use Rattle.core_syntax.specs.RefineTerms.{term_of}
use Rattle.core_syntax.specs.Subst.{put_all}
use Rattle.core_syntax.specs.TermPut.{term_put}
use Rattle.core_syntax.specs.Typed.{typed_rules}
use Rattle.reduction_laws.specs.Readings.{notes_from}
use Rattle.typed_start.proofs.starting.started.Goals as goal

pub returns-in-Ok : goal.returns-in-Ok
returns-in-Ok c =
    let t = (annotated (expr_of c.args.body.now) (notes_from c.args.at c.args.notes.now)).0 in
    IfOk-weaker c.with_arguments.result _ _ (λ u e. e ∙ ap (λ ts. term_put typed_rules typed_rules.put_none (put_all (each term_of ts)) (term_of c.in-Ok.body)) c.as_slice.ensures.value
    ∙ ap (λ r. term_put typed_rules typed_rules.put_none (put_all (each term_of c.in_ok-inputs.inputs.items)) r.0) (sym c.in-Ok.ensures) ∙ ap (λ ts. term_put typed_rules typed_rules.put_none (put_all ts) t) c.in_ok-inputs.ensures) c.with_arguments.ensures
