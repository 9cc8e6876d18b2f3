use Rattle.core_syntax.specs.Refine.{expr_of}
use Rattle.type_check.specs.Synth.{context_with}
use Rattle.type_check.proofs.contexts.SynthLemmas.{steady_within, made_within, synth_met, synth_has, synth_refused}
use Rattle.type_check.proofs.synthesis.synth.Goals as goal

pub expression-requires-clause-steady : goal.expression-requires-clause-steady
expression-requires-clause-steady c = steady_within (context_with c.args.cx.now) c.enter.new.checker c.in-Ok.ensures.entered c.requires.context

pub expression-requires-clause-made : goal.expression-requires-clause-made
expression-requires-clause-made c = made_within (context_with c.args.cx.now) c.enter.new.checker c.in-Ok.ensures.entered (expr_of c.args.e.now) c.requires.made

pub returns-in-Ok-clause-met : goal.returns-in-Ok-clause-met
returns-in-Ok-clause-met c =
    synth_met (context_with c.args.cx.now) c.enter.new.checker c.in-Ok.ensures.entered c.expression.new.checker (expr_of c.args.e.now) c.expression.result c.expression.ensures

pub returns-in-Ok-clause-has : goal.returns-in-Ok-clause-has
returns-in-Ok-clause-has c =
    synth_has (context_with c.args.cx.now) c.enter.new.checker c.in-Ok.ensures.entered c.expression.new.checker (expr_of c.args.e.now) c.expression.result c.expression.ensures

pub returns-in-Ok-clause-refused : goal.returns-in-Ok-clause-refused
returns-in-Ok-clause-refused c =
    synth_refused (context_with c.args.cx.now) c.enter.new.checker c.in-Ok.ensures.entered c.expression.new.checker (expr_of c.args.e.now) c.expression.result c.expression.ensures
