use Rattle.std.proofs.Common.{refl, subst, IfOk}
use Rattle.core_syntax.specs.Lists.{each}
use Rattle.core_syntax.specs.RefineTerms.{term_of}
use Rattle.typed_step.specs.Runs.{TermRun}
use Rattle.typed_step.proofs.Ended.{still_ends, stepped}
use Rattle.typed_step.proofs.stepping.step.Goals as goal

pub next-requires : goal.next-requires
next-requires c =
    still_ends (each term_of c.args.closed.defs) (term_of c.args.closed.term) c.args.closed.defs c.run-ran.new.term refl c.run-ran.new.budget c.run-ran.result c.looked.result
    (subst (λ x. IfOk c.run-ran.result (λ e. TermRun (each term_of x) 1 (term_of c.args.closed.term) e c.run-ran.new.budget (term_of c.run-ran.new.term))) c.as_slice.ensures c.run-ran.ensures) c.looked.ensures c.args.closed.typed

pub returns : goal.returns
returns c =
    stepped (each term_of c.args.closed.defs) (term_of c.args.closed.term) c.args.closed.defs c.run-ran.new.term refl c.run-ran.new.budget c.run-ran.result c.looked.result c.next.result
    (subst (λ x. IfOk c.run-ran.result (λ e. TermRun (each term_of x) 1 (term_of c.args.closed.term) e c.run-ran.new.budget (term_of c.run-ran.new.term))) c.as_slice.ensures c.run-ran.ensures) c.looked.ensures c.next.ensures
