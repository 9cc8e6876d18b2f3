use Rattle.std.proofs.Common.{refl, subst, IfOk}
use Rattle.core_syntax.specs.Lists.{each}
use Rattle.core_syntax.specs.RefineTerms.{term_of}
use Rattle.typed_step.specs.Runs.{TermRun}
use Rattle.typed_step.proofs.Ended.{is_end, reduced}
use Rattle.typed_step.proofs.stepping.reduce.Goals as goal

pub next-requires : goal.next-requires
next-requires c =
    is_end (each term_of c.args.closed.defs) (term_of c.args.closed.term) c.args.closed.defs c.run-ran.new.term c.args.k c.run-ran.new.budget refl c.run-ran.result
    (subst (λ x. IfOk c.run-ran.result (λ e. TermRun (each term_of x) c.args.k (term_of c.args.closed.term) e c.run-ran.new.budget (term_of c.run-ran.new.term))) c.as_slice.ensures c.run-ran.ensures) c.args.closed.typed

pub returns : goal.returns
returns c =
    reduced (each term_of c.args.closed.defs) (term_of c.args.closed.term) c.args.closed.defs c.run-ran.new.term c.args.k c.run-ran.new.budget refl c.run-ran.result c.next.result
    (subst (λ x. IfOk c.run-ran.result (λ e. TermRun (each term_of x) c.args.k (term_of c.args.closed.term) e c.run-ran.new.budget (term_of c.run-ran.new.term))) c.as_slice.ensures c.run-ran.ensures) c.next.ensures
