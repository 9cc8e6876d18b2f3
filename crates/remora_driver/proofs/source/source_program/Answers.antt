use Rattle.std.proofs.Common.{sym, subst}
use Rattle.sexp_reader.specs.Forms.{forms_of}
use Rattle.sexp_reader.specs.Reads.{Reads}
use Rattle.remora_driver.proofs.Sourced.{source_resolved}
use Rattle.remora_driver.proofs.source.source_program.Goals as goal

pub returns-in-Ok : goal.returns-in-Ok
returns-in-Ok c =
    source_resolved c.args.source.now (forms_of c.as_slice.result.now) c.resolved.result c.requires
    (subst (λ xs. Reads c.args.source.now (forms_of xs)) (sym c.as_slice.ensures.value) c.in-Ok.ensures.found) c.resolved.ensures
