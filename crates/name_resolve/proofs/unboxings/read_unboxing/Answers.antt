use Rattle.std.proofs.Common.{ap, arith}
use Rattle.sexp_reader.specs.Forms.{form_of, forms_of, forms_size}
use Rattle.sexp_reader.proofs.Short.{some_size, count_within}
use Rattle.name_resolve.proofs.unboxings.read_unboxing.Goals as goal

pub bound_names-requires : goal.bound_names-requires
bound_names-requires c = omega (arith, c.requires, c.in-Some-box_parts.ensures.size, count_within (forms_of c.in-Some-box_parts.names.now))

pub returns-clause-size : goal.returns-clause-size
returns-clause-size c =
    omega (arith, c.in-Some-box_parts.ensures.size, count_within (forms_of c.in-Some-box_parts.names.now), c.in_ok-bound.ensures.count, ap forms_size c.in-Some.ensures, some_size (form_of c.in-Some-box_parts.term.now))
