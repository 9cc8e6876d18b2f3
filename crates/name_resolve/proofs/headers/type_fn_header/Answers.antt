use Rattle.std.proofs.Common.{rules, ◌≡◌, ap, arith, length}
use Rattle.sexp_reader.specs.Forms.{form_of, forms_of, forms_size}
use Rattle.name_resolve.proofs.RoomLemmas.{listed_size}
use Rattle.sexp_reader.proofs.Short.{count_within}
use Rattle.name_resolve.proofs.headers.type_fn_header.Goals as goal

pub bound_names-requires : goal.bound_names-requires
bound_names-requires c = omega (arith, c.requires.types, listed_size (form_of c.args.first.now) (forms_of c.in-Some-some_listed.names.now) c.in-Some-some_listed.ensures, count_within (forms_of c.in-Some-some_listed.names.now))

pub overflow_cast-count : goal.overflow_cast-count
overflow_cast-count c =
    let e : c.len-count.result ≡ length c.in_ok-bound.bound.items = search rules in
    omega (arith, e, c.in_ok-bound.ensures.count, c.requires.types, listed_size (form_of c.args.first.now) (forms_of c.in-Some-some_listed.names.now) c.in-Some-some_listed.ensures, count_within (forms_of c.in-Some-some_listed.names.now))

pub returns-clause-size : goal.returns-clause-size
returns-clause-size c =
    omega (arith, listed_size (form_of c.args.first.now) (forms_of c.in-Some-some_listed.names.now) c.in-Some-some_listed.ensures, count_within (forms_of c.in-Some-some_listed.names.now), c.in_ok-bound.ensures.count, ap forms_size c.in-Some.ensures)
