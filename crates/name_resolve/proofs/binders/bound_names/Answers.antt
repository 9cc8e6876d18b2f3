use Rattle.std.proofs.Common.{ap, arith, length}
use Rattle.sexp_reader.specs.Forms.{forms_of}
use Rattle.name_resolve.proofs.BinderLemmas.{count_read}
use Rattle.name_resolve.proofs.binders.bound_names.Goals as goal

pub distinct-requires : goal.distinct-requires
distinct-requires c = omega (arith, c.as_slice.ensures.len, ap length c.as_slice.ensures.value, count_read c.args.at c.args.listing c.args.space (forms_of c.args.forms.now) c.in_ok-binders.binders.items c.in_ok-binders.ensures)

pub returns-clause-count : goal.returns-clause-count
returns-clause-count c = count_read c.args.at c.args.listing c.args.space (forms_of c.args.forms.now) c.in_ok-binders.binders.items c.in_ok-binders.ensures
