use Rattle.std.proofs.Common.{◌≡◌, drop}
use Rattle.sexp_reader.specs.Forms.{forms_of}
use Rattle.name_resolve.specs.Held.{held_all, listed_binders}
use Rattle.name_resolve.proofs.BinderLemmas.{prefixed}
use Rattle.name_resolve.proofs.binders.binders.Given as goal

abbrev pub invariant-loop-form : goal.invariant-loop-form
invariant-loop-form l = listed_binders l.listing l.space (forms_of l.forms) ≡ prefixed (held_all l.all.items) (listed_binders l.listing l.space (forms_of (drop l.form-index l.forms)))
