use Rattle.std.proofs.Common.{◌≡◌, drop}
use Rattle.core_syntax.specs.Refine.{index_of}
use Rattle.core_syntax.specs.Syntax.{more}
use Rattle.sexp_reader.specs.Forms.{forms_of}
use Rattle.name_resolve.specs.IndexForms.{indices}
use Rattle.name_resolve.specs.Reading.{mapped}
use Rattle.name_resolve.proofs.Loops.{before}
use Rattle.name_resolve.proofs.indices.+indices.Given as goal

abbrev pub invariant-indices-loop-form : goal.invariant-indices-loop-form
invariant-indices-loop-form l = indices l.names (forms_of l.forms) ≡ mapped (before index_of more l.read.items) (indices l.names (forms_of (drop l.form-index l.forms)))
