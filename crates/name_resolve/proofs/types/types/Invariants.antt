use Rattle.std.proofs.Common.{◌≡◌, ◌∷◌, drop}
use Rattle.sexp_reader.specs.Forms.{forms_of}
use Rattle.name_resolve.specs.Reading.{mapped}
use Rattle.name_resolve.proofs.Loops.{before}
use Rattle.core_syntax.specs.Refine.{ty_of}
use Rattle.name_resolve.specs.TypeForms.{types}
use Rattle.name_resolve.proofs.types.types.Given as goal

abbrev pub invariant-loop-form : goal.invariant-loop-form
invariant-loop-form l = (l.scopes ≡ l.initial.scopes) × (types l.initial.scopes (forms_of l.forms) ≡ mapped (before ty_of (λ t ts. t ∷ ts) l.read.items) (types l.initial.scopes (forms_of (drop l.form-index l.forms))))
