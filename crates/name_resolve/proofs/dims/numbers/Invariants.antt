use Rattle.std.proofs.Common.{◌≡◌, ◌∷◌, drop}
use Rattle.sexp_reader.specs.Forms.{forms_of}
use Rattle.name_resolve.specs.Reading.{mapped}
use Rattle.name_resolve.proofs.Loops.{before}
use Rattle.name_resolve.specs.TermForms.{numbers}
use Rattle.name_resolve.proofs.dims.numbers.Given as goal

abbrev pub invariant-loop-form : goal.invariant-loop-form
invariant-loop-form l = numbers (forms_of l.forms) ≡ mapped (before (λ n. n) (λ n ns. n ∷ ns) l.read.items) (numbers (forms_of (drop l.form-index l.forms)))
