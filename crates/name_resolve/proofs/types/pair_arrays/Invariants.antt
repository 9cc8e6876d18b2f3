use Rattle.std.proofs.Common.{◌≡◌, drop}
use Rattle.sexp_reader.specs.Forms.{forms_of}
use Rattle.name_resolve.specs.Reading.{mapped}
use Rattle.name_resolve.proofs.Loops.{before}
use Rattle.core_syntax.specs.Refine.{ty_of}
use Rattle.core_syntax.specs.Syntax.{more_tys}
use Rattle.name_resolve.specs.TypeForms.{pair_arrays}
use Rattle.name_resolve.proofs.types.pair_arrays.Given as goal

abbrev pub invariant-loop-pair : goal.invariant-loop-pair
invariant-loop-pair l = (l.scopes ≡ l.initial.scopes) × (pair_arrays l.initial.scopes (forms_of l.pairs) ≡ mapped (before ty_of more_tys l.read.items) (pair_arrays l.initial.scopes (forms_of (drop l.pair-index l.pairs))))
