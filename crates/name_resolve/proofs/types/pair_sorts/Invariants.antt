use Rattle.std.proofs.Common.{◌≡◌, ◌∷◌, drop}
use Rattle.sexp_reader.specs.Forms.{forms_of}
use Rattle.name_resolve.specs.Reading.{mapped}
use Rattle.name_resolve.proofs.Loops.{before}
use Rattle.name_resolve.specs.TypeForms.{pair_sorts}
use Rattle.name_resolve.proofs.types.pair_sorts.Given as goal

abbrev pub invariant-loop-pair : goal.invariant-loop-pair
invariant-loop-pair l = pair_sorts (forms_of l.pairs) ≡ mapped (before (λ s. s) (λ s ss. s ∷ ss) l.read.items) (pair_sorts (forms_of (drop l.pair-index l.pairs)))
