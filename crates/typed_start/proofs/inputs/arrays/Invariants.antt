use Rattle.std.proofs.Common.{◌≡◌, take}
use Rattle.array_values.specs.Data.{array_data}
use Rattle.core_syntax.specs.Data.{data_terms}
use Rattle.core_syntax.specs.Lists.{each}
use Rattle.core_syntax.specs.Refine.{ty_of}
use Rattle.core_syntax.specs.RefineTerms.{term_of}
use Rattle.typed_start.proofs.inputs.arrays.Given as goal

abbrev pub invariant-loop-place : goal.invariant-loop-place
invariant-loop-place l = each term_of l.terms.items ≡ data_terms (each ty_of (take l.place l.types)) (each array_data (take l.place l.inputs))
