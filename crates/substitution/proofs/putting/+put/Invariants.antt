use Rattle.std.proofs.Common.{◌≡◌, take}
use Rattle.core_syntax.specs.RefineTerms.{terms_of, cells_of}
use Rattle.core_syntax.specs.TermPut.{terms_put, cells_put}
use Rattle.core_syntax.specs.Typed.{typed_rules}
use Rattle.type_substitution.specs.Putting.{puts_at, terms_at}
use Rattle.substitution.proofs.putting.+put.Given as goal

abbrev pub invariant-put_terms-loop-term : goal.invariant-put_terms-loop-term
invariant-put_terms-loop-term l =
    terms_of l.put.items ≡ terms_put typed_rules (puts_at l.under.indices l.under.types l.puts.indices.now l.puts.types.now) (terms_at l.under.terms l.puts.terms.now) (terms_of (take l.term-index l.terms))

abbrev pub invariant-put_atoms-loop-atom : goal.invariant-put_atoms-loop-atom
invariant-put_atoms-loop-atom l =
    cells_of l.put.items ≡ cells_put typed_rules (puts_at l.under.indices l.under.types l.puts.indices.now l.puts.types.now) (terms_at l.under.terms l.puts.terms.now) (cells_of (take l.atom-index l.atoms))
