use Rattle.std.proofs.Common.{◌≡◌, ◌≤◌, ◌+◌, ◌∷◌, drop, length}
use Rattle.core_syntax.specs.Programs.{def_of}
use Rattle.sexp_reader.specs.Forms.{forms_of, forms_size}
use Rattle.name_resolve.specs.Reading.{mapped}
use Rattle.name_resolve.specs.Scopes.{behind}
use Rattle.name_resolve.specs.Tops.{definitions_read, all_known}
use Rattle.name_resolve.proofs.Loops.{before}
use Rattle.name_resolve.proofs.top.read_definitions.Given as goal

-- what is read so far with what is behind it is the whole, and the names known then are those known behind the whole
abbrev pub invariant-loop-form : goal.invariant-loop-form
invariant-loop-form l =
    (l.scopes ≡ behind l.scopes.defs)
    × (all_known l.scopes.defs (forms_of (drop l.form-index l.forms)) ≡ all_known l.initial.scopes.defs (forms_of l.forms))
    × (definitions_read l.initial.scopes.defs (forms_of l.forms) ≡ mapped (before def_of (λ d ds. d ∷ ds) l.read.items) (definitions_read l.scopes.defs (forms_of (drop l.form-index l.forms))))
    × (length l.scopes.defs + forms_size (forms_of (drop l.form-index l.forms)) ≤ length l.initial.scopes.defs + forms_size (forms_of l.forms))
