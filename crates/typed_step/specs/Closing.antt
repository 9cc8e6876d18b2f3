-- Closed terms of typed programs.
use Rattle.std.specs.Prelude.{List}
use Rattle.core_syntax.specs.Syntax.{Ty}
use Rattle.core_syntax.specs.TermTyping.{HasClosed, DefTermsTyped}
use Rattle.core_syntax.specs.Typed.{TypedTerm}

-- the definitions and the term have types
abbrev pub IsClosed : List TypedTerm → TypedTerm → Type 0
IsClosed defs t = (tys : List Ty) × DefTermsTyped tys defs × ((u : Ty) × HasClosed tys t u)
