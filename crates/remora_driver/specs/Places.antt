-- Places in a text.
use Rattle.std.specs.Prelude.{ℕ, List, take}
use Rattle.core_syntax.specs.declared.span.Span.{Span}
use Rattle.sexp_reader.specs.Tokens.{start, place_after, span_at}

-- so many bytes of a text, behind its first bytes
abbrev pub bytes_behind : (first count : ℕ) → List ℕ → Span
bytes_behind first count bytes = span_at (place_after start (take first bytes)) count
