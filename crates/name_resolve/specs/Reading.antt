-- Readings: what was read, or the first refusal, its number and its place.
use Rattle.std.specs.Prelude.{ℕ, Bool, true, false, Option, Some, None, Result, Ok, Err}
use Rattle.core_syntax.specs.declared.span.Span.{Span}

abbrev pub Refusal : Type 0
Refusal = ℕ × Span

abbrev pub Read : Type 0 → Type 0
Read A = Result A Refusal

-- this of what is read
abbrev pub mapped : {A B : Type 0} → (A → B) → Read A → Read B
mapped f (Ok a) = Ok (f a)
mapped f (Err e) = Err e

-- one, and then what depends on it
abbrev pub with : {A B : Type 0} → Read A → (A → Read B) → Read B
with (Ok a) f = f a
with (Err e) f = Err e

-- this of two, read one after the other
abbrev pub both : {A B C : Type 0} → (A → B → C) → Read A → Read B → Read C
both f (Ok a) r = mapped (f a) r
both f (Err e) r = Err e

-- this of three
abbrev pub three : {A B C D : Type 0} → (A → B → C → D) → Read A → Read B → Read C → Read D
three f (Ok a) r s = both (f a) r s
three f (Err e) r s = Err e

-- what the form at this place has to have, and then what depends on it
abbrev pub asked : {A B : Type 0} → Span → Option A → (A → Read B) → Read B
asked at (Some a) f = f a
asked at None f = Err (7, at)

-- the form at this place has to be so
abbrev pub tested : {A : Type 0} → Span → Bool → Read A → Read A
tested at true r = r
tested at false r = Err (7, at)
