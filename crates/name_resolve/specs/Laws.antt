-- What the definitions of meaning and of refusals come to.
use Rattle.std.specs.Prelude.{◌≡◌, ◌≤◌}
use Rattle.core_syntax.specs.Syntax.{Program}
use Rattle.sexp_reader.specs.Forms.{Forms}
use Rattle.name_resolve.specs.Means.{Means, NameBlame}
use Rattle.name_resolve.specs.Reading.{Refusal}

-- forms mean one program at most
abbrev pub MeansOneProgram : Type 0
MeansOneProgram = (forms : Forms) (P Q : Program) → Means forms P → Means forms Q → P ≡ Q

-- they are refused at one place with one number at most
abbrev pub HasOneRefusal : Type 0
HasOneRefusal = (forms : Forms) (r s : Refusal) → NameBlame forms r → NameBlame forms s → r ≡ s

-- forms that mean a program aren't refused
abbrev pub MeansUnrefused : Type 0
MeansUnrefused = (forms : Forms) (P : Program) (r : Refusal) → Means forms P → ¬ NameBlame forms r

-- the numbers of refusals are 7 to 12
abbrev pub IsNumbered : Type 0
IsNumbered = (forms : Forms) (r : Refusal) → NameBlame forms r → (7 ≤ r.0) × (r.0 ≤ 12)
