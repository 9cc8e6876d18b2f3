-- What the words ask for.
use Rattle.std.specs.Prelude.{◌≡◌, ℕ, ◌≤◌, List, [], ◌∷◌, length, Bool, true, false, Option, Some, None, if◌then◌else◌, codes}
use Rattle.std.specs.Str.{bytes_eq}
use Rattle.std.specs.Str.Parse.{IsNumeral, digits_value}
use Rattle.remora_driver.specs.declared.job.Job.{Job}
use Rattle.remora_driver.specs.declared.job.Job.TheVariants.{Check, Build, Run, Exec, Reduce, Soak}

-- the budget of words that give none
abbrev pub usual_budget : ℕ
usual_budget = 10000000

-- one to ten decimal digits, with a value from 1 to 1,000,000,000
pub record IsBudget (word : List ℕ) (budget : ℕ) : Type 0 where
  pub numeral : IsNumeral 10 word
  pub few : length word ≤ 10
  pub value : digits_value 10 word ≡ budget
  pub some : 1 ≤ budget
  pub most : budget ≤ 1000000000

-- the job of a command that takes a budget
abbrev pub limited_job : List ℕ → ℕ → Option Job
limited_job command budget =
    if bytes_eq command (codes "run") then Some (Run budget) else
    if bytes_eq command (codes "exec") then Some (Exec budget) else
    if bytes_eq command (codes "reduce") then Some (Reduce budget) else None

-- the job of a command without one
abbrev pub plain_job : List ℕ → Option Job
plain_job command =
    if bytes_eq command (codes "check") then Some Check else
    if bytes_eq command (codes "build") then Some Build else limited_job command usual_budget

-- one to four decimal digits, with a value from 1 to 4,096
pub record IsCount (word : List ℕ) (count : ℕ) : Type 0 where
  pub numeral : IsNumeral 10 word
  pub few : length word ≤ 4
  pub value : digits_value 10 word ≡ count
  pub some : 1 ≤ count
  pub most : count ≤ 4096

-- the words ask for the job: a command and a file, and then perhaps `--steps` and a budget; or `soak` and a number of definitions
pub data IsJob (words : List (List ℕ)) (job : Job) : Type 0 where
  plain : (command file : List ℕ) → words ≡ command ∷ file ∷ [] → plain_job command ≡ Some job → IsJob words job
  limited : (command file steps : List ℕ) (budget : ℕ) → words ≡ command ∷ file ∷ codes "--steps" ∷ steps ∷ [] → IsBudget steps budget → limited_job command budget ≡ Some job → IsJob words job
  soak : (word : List ℕ) (count : ℕ) → words ≡ codes "soak" ∷ word ∷ [] → IsCount word count → job ≡ Soak count → IsJob words job

-- the words ask for a job
abbrev pub IsCall : List (List ℕ) → Type 0
IsCall words = (job : Job) × IsJob words job

-- the most bytes of a program source
abbrev pub longest_source : ℕ
longest_source = 1048576

-- the most bytes of a code text
abbrev pub longest_code : ℕ
longest_code = 16777216

-- the most bytes of what a job reads of its program source
abbrev pub longest : Job → ℕ
longest Check = longest_source
longest Build = longest_source
longest (Run budget) = longest_source
longest (Exec budget) = longest_code
longest (Reduce budget) = longest_source
longest (Soak count) = 0

-- the job reads its program source
abbrev pub reads_source : Job → Bool
reads_source (Soak count) = false
reads_source _ = true
