-- Words and their runs.
use Rattle.std.proofs.Common.{◌≡◌, ℕ, ◌≤◌, Bool, true, false, List, [], ◌∷◌, ◌++◌, map, ap, ◌∙◌, refl}
use Rattle.std.specs.List.{All}
use Rattle.std.proofs.lemmas.List.Elements.{All-nil, All-cons, All-head, All-tail}
use Rattle.core_syntax.specs.declared.index.Sort.TheVariants as sort
use Rattle.core_syntax.specs.declared.norm.Letter.TheVariants as letter
use Rattle.core_syntax.specs.Linear.{Linear}
use Rattle.core_syntax.specs.Word.{Word}
use Rattle.machine_table.specs.IndexBounds.{Scope, IsVar, IsDim, IsLetter, IsShape}
use Rattle.code_text.specs.IndexText.{Run, Side, Single, with_dim, runs}
use Rattle.code_text.specs.IndexReading.{largest, run_next, word_of}
use Rattle.code_text.proofs.indices.Sums.{IsVarUpTo}

-- dims that stand side by side, at least one
abbrev pub IsSide : Scope → List Linear → Type 0
IsSide scope [] = ⊥
IsSide scope (d ∷ ds) = IsDim scope d × All (IsDim scope) ds

-- what may come in a word, where dims may come or not
abbrev pub IsRun : Scope → Bool → Run → Type 0
IsRun scope true (Side ds) = IsSide scope ds
IsRun scope false (Side ds) = ⊥
IsRun scope dims (Single k) = IsVarUpTo scope sort.Shape largest k

-- runs of which no two of dims stand side by side
abbrev pub Standing : Scope → Bool → List Run → Type 0
Standing scope dims [] = Unit {0}
Standing scope dims (r ∷ rs) = IsRun scope dims r × Standing scope (run_next dims r) rs

-- ---- the word of the runs of a word is that word

word_with : (d : Linear) (rs : List Run) → word_of (with_dim d rs) ≡ letter.Dim d ∷ word_of rs
word_with d [] = refl
word_with d (Side ds ∷ rs) = refl
word_with d (Single k ∷ rs) = refl

pub word_runs : (w : Word) → word_of (runs w) ≡ w
word_runs [] = refl
word_runs (letter.Dim d ∷ w) = word_with d (runs w) ∙ ap (λ v. letter.Dim d ∷ v) (word_runs w)
word_runs (letter.Var k ∷ w) = ap (λ v. letter.Var k ∷ v) (word_runs w)

-- ---- the runs of the word of runs are those runs

with_first : (scope : Scope) (d : Linear) (rs : List Run) → Standing scope false rs → with_dim d rs ≡ Side (d ∷ []) ∷ rs
with_first scope d [] is = refl
with_first scope d (Side ds ∷ rs) is = absurd is.0
with_first scope d (Single k ∷ rs) is = refl

side_runs : (scope : Scope) (d : Linear) (ds : List Linear) (w : Word) (rs : List Run) → runs w ≡ rs → Standing scope false rs → runs (map letter.Dim (d ∷ ds) ++ w) ≡ Side (d ∷ ds) ∷ rs
side_runs scope d [] w rs e is = ap (with_dim d) e ∙ with_first scope d rs is
side_runs scope d (e ∷ ds) w rs same is = ap (with_dim d) (side_runs scope e ds w rs same is)

pub runs_word : (scope : Scope) (dims : Bool) (rs : List Run) → Standing scope dims rs → runs (word_of rs) ≡ rs
runs_word scope dims [] is = refl
runs_word scope true (Side [] ∷ rs) is = absurd is.0
runs_word scope true (Side (d ∷ ds) ∷ rs) is = side_runs scope d ds (word_of rs) rs (runs_word scope false rs is.1) is.1
runs_word scope false (Side ds ∷ rs) is = absurd is.0
runs_word scope true (Single k ∷ rs) is = ap (λ qs. Single k ∷ qs) (runs_word scope true rs is.1)
runs_word scope false (Single k ∷ rs) is = ap (λ qs. Single k ∷ qs) (runs_word scope true rs is.1)

-- ---- the runs of a word stand so

standing_with : (scope : Scope) (d : Linear) (rs : List Run) → IsDim scope d → Standing scope true rs → Standing scope true (with_dim d rs)
standing_with scope d [] one is = ((one, All-nil (IsDim scope)), tt)
standing_with scope d (Side [] ∷ rs) one is = absurd is.0
standing_with scope d (Side (e ∷ ds) ∷ rs) one is = ((one, All-cons (IsDim scope) e ds is.0.0 is.0.1), is.1)
standing_with scope d (Single k ∷ rs) one is = ((one, All-nil (IsDim scope)), is)

pub runs_stand : (scope : Scope) (known : (k : ℕ) → IsVar scope sort.Shape k → k ≤ largest) (w : Word) → IsShape scope w → Standing scope true (runs w)
runs_stand scope known [] is = tt
runs_stand scope known (letter.Dim d ∷ w) is = standing_with scope d (runs w) (All-head (IsLetter scope) (letter.Dim d) w is) (runs_stand scope known w (All-tail (IsLetter scope) (letter.Dim d) w is))
runs_stand scope known (letter.Var k ∷ w) is =
    let one = All-head (IsLetter scope) (letter.Var k) w is in
    ((one, known k one), runs_stand scope known w (All-tail (IsLetter scope) (letter.Var k) w is))

-- ---- the word of runs is one

side_letters : (scope : Scope) (ds : List Linear) (w : Word) → All (IsDim scope) ds → IsShape scope w → IsShape scope (map letter.Dim ds ++ w)
side_letters scope [] w all is = is
side_letters scope (d ∷ ds) w all is =
    All-cons (IsLetter scope) (letter.Dim d) (map letter.Dim ds ++ w) (All-head (IsDim scope) d ds all) (side_letters scope ds w (All-tail (IsDim scope) d ds all) is)

pub word_is : (scope : Scope) (dims : Bool) (rs : List Run) → Standing scope dims rs → IsShape scope (word_of rs)
word_is scope dims [] is = All-nil (IsLetter scope)
word_is scope true (Side [] ∷ rs) is = absurd is.0
word_is scope true (Side (d ∷ ds) ∷ rs) is = side_letters scope (d ∷ ds) (word_of rs) (All-cons (IsDim scope) d ds is.0.0 is.0.1) (word_is scope false rs is.1)
word_is scope false (Side ds ∷ rs) is = absurd is.0
word_is scope true (Single k ∷ rs) is = All-cons (IsLetter scope) (letter.Var k) (word_of rs) is.0.0 (word_is scope true rs is.1)
word_is scope false (Single k ∷ rs) is = All-cons (IsLetter scope) (letter.Var k) (word_of rs) is.0.0 (word_is scope true rs is.1)
