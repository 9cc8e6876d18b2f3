-- Indices of sort Shape, read and spelled.
use Rattle.std.proofs.Common.{◌≡◌, ℕ, zero, suc, Bool, true, false, List, [], ◌∷◌, ◌++◌, ap, sym, ◌∙◌, refl, arith}
use Rattle.std.specs.Prelude.{codes}
use Rattle.std.specs.List.{All}
use Rattle.std.proofs.lemmas.Bool.{false≢true}
use Rattle.std.proofs.lemmas.List.Elements.{All-nil, All-cons, All-head, All-tail}
use Rattle.core_syntax.specs.declared.index.Sort.TheVariants as sort
use Rattle.core_syntax.specs.Linear.{Linear}
use Rattle.machine_table.specs.IndexBounds.{Scope, InBlock, Under, IsDim, IsShape}
use Rattle.code_text.specs.IndexText.{Run, Side, Single, runs}
use Rattle.code_text.specs.Reading.{common, made, both_at, some_items}
use Rattle.code_text.specs.IndexReading.{lead, largest, var_at, has_var, dim_at, sides_at, some_sides_at, side_by_side, run_words, run_of, run_at, run_next, other_runs, join_at, word_words, single, runs_of, runs_among, runs_at, word_of, shape_at}
use Rattle.code_text.proofs.goes.PickGoes.{At, is_free}
use Rattle.code_text.proofs.codecs.Codec.{Codec, loosen, forget, made_codec, both_codec}
use Rattle.code_text.proofs.codecs.Parts.{behind_codec, choice_codec}
use Rattle.code_text.proofs.codecs.Items.{items_codec}
use Rattle.code_text.proofs.codecs.Many.{fronted_codec, agree, respell_where, SomeItems, EachItem, some_codec}
use Rattle.code_text.proofs.indices.Sums.{IsVarUpTo}
use Rattle.code_text.proofs.indices.Runs.{IsSide, IsRun, Standing, word_runs, runs_word, runs_stand, word_is}
use Rattle.code_text.proofs.indices.Dims.{Scoped, AnyVar, number_text, name_is, dim_codec}
use Rattle.code_text.proofs.forms.IndexForms.{dim_form, run_form, word_form, shape_form}
use Rattle.code_text.proofs.forms.Lists.{until, listed}

-- no word begins another
runs_free : (scope : Scope) → is_free (run_words scope) ≡ true
unfolding common
runs_free InBlock = refl
runs_free (Under binders) = refl

words_free : (scope : Scope) → is_free (word_words scope) ≡ true
unfolding common
words_free InBlock = refl
words_free (Under binders) = refl

module _ (scope : Scope) (S : Scoped scope) where
  -- ---- dims side by side

  abbrev Any : Bool → Type 0
  Any s = Unit {0}

  side_item : (s : Bool) → Any s → true ≡ true → Codec false true (dim_at scope) (dim_form scope) (IsDim scope)
  side_item s v e = dim_codec scope S

  side_later : (s : Bool) (d : Linear) → Any s → IsDim scope d → Any s
  side_later s d v is = tt

  abbrev SomeSides : List Linear → Type 0
  SomeSides ds = SomeItems 41 refl refl (λ _. true) (λ _. dim_at scope) (λ s _. s) (dim_form scope) Any (λ _. IsDim scope) side_item side_later true ds

  abbrev EachSide : List Linear → Type 0
  EachSide ds = EachItem 41 refl refl (λ _. true) (λ _. dim_at scope) (λ s _. s) (dim_form scope) Any (λ _. IsDim scope) side_item side_later true ds

  each_all : (ds : List Linear) → EachSide ds → All (IsDim scope) ds
  each_all [] is = All-nil (IsDim scope)
  each_all (d ∷ ds) is = All-cons (IsDim scope) d ds is.1 (each_all ds is.2)

  all_each : (ds : List Linear) → All (IsDim scope) ds → EachSide ds
  all_each [] all = tt
  all_each (d ∷ ds) all = (refl, All-head (IsDim scope) d ds all, all_each ds (All-tail (IsDim scope) d ds all))

  some_side : (ds : List Linear) → SomeSides ds → IsSide scope ds
  some_side [] is = absurd is
  some_side (d ∷ ds) is = (is.0, each_all ds is.1)

  side_some : (ds : List Linear) → IsSide scope ds → SomeSides ds
  side_some [] is = absurd is
  side_some (d ∷ ds) is = (is.0, all_each ds is.1)

  some_sides_codec : Codec false false (some_sides_at scope) (listed 41 (dim_form scope)) (IsSide scope)
  some_sides_codec = agree false false (some_sides_at scope) (listed 41 (dim_form scope)) SomeSides (IsSide scope) some_side side_some
      (some_codec 41 refl refl (λ _. true) (λ _. dim_at scope) (λ s _. s) (dim_form scope) Any (λ _. IsDim scope) side_item side_later true tt refl)

  sides_codec : Codec true false (sides_at scope) (until 41 (dim_form scope)) (All (IsDim scope))
  sides_codec = agree true false (sides_at scope) (until 41 (dim_form scope)) EachSide (All (IsDim scope)) each_all all_each
      (items_codec 41 refl refl (λ _. true) (λ _. dim_at scope) (λ s _. s) (dim_form scope) Any (λ _. IsDim scope) side_item side_later true tt)

  -- ---- parts of a word

  -- a part behind the word with this number
  run_tail : ℕ → Run → List ℕ
  run_tail zero (Single k) = number_text scope k
  run_tail zero (Side ds) = []
  run_tail (suc j) (Side ds) = listed 41 (dim_form scope) ds
  run_tail (suc j) (Single k) = []

  IsRunOf : ℕ → Run → Type 0
  IsRunOf zero (Single k) = IsVarUpTo scope sort.Shape largest k
  IsRunOf zero (Side ds) = ⊥
  IsRunOf (suc j) (Side ds) = IsSide scope ds
  IsRunOf (suc j) (Single k) = ⊥

  single_codec : AnyVar scope sort.Shape largest → Codec false true (made Single (var_at scope sort.Shape largest)) (run_tail 0) (IsRunOf 0)
  unfolding run_tail IsRunOf
  single_codec some = made_codec Single (var_at scope sort.Shape largest) (number_text scope) (IsVarUpTo scope sort.Shape largest) (run_tail 0) (IsRunOf 0) (λ k is. refl) (λ k is. is) from false true (S.var sort.Shape largest (omega arith) some)
    where
      from : (r : Run) → IsRunOf 0 r → (k : ℕ) × IsVarUpTo scope sort.Shape largest k × (Single k ≡ r)
      from (Single k) is = (k, is, refl)
      from (Side ds) is = absurd is

  side_codec : (j : ℕ) → Codec false false (made Side (some_sides_at scope)) (run_tail (suc j)) (IsRunOf (suc j))
  unfolding run_tail IsRunOf
  side_codec j = made_codec Side (some_sides_at scope) (listed 41 (dim_form scope)) (IsSide scope) (run_tail (suc j)) (IsRunOf (suc j)) (λ ds is. refl) (λ ds is. is) from false false some_sides_codec
    where
      from : (r : Run) → IsRunOf (suc j) r → (ds : List Linear) × IsSide scope ds × (Side ds ≡ r)
      from (Side ds) is = (ds, is, refl)
      from (Single k) is = absurd is

  run_branch : AnyVar scope sort.Shape largest → (j : ℕ) (w : List ℕ) → At (run_words scope) j w → Codec false true (run_of scope j) (run_tail j) (IsRunOf j)
  run_branch some zero w at = single_codec some
  run_branch some (suc j) w at = loosen false (made Side (some_sides_at scope)) (run_tail (suc j)) (IsRunOf (suc j)) (side_codec j)

  run_up : (j : ℕ) (w : List ℕ) (r : Run) → At (run_words scope) j w → IsRunOf j r → IsRun scope true r × (run_form scope r ≡ w ++ run_tail j r)
  unfolding run_tail IsRunOf
  run_up zero w (Single k) at is = (is, name_is scope k ∙ ap (λ v. v ++ number_text scope k) at)
  run_up zero w (Side ds) at is = absurd is
  run_up (suc zero) w (Side []) at is = absurd is
  run_up (suc zero) w (Side (d ∷ ds)) at is = (is, ap (λ v. v ++ listed 41 (dim_form scope) (d ∷ ds)) at)
  run_up (suc j) w (Single k) at is = absurd is
  run_up (suc (suc j)) w (Side ds) at is = absurd at

  run_down : (r : Run) → IsRun scope true r → (j : ℕ) × (w : List ℕ) × At (run_words scope) j w × IsRunOf j r
  unfolding IsRunOf
  run_down (Single k) is = (0, lead scope ∷ [], refl, is)
  run_down (Side ds) is = (1, codes "(shape ", refl, is)

  run_codec : AnyVar scope sort.Shape largest → (dims : Bool) → Codec false true (run_at scope dims) (run_form scope) (IsRun scope dims)
  unfolding run_tail IsRunOf
  run_codec some true = choice_codec (run_words scope) (lead scope ∷ []) refl (runs_free scope) (run_of scope) run_tail IsRunOf (run_form scope) (IsRun scope true) true (run_branch some) run_up run_down
  run_codec some false =
      agree false true (run_at scope false) (run_form scope) (IsRunOf 0) (IsRun scope false) to from
      (respell_where false true (run_at scope false) (λ r. (lead scope ∷ []) ++ run_tail 0 r) (run_form scope) (IsRunOf 0) spelled
      (behind_codec (lead scope ∷ []) (made Single (var_at scope sort.Shape largest)) (run_tail 0) (IsRunOf 0) false false true tt (single_codec some)))
    where
      to : (r : Run) → IsRunOf 0 r → IsRun scope false r
      to (Single k) is = is
      to (Side ds) is = absurd is

      from : (r : Run) → IsRun scope false r → IsRunOf 0 r
      from (Single k) is = is
      from (Side ds) is = absurd is

      spelled : (r : Run) → IsRunOf 0 r → run_form scope r ≡ (lead scope ∷ []) ++ run_tail 0 r
      spelled (Single k) is = name_is scope k
      spelled (Side ds) is = absurd is

  -- ---- a word of several parts

  module _ (some : AnyVar scope sort.Shape largest) where
    run_item : (dims : Bool) → Any dims → true ≡ true → Codec false true (run_at scope dims) (run_form scope) (IsRun scope dims)
    run_item dims v e = run_codec some dims

    run_later : (dims : Bool) (r : Run) → Any dims → IsRun scope dims r → Any (run_next dims r)
    run_later dims r v is = tt

    abbrev OtherRuns : Bool → List Run → Type 0
    OtherRuns dims rs = SomeItems 41 refl refl (λ _. true) (run_at scope) run_next (run_form scope) Any (IsRun scope) run_item run_later dims rs

    abbrev EachRun : Bool → List Run → Type 0
    EachRun dims rs = EachItem 41 refl refl (λ _. true) (run_at scope) run_next (run_form scope) Any (IsRun scope) run_item run_later dims rs

    each_stand : (dims : Bool) (rs : List Run) → EachRun dims rs → Standing scope dims rs
    each_stand dims [] is = tt
    each_stand dims (r ∷ rs) is = (is.1, each_stand (run_next dims r) rs is.2)

    stand_each : (dims : Bool) (rs : List Run) → Standing scope dims rs → EachRun dims rs
    stand_each dims [] is = tt
    stand_each dims (r ∷ rs) is = (refl, is.0, stand_each (run_next dims r) rs is.1)

    others_codec : (r : Run) → Codec true false (other_runs scope r) (λ rs. 32 ∷ listed 41 (run_form scope) rs) (OtherRuns (run_next true r))
    others_codec r =
        behind_codec (32 ∷ []) (some_items 41 (λ _. true) (run_at scope) run_next (run_next true r)) (listed 41 (run_form scope)) (OtherRuns (run_next true r)) true false false refl
        (some_codec 41 refl refl (λ _. true) (run_at scope) run_next (run_form scope) Any (IsRun scope) run_item run_later (run_next true r) tt refl)

  -- the parts of a word, at least two, behind `(++ `
  abbrev pub IsJoin : List Run → Type 0
  IsJoin [] = ⊥
  IsJoin (r ∷ []) = ⊥
  IsJoin (r ∷ (q ∷ rs)) = Standing scope true (r ∷ (q ∷ rs))

  abbrev pub join_rest : List Run → List ℕ
  join_rest [] = []
  join_rest (r ∷ rs) = run_form scope r ++ 32 ∷ listed 41 (run_form scope) rs

  pub join_codec : AnyVar scope sort.Shape largest → Codec false false (join_at scope) join_rest IsJoin
  join_codec some =
      fronted_codec false false (run_at scope true) (other_runs scope) join_rest IsJoin
      (made_codec (λ x. x.0 ∷ x.1) (both_at (run_at scope true) (other_runs scope)) (λ x. run_form scope x.0 ++ 32 ∷ listed 41 (run_form scope) x.1) (λ x. IsRun scope true x.0 × OtherRuns some (run_next true x.0) x.1) join_rest IsJoin
      (λ x is. refl) (λ x is. to x.0 x.1 is) from false false
      (both_codec (run_at scope true) (run_form scope) (IsRun scope true) (other_runs scope) (λ r rs. 32 ∷ listed 41 (run_form scope) rs) (λ r. OtherRuns some (run_next true r)) false true true false refl (run_codec some true) (λ r is. others_codec some r)))
    where
      to : (r : Run) (rs : List Run) → IsRun scope true r × OtherRuns some (run_next true r) rs → IsJoin (r ∷ rs)
      to r [] is = absurd is.1
      to r (q ∷ qs) is = (is.0, (is.1.0, each_stand some (run_next (run_next true r) q) qs is.1.1))

      from : (rs : List Run) → IsJoin rs → (x : Run × List Run) × (IsRun scope true x.0 × OtherRuns some (run_next true x.0) x.1) × (x.0 ∷ x.1 ≡ rs)
      from [] is = absurd is
      from (r ∷ []) is = absurd is
      from (r ∷ (q ∷ qs)) is = ((r, q ∷ qs), (is.0, (is.1.0, stand_each some (run_next (run_next true r) q) qs is.1.1)), refl)

  -- ---- words

  -- dims alone
  abbrev pub AreSides : List Run → Type 0
  AreSides [] = Unit {0}
  AreSides (Side ds ∷ []) = IsSide scope ds
  AreSides (Side ds ∷ (r ∷ rs)) = ⊥
  AreSides (Single k ∷ rs) = ⊥

  abbrev pub sides_rest : List Run → List ℕ
  sides_rest [] = 41 ∷ []
  sides_rest (Side ds ∷ rs) = until 41 (dim_form scope) ds
  sides_rest (Single k ∷ rs) = []

  pub sided_codec : Codec false false (made side_by_side (sides_at scope)) sides_rest AreSides
  sided_codec =
      made_codec side_by_side (sides_at scope) (until 41 (dim_form scope)) (All (IsDim scope)) sides_rest AreSides spelled holds from false false
      (forget true false (sides_at scope) (until 41 (dim_form scope)) (All (IsDim scope)) sides_codec)
    where
      spelled : (ds : List Linear) → All (IsDim scope) ds → sides_rest (side_by_side ds) ≡ until 41 (dim_form scope) ds
      spelled [] is = refl
      spelled (d ∷ ds) is = refl

      holds : (ds : List Linear) → All (IsDim scope) ds → AreSides (side_by_side ds)
      holds [] is = tt
      holds (d ∷ ds) is = (All-head (IsDim scope) d ds is, All-tail (IsDim scope) d ds is)

      from : (rs : List Run) → AreSides rs → (ds : List Linear) × All (IsDim scope) ds × (side_by_side ds ≡ rs)
      from [] is = ([], All-nil (IsDim scope), refl)
      from (Side [] ∷ []) is = absurd is
      from (Side (d ∷ ds) ∷ []) is = (d ∷ ds, All-cons (IsDim scope) d ds is.0 is.1, refl)
      from (Side ds ∷ (r ∷ rs)) is = absurd is
      from (Single k ∷ rs) is = absurd is

  -- a variable alone, behind its first byte
  single_text : List Run → List ℕ
  single_text [] = []
  single_text (Single k ∷ rs) = number_text scope k
  single_text (Side ds ∷ rs) = []

  IsSingle : List Run → Type 0
  IsSingle [] = ⊥
  IsSingle (Single k ∷ []) = IsVarUpTo scope sort.Shape largest k
  IsSingle (Single k ∷ (r ∷ rs)) = ⊥
  IsSingle (Side ds ∷ rs) = ⊥

  lone_codec : AnyVar scope sort.Shape largest → Codec false true (made single (var_at scope sort.Shape largest)) single_text IsSingle
  unfolding single_text IsSingle
  lone_codec some = made_codec single (var_at scope sort.Shape largest) (number_text scope) (IsVarUpTo scope sort.Shape largest) single_text IsSingle (λ k is. refl) (λ k is. is) from false true (S.var sort.Shape largest (omega arith) some)
    where
      from : (rs : List Run) → IsSingle rs → (k : ℕ) × IsVarUpTo scope sort.Shape largest k × (single k ≡ rs)
      from [] is = absurd is
      from (Single k ∷ []) is = (k, is, refl)
      from (Single k ∷ (r ∷ rs)) is = absurd is
      from (Side ds ∷ rs) is = absurd is

  -- a word behind what it begins with
  word_tail : ℕ → List Run → List ℕ
  word_tail zero rs = single_text rs
  word_tail (suc zero) rs = sides_rest rs
  word_tail (suc (suc j)) rs = join_rest rs

  IsWordOf : ℕ → List Run → Type 0
  IsWordOf zero rs = IsSingle rs
  IsWordOf (suc zero) rs = AreSides rs
  IsWordOf (suc (suc j)) rs = IsJoin rs

  word_branch : AnyVar scope sort.Shape largest → (j : ℕ) (w : List ℕ) → At (word_words scope) j w → Codec false true (runs_of scope j) (word_tail j) (IsWordOf j)
  unfolding word_tail IsWordOf
  word_branch some zero w at = lone_codec some
  word_branch some (suc zero) w at = loosen false (made side_by_side (sides_at scope)) sides_rest AreSides sided_codec
  word_branch some (suc (suc j)) w at = loosen false (join_at scope) join_rest IsJoin (join_codec some)

  sides_up : (rs : List Run) → AreSides rs → Standing scope true rs × (word_form scope rs ≡ codes "(shape" ++ sides_rest rs)
  sides_up [] is = (tt, refl)
  sides_up (Side ds ∷ []) is = ((is, tt), refl)
  sides_up (Side ds ∷ (r ∷ rs)) is = absurd is
  sides_up (Single k ∷ rs) is = absurd is

  join_up : (rs : List Run) → IsJoin rs → Standing scope true rs × (word_form scope rs ≡ codes "(++ " ++ join_rest rs)
  join_up [] is = absurd is
  join_up (r ∷ []) is = absurd is
  join_up (r ∷ (q ∷ rs)) is = (is, refl)

  word_up : (j : ℕ) (w : List ℕ) (rs : List Run) → At (word_words scope) j w → IsWordOf j rs → Standing scope true rs × (word_form scope rs ≡ w ++ word_tail j rs)
  unfolding word_tail IsWordOf single_text IsSingle
  word_up zero w [] at is = absurd is
  word_up zero w (Single k ∷ []) at is = ((is, tt), name_is scope k ∙ ap (λ v. v ++ number_text scope k) at)
  word_up zero w (Single k ∷ (r ∷ rs)) at is = absurd is
  word_up zero w (Side ds ∷ rs) at is = absurd is
  word_up (suc zero) w rs at is = let u = sides_up rs is in (u.0, u.1 ∙ ap (λ v. v ++ sides_rest rs) at)
  word_up (suc (suc zero)) w rs at is = let u = join_up rs is in (u.0, u.1 ∙ ap (λ v. v ++ join_rest rs) at)
  word_up (suc (suc (suc j))) w rs at is = absurd at

  word_down : (rs : List Run) → Standing scope true rs → (j : ℕ) × (w : List ℕ) × At (word_words scope) j w × IsWordOf j rs
  unfolding IsWordOf IsSingle
  word_down [] is = (1, codes "(shape", refl, tt)
  word_down (Single k ∷ []) is = (0, lead scope ∷ [], refl, is.0)
  word_down (Side ds ∷ []) is = (1, codes "(shape", refl, is.0)
  word_down (r ∷ (q ∷ rs)) is = (2, codes "(++ ", refl, is)

  -- no run of dims stands beside another, so without variables there is one at most
  no_var : has_var scope sort.Shape ≡ false → (rs : List Run) → Standing scope true rs → AreSides rs
  no_var none [] is = tt
  no_var none (Single k ∷ rs) is = absurd (false≢true (sym none ∙ S.has sort.Shape k is.0.0))
  no_var none (Side ds ∷ []) is = is.0
  no_var none (Side ds ∷ (Side es ∷ rs)) is = absurd is.1.0
  no_var none (Side ds ∷ (Single k ∷ rs)) is = absurd (false≢true (sym none ∙ S.has sort.Shape k is.1.0.0))

  runs_codec : (b : Bool) → has_var scope sort.Shape ≡ b → Codec false true (runs_among scope b) (word_form scope) (Standing scope true)
  unfolding word_tail IsWordOf
  runs_codec true e = choice_codec (word_words scope) (lead scope ∷ []) refl (words_free scope) (runs_of scope) word_tail IsWordOf (word_form scope) (Standing scope true) true (word_branch (S.any sort.Shape e)) word_up word_down
  runs_codec false e =
      agree false true (runs_among scope false) (word_form scope) AreSides (Standing scope true) (λ rs is. (sides_up rs is).0) (no_var e)
      (respell_where false true (runs_among scope false) (λ rs. codes "(shape" ++ sides_rest rs) (word_form scope) AreSides (λ rs is. (sides_up rs is).1)
      (loosen false (runs_among scope false) (λ rs. codes "(shape" ++ sides_rest rs) AreSides
      (behind_codec (codes "(shape") (made side_by_side (sides_at scope)) sides_rest AreSides false false false tt sided_codec)))

  -- an index of sort Shape
  pub shape_codec : Codec false true (shape_at scope) (shape_form scope) (IsShape scope)
  shape_codec =
      made_codec word_of (runs_at scope) (word_form scope) (Standing scope true) (shape_form scope) (IsShape scope)
      (λ rs is. ap (word_form scope) (runs_word scope true rs is)) (λ rs is. word_is scope true rs is)
      (λ w is. (runs w, runs_stand scope (S.known sort.Shape) w is, word_runs w)) false true
      (runs_codec (has_var scope sort.Shape) refl)
