-- The job of a list of words.
use Rattle.std.proofs.Common.{◌≡◌, refl, sym, ap, ◌∙◌, subst, ℕ, ◌<◌, ◌≤◌, arith, List, [], ◌∷◌, length, get_or, Bool, true, false, Option, Some, None, codes, String, Global, string_bytes, map}
use Rattle.std.specs.Prelude.{MatchOption, if◌then◌else◌}
use Rattle.std.specs.Str.{bytes_eq}
use Rattle.std.specs.Str.Parse.{digits_value}
use Rattle.std.proofs.lemmas.Slice.Eq.{bytes_eq-Decides}
use Rattle.core_syntax.proofs.Unique.{some_is}
use Rattle.remora_driver.specs.declared.job.Job.{Job}
use Rattle.remora_driver.specs.declared.job.Job.TheVariants.{Check, Build, Run, Exec, Reduce, Soak}
use Rattle.remora_driver.specs.Jobs.{usual_budget, IsBudget, IsCount, limited_job, plain_job, IsJob, plain, limited, soak}
use Rattle.remora_driver.specs.Tasks.{IsAsked}

-- the words are those of a job, or of none
abbrev pub Decided : List (List ℕ) → Option Job → Type 0
Decided words o = MatchOption o ((j : Job) → ¬ (IsJob words j)) (λ j. IsJob words j)

not_none : {A : Type 0} (x : A) → ◌≡◌ {A = Option A} None (Some x) → ⊥
not_none x e = absurd (cc)

pub first_of_two : (c d x y : List ℕ) → ◌≡◌ {A = List (List ℕ)} (c ∷ x ∷ []) (d ∷ y ∷ []) → c ≡ d
first_of_two c d x y e = cc

pub last_of_two : (c d x y : List ℕ) → ◌≡◌ {A = List (List ℕ)} (c ∷ x ∷ []) (d ∷ y ∷ []) → x ≡ y
last_of_two c d x y e = cc

-- `soak` is no command of a file
pub soak_is_no_plain : (j : Job) → plain_job (codes "soak") ≡ Some j → ⊥
soak_is_no_plain j e = not_none j e

pub two_four : (c d x y z w : List ℕ) → ◌≡◌ {A = List (List ℕ)} (c ∷ x ∷ []) (d ∷ y ∷ z ∷ w ∷ []) → ⊥
two_four c d x y z w e = absurd (cc)

pub first_of_four : (c d x y z z' w v : List ℕ) → ◌≡◌ {A = List (List ℕ)} (c ∷ x ∷ z ∷ w ∷ []) (d ∷ y ∷ z' ∷ v ∷ []) → c ≡ d
first_of_four c d x y z z' w v e = cc

pub last_of_four : (c d x y z z' w v : List ℕ) → ◌≡◌ {A = List (List ℕ)} (c ∷ x ∷ z ∷ w ∷ []) (d ∷ y ∷ z' ∷ v ∷ []) → w ≡ v
last_of_four c d x y z z' w v e = cc

-- a command that isn't found to be `soak` is another
pub not_soak : (command : List ℕ) (b : Bool) → b ≡ bytes_eq command (codes "soak") → b ≡ false → command ≡ codes "soak" → ⊥
not_soak command b tells e is = let yes : bytes_eq command (codes "soak") ≡ true = (bytes_eq-Decides command (codes "soak")).1 is in let no : true ≡ false = sym yes ∙ sym tells ∙ e in absurd (cc)

-- two words of another command than `soak` ask for what that command does with a file
pub plain_decided : (command word : List ℕ) (o : Option Job) → (command ≡ codes "soak" → ⊥) → o ≡ plain_job command → Decided (command ∷ word ∷ []) o
plain_decided command word (Some j) other e = plain command word refl (sym e)
plain_decided command word None other e = λ j is. go j is
  where
    go : (j : Job) → IsJob (command ∷ word ∷ []) j → ⊥
    go j (plain c f w p) = not_none j (e ∙ ap plain_job (first_of_two command c word f w) ∙ p)
    go j (limited c f s n w b p) = two_four command c word f (codes "--steps") s w
    go j (soak u n w b p) = other (first_of_two command (codes "soak") word u w)

-- two words of which the first is `soak` ask for the soak program, where the second is a count
pub soak_asked : (command word : List ℕ) (n : ℕ) → command ≡ codes "soak" → IsCount word n → IsJob (command ∷ word ∷ []) (Soak n)
soak_asked command word n is count = soak word n (ap (λ (c : List ℕ). c ∷ word ∷ []) is) count refl

pub no_soak : (command word : List ℕ) → command ≡ codes "soak" → ((n : ℕ) → ¬ (IsCount word n)) → (j : Job) → ¬ (IsJob (command ∷ word ∷ []) j)
no_soak command word is none j (plain c f w p) = soak_is_no_plain j (ap plain_job (sym is ∙ first_of_two command c word f w) ∙ p)
no_soak command word is none j (limited c f s n w b p) = two_four command c word f (codes "--steps") s w
no_soak command word is none j (soak u n w b p) = none n (subst (λ (v : List ℕ). IsCount v n) (sym (last_of_two command (codes "soak") word u w)) b)

no_four : (command file steps : List ℕ) → ((n : ℕ) → ¬ (IsBudget steps n)) → (j : Job) → IsJob (command ∷ file ∷ codes "--steps" ∷ steps ∷ []) j → ⊥
no_four command file steps none j (plain c f w p) = two_four c command f file (codes "--steps") steps (sym w)
no_four command file steps none j (limited c f s n w b p) = none n (subst (λ (word : List ℕ). IsBudget word n) (sym (last_of_four command c file f (codes "--steps") (codes "--steps") steps s w)) b)
no_four command file steps none j (soak u n w b p) = two_four (codes "soak") command u file (codes "--steps") steps (sym w)

four_decided : (command file steps : List ℕ) (n : ℕ) (o : Option Job) → IsBudget steps n → o ≡ limited_job command n → Decided (command ∷ file ∷ codes "--steps" ∷ steps ∷ []) o
four_decided command file steps n (Some j) budget e = limited command file steps n refl budget (sym e)
four_decided command file steps n None budget e = λ j is. go j is
  where
    go : (j : Job) → IsJob (command ∷ file ∷ codes "--steps" ∷ steps ∷ []) j → ⊥
    go j (plain c f w p) = two_four c command f file (codes "--steps") steps (sym w)
    go j (limited c f s m w b p) =
        let word : steps ≡ s = last_of_four command c file f (codes "--steps") (codes "--steps") steps s w in
        let same : n ≡ m = sym budget.value ∙ ap (digits_value 10) word ∙ b.value in
        not_none j (e ∙ ap (λ (k : ℕ). limited_job command k) same ∙ ap (λ (x : List ℕ). limited_job x m) (first_of_four command c file f (codes "--steps") (codes "--steps") steps s w) ∙ p)
    go j (soak u m w b p) = two_four (codes "soak") command u file (codes "--steps") steps (sym w)

-- the job of two words is that of their texts
pub two_words : (words : List (String Global)) (command word d d' : String Global) (text text' : List ℕ) (o : Option Job) → 2 ≤ length words → length words < 3 → command ≡ get_or words 0 d → word ≡ get_or words 1 d' → text ≡ string_bytes command → text' ≡ string_bytes word
    → Decided (text ∷ text' ∷ []) o → Decided (map string_bytes words) o
two_words [] command word d d' text text' o l m p p' q q' h = absurd (omega (arith, l))
two_words (x ∷ []) command word d d' text text' o l m p p' q q' h = absurd (omega (arith, l))
two_words (x ∷ y ∷ []) command word d d' text text' o l m p p' q q' h =
    subst (λ (t : List ℕ). Decided (t ∷ string_bytes y ∷ []) o) (q ∙ ap string_bytes p) (subst (λ (t : List ℕ). Decided (text ∷ t ∷ []) o) (q' ∙ ap string_bytes p') h)
two_words (x ∷ y ∷ z ∷ ws) command word d d' text text' o l m p p' q q' h = absurd (omega (arith, m))

module _ (words : List (String Global)) (command d f d' s d'' : String Global) (text flag steps : List ℕ) (b : Bool) (l : 4 ≤ length words) (m : length words < 5) (p : command ≡ get_or words 0 d) (q : f ≡ get_or words 2 d') (r : s ≡ get_or words 3 d'') (text_is : text ≡ string_bytes command) (flag_is : flag ≡ string_bytes f) (steps_is : steps ≡ string_bytes s) (b_is : b ≡ bytes_eq flag (codes "--steps")) (t : b ≡ true) where
  abbrev four : List (List ℕ)
  four = text ∷ string_bytes (get_or words 1 d) ∷ codes "--steps" ∷ steps ∷ []

  flag_word : string_bytes (get_or words 2 d') ≡ codes "--steps"
  flag_word = ap string_bytes (sym q) ∙ sym flag_is ∙ (bytes_eq-Decides flag (codes "--steps")).0 (sym b_is ∙ t)

  words_are : map string_bytes words ≡ four
  words_are = go words l m refl
    where
      go : (ws : List (String Global)) → 4 ≤ length ws → length ws < 5 → ws ≡ words → map string_bytes ws ≡ four
      go [] l m e = absurd (omega (arith, l))
      go (x ∷ []) l m e = absurd (omega (arith, l))
      go (x ∷ y ∷ []) l m e = absurd (omega (arith, l))
      go (x ∷ y ∷ z ∷ []) l m e = absurd (omega (arith, l))
      go (x ∷ y ∷ z ∷ w ∷ []) l m e =
          let first : x ≡ get_or words 0 d = ap (λ (vs : List (String Global)). get_or vs 0 d) e in
          let second : y ≡ get_or words 1 d = ap (λ (vs : List (String Global)). get_or vs 1 d) e in
          let third : z ≡ get_or words 2 d' = ap (λ (vs : List (String Global)). get_or vs 2 d') e in
          let fourth : w ≡ get_or words 3 d'' = ap (λ (vs : List (String Global)). get_or vs 3 d'') e in
          ap (λ (v : List ℕ). v ∷ string_bytes y ∷ string_bytes z ∷ string_bytes w ∷ []) (ap string_bytes (first ∙ sym p) ∙ sym text_is)
          ∙ ap (λ (v : List ℕ). text ∷ v ∷ string_bytes z ∷ string_bytes w ∷ []) (ap string_bytes second)
          ∙ ap (λ (v : List ℕ). text ∷ string_bytes (get_or words 1 d) ∷ v ∷ string_bytes w ∷ []) (ap string_bytes third ∙ flag_word)
          ∙ ap (λ (v : List ℕ). text ∷ string_bytes (get_or words 1 d) ∷ codes "--steps" ∷ v ∷ []) (ap string_bytes (fourth ∙ sym r) ∙ sym steps_is)
      go (x ∷ y ∷ z ∷ w ∷ v ∷ ws) l m e = absurd (omega (arith, m))

  pub four_words : (n : ℕ) (o : Option Job) → IsBudget steps n → o ≡ limited_job text n → Decided (map string_bytes words) o
  four_words n o budget e = subst (λ (ws : List (List ℕ)). Decided ws o) (sym words_are) (four_decided text (string_bytes (get_or words 1 d)) steps n o budget e)

  pub no_budget : (o : Option Job) → ((n : ℕ) → ¬ (IsBudget steps n)) → o ≡ None → Decided (map string_bytes words) o
  no_budget o none e = subst (λ (ws : List (List ℕ)). Decided ws o) (sym words_are) (subst (Decided four) (sym e) (λ j is. no_four text (string_bytes (get_or words 1 d)) steps none j is))

-- ---- what words ask for

some_asked : (job job' : Job) → IsAsked job → ◌≡◌ {A = Option Job} (Some job) (Some job') → IsAsked job'
some_asked job job' asked e = subst IsAsked (some_is job job' e) asked

of_three : (b c d : Bool) (n : ℕ) (job : Job) → (if b then Some (Run n) else if c then Some (Exec n) else if d then Some (Reduce n) else None) ≡ Some job → IsAsked job
of_three true c d n job e = some_asked (Run n) job tt e
of_three false true d n job e = some_asked (Exec n) job tt e
of_three false false true n job e = some_asked (Reduce n) job tt e
of_three false false false n job e = absurd (not_none job e)

limited_asked : (command : List ℕ) (n : ℕ) (job : Job) → limited_job command n ≡ Some job → IsAsked job
limited_asked command n job e = of_three (bytes_eq command (codes "run")) (bytes_eq command (codes "exec")) (bytes_eq command (codes "reduce")) n job e

of_five : (b c : Bool) (command : List ℕ) (job : Job) → (if b then Some Check else if c then Some Build else limited_job command usual_budget) ≡ Some job → IsAsked job
of_five true c command job e = some_asked Check job tt e
of_five false true command job e = some_asked Build job tt e
of_five false false command job e = limited_asked command usual_budget job e

plain_asked : (command : List ℕ) (job : Job) → plain_job command ≡ Some job → IsAsked job
plain_asked command job e = of_five (bytes_eq command (codes "check")) (bytes_eq command (codes "build")) command job e

-- a count in words is one of the soak program
pub asked_so : (words : List (List ℕ)) (job : Job) → IsJob words job → IsAsked job
asked_so words job (plain c f w p) = plain_asked c job p
asked_so words job (limited c f s n w b p) = limited_asked c n job p
asked_so words job (soak u n w b e) = subst IsAsked (sym e) (b.some, b.most)
