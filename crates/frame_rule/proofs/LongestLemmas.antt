-- Only the first of the longest words can be the first that begins with all.
use Rattle.std.proofs.Common.{◌≡◌, ◌∙◌, ℕ, ◌+◌, ◌<◌, ◌≤◌, List, [], ◌∷◌, ◌++◌, All, length, length-append, take, get_or, refl, sym, ap, subst, arith, None, Some}
use Rattle.std.proofs.lemmas.List.{append-nil, get_or_default, take_all}
use Rattle.std.proofs.lemmas.List.Elements.{All-more}
use Rattle.core_syntax.specs.Word.{Word, Begins}
use Rattle.frame_rule.specs.Principal.{HasAll, IsPrincipal}
use Rattle.frame_rule.specs.Longest.{IsFirstLongest, IsLongest}

-- the word at the place k is the first of the longest among those in front of the place n
abbrev pub IsLongestBefore : List Word → ℕ → ℕ → Type 0
IsLongestBefore ws n k =
    (k < length ws) × All (λ w. length w ≤ length (get_or ws k [])) (take n ws) × All (λ w. length w < length (get_or ws k [])) (take k ws)

module _ (ws : List Word) (n k : ℕ) (x y : Word) (lt : n < length ws) (is : x ≡ get_or ws n x) (was : y ≡ get_or ws k y) (before : IsLongestBefore ws n k) where
  next : x ≡ get_or ws n []
  next = is ∙ get_or_default ws n x [] lt

  longest : y ≡ get_or ws k []
  longest = was ∙ get_or_default ws k y [] before.0

  -- a longer word comes
  pub longer : length y < length x → IsLongestBefore ws (n + 1) n
  longer more =
      let shorter : All (λ w. length w < length (get_or ws n [])) (take n ws) =
      λ i d within. omega (arith, before.1 i d within, ap length next, ap length longest) in (
        lt,
        All-more (λ w. length w ≤ length (get_or ws n [])) ws n [] lt (λ i d within. omega (arith, shorter i d within)) (omega arith),
        shorter,
      )

  -- a word that isn't longer
  pub no_longer : length x ≤ length y → IsLongestBefore ws (n + 1) k
  no_longer le =
      (before.0, All-more (λ w. length w ≤ length (get_or ws k [])) ws n [] lt before.1 (omega (arith, ap length next, ap length longest)), before.2)

-- all words are passed
pub longest_found : (ws : List Word) (n k : ℕ) → length ws ≤ n → IsLongestBefore ws n k → IsLongest ws (Some k)
longest_found ws n k le before = (before.0, subst (All (λ w. length w ≤ length (get_or ws k []))) (take_all n ws le) before.1, before.2)

-- a word is no longer than one that begins with it
begins_length : (a b : Word) → Begins a b → length a ≤ length b
begins_length a b (rest, e) = omega (arith, ap length e, length-append a rest)

none_left : (rest : Word) → length rest ≡ 0 → rest ≡ []
none_left [] e = refl
none_left (x ∷ xs) e = absurd (omega arith)

-- and is the same where it is as long
begins_same : (a b : Word) → Begins a b → length b ≤ length a → a ≡ b
begins_same a b (rest, e) le =
    let none = none_left rest (omega (arith, ap length e, length-append a rest)) in
    sym (append-nil a) ∙ ap (λ r. a ++ r) (sym none) ∙ e

module _ (ws : List Word) (k : ℕ) (longest : IsFirstLongest ws k) where
  abbrev best : Word
  best = get_or ws k []

  -- a word that begins with all is the longest
  all_is_best : (w : Word) → length w ≤ length best → HasAll Begins ws w → best ≡ w
  all_is_best w le all = begins_same best w (all k [] longest.0) le

  pub is_principal : HasAll Begins ws best → IsPrincipal Begins ws (Some k)
  is_principal all = (
    longest.0,
    λ d. subst (HasAll Begins ws) (get_or_default ws k [] d longest.0) all,
    λ i d lt h. omega (arith, longest.2 i d lt, begins_length best _ (h k [] longest.0)),
  )

  pub no_principal : ¬ HasAll Begins ws best → IsPrincipal Begins ws None
  no_principal not_all = λ i d lt h. not_all (subst (HasAll Begins ws) (sym (all_is_best _ (longest.1 i d lt) h)) h)
