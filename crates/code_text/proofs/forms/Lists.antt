-- Lists as a reader meets them: behind their first byte, the items with what closes the list.
use Rattle.std.proofs.Common.{◌≡◌, ℕ, List, [], ◌∷◌, ◌++◌, ap, ◌∙◌, refl, append_assoc}
use Rattle.std.specs.Prelude.{codes}
use Rattle.code_text.specs.Spelling.{spaced, separated, bracketed, headed}

-- items, each behind a space, and this byte
abbrev pub until : {A : Type 0} → ℕ → (A → List ℕ) → List A → List ℕ
until close text [] = close ∷ []
until close text (x ∷ xs) = 32 ∷ (text x ++ until close text xs)

-- some items with a space between them, and this byte
abbrev pub listed : {A : Type 0} → ℕ → (A → List ℕ) → List A → List ℕ
listed close text [] = close ∷ []
listed close text (x ∷ xs) = text x ++ until close text xs

module _ {A : Type 0} (close : ℕ) (t : A → List ℕ) where
  pub until_is : (xs : List A) → spaced t xs ++ close ∷ [] ≡ until close t xs
  until_is [] = refl
  until_is (x ∷ xs) = ap (λ v. 32 ∷ v) (append_assoc (t x) (spaced t xs) (close ∷ []) ∙ ap (λ v. t x ++ v) (until_is xs))

  pub listed_is : (xs : List A) → separated t xs ++ close ∷ [] ≡ listed close t xs
  listed_is [] = refl
  listed_is (x ∷ xs) = append_assoc (t x) (spaced t xs) (close ∷ []) ∙ ap (λ v. t x ++ v) (until_is xs)

pub bracketed_is : {A : Type 0} (t : A → List ℕ) (xs : List A) → bracketed t xs ≡ codes "(" ++ listed 41 t xs
bracketed_is t xs = ap (λ v. codes "(" ++ v) (listed_is 41 t xs)

pub headed_is : {A : Type 0} (t : A → List ℕ) (word : List ℕ) (xs : List A) → headed t word xs ≡ codes "(" ++ (word ++ until 41 t xs)
headed_is t word xs = ap (λ v. codes "(" ++ v) (append_assoc word (spaced t xs) (codes ")") ∙ ap (λ v. word ++ v) (until_is 41 t xs))

-- what stands behind a space and before an end
pub beside : (front text end : List ℕ) → ((front ++ codes " ") ++ text) ++ end ≡ front ++ (32 ∷ (text ++ end))
beside front text end = append_assoc (front ++ codes " ") text end ∙ append_assoc front (codes " ") (text ++ end)
