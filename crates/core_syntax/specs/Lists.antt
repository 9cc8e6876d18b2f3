-- Words on lists that the definitions share.
use Rattle.std.specs.Prelude.{ℕ, ◌*◌, Bool, true, false, ◌&&◌, ◌==◌, List, [], ◌∷◌, ◌++◌, Option, Some, None, ⊤}

-- the items in reverse, before these
abbrev pub onto : {A : Type 0} → List A → List A → List A
onto [] ys = ys
onto (x ∷ xs) ys = onto xs (x ∷ ys)

-- f of each item
abbrev pub each : {A B : Type 0} → (A → B) → List A → List B
each f [] = []
each f (x ∷ xs) = f x ∷ each f xs

-- P of each item
abbrev pub Each : {A : Type 0} → (A → Type 0) → List A → Type 0
Each P [] = ⊤
Each P (x ∷ xs) = P x × Each P xs

-- the product
abbrev pub product : List ℕ → ℕ
product [] = 1
product (n ∷ ns) = n * product ns

-- the same number of items, with R of the two at each place
abbrev pub EachTwo : {A B : Type 0} → (A → B → Type 0) → List A → List B → Type 0
EachTwo R [] [] = ⊤
EachTwo R [] (y ∷ ys) = ⊥
EachTwo R (x ∷ xs) [] = ⊥
EachTwo R (x ∷ xs) (y ∷ ys) = R x y × EachTwo R xs ys

-- the lists joined in order
abbrev pub joined : {A : Type 0} → List (List A) → List A
joined [] = []
joined (x ∷ xs) = x ++ joined xs

-- the same numbers in the same order
abbrev pub same_numbers : List ℕ → List ℕ → Bool
same_numbers [] [] = true
same_numbers [] (y ∷ ys) = false
same_numbers (x ∷ xs) [] = false
same_numbers (x ∷ xs) (y ∷ ys) = x == y && same_numbers xs ys

-- what stands behind the first list where it is a prefix of the second
abbrev pub after_prefix : List ℕ → List ℕ → Option (List ℕ)
after_prefix [] ys = Some ys
after_prefix (x ∷ xs) [] = None
after_prefix (x ∷ xs) (y ∷ ys) = elim (x == y) [ true ↦ after_prefix xs ys | false ↦ None ]
