-- A context of sorts in two parts: the nearer binders, the outermost first, and those around them, the innermost first.
use Rattle.std.proofs.Common.{◌≡◌, refl, sym, ap, ◌∙◌, ℕ, zero, suc, ◌+◌, ◌-◌, ◌<◌, ◌≤◌, arith, inl, inr, length, slice_get, slice_index_or, List, [], ◌∷◌, ◌++◌, Some}
use Rattle.std.proofs.lemmas.Bool.{cases_order}
use Rattle.core_syntax.specs.Lists.{onto}

pub length-onto : {A : Type 0} (xs ys : List A) → length (onto xs ys) ≡ length xs + length ys
length-onto [] ys = omega arith
length-onto (x ∷ xs) ys = omega (arith, length-onto xs (x ∷ ys))

-- more binders are those behind the nearer ones
pub onto-append : {A : Type 0} (xs more ys : List A) → onto (xs ++ more) ys ≡ onto more (onto xs ys)
onto-append [] more ys = refl
onto-append (x ∷ xs) more ys = onto-append xs more (x ∷ ys)

-- a variable of the binders around
pub far : {A : Type 0} (xs ys : List A) (k : ℕ) → length xs ≤ k → slice_get (onto xs ys) k ≡ slice_get ys (k - length xs)
far {A = A} [] ys k le =
    let none : k - length {A = A} [] ≡ k = omega arith in
    ap (slice_get ys) (sym none)
far (x ∷ xs) ys zero le = absurd (omega arith)
far (x ∷ xs) ys (suc k) le =
    let shift : suc k - length xs ≡ suc (k - length xs) = omega arith in
    let drop : suc k - length (x ∷ xs) ≡ k - length xs = omega arith in
    far xs (x ∷ ys) (suc k) (omega arith) ∙ ap (slice_get (x ∷ ys)) shift ∙ ap (slice_get ys) (sym drop)

-- a variable of the nearer binders
pub near : {A : Type 0} (xs ys : List A) (k : ℕ) (d : A) → k < length xs → slice_get (onto xs ys) k ≡ Some (slice_index_or xs (length xs - 1 - k) d)
near [] ys k d lt = absurd (omega arith)
near (x ∷ xs) ys k d lt = elim (cases_order k (length xs)) [
  | inr (inl inside) ↦
      let place : length (x ∷ xs) - 1 - k ≡ suc (length xs - 1 - k) = omega arith in
      near xs (x ∷ ys) k d inside ∙ ap (λ n. Some (slice_index_or (x ∷ xs) n d)) (sym place)
  | inl same ↦
      let place : length (x ∷ xs) - 1 - k ≡ 0 = omega arith in
      let first : k - length xs ≡ 0 = omega arith in
      far xs (x ∷ ys) k (omega arith) ∙ ap (slice_get (x ∷ ys)) first ∙ ap (λ n. Some (slice_index_or (x ∷ xs) n d)) (sym place)
  | inr (inr past) ↦ absurd (omega arith)
]
