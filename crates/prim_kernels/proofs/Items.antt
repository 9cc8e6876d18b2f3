-- Lists of so many items.
use Rattle.std.proofs.Common.{◌≡◌, ap, ◌<◌, ◌≤◌, arith, length, get_or, List, [], ◌∷◌, Some}
use Rattle.std.specs.Prelude.{slice_get}

pub sole : {A : Type 0} (xs : List A) (x : A) → length xs ≡ 1 → slice_get xs 0 ≡ Some x → x ∷ [] ≡ xs
sole [] x e h = absurd (let f : ⊥ = omega (arith, e) in f)
sole (y ∷ y' ∷ xs) x e h = absurd (let f : ⊥ = omega (arith, e) in f)
sole (y ∷ []) x e h = ap (λ z. z ∷ []) (let s : x ≡ y = cc in s)

pub one_item : {A : Type 0} (ts : List A) (x : A) → 1 ≤ length ts → length ts < 2 → x ≡ get_or ts 0 x → x ∷ [] ≡ ts
one_item [] x least below h = absurd (let f : ⊥ = omega (arith, least) in f)
one_item (t ∷ t' ∷ ts) x least below h = absurd (let f : ⊥ = omega (arith, below) in f)
one_item (t ∷ []) x least below h = ap (λ x. x ∷ []) h

pub two_items : {A : Type 0} (ts : List A) (x y : A) → 2 ≤ length ts → length ts < 3 → x ≡ get_or ts 0 x → y ≡ get_or ts 1 y → x ∷ y ∷ [] ≡ ts
two_items [] x y least below h k = absurd (let f : ⊥ = omega (arith, least) in f)
two_items (t ∷ []) x y least below h k = absurd (let f : ⊥ = omega (arith, least) in f)
two_items (t ∷ t' ∷ u ∷ ts) x y least below h k = absurd (let f : ⊥ = omega (arith, below) in f)
two_items (t ∷ t' ∷ []) x y least below h k = λ i. h i ∷ k i ∷ []

pub three_items : {A : Type 0} (ts : List A) (x y z : A) → 3 ≤ length ts → length ts < 4 → x ≡ get_or ts 0 x → y ≡ get_or ts 1 y → z ≡ get_or ts 2 z → x ∷ y ∷ z ∷ [] ≡ ts
three_items [] x y z least below h k l = absurd (let f : ⊥ = omega (arith, least) in f)
three_items (t ∷ []) x y z least below h k l = absurd (let f : ⊥ = omega (arith, least) in f)
three_items (t ∷ t' ∷ []) x y z least below h k l = absurd (let f : ⊥ = omega (arith, least) in f)
three_items (t ∷ t' ∷ t'' ∷ u ∷ ts) x y z least below h k l = absurd (let f : ⊥ = omega (arith, below) in f)
three_items (t ∷ t' ∷ t'' ∷ []) x y z least below h k l = λ i. h i ∷ k i ∷ l i ∷ []
