-- Primitives of scalars: functions of one look or of two, that answer one scalar or two.
use Rattle.std.proofs.Common.{◌≡◌, ◌≢◌, refl, sym, ◌∙◌, ◌≤◌, arith, length, false, ℕ, List, [], ◌∷◌}
use Rattle.std.specs.Prelude.{◌+ℤ◌, ◌-ℤ◌, ◌*ℤ◌, int_lt, int_le, ◌&&◌, ◌||◌, ◌==◌, nat_lt, if◌then◌else◌}
use Rattle.core_syntax.specs.declared.primitive.Primitive.{Primitive}
use Rattle.core_syntax.specs.declared.primitive.Primitive.TheVariants as p
use Rattle.core_syntax.specs.Lists.{each}
use Rattle.core_syntax.specs.Terms.{IndexValue}
use Rattle.core_syntax.specs.Arrays.{Arrayed, array, single}
use Rattle.core_syntax.specs.Answer.{Look, AtomRules, Answer, Unfit}
use Rattle.core_syntax.specs.Delta.{gives_int, gives_bool, same_int, quotient, remainder, of_ints, of_chars, of_bools, of_two, of_one, char_number, bool_number, negation, delta}
use Rattle.prim_kernels.specs.Deltas.{has_variables}

-- a primitive is a function of two looks, or of one
pub data ScalarForm {A : Type 0} (R : AtomRules A) (q : Primitive) : Type 0 where
  Both : (g : Look → Look → Answer A) → ((is : List IndexValue) (xs : List (Arrayed A)) → delta R q is xs ≡ of_two R g (each (λ a. a.atoms) xs)) → ScalarForm R q
  Lone : (g : Look → Answer A) → ((is : List IndexValue) (xs : List (Arrayed A)) → delta R q is xs ≡ of_one R g (each (λ a. a.atoms) xs)) → ScalarForm R q

module _ {A : Type 0} (R : AtomRules A) where
  pub scalar_form : (q : Primitive) → has_variables q ≡ false → ScalarForm R q
  scalar_form p.Add h = Both (of_ints R (λ x y. gives_int R (x +ℤ y))) (λ is xs. refl)
  scalar_form p.Sub h = Both (of_ints R (λ x y. gives_int R (x -ℤ y))) (λ is xs. refl)
  scalar_form p.Mul h = Both (of_ints R (λ x y. gives_int R (x *ℤ y))) (λ is xs. refl)
  scalar_form p.Div h = Both (of_ints R (quotient R)) (λ is xs. refl)
  scalar_form p.Mod h = Both (of_ints R (remainder R)) (λ is xs. refl)
  scalar_form p.Min h = Both (of_ints R (λ x y. gives_int R (if int_le x y then x else y))) (λ is xs. refl)
  scalar_form p.Max h = Both (of_ints R (λ x y. gives_int R (if int_le x y then y else x))) (λ is xs. refl)
  scalar_form p.Equal h = Both (of_ints R (λ x y. gives_bool R (same_int x y))) (λ is xs. refl)
  scalar_form p.Less h = Both (of_ints R (λ x y. gives_bool R (int_lt x y))) (λ is xs. refl)
  scalar_form p.AtMost h = Both (of_ints R (λ x y. gives_bool R (int_le x y))) (λ is xs. refl)
  scalar_form p.CharEqual h = Both (of_chars R (λ x y. gives_bool R (x == y))) (λ is xs. refl)
  scalar_form p.CharLess h = Both (of_chars R (λ x y. gives_bool R (nat_lt x y))) (λ is xs. refl)
  scalar_form p.CharToInt h = Lone (char_number R) (λ is xs. refl)
  scalar_form p.BoolToInt h = Lone (bool_number R) (λ is xs. refl)
  scalar_form p.And h = Both (of_bools R (λ x y. gives_bool R (x && y))) (λ is xs. refl)
  scalar_form p.Or h = Both (of_bools R (λ x y. gives_bool R (x || y))) (λ is xs. refl)
  scalar_form p.Not h = Lone (negation R) (λ is xs. refl)
  scalar_form _ h = absurd (let e = h in cc)

  -- ---- of lists of atoms

  one_other : (g : Look → Answer A) (xs : List A) → length xs ≢ 1 → of_one R g (xs ∷ []) ≡ Unfit
  one_other g [] n = refl
  one_other g (x ∷ []) n = absurd (n refl)
  one_other g (x ∷ x' ∷ xs) n = refl

  one_long : (g : Look → Answer A) (xs ys : List A) (rest : List (List A)) → of_one R g (xs ∷ ys ∷ rest) ≡ Unfit
  one_long g [] ys rest = refl
  one_long g (x ∷ []) ys rest = refl
  one_long g (x ∷ x' ∷ xs) ys rest = refl

  two_alone : (g : Look → Look → Answer A) (xs : List A) → of_two R g (xs ∷ []) ≡ Unfit
  two_alone g [] = refl
  two_alone g (x ∷ []) = refl
  two_alone g (x ∷ x' ∷ xs) = refl

  two_first : (g : Look → Look → Answer A) (xs ys : List A) → length xs ≢ 1 → of_two R g (xs ∷ ys ∷ []) ≡ Unfit
  two_first g [] ys n = refl
  two_first g (x ∷ []) ys n = absurd (n refl)
  two_first g (x ∷ x' ∷ xs) ys n = refl

  two_second : (g : Look → Look → Answer A) (xs ys : List A) → length ys ≢ 1 → of_two R g (xs ∷ ys ∷ []) ≡ Unfit
  two_second g [] ys n = refl
  two_second g (x ∷ []) [] n = refl
  two_second g (x ∷ []) (y ∷ []) n = absurd (n refl)
  two_second g (x ∷ []) (y ∷ y' ∷ ys) n = refl
  two_second g (x ∷ x' ∷ xs) ys n = refl

  two_long : (g : Look → Look → Answer A) (xs ys zs : List A) (rest : List (List A)) → of_two R g (xs ∷ ys ∷ zs ∷ rest) ≡ Unfit
  two_long g [] ys zs rest = refl
  two_long g (x ∷ []) [] zs rest = refl
  two_long g (x ∷ []) (y ∷ []) zs rest = refl
  two_long g (x ∷ []) (y ∷ y' ∷ ys) zs rest = refl
  two_long g (x ∷ x' ∷ xs) ys zs rest = refl

  -- ---- of a primitive on arrays

  module _ (q : Primitive) (is : List IndexValue) where
    -- scalars are seen by their atoms
    pub alone : ScalarForm R q → (d : List ℕ) (x : A) → delta R q is (single x ∷ []) ≡ delta R q is (array d (x ∷ []) ∷ [])
    alone (Both g e) d x = e is (single x ∷ []) ∙ sym (e is (array d (x ∷ []) ∷ []))
    alone (Lone g e) d x = e is (single x ∷ []) ∙ sym (e is (array d (x ∷ []) ∷ []))

    pub beside : ScalarForm R q → (d s : List ℕ) (x y : A) → delta R q is (single x ∷ single y ∷ []) ≡ delta R q is (array d (x ∷ []) ∷ array s (y ∷ []) ∷ [])
    beside (Both g e) d s x y = e is (single x ∷ single y ∷ []) ∙ sym (e is (array d (x ∷ []) ∷ array s (y ∷ []) ∷ []))
    beside (Lone g e) d s x y = e is (single x ∷ single y ∷ []) ∙ sym (e is (array d (x ∷ []) ∷ array s (y ∷ []) ∷ []))

    -- no array, arrays that are no scalars, and more than two
    pub none_unfit : ScalarForm R q → delta R q is [] ≡ Unfit
    none_unfit (Both g e) = e is []
    none_unfit (Lone g e) = e is []

    pub one_unfit : ScalarForm R q → (a : Arrayed A) → length a.atoms ≢ 1 → delta R q is (a ∷ []) ≡ Unfit
    one_unfit (Both g e) a n = e is (a ∷ []) ∙ two_alone g a.atoms
    one_unfit (Lone g e) a n = e is (a ∷ []) ∙ one_other g a.atoms n

    pub first_unfit : ScalarForm R q → (a b : Arrayed A) → length a.atoms ≢ 1 → delta R q is (a ∷ b ∷ []) ≡ Unfit
    first_unfit (Both g e) a b n = e is (a ∷ b ∷ []) ∙ two_first g a.atoms b.atoms n
    first_unfit (Lone g e) a b n = e is (a ∷ b ∷ []) ∙ one_long g a.atoms b.atoms []

    pub second_unfit : ScalarForm R q → (a b : Arrayed A) → length b.atoms ≢ 1 → delta R q is (a ∷ b ∷ []) ≡ Unfit
    second_unfit (Both g e) a b n = e is (a ∷ b ∷ []) ∙ two_second g a.atoms b.atoms n
    second_unfit (Lone g e) a b n = e is (a ∷ b ∷ []) ∙ one_long g a.atoms b.atoms []

    pub others_unfit : ScalarForm R q → (xs : List (Arrayed A)) → 3 ≤ length xs → delta R q is xs ≡ Unfit
    others_unfit (Both g e) (a ∷ b ∷ c ∷ xs) le = e is (a ∷ b ∷ c ∷ xs) ∙ two_long g a.atoms b.atoms c.atoms (each (λ a. a.atoms) xs)
    others_unfit (Lone g e) (a ∷ b ∷ c ∷ xs) le = e is (a ∷ b ∷ c ∷ xs) ∙ one_long g a.atoms b.atoms (c.atoms ∷ each (λ a. a.atoms) xs)
    others_unfit f [] le = absurd (let g : ⊥ = omega (arith, le) in g)
    others_unfit f (a ∷ []) le = absurd (let g : ⊥ = omega (arith, le) in g)
    others_unfit f (a ∷ b ∷ []) le = absurd (let g : ⊥ = omega (arith, le) in g)
