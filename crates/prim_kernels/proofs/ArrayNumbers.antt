-- Primitives that make arrays of arrays answer their own number of them.
use Rattle.std.proofs.Common.{◌≡◌, ◌≢◌, refl, ◌≤◌, arith, length, List, [], ◌∷◌}
use Rattle.core_syntax.specs.declared.primitive.Primitive.{Primitive}
use Rattle.core_syntax.specs.declared.primitive.Primitive.TheVariants as p
use Rattle.core_syntax.specs.Terms.{IndexValue}
use Rattle.core_syntax.specs.Arrays.{Arrayed}
use Rattle.core_syntax.specs.Answer.{AtomRules, Unfit}
use Rattle.core_syntax.specs.Delta.{delta}
use Rattle.prim_kernels.specs.Kernels.{MakesArrays}

module _ {A : Type 0} (R : AtomRules A) where
  -- no array
  pub none_unfit : (q : Primitive) → MakesArrays q → (is : List IndexValue) → Unfit ≡ delta R q is []
  none_unfit p.Select h is = refl
  none_unfit p.Append h is = refl
  none_unfit p.Reverse h is = refl
  none_unfit p.Take h is = refl
  none_unfit p.Drop h is = refl
  none_unfit p.Transpose h is = refl
  none_unfit p.Replicate h is = refl
  none_unfit p.Length h is = refl
  none_unfit p.Positions h is = refl
  none_unfit p.IndexOr h is = refl
  none_unfit p.Iota h is = refl
  none_unfit p.Reshape h is = refl
  none_unfit p.Ravel h is = refl
  none_unfit p.Filter h is = refl
  none_unfit p.Reduce h is = absurd (h.1 refl)
  none_unfit p.Fold h is = absurd (h.2 refl)
  none_unfit _ h is = absurd (let e = h.0 in cc)

  -- one
  pub one_unfit : (q : Primitive) → MakesArrays q → q ≢ p.Reverse → q ≢ p.Take → q ≢ p.Drop → q ≢ p.Transpose → q ≢ p.Replicate → q ≢ p.Length → q ≢ p.Positions → q ≢ p.Iota → q ≢ p.Ravel → (is : List IndexValue) (a : Arrayed A) → Unfit ≡ delta R q is (a ∷ [])
  one_unfit p.Select h n0 n1 n2 n3 n4 n5 n6 n7 n8 is a = refl
  one_unfit p.Append h n0 n1 n2 n3 n4 n5 n6 n7 n8 is a = refl
  one_unfit p.Reverse h n0 n1 n2 n3 n4 n5 n6 n7 n8 is a = absurd (n0 refl)
  one_unfit p.Take h n0 n1 n2 n3 n4 n5 n6 n7 n8 is a = absurd (n1 refl)
  one_unfit p.Drop h n0 n1 n2 n3 n4 n5 n6 n7 n8 is a = absurd (n2 refl)
  one_unfit p.Transpose h n0 n1 n2 n3 n4 n5 n6 n7 n8 is a = absurd (n3 refl)
  one_unfit p.Replicate h n0 n1 n2 n3 n4 n5 n6 n7 n8 is a = absurd (n4 refl)
  one_unfit p.Length h n0 n1 n2 n3 n4 n5 n6 n7 n8 is a = absurd (n5 refl)
  one_unfit p.Positions h n0 n1 n2 n3 n4 n5 n6 n7 n8 is a = absurd (n6 refl)
  one_unfit p.IndexOr h n0 n1 n2 n3 n4 n5 n6 n7 n8 is a = refl
  one_unfit p.Iota h n0 n1 n2 n3 n4 n5 n6 n7 n8 is a = absurd (n7 refl)
  one_unfit p.Reshape h n0 n1 n2 n3 n4 n5 n6 n7 n8 is a = refl
  one_unfit p.Ravel h n0 n1 n2 n3 n4 n5 n6 n7 n8 is a = absurd (n8 refl)
  one_unfit p.Filter h n0 n1 n2 n3 n4 n5 n6 n7 n8 is a = refl
  one_unfit p.Reduce h n0 n1 n2 n3 n4 n5 n6 n7 n8 is a = absurd (h.1 refl)
  one_unfit p.Fold h n0 n1 n2 n3 n4 n5 n6 n7 n8 is a = absurd (h.2 refl)
  one_unfit _ h n0 n1 n2 n3 n4 n5 n6 n7 n8 is a = absurd (let e = h.0 in cc)

  -- two
  pub two_unfit : (q : Primitive) → MakesArrays q → q ≢ p.Append → q ≢ p.Filter → (is : List IndexValue) (a b : Arrayed A) → Unfit ≡ delta R q is (a ∷ b ∷ [])
  two_unfit p.Select h n0 n1 is a b = refl
  two_unfit p.Append h n0 n1 is a b = absurd (n0 refl)
  two_unfit p.Reverse h n0 n1 is a b = refl
  two_unfit p.Take h n0 n1 is a b = refl
  two_unfit p.Drop h n0 n1 is a b = refl
  two_unfit p.Transpose h n0 n1 is a b = refl
  two_unfit p.Replicate h n0 n1 is a b = refl
  two_unfit p.Length h n0 n1 is a b = refl
  two_unfit p.Positions h n0 n1 is a b = refl
  two_unfit p.IndexOr h n0 n1 is a b = refl
  two_unfit p.Iota h n0 n1 is a b = refl
  two_unfit p.Reshape h n0 n1 is a b = refl
  two_unfit p.Ravel h n0 n1 is a b = refl
  two_unfit p.Filter h n0 n1 is a b = absurd (n1 refl)
  two_unfit p.Reduce h n0 n1 is a b = absurd (h.1 refl)
  two_unfit p.Fold h n0 n1 is a b = absurd (h.2 refl)
  two_unfit _ h n0 n1 is a b = absurd (let e = h.0 in cc)

  -- three
  pub three_unfit : (q : Primitive) → MakesArrays q → q ≢ p.Select → q ≢ p.IndexOr → q ≢ p.Reshape → (is : List IndexValue) (a b c : Arrayed A) → Unfit ≡ delta R q is (a ∷ b ∷ c ∷ [])
  three_unfit p.Select h n0 n1 n2 is a b c = absurd (n0 refl)
  three_unfit p.Append h n0 n1 n2 is a b c = refl
  three_unfit p.Reverse h n0 n1 n2 is a b c = refl
  three_unfit p.Take h n0 n1 n2 is a b c = refl
  three_unfit p.Drop h n0 n1 n2 is a b c = refl
  three_unfit p.Transpose h n0 n1 n2 is a b c = refl
  three_unfit p.Replicate h n0 n1 n2 is a b c = refl
  three_unfit p.Length h n0 n1 n2 is a b c = refl
  three_unfit p.Positions h n0 n1 n2 is a b c = refl
  three_unfit p.IndexOr h n0 n1 n2 is a b c = absurd (n1 refl)
  three_unfit p.Iota h n0 n1 n2 is a b c = refl
  three_unfit p.Reshape h n0 n1 n2 is a b c = absurd (n2 refl)
  three_unfit p.Ravel h n0 n1 n2 is a b c = refl
  three_unfit p.Filter h n0 n1 n2 is a b c = refl
  three_unfit p.Reduce h n0 n1 n2 is a b c = absurd (h.1 refl)
  three_unfit p.Fold h n0 n1 n2 is a b c = absurd (h.2 refl)
  three_unfit _ h n0 n1 n2 is a b c = absurd (let e = h.0 in cc)

  -- four and more
  many_unfit : (q : Primitive) → MakesArrays q → (is : List IndexValue) (a b c d : Arrayed A) (xs : List (Arrayed A)) → Unfit ≡ delta R q is (a ∷ b ∷ c ∷ d ∷ xs)
  many_unfit p.Select h is a b c d xs = refl
  many_unfit p.Append h is a b c d xs = refl
  many_unfit p.Reverse h is a b c d xs = refl
  many_unfit p.Take h is a b c d xs = refl
  many_unfit p.Drop h is a b c d xs = refl
  many_unfit p.Transpose h is a b c d xs = refl
  many_unfit p.Replicate h is a b c d xs = refl
  many_unfit p.Length h is a b c d xs = refl
  many_unfit p.Positions h is a b c d xs = refl
  many_unfit p.IndexOr h is a b c d xs = refl
  many_unfit p.Iota h is a b c d xs = refl
  many_unfit p.Reshape h is a b c d xs = refl
  many_unfit p.Ravel h is a b c d xs = refl
  many_unfit p.Filter h is a b c d xs = refl
  many_unfit p.Reduce h is a b c d xs = absurd (h.1 refl)
  many_unfit p.Fold h is a b c d xs = absurd (h.2 refl)
  many_unfit _ h is a b c d xs = absurd (let e = h.0 in cc)

  pub others_unfit : (q : Primitive) → MakesArrays q → (is : List IndexValue) (xs : List (Arrayed A)) → 4 ≤ length xs → Unfit ≡ delta R q is xs
  others_unfit q h is (a ∷ b ∷ c ∷ d ∷ xs) le = many_unfit q h is a b c d xs
  others_unfit q h is [] le = absurd (let f : ⊥ = omega (arith, le) in f)
  others_unfit q h is (a ∷ []) le = absurd (let f : ⊥ = omega (arith, le) in f)
  others_unfit q h is (a ∷ b ∷ []) le = absurd (let f : ⊥ = omega (arith, le) in f)
  others_unfit q h is (a ∷ b ∷ c ∷ []) le = absurd (let f : ⊥ = omega (arith, le) in f)
