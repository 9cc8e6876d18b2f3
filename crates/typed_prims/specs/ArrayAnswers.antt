-- What primitives give on arrays.
use Rattle.std.specs.Prelude.{ℕ, pos, ⊤, List}
use Rattle.core_syntax.specs.declared.primitive.Primitive.{Primitive}
use Rattle.core_syntax.specs.declared.primitive.Primitive.TheVariants as p
use Rattle.core_syntax.specs.Lists.{each}
use Rattle.core_syntax.specs.Terms.{TInt}
use Rattle.core_syntax.specs.Arrays.{array, single}
use Rattle.core_syntax.specs.Answer.{Answer, Gives, Traps, Unfit}
use Rattle.core_syntax.specs.Delta.{counting}
use Rattle.core_syntax.specs.RefineTerms.{cell_of, TypedCell}
use Rattle.typed_prims.specs.declared.answer.Answer.{Answer as Given}
use Rattle.typed_prims.specs.declared.answer.Answer.TheVariants as answer

-- what a primitive gives on arrays
abbrev pub answer_is : Given → Answer TypedCell
answer_is (answer.Gives dims atoms) = Gives (array dims (each cell_of atoms.items))
answer_is (answer.Trap k) = Traps k
answer_is answer.Unfit = Unfit

-- an array of these dims and atoms
abbrev pub gives : List ℕ → List TypedCell → Answer TypedCell
gives dims xs = Gives (array dims xs)

-- a scalar
abbrev pub gives_single : TypedCell → Answer TypedCell
gives_single a = Gives (single a)

-- the numbers below one
abbrev pub places : ℕ → List TypedCell
places n = each (λ k. TInt (pos k)) (counting 0 n)

-- a primitive that cuts, joins or reorders arrays
abbrev pub IsOnArrays : Primitive → Type 0
IsOnArrays p.Append = ⊤
IsOnArrays p.Reverse = ⊤
IsOnArrays p.Take = ⊤
IsOnArrays p.Drop = ⊤
IsOnArrays p.Transpose = ⊤
IsOnArrays p.Replicate = ⊤
IsOnArrays p.Length = ⊤
IsOnArrays p.Positions = ⊤
IsOnArrays p.IndexOr = ⊤
IsOnArrays _ = ⊥
