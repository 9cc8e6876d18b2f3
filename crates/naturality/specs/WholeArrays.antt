-- Arrays that a machine may hold, and answers of primitives that it can go on from.
use Rattle.std.specs.Prelude.{true, ⊤, ◌≡◌, List, [], ◌∷◌, length, Option, Some, None}
use Rattle.core_syntax.specs.Fits.{forms}
use Rattle.core_syntax.specs.Lists.{Each, product}
use Rattle.core_syntax.specs.Arrays.{Arrayed}
use Rattle.core_syntax.specs.Answer.{Answer, Gives, Traps, Folds, Unfit}

-- an array has as many atoms as its dims say
abbrev pub IsFull : {A : Type 0} → Arrayed A → Type 0
IsFull a = length a.atoms ≡ product a.dims

-- an answer that a machine can go on from: it isn't `Unfit`, and a fold without a first accumulator has an item
abbrev pub IsAnswer : {A : Type 0} → Answer A → Type 0
IsAnswer (Gives a) = ⊤
IsAnswer (Traps kind) = ⊤
IsAnswer (Folds f None []) = ⊥
IsAnswer (Folds f None (x ∷ xs)) = ⊤
IsAnswer (Folds f (Some z) xs) = ⊤
IsAnswer Unfit = ⊥

-- an array that a machine may hold: an array may have its dims, and it has as many atoms as they say
abbrev pub IsWhole : {A : Type 0} → Arrayed A → Type 0
IsWhole a = (forms a.dims ≡ true) × IsFull a

-- an answer whose outer arrays are such
abbrev pub IsWholeAnswer : {A : Type 0} → Answer A → Type 0
IsWholeAnswer (Gives a) = IsWhole a
IsWholeAnswer (Traps kind) = ⊤
IsWholeAnswer (Folds f None items) = Each IsWhole items
IsWholeAnswer (Folds f (Some z) items) = IsWhole z × Each IsWhole items
IsWholeAnswer Unfit = ⊤
