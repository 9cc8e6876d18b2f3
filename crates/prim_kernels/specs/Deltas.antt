-- What primitives begin, as the machine's table says it.
use Rattle.std.specs.Prelude.{◌≡◌, ◌<◌, ◌||◌, ⊤, Bool, ℕ, List, [], ◌∷◌, length, take, drop, Option, Some, None}
use Rattle.core_syntax.specs.declared.primitive.Primitive.{Primitive}
use Rattle.core_syntax.specs.Lists.{each, product}
use Rattle.core_syntax.specs.Arrays.{array, single, runs}
use Rattle.core_syntax.specs.Answer as answer
use Rattle.core_syntax.specs.Rules.{has_types, has_indices}
use Rattle.array_values.specs.Values.{Array}
use Rattle.array_values.specs.declared.value.Value.{Value}
use Rattle.array_values.specs.declared.value.Value.TheVariants as atom
use Rattle.machine_table.specs.Begins.{Entry, Refuses, Answers, Faults, answer_entry}
use Rattle.prim_kernels.specs.declared.answers.Delta.{Delta}
use Rattle.prim_kernels.specs.declared.answers.Delta.TheVariants as delta
use Rattle.prim_kernels.specs.declared.answers.Scalar.{Scalar}
use Rattle.prim_kernels.specs.declared.answers.Scalar.TheVariants as scalar

-- the leading cells of an array
abbrev pub leading_cells : List ℕ → List Value → List Array
leading_cells [] xs = []
leading_cells (n ∷ s) xs = each (array s) (runs n (product s) xs)

-- what a primitive on arrays begins
abbrev pub entry_of : Delta → Entry Value
entry_of (delta.Value a) = Answers a
entry_of (delta.Trap k) = Faults k
entry_of (delta.Fold f acc items) = answer_entry (answer.Folds f acc (leading_cells items.dims items.atoms))
entry_of (delta.Wrong k) = Refuses k

-- an accumulator, if there is one, and items
abbrev pub folded : Option Array → Array → List Array
folded None items = items ∷ []
folded (Some z) items = z ∷ items ∷ []

-- A fold of arguments: its function is the atom of the first, its accumulator is the second where there are three, and its items are the last, which has leading cells.
pub record Folds (args : List Array) (f : Value) (acc : Option Array) (items : Array) : Type 0 where
  pub function : each (λ a. a.atoms) (take 1 args) ≡ (f ∷ []) ∷ []
  pub others : drop 1 args ≡ folded acc items
  pub lead : 0 < length items.dims

-- a fold is one of the arguments
abbrev pub IsFoldOf : List Array → Delta → Type 0
IsFoldOf args (delta.Fold f acc items) = Folds args f acc items
IsFoldOf args _ = ⊤

-- what a primitive on scalars begins
abbrev pub scalar_entry : Scalar → Entry Value
scalar_entry (scalar.Int z) = Answers (single (atom.Int z))
scalar_entry (scalar.Bool b) = Answers (single (atom.Bool b))
scalar_entry (scalar.Trap k) = Faults k
scalar_entry (scalar.Wrong k) = Refuses k

-- a primitive's row has type or index variables
abbrev pub has_variables : Primitive → Bool
has_variables p = has_types p || has_indices p
