-- What a primitive sees of atoms, and what it answers.
use Rattle.std.specs.Prelude.{ℕ, ℤ, Bool, List, Option}
use Rattle.core_syntax.specs.declared.errors.TrapKind.{TrapKind}
use Rattle.core_syntax.specs.Terms.{IndexValue}
use Rattle.core_syntax.specs.Arrays.{Arrayed}

-- an atom that a primitive looks at
pub data Look : Type 0 where
  AnInt : ℤ → Look
  ABool : Bool → Look
  AChar : ℕ → Look
  Other : Look

-- how atoms of a kind are looked at and made
pub record AtomRules (A : Type 0) : Type 0 where
  -- what a primitive sees of an atom
  pub look : A → Look
  -- an atom of an integer, of a truth value, and a box
  pub int : ℤ → A
  pub bool : Bool → A
  pub box : List IndexValue → Arrayed A → A

-- what a primitive gives: an array, a trap, or a fold of a function over items, where reduce has no first accumulator. `Unfit` stands where its arguments are none of its row
pub data Answer (A : Type 0) : Type 0 where
  Gives : Arrayed A → Answer A
  Traps : TrapKind → Answer A
  Folds : A → Option (Arrayed A) → List (Arrayed A) → Answer A
  Unfit : Answer A
