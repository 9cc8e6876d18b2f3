-- How arrays fit the cells of an application.
use Rattle.std.specs.Prelude.{◌≡◌, ℕ, ◌-◌, ◌/◌, ◌<◌, ◌≤◌, ◌^◌, true, false, List, length, drop, reverse, Some, None}
use Rattle.std.specs.List.{All}
use Rattle.core_syntax.specs.Arrays.{frame_before}
use Rattle.core_syntax.specs.Lists.{each, product}
use Rattle.array_values.specs.Arrays.{IsArray}
use Rattle.array_values.specs.Values.{Array}
use Rattle.machine_table.specs.Instructions.{ranks_fit}
use Rattle.machine_table.specs.Values.{frames_of}
use Rattle.machine.specs.Works.{frame_of, cell_of}
use Rattle.machine.specs.declared.applied.Fit.{Fit}
use Rattle.machine.specs.declared.applied.Fit.TheVariants as fit
use Rattle.machine.specs.declared.applied.Taken.{Taken}
use Rattle.machine.specs.declared.state.Argument.{Argument}

-- the dims of an array and the value of a cell's shape: they end in it, and this is its rank; or the rank is below that of the cell; or they end otherwise
abbrev pub FitsCell : Fit → (rank : ℕ) → (value dims : List ℕ) → Type 0
FitsCell fit.Fits rank value dims = (rank ≤ length dims) × (drop (length dims - rank) dims ≡ value)
FitsCell fit.OtherRank rank value dims = length dims < length value
FitsCell fit.OtherDims rank value dims = (length value ≤ length dims) × (frame_before value dims ≡ None)

-- An array with its cells.
pub record IsCelled (a : Argument) : Type 0 where
  pub whole : IsArray a.array
  pub ranked : a.rank ≤ length a.array.dims

-- the array of an argument
abbrev pub array_of : Argument → Array
array_of a = a.array

-- Arrays fit cells of these dims.
pub record AreCelled (values : List (List ℕ)) (as' : List Argument) : Type 0 where
  pub ranks : ranks_fit values (each array_of as') ≡ true
  pub frames : frames_of values (each array_of as') ≡ Some (each frame_of as')
  pub cells : each cell_of as' ≡ values
  pub each : All IsCelled as'

-- how arrays fit cells of these dims: all do; or the rank of one is below that of its cell; or else the dims of one end otherwise
abbrev pub Fitting : Fit → List (List ℕ) → List Argument → Type 0
Fitting fit.Fits values as' = AreCelled values as'
Fitting fit.OtherRank values as' = ranks_fit values (each array_of as') ≡ false
Fitting fit.OtherDims values as' = (ranks_fit values (each array_of as') ≡ true) × (frames_of values (each array_of as') ≡ None)

-- how the first array and others fit their cells
abbrev pub both_fit : Fit → Fit → Fit
both_fit fit.Fits others = others
both_fit fit.OtherRank others = fit.OtherRank
both_fit fit.OtherDims fit.OtherRank = fit.OtherRank
both_fit fit.OtherDims _ = fit.OtherDims

-- the arrays that were popped, and those under them, the last first
abbrev pub taken_of : Taken → List Array × List Array
taken_of t = (each array_of t.arguments.items, reverse t.left.items)

-- The dims of a frame, which may be too many places.
pub record IsFrame (F : List ℕ) : Type 0 where
  pub rank : length F ≤ 64
  pub each : All (λ d. d < 2 ^ 32) F

-- A frame of as many places as an array may have, and of some.
pub record HasPlaces (a : Argument) : Type 0 where
  pub some : 0 < product (frame_of a)
  pub few : product (frame_of a) ≤ 2 ^ 24

-- an argument over a frame of so many places
abbrev pub placed : ℕ → Argument → Argument
placed count a = record { array = a.array; rank = a.rank; repeat = count / product (frame_of a) }
