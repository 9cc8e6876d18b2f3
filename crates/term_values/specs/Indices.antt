-- The values of closed indices, as far as a run can keep them.
use Rattle.std.specs.Prelude.{ℕ, ◌^◌, ◌≡◌, Bool, true, false, List, ◌++◌, Option, Some, None}
use Rattle.core_syntax.specs.Syntax.{Index}
use Rattle.core_syntax.specs.Lists.{each}
use Rattle.core_syntax.specs.Fits.{all_below, value_fits, all_fit}
use Rattle.core_syntax.specs.Terms.{IndexValue}
use Rattle.core_syntax.specs.Typed.{closed_value, value_index}

-- dims that are numbers of 32 bits
abbrev pub small : List ℕ → Option (List ℕ)
small ns = elim (all_below (2 ^ 32) ns) [ true ↦ Some ns | false ↦ None ]

-- dims put behind others: all of them, or some and the next is no number of 32 bits
abbrev pub Pushed : Bool → List ℕ → List ℕ → List ℕ → Type 0
Pushed true before after ns = (after ≡ before ++ ns) × (all_below (2 ^ 32) ns ≡ true)
Pushed false before after ns = all_below (2 ^ 32) ns ≡ false

-- an index with this value, where a run can keep it
abbrev pub kept_value : IndexValue → Option Index
kept_value v = elim (value_fits v) [ true ↦ Some (value_index v) | false ↦ None ]

-- indices with the values of these, where each fits
abbrev pub kept_values : List Index → Option (List Index)
kept_values is = elim (all_fit (each closed_value is)) [ true ↦ Some (each value_index (each closed_value is)) | false ↦ None ]

-- indices that stand for values
abbrev pub AreValues : List Index → Type 0
AreValues is = (vs : List IndexValue) × (is ≡ each value_index vs)
