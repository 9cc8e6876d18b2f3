-- What primitives that give boxes see of atoms.
use Rattle.std.specs.Prelude.{ℕ, suc, ◌%◌, Bool, true, false, ⊤, if◌then◌else◌, List, [], ◌∷◌, length, slice_index_or}
use Rattle.core_syntax.specs.declared.primitive.Primitive.{Primitive}
use Rattle.core_syntax.specs.declared.primitive.Primitive.TheVariants as p
use Rattle.core_syntax.specs.Delta.{at_least_0, counting}
use Rattle.core_syntax.specs.Lists.{each}
use Rattle.core_syntax.specs.Terms.{TInt, TBool}
use Rattle.core_syntax.specs.RefineTerms.{TypedCell}

-- a primitive that gives a box
abbrev pub GivesBox : Primitive → Type 0
GivesBox p.Iota = ⊤
GivesBox p.Reshape = ⊤
GivesBox p.Ravel = ⊤
GivesBox p.Filter = ⊤
GivesBox _ = ⊥

-- the dim that an atom asks for
abbrev pub wanted : TypedCell → ℕ
wanted (TInt z) = at_least_0 z
wanted _ = 0

-- whether an atom is true
abbrev pub mark : TypedCell → Bool
mark (TBool b) = b
mark _ = false

-- how many of atoms are
abbrev pub count_marks : List TypedCell → ℕ
count_marks [] = 0
count_marks (a ∷ xs) = if mark a then suc (count_marks xs) else count_marks xs

-- n items: those of a list again and again, or the fill where it has none
abbrev pub cycled : {A : Type 0} → List A → A → ℕ → List A
cycled xs fill n = each (λ j. slice_index_or xs (j % length xs) fill) (counting 0 n)
