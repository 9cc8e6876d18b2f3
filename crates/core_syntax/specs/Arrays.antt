-- Arrays as dims and atoms, their cells over a frame, and replication.
use Rattle.std.specs.Prelude.{ℕ, zero, suc, Bool, true, false, ◌&&◌, ◌==◌, List, [], ◌∷◌, ◌++◌, take, drop, replicate, Option, Some, None, option_map}
use Rattle.core_syntax.specs.Lists.{onto, each, joined, product, same_numbers, after_prefix}

-- an array: its dims, and as many atoms as their product
pub record Arrayed (A : Type 0) : Type 0 where
  pub dims : List ℕ
  pub atoms : List A

-- an array of these dims and atoms
abbrev pub array : {A : Type 0} → List ℕ → List A → Arrayed A
array dims xs = record { dims = dims; atoms = xs }

-- the scalar array of an atom
abbrev pub single : {A : Type 0} → A → Arrayed A
single a = array [] (a ∷ [])

-- n runs of so many items
abbrev pub runs : {A : Type 0} → ℕ → ℕ → List A → List (List A)
runs zero size xs = []
runs (suc n) size xs = take size xs ∷ runs n size (drop size xs)

-- the frame of dims in front of the trailing dims of a cell, where they end in these
abbrev pub frame_before : List ℕ → List ℕ → Option (List ℕ)
frame_before cell dims = option_map (λ f. onto f []) (after_prefix (onto cell []) (onto dims []))

-- the cells of an array over a frame, in row-major order
abbrev pub cells_over : {A : Type 0} → List ℕ → List ℕ → List A → List (Arrayed A)
cells_over frame cell xs = each (array cell) (runs (product frame) (product cell) xs)

-- each item n times
abbrev pub repeated : {A : Type 0} → ℕ → List A → List A
repeated n [] = []
repeated n (x ∷ xs) = replicate n x ++ repeated n xs

-- the atoms of an array over a frame, replicated to a frame that goes on from it by `rest`: the cell at each place is the one at the leading part of the place
abbrev pub replicated : {A : Type 0} → List ℕ → List ℕ → List ℕ → List A → List A
replicated frame rest cell xs = joined (repeated (product rest) (runs (product frame) (product cell) xs))

-- the first list of numbers is a prefix of the second
abbrev pub is_prefix : List ℕ → List ℕ → Bool
is_prefix [] ys = true
is_prefix (x ∷ xs) [] = false
is_prefix (x ∷ xs) (y ∷ ys) = x == y && is_prefix xs ys

-- each list of numbers is a prefix of the last one
abbrev pub all_prefixes : List (List ℕ) → List ℕ → Bool
all_prefixes [] f = true
all_prefixes (g ∷ gs) f = is_prefix g f && all_prefixes gs f

-- the first of the second frames that has all of the first as prefixes
abbrev pub greatest_of : List (List ℕ) → List (List ℕ) → Option (List ℕ)
greatest_of all [] = None
greatest_of all (f ∷ fs) = elim (all_prefixes all f) [ true ↦ Some f | false ↦ greatest_of all fs ]

-- the first of these frames that has all of the others as prefixes
abbrev pub greatest : List (List ℕ) → Option (List ℕ)
greatest fs = greatest_of fs fs

-- all frames are this one
abbrev pub all_frames_are : List ℕ → List (List ℕ) → Bool
all_frames_are f [] = true
all_frames_are f (g ∷ gs) = same_numbers f g && all_frames_are f gs

-- the first item of each list
abbrev pub firsts : {A : Type 0} → List (List A) → List A
firsts [] = []
firsts ([] ∷ xss) = firsts xss
firsts ((x ∷ xs) ∷ xss) = x ∷ firsts xss

-- the lists behind the first item of each
abbrev pub rests : {A : Type 0} → List (List A) → List (List A)
rests [] = []
rests ([] ∷ xss) = rests xss
rests ((x ∷ xs) ∷ xss) = xs ∷ rests xss

-- the first n columns of rows
abbrev pub columns : {A : Type 0} → ℕ → List (List A) → List (List A)
columns zero xss = []
columns (suc n) xss = firsts xss ∷ columns n (rests xss)
