-- What each primitive gives.
use Rattle.std.specs.Prelude.{ℕ, zero, suc, ◌+◌, ◌*◌, ◌%◌, ◌^◌, ℤ, pos, negsuc, ◌+ℤ◌, ◌-ℤ◌, ◌*ℤ◌, int_lt, int_le, int_div, int_rem, Bool, true, false, not, ◌&&◌, ◌||◌, ◌==◌, nat_lt, nat_le, if◌then◌else◌, List, [], ◌∷◌, ◌++◌, length, take, drop, replicate, Option, Some, None, slice_index_or}
use Rattle.core_syntax.specs.declared.primitive.Primitive.{Primitive}
use Rattle.core_syntax.specs.declared.primitive.Primitive.TheVariants as p
use Rattle.core_syntax.specs.declared.errors.TrapKind.TheVariants as trap
use Rattle.core_syntax.specs.Lists.{onto, each, joined, product}
use Rattle.core_syntax.specs.Fits.{forms}
use Rattle.core_syntax.specs.Terms.{IndexValue, DimValue, ShapeValue}
use Rattle.core_syntax.specs.Arrays.{Arrayed, array, single, runs, columns}
use Rattle.core_syntax.specs.Answer.{Look, AnInt, ABool, AChar, AtomRules, Answer, Gives, Traps, Folds, Unfit}

-- an integer of 64 bits
abbrev pub is_int : ℤ → Bool
is_int (pos n) = nat_lt n (2 ^ 63)
is_int (negsuc n) = nat_lt n (2 ^ 63)

-- two integers are equal
abbrev pub same_int : ℤ → ℤ → Bool
same_int (pos m) (pos n) = m == n
same_int (pos m) (negsuc n) = false
same_int (negsuc m) (pos n) = false
same_int (negsuc m) (negsuc n) = m == n

-- a number, where a negative one counts as 0
abbrev pub at_least_0 : ℤ → ℕ
at_least_0 (pos n) = n
at_least_0 (negsuc n) = 0

-- the number that a list of indices has at a place
abbrev pub number_at : List IndexValue → ℕ → ℕ
number_at [] k = 0
number_at (DimValue n ∷ is) zero = n
number_at (ShapeValue s ∷ is) zero = 0
number_at (i ∷ is) (suc k) = number_at is k

-- the list of numbers that a list of indices has at a place
abbrev pub shape_at : List IndexValue → ℕ → List ℕ
shape_at [] k = []
shape_at (DimValue n ∷ is) zero = []
shape_at (ShapeValue s ∷ is) zero = s
shape_at (i ∷ is) (suc k) = shape_at is k

-- 0 to n - 1, from this number on
abbrev pub counting : ℕ → ℕ → List ℕ
counting k zero = []
counting k (suc n) = k ∷ counting (suc k) n

module _ {A : Type 0} (R : AtomRules A) where
  -- a scalar integer, where it is one of 64 bits
  abbrev pub gives_int : ℤ → Answer A
  gives_int z = elim (is_int z) [ true ↦ Gives (single (R.int z)) | false ↦ Traps trap.Overflow ]

  -- a scalar truth value
  abbrev pub gives_bool : Bool → Answer A
  gives_bool b = Gives (single (R.bool b))

  -- an array where its dims meet `forms`
  abbrev pub gives_formed : List ℕ → List A → Answer A
  gives_formed dims xs = elim (forms dims) [ true ↦ Gives (array dims xs) | false ↦ Traps trap.Size ]

  -- the quotient
  abbrev pub quotient : ℤ → ℤ → Answer A
  quotient x (pos zero) = Traps trap.Zero
  quotient x y = gives_int (int_div x y)

  -- the remainder
  abbrev pub remainder : ℤ → ℤ → Answer A
  remainder x (pos zero) = Traps trap.Zero
  remainder x y = gives_int (int_rem x y)

  -- a function of two integers
  abbrev pub of_ints : (ℤ → ℤ → Answer A) → Look → Look → Answer A
  of_ints f (AnInt x) (AnInt y) = f x y
  of_ints f _ _ = Unfit

  -- a function of two characters
  abbrev pub of_chars : (ℕ → ℕ → Answer A) → Look → Look → Answer A
  of_chars f (AChar x) (AChar y) = f x y
  of_chars f _ _ = Unfit

  -- a function of two truth values
  abbrev pub of_bools : (Bool → Bool → Answer A) → Look → Look → Answer A
  of_bools f (ABool x) (ABool y) = f x y
  of_bools f _ _ = Unfit

  -- a function of the atoms of two scalars
  abbrev pub of_two : (Look → Look → Answer A) → List (List A) → Answer A
  of_two f ((x ∷ []) ∷ (y ∷ []) ∷ []) = f (R.look x) (R.look y)
  of_two f _ = Unfit

  -- a function of the atom of one scalar
  abbrev pub of_one : (Look → Answer A) → List (List A) → Answer A
  of_one f ((x ∷ []) ∷ []) = f (R.look x)
  of_one f _ = Unfit

  -- the number of a character
  abbrev pub char_number : Look → Answer A
  char_number (AChar c) = gives_int (pos c)
  char_number _ = Unfit

  -- 1 for true, 0 for false
  abbrev pub bool_number : Look → Answer A
  bool_number (ABool true) = gives_int (pos 1)
  bool_number (ABool false) = gives_int (pos 0)
  bool_number _ = Unfit

  -- the other truth value
  abbrev pub negation : Look → Answer A
  negation (ABool b) = gives_bool (not b)
  negation _ = Unfit

  -- the second for true, the third for false
  abbrev pub selected : Look → Arrayed A → Arrayed A → Answer A
  selected (ABool true) x y = Gives x
  selected (ABool false) x y = Gives y
  selected _ x y = Unfit

  -- by the atom of a scalar
  abbrev pub select_by : List A → Arrayed A → Arrayed A → Answer A
  select_by (a ∷ []) x y = selected (R.look a) x y
  select_by _ x y = Unfit

  -- `select`
  abbrev pub select : List (Arrayed A) → Answer A
  select (b ∷ x ∷ y ∷ []) = select_by b.atoms x y
  select _ = Unfit

  -- an array with a leading dim, by that dim, the dims behind it and the atoms
  abbrev pub by_leading : List ℕ → List A → (ℕ → List ℕ → List A → Answer A) → Answer A
  by_leading [] xs f = Unfit
  by_leading (m ∷ s) xs f = f m s xs

  -- an array by its leading dim
  abbrev pub leading : Arrayed A → (ℕ → List ℕ → List A → Answer A) → Answer A
  leading a f = by_leading a.dims a.atoms f

  -- a function of one array
  abbrev pub of_array : (Arrayed A → Answer A) → List (Arrayed A) → Answer A
  of_array f (a ∷ []) = f a
  of_array f _ = Unfit

  -- a function of two arrays
  abbrev pub of_arrays : (Arrayed A → Arrayed A → Answer A) → List (Arrayed A) → Answer A
  of_arrays f (a ∷ b ∷ []) = f a b
  of_arrays f _ = Unfit

  -- a function of three arrays
  abbrev pub of_three : (Arrayed A → Arrayed A → Arrayed A → Answer A) → List (Arrayed A) → Answer A
  of_three f (a ∷ b ∷ c ∷ []) = f a b c
  of_three f _ = Unfit

  -- the cells of the first and then those of the second
  abbrev pub appended : Arrayed A → Arrayed A → Answer A
  appended a b = leading a (λ m s xs. leading b (λ n s' ys. gives_formed ((m + n) ∷ s) (xs ++ ys)))

  -- the leading cells from the last to the first
  abbrev pub reversed : Arrayed A → Answer A
  reversed a = leading a (λ m s xs. Gives (array (m ∷ s) (joined (onto (runs m (product s) xs) []))))

  -- the first m of m + n leading cells
  abbrev pub taken : ℕ → Arrayed A → Answer A
  taken m a = leading a (λ k s xs. Gives (array (m ∷ s) (take (m * product s) xs)))

  -- the last n of m + n leading cells
  abbrev pub dropped : ℕ → ℕ → Arrayed A → Answer A
  dropped m n a = leading a (λ k s xs. Gives (array (n ∷ s) (drop (m * product s) xs)))

  -- the cell at (j, i) is the one at (i, j)
  abbrev pub transposed : Arrayed A → Answer A
  transposed a =
      leading a (λ m ns xs. by_leading ns xs (λ n s ys.
      Gives (array (n ∷ m ∷ s) (joined (each joined (columns n (each (runs n (product s)) (runs m (n * product s) ys))))))))

  -- the array m times
  abbrev pub copied : ℕ → Arrayed A → Answer A
  copied m a = elim (forms (m ∷ a.dims)) [ true ↦ Gives (array (m ∷ a.dims) (joined (replicate m a.atoms))) | false ↦ Traps trap.Size ]

  -- how many leading cells there are
  abbrev pub length_of : Arrayed A → Answer A
  length_of a = leading a (λ m s xs. gives_int (pos m))

  -- the places of the leading cells
  abbrev pub positions_of : Arrayed A → Answer A
  positions_of a =
      leading a (λ m s xs. elim (forms (m ∷ [])) [ true ↦ Gives (array (m ∷ []) (each (λ k. R.int (pos k)) (counting 0 m))) | false ↦ Traps trap.Size ])

  -- the leading cell at a place, or the other array
  abbrev pub cell_or : ℕ → List ℕ → List A → Arrayed A → ℤ → Answer A
  cell_or m s xs other (negsuc k) = Gives other
  cell_or m s xs other (pos k) = if nat_lt k m then Gives (array s (take (product s) (drop (k * product s) xs))) else Gives other

  -- the same by an atom that is looked at
  abbrev pub cell_or_at : ℕ → List ℕ → List A → Arrayed A → Look → Answer A
  cell_or_at m s xs other (AnInt k) = cell_or m s xs other k
  cell_or_at m s xs other _ = Unfit

  -- the same by the atom of a scalar
  abbrev pub cell_or_by : ℕ → List ℕ → List A → Arrayed A → List A → Answer A
  cell_or_by m s xs other (i ∷ []) = cell_or_at m s xs other (R.look i)
  cell_or_by m s xs other _ = Unfit

  -- `index-or`
  abbrev pub index_or : Arrayed A → Arrayed A → Arrayed A → Answer A
  index_or a i other = leading a (λ m s xs. cell_or_by m s xs other i.atoms)

  -- a fold over the leading cells, of which there are at most 2^24
  abbrev pub folds : List A → Option (Arrayed A) → Arrayed A → Answer A
  folds (f ∷ []) first items =
      leading items (λ n s xs. elim (nat_le n (2 ^ 24)) [ true ↦ Folds f first (each (array s) (runs n (product s) xs)) | false ↦ Traps trap.Size ])
  folds _ first items = Unfit

  -- the dim that an integer asks for
  abbrev pub asked_dim : Look → ℕ
  asked_dim (AnInt z) = at_least_0 z
  asked_dim _ = 0

  -- each of them
  abbrev pub asked : List A → List ℕ
  asked xs = each (λ a. asked_dim (R.look a)) xs

  -- a scalar box
  abbrev pub gives_box : IndexValue → Arrayed A → Answer A
  gives_box i a = Gives (single (R.box (i ∷ []) a))

  -- the numbers 0 to the product of the asked dims, in a box
  abbrev pub iota : List ℕ → Answer A
  iota q =
      elim (forms q) [ true ↦ gives_box (ShapeValue q) (array q (each (λ k. R.int (pos k)) (counting 0 (product q)))) | false ↦ Traps trap.Size ]

  -- the atom at a place modulo the count, or the fill where there is none
  abbrev pub reshaped : List ℕ → List A → List A → Answer A
  reshaped q xs (fill ∷ []) =
      elim (forms q) [ true ↦ gives_box (ShapeValue q) (array q (each (λ j. slice_index_or xs (j % length xs) fill) (counting 0 (product q)))) | false ↦ Traps trap.Size ]
  reshaped q xs _ = Unfit

  -- the atoms as a vector, in a box
  abbrev pub raveled : Arrayed A → Answer A
  raveled a = gives_box (DimValue (length a.atoms)) (array (length a.atoms ∷ []) a.atoms)

  -- an item before the others, where its mask is true
  abbrev pub keep_if : {B : Type 0} → Look → B → List B → List B
  keep_if (ABool true) b bs = b ∷ bs
  keep_if _ b bs = bs

  -- the items at whose places the mask is true
  abbrev pub masked : {B : Type 0} → List A → List B → List B
  masked [] bs = []
  masked (m ∷ ms) [] = []
  masked (m ∷ ms) (b ∷ bs) = keep_if (R.look m) b (masked ms bs)

  -- the leading cells at whose places the mask is true, in a box
  abbrev pub filtered : Arrayed A → Arrayed A → Answer A
  filtered mask a =
      leading a (λ m s xs.
      let cells = masked mask.atoms (runs m (product s) xs) in
      gives_box (DimValue (length cells)) (array (length cells ∷ s) (joined cells)))

  -- a primitive, with the values of its index arguments, on arrays
  abbrev pub delta : Primitive → List IndexValue → List (Arrayed A) → Answer A
  delta p.Add is xs = of_two (of_ints (λ x y. gives_int (x +ℤ y))) (each (λ a. a.atoms) xs)
  delta p.Sub is xs = of_two (of_ints (λ x y. gives_int (x -ℤ y))) (each (λ a. a.atoms) xs)
  delta p.Mul is xs = of_two (of_ints (λ x y. gives_int (x *ℤ y))) (each (λ a. a.atoms) xs)
  delta p.Div is xs = of_two (of_ints quotient) (each (λ a. a.atoms) xs)
  delta p.Mod is xs = of_two (of_ints remainder) (each (λ a. a.atoms) xs)
  delta p.Min is xs = of_two (of_ints (λ x y. gives_int (if int_le x y then x else y))) (each (λ a. a.atoms) xs)
  delta p.Max is xs = of_two (of_ints (λ x y. gives_int (if int_le x y then y else x))) (each (λ a. a.atoms) xs)
  delta p.Equal is xs = of_two (of_ints (λ x y. gives_bool (same_int x y))) (each (λ a. a.atoms) xs)
  delta p.Less is xs = of_two (of_ints (λ x y. gives_bool (int_lt x y))) (each (λ a. a.atoms) xs)
  delta p.AtMost is xs = of_two (of_ints (λ x y. gives_bool (int_le x y))) (each (λ a. a.atoms) xs)
  delta p.CharEqual is xs = of_two (of_chars (λ x y. gives_bool (x == y))) (each (λ a. a.atoms) xs)
  delta p.CharLess is xs = of_two (of_chars (λ x y. gives_bool (nat_lt x y))) (each (λ a. a.atoms) xs)
  delta p.CharToInt is xs = of_one char_number (each (λ a. a.atoms) xs)
  delta p.BoolToInt is xs = of_one bool_number (each (λ a. a.atoms) xs)
  delta p.And is xs = of_two (of_bools (λ x y. gives_bool (x && y))) (each (λ a. a.atoms) xs)
  delta p.Or is xs = of_two (of_bools (λ x y. gives_bool (x || y))) (each (λ a. a.atoms) xs)
  delta p.Not is xs = of_one negation (each (λ a. a.atoms) xs)
  delta p.Select is xs = select xs
  delta p.Append is xs = of_arrays appended xs
  delta p.Reverse is xs = of_array reversed xs
  delta p.Take is xs = of_array (taken (number_at is 0)) xs
  delta p.Drop is xs = of_array (dropped (number_at is 0) (number_at is 1)) xs
  delta p.Transpose is xs = of_array transposed xs
  delta p.Replicate is xs = of_array (copied (number_at is 0)) xs
  delta p.Length is xs = of_array length_of xs
  delta p.Positions is xs = of_array positions_of xs
  delta p.IndexOr is xs = of_three index_or xs
  delta p.Reduce is xs = of_arrays (λ f items. folds f.atoms None items) xs
  delta p.Fold is xs = of_three (λ f z items. folds f.atoms (Some z) items) xs
  delta p.Iota is xs = of_array (λ a. iota (asked a.atoms)) xs
  delta p.Reshape is xs = of_three (λ q a fill. reshaped (asked q.atoms) a.atoms fill.atoms) xs
  delta p.Ravel is xs = of_array raveled xs
  delta p.Filter is xs = of_arrays filtered xs
