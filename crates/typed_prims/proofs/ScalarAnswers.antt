-- Primitives of scalars answer by what they see of their arguments.
use Rattle.std.proofs.Common.{◌≡◌, refl, ap, sym, ◌∙◌, subst, ◌≢◌, ◌≤◌, ◌<◌, arith, length, get_or, ℕ, ℤ, Bool, true, false, List, [], ◌∷◌, Option, Some, None, ◌&&◌, is_some, option_map}
use Rattle.std.specs.Prelude.{⊤}
use Rattle.core_syntax.specs.declared.primitive.Primitive.{Primitive}
use Rattle.core_syntax.specs.declared.primitive.Primitive.TheVariants as p
use Rattle.core_syntax.specs.declared.term.TermExpr.{TermExpr}
use Rattle.core_syntax.specs.Lists.{each}
use Rattle.core_syntax.specs.Syntax.{Ty, Index}
use Rattle.core_syntax.specs.Terms.{IndexValue, TPrim}
use Rattle.core_syntax.specs.Arrays.{Arrayed, array}
use Rattle.core_syntax.specs.Answer.{Look, AnInt, ABool, AChar, Other, AtomRules, Answer, Unfit}
use Rattle.core_syntax.specs.Delta.{of_ints, of_chars, of_bools, of_two, of_one, char_number, bool_number, negation, quotient, remainder, delta}
use Rattle.core_syntax.specs.Move.{Lost}
use Rattle.core_syntax.specs.Rules.{dims_of, atoms_of, look, atom_rules, agrees, has_types, has_indices, answered, values_of, apply_atom}
use Rattle.core_syntax.specs.Typed.{closed_value, typed_rules}
use Rattle.core_syntax.specs.RefineTerms.{term_of, TypedCell}
use Rattle.typed_prims.specs.Answers.{array_of, answer_on, move_on, seen_of, cell_seen, answer_on_looks, IsPlain}

-- a primitive has what it takes
abbrev pub complete : Primitive → Option (List Ty) → Option (List Index) → Bool
complete q us is = agrees (has_types q) (is_some us) && agrees (has_indices q) (is_some is)

pub some_map : {A B : Type 0} (f : A → B) (x : Option A) → is_some (option_map f x) ≡ is_some x
some_map f None = refl
some_map f (Some a) = refl

-- the arrays of values
arrays_of : (ts : List TermExpr) → each (λ t. array (dims_of typed_rules t) (atoms_of typed_rules t)) (each term_of ts) ≡ each array_of ts
arrays_of [] = refl
arrays_of (t ∷ ts) = ap (λ u. array_of t ∷ u) (arrays_of ts)

-- a choice whose test is known
at_true : {M : Type 0} (b : Bool) (x y : M) → b ≡ true → elim b [ true ↦ x | false ↦ y ] ≡ x
at_true true x y h = refl
at_true false x y h = absurd (let e = h in cc)

at_false : {M : Type 0} (b : Bool) (x y : M) → b ≡ false → elim b [ true ↦ x | false ↦ y ] ≡ y
at_false true x y h = absurd (let e = h in cc)
at_false false x y h = refl

pub complete_moves : (r : Ty) (q : Primitive) (us : Option (List Ty)) (is : Option (List Index)) (ts : List TermExpr) → complete q us is ≡ true
    → apply_atom typed_rules (TPrim q us is ∷ []) (each term_of ts) r ≡ move_on r q us is ts
complete_moves r q us is ts h =
    let arrays = each (λ t. array (dims_of typed_rules t) (atoms_of typed_rules t)) (each term_of ts) in
    at_true (complete q us is) (answered typed_rules r us is (delta (atom_rules typed_rules r) q (values_of closed_value is) arrays)) Lost h
    ∙ ap (λ xs. answered typed_rules r us is (delta (atom_rules typed_rules r) q (values_of closed_value is) xs)) (arrays_of ts)

pub incomplete_lost : (r : Ty) (q : Primitive) (us : Option (List Ty)) (is : Option (List Index)) (ts : List TermExpr) → complete q us is ≡ false
    → apply_atom typed_rules (TPrim q us is ∷ []) (each term_of ts) r ≡ Lost
incomplete_lost r q us is ts h =
    let arrays = each (λ t. array (dims_of typed_rules t) (atoms_of typed_rules t)) (each term_of ts) in
    at_false (complete q us is) (answered typed_rules r us is (delta (atom_rules typed_rules r) q (values_of closed_value is) arrays)) Lost h

-- an atom that is seen so is looked at so
look_back : (l : Look) → look typed_rules (cell_seen l) ≡ l
look_back (AnInt z) = refl
look_back (ABool b) = refl
look_back (AChar c) = refl
look_back Other = refl

module _ (r : Ty) where
  -- how primitives see and make atoms here
  abbrev R : AtomRules TypedCell
  R = atom_rules typed_rules r

  ints_left : (f : ℤ → ℤ → Answer TypedCell) (l : Look) → of_ints R f Other l ≡ Unfit
  ints_left f l = refl

  ints_right : (f : ℤ → ℤ → Answer TypedCell) (l : Look) → of_ints R f l Other ≡ Unfit
  ints_right f (AnInt z) = refl
  ints_right f (ABool b) = refl
  ints_right f (AChar c) = refl
  ints_right f Other = refl

  chars_right : (f : ℕ → ℕ → Answer TypedCell) (l : Look) → of_chars R f l Other ≡ Unfit
  chars_right f (AnInt z) = refl
  chars_right f (ABool b) = refl
  chars_right f (AChar c) = refl
  chars_right f Other = refl

  bools_right : (f : Bool → Bool → Answer TypedCell) (l : Look) → of_bools R f l Other ≡ Unfit
  bools_right f (AnInt z) = refl
  bools_right f (ABool b) = refl
  bools_right f (AChar c) = refl
  bools_right f Other = refl

  -- a function of two atoms that fits no other atom sees its arguments so
  two_seen : (g : Look → Look → Answer TypedCell) → ((l : Look) → g Other l ≡ Unfit) → ((l : Look) → g l Other ≡ Unfit) → (xs ys : List TypedCell)
      → of_two R g (xs ∷ ys ∷ []) ≡ g (look typed_rules (cell_seen (seen_of xs))) (look typed_rules (cell_seen (seen_of ys)))
  two_seen g left right [] ys = sym (left (look typed_rules (cell_seen (seen_of ys))))
  two_seen g left right (x ∷ x' ∷ xs) ys = sym (left (look typed_rules (cell_seen (seen_of ys))))
  two_seen g left right (x ∷ []) [] = sym (right (look typed_rules (cell_seen (look typed_rules x))))
  two_seen g left right (x ∷ []) (y ∷ y' ∷ ys) = sym (right (look typed_rules (cell_seen (look typed_rules x))))
  two_seen g left right (x ∷ []) (y ∷ []) =
      ap (λ l. g l (look typed_rules y)) (sym (look_back (look typed_rules x)))
      ∙ ap (λ l. g (look typed_rules (cell_seen (look typed_rules x))) l) (sym (look_back (look typed_rules y)))

  ints_seen : (f : ℤ → ℤ → Answer TypedCell) (xs ys : List TypedCell)
      → of_two R (of_ints R f) (xs ∷ ys ∷ []) ≡ of_ints R f (look typed_rules (cell_seen (seen_of xs))) (look typed_rules (cell_seen (seen_of ys)))
  ints_seen f xs ys = two_seen (of_ints R f) (ints_left f) (ints_right f) xs ys

  chars_seen : (f : ℕ → ℕ → Answer TypedCell) (xs ys : List TypedCell)
      → of_two R (of_chars R f) (xs ∷ ys ∷ []) ≡ of_chars R f (look typed_rules (cell_seen (seen_of xs))) (look typed_rules (cell_seen (seen_of ys)))
  chars_seen f xs ys = two_seen (of_chars R f) (λ l. refl) (chars_right f) xs ys

  bools_seen : (f : Bool → Bool → Answer TypedCell) (xs ys : List TypedCell)
      → of_two R (of_bools R f) (xs ∷ ys ∷ []) ≡ of_bools R f (look typed_rules (cell_seen (seen_of xs))) (look typed_rules (cell_seen (seen_of ys)))
  bools_seen f xs ys = two_seen (of_bools R f) (λ l. refl) (bools_right f) xs ys

  -- the same of a function of one atom
  one_seen : (g : Look → Answer TypedCell) → g Other ≡ Unfit → (xs : List TypedCell) → of_one R g (xs ∷ []) ≡ g (look typed_rules (cell_seen (seen_of xs)))
  one_seen g none [] = sym none
  one_seen g none (x ∷ x' ∷ xs) = sym none
  one_seen g none (x ∷ []) = ap g (sym (look_back (look typed_rules x)))

  -- another number of arguments fits none
  two_short : (g : Look → Look → Answer TypedCell) (xs : List TypedCell) → of_two R g (xs ∷ []) ≡ Unfit
  two_short g [] = refl
  two_short g (x ∷ []) = refl
  two_short g (x ∷ x' ∷ xs) = refl

  two_long : (g : Look → Look → Answer TypedCell) (xs ys zs : List TypedCell) (rest : List (List TypedCell)) → of_two R g (xs ∷ ys ∷ zs ∷ rest) ≡ Unfit
  two_long g [] ys zs rest = refl
  two_long g (x ∷ []) [] zs rest = refl
  two_long g (x ∷ []) (y ∷ []) zs rest = refl
  two_long g (x ∷ []) (y ∷ y' ∷ ys) zs rest = refl
  two_long g (x ∷ x' ∷ xs) ys zs rest = refl

  one_long : (g : Look → Answer TypedCell) (xs ys : List TypedCell) (rest : List (List TypedCell)) → of_one R g (xs ∷ ys ∷ rest) ≡ Unfit
  one_long g [] ys rest = refl
  one_long g (x ∷ []) ys rest = refl
  one_long g (x ∷ x' ∷ xs) ys rest = refl

  ints_short : (f : ℤ → ℤ → Answer TypedCell) (xs : List TypedCell) → of_two R (of_ints R f) (xs ∷ []) ≡ Unfit
  ints_short f xs = two_short (of_ints R f) xs

  ints_long : (f : ℤ → ℤ → Answer TypedCell) (xs ys zs : List TypedCell) (rest : List (List TypedCell)) → of_two R (of_ints R f) (xs ∷ ys ∷ zs ∷ rest) ≡ Unfit
  ints_long f xs ys zs rest = two_long (of_ints R f) xs ys zs rest

  chars_short : (f : ℕ → ℕ → Answer TypedCell) (xs : List TypedCell) → of_two R (of_chars R f) (xs ∷ []) ≡ Unfit
  chars_short f xs = two_short (of_chars R f) xs

  chars_long : (f : ℕ → ℕ → Answer TypedCell) (xs ys zs : List TypedCell) (rest : List (List TypedCell)) → of_two R (of_chars R f) (xs ∷ ys ∷ zs ∷ rest) ≡ Unfit
  chars_long f xs ys zs rest = two_long (of_chars R f) xs ys zs rest

  bools_short : (f : Bool → Bool → Answer TypedCell) (xs : List TypedCell) → of_two R (of_bools R f) (xs ∷ []) ≡ Unfit
  bools_short f xs = two_short (of_bools R f) xs

  bools_long : (f : Bool → Bool → Answer TypedCell) (xs ys zs : List TypedCell) (rest : List (List TypedCell)) → of_two R (of_bools R f) (xs ∷ ys ∷ zs ∷ rest) ≡ Unfit
  bools_long f xs ys zs rest = two_long (of_bools R f) xs ys zs rest

  pub seen_one : (is : List IndexValue) (q : Primitive) → IsPlain q → (x : Arrayed TypedCell) → delta R q is (x ∷ []) ≡ answer_on_looks r q (seen_of x.atoms ∷ [])
  seen_one is p.Add h x = ints_short _ x.atoms
  seen_one is p.Sub h x = ints_short _ x.atoms
  seen_one is p.Mul h x = ints_short _ x.atoms
  seen_one is p.Div h x = ints_short _ x.atoms
  seen_one is p.Mod h x = ints_short _ x.atoms
  seen_one is p.Min h x = ints_short _ x.atoms
  seen_one is p.Max h x = ints_short _ x.atoms
  seen_one is p.Equal h x = ints_short _ x.atoms
  seen_one is p.Less h x = ints_short _ x.atoms
  seen_one is p.AtMost h x = ints_short _ x.atoms
  seen_one is p.CharEqual h x = chars_short _ x.atoms
  seen_one is p.CharLess h x = chars_short _ x.atoms
  seen_one is p.CharToInt h x = one_seen (char_number R) refl x.atoms
  seen_one is p.BoolToInt h x = one_seen (bool_number R) refl x.atoms
  seen_one is p.And h x = bools_short _ x.atoms
  seen_one is p.Or h x = bools_short _ x.atoms
  seen_one is p.Not h x = one_seen (negation R) refl x.atoms
  seen_one is p.Select h x = absurd h
  seen_one is p.Append h x = absurd h
  seen_one is p.Reverse h x = absurd h
  seen_one is p.Take h x = absurd h
  seen_one is p.Drop h x = absurd h
  seen_one is p.Transpose h x = absurd h
  seen_one is p.Replicate h x = absurd h
  seen_one is p.Length h x = absurd h
  seen_one is p.Positions h x = absurd h
  seen_one is p.IndexOr h x = absurd h
  seen_one is p.Reduce h x = absurd h
  seen_one is p.Fold h x = absurd h
  seen_one is p.Iota h x = absurd h
  seen_one is p.Reshape h x = absurd h
  seen_one is p.Ravel h x = absurd h
  seen_one is p.Filter h x = absurd h

  pub seen_two : (is : List IndexValue) (q : Primitive) → IsPlain q → (x y : Arrayed TypedCell) → delta R q is (x ∷ y ∷ []) ≡ answer_on_looks r q (seen_of x.atoms ∷ seen_of y.atoms ∷ [])
  seen_two is p.Add h x y = ints_seen _ x.atoms y.atoms
  seen_two is p.Sub h x y = ints_seen _ x.atoms y.atoms
  seen_two is p.Mul h x y = ints_seen _ x.atoms y.atoms
  seen_two is p.Div h x y = ints_seen _ x.atoms y.atoms
  seen_two is p.Mod h x y = ints_seen _ x.atoms y.atoms
  seen_two is p.Min h x y = ints_seen _ x.atoms y.atoms
  seen_two is p.Max h x y = ints_seen _ x.atoms y.atoms
  seen_two is p.Equal h x y = ints_seen _ x.atoms y.atoms
  seen_two is p.Less h x y = ints_seen _ x.atoms y.atoms
  seen_two is p.AtMost h x y = ints_seen _ x.atoms y.atoms
  seen_two is p.CharEqual h x y = chars_seen _ x.atoms y.atoms
  seen_two is p.CharLess h x y = chars_seen _ x.atoms y.atoms
  seen_two is p.CharToInt h x y = one_long (char_number R) x.atoms y.atoms []
  seen_two is p.BoolToInt h x y = one_long (bool_number R) x.atoms y.atoms []
  seen_two is p.And h x y = bools_seen _ x.atoms y.atoms
  seen_two is p.Or h x y = bools_seen _ x.atoms y.atoms
  seen_two is p.Not h x y = one_long (negation R) x.atoms y.atoms []
  seen_two is p.Select h x y = absurd h
  seen_two is p.Append h x y = absurd h
  seen_two is p.Reverse h x y = absurd h
  seen_two is p.Take h x y = absurd h
  seen_two is p.Drop h x y = absurd h
  seen_two is p.Transpose h x y = absurd h
  seen_two is p.Replicate h x y = absurd h
  seen_two is p.Length h x y = absurd h
  seen_two is p.Positions h x y = absurd h
  seen_two is p.IndexOr h x y = absurd h
  seen_two is p.Reduce h x y = absurd h
  seen_two is p.Fold h x y = absurd h
  seen_two is p.Iota h x y = absurd h
  seen_two is p.Reshape h x y = absurd h
  seen_two is p.Ravel h x y = absurd h
  seen_two is p.Filter h x y = absurd h

  pub seen_none : (is : List IndexValue) (q : Primitive) → IsPlain q → delta R q is [] ≡ Unfit
  seen_none is p.Add h = refl
  seen_none is p.Sub h = refl
  seen_none is p.Mul h = refl
  seen_none is p.Div h = refl
  seen_none is p.Mod h = refl
  seen_none is p.Min h = refl
  seen_none is p.Max h = refl
  seen_none is p.Equal h = refl
  seen_none is p.Less h = refl
  seen_none is p.AtMost h = refl
  seen_none is p.CharEqual h = refl
  seen_none is p.CharLess h = refl
  seen_none is p.CharToInt h = refl
  seen_none is p.BoolToInt h = refl
  seen_none is p.And h = refl
  seen_none is p.Or h = refl
  seen_none is p.Not h = refl
  seen_none is p.Select h = absurd h
  seen_none is p.Append h = absurd h
  seen_none is p.Reverse h = absurd h
  seen_none is p.Take h = absurd h
  seen_none is p.Drop h = absurd h
  seen_none is p.Transpose h = absurd h
  seen_none is p.Replicate h = absurd h
  seen_none is p.Length h = absurd h
  seen_none is p.Positions h = absurd h
  seen_none is p.IndexOr h = absurd h
  seen_none is p.Reduce h = absurd h
  seen_none is p.Fold h = absurd h
  seen_none is p.Iota h = absurd h
  seen_none is p.Reshape h = absurd h
  seen_none is p.Ravel h = absurd h
  seen_none is p.Filter h = absurd h

  pub seen_many : (is : List IndexValue) (q : Primitive) → IsPlain q → (x y z : Arrayed TypedCell) (xs : List (Arrayed TypedCell)) → delta R q is (x ∷ y ∷ z ∷ xs) ≡ Unfit
  seen_many is p.Add h x y z xs = ints_long _ x.atoms y.atoms z.atoms (each (λ a. a.atoms) xs)
  seen_many is p.Sub h x y z xs = ints_long _ x.atoms y.atoms z.atoms (each (λ a. a.atoms) xs)
  seen_many is p.Mul h x y z xs = ints_long _ x.atoms y.atoms z.atoms (each (λ a. a.atoms) xs)
  seen_many is p.Div h x y z xs = ints_long _ x.atoms y.atoms z.atoms (each (λ a. a.atoms) xs)
  seen_many is p.Mod h x y z xs = ints_long _ x.atoms y.atoms z.atoms (each (λ a. a.atoms) xs)
  seen_many is p.Min h x y z xs = ints_long _ x.atoms y.atoms z.atoms (each (λ a. a.atoms) xs)
  seen_many is p.Max h x y z xs = ints_long _ x.atoms y.atoms z.atoms (each (λ a. a.atoms) xs)
  seen_many is p.Equal h x y z xs = ints_long _ x.atoms y.atoms z.atoms (each (λ a. a.atoms) xs)
  seen_many is p.Less h x y z xs = ints_long _ x.atoms y.atoms z.atoms (each (λ a. a.atoms) xs)
  seen_many is p.AtMost h x y z xs = ints_long _ x.atoms y.atoms z.atoms (each (λ a. a.atoms) xs)
  seen_many is p.CharEqual h x y z xs = chars_long _ x.atoms y.atoms z.atoms (each (λ a. a.atoms) xs)
  seen_many is p.CharLess h x y z xs = chars_long _ x.atoms y.atoms z.atoms (each (λ a. a.atoms) xs)
  seen_many is p.CharToInt h x y z xs = one_long (char_number R) x.atoms y.atoms (z.atoms ∷ each (λ a. a.atoms) xs)
  seen_many is p.BoolToInt h x y z xs = one_long (bool_number R) x.atoms y.atoms (z.atoms ∷ each (λ a. a.atoms) xs)
  seen_many is p.And h x y z xs = bools_long _ x.atoms y.atoms z.atoms (each (λ a. a.atoms) xs)
  seen_many is p.Or h x y z xs = bools_long _ x.atoms y.atoms z.atoms (each (λ a. a.atoms) xs)
  seen_many is p.Not h x y z xs = one_long (negation R) x.atoms y.atoms (z.atoms ∷ each (λ a. a.atoms) xs)
  seen_many is p.Select h x y z xs = absurd h
  seen_many is p.Append h x y z xs = absurd h
  seen_many is p.Reverse h x y z xs = absurd h
  seen_many is p.Take h x y z xs = absurd h
  seen_many is p.Drop h x y z xs = absurd h
  seen_many is p.Transpose h x y z xs = absurd h
  seen_many is p.Replicate h x y z xs = absurd h
  seen_many is p.Length h x y z xs = absurd h
  seen_many is p.Positions h x y z xs = absurd h
  seen_many is p.IndexOr h x y z xs = absurd h
  seen_many is p.Reduce h x y z xs = absurd h
  seen_many is p.Fold h x y z xs = absurd h
  seen_many is p.Iota h x y z xs = absurd h
  seen_many is p.Reshape h x y z xs = absurd h
  seen_many is p.Ravel h x y z xs = absurd h
  seen_many is p.Filter h x y z xs = absurd h

  -- what is looked at is a pair of integers, of characters or of truth values
  abbrev pub IsMixed : Look → Look → Type 0
  IsMixed (AnInt x) (AnInt y) = ⊥
  IsMixed (AChar x) (AChar y) = ⊥
  IsMixed (ABool x) (ABool y) = ⊥
  IsMixed _ _ = ⊤

  ints_mixed : (f : ℤ → ℤ → Answer TypedCell) (l m : Look) → IsMixed l m → of_ints R f (look typed_rules (cell_seen l)) (look typed_rules (cell_seen m)) ≡ Unfit
  ints_mixed f (AnInt x) (AnInt y) h = absurd h
  ints_mixed f (AnInt x) (ABool y) h = refl
  ints_mixed f (AnInt x) (AChar y) h = refl
  ints_mixed f (AnInt x) Other h = refl
  ints_mixed f (ABool x) (AnInt y) h = refl
  ints_mixed f (ABool x) (ABool y) h = absurd h
  ints_mixed f (ABool x) (AChar y) h = refl
  ints_mixed f (ABool x) Other h = refl
  ints_mixed f (AChar x) (AnInt y) h = refl
  ints_mixed f (AChar x) (ABool y) h = refl
  ints_mixed f (AChar x) (AChar y) h = absurd h
  ints_mixed f (AChar x) Other h = refl
  ints_mixed f Other (AnInt y) h = refl
  ints_mixed f Other (ABool y) h = refl
  ints_mixed f Other (AChar y) h = refl
  ints_mixed f Other Other h = refl

  chars_mixed : (f : ℕ → ℕ → Answer TypedCell) (l m : Look) → IsMixed l m → of_chars R f (look typed_rules (cell_seen l)) (look typed_rules (cell_seen m)) ≡ Unfit
  chars_mixed f (AnInt x) (AnInt y) h = absurd h
  chars_mixed f (AnInt x) (ABool y) h = refl
  chars_mixed f (AnInt x) (AChar y) h = refl
  chars_mixed f (AnInt x) Other h = refl
  chars_mixed f (ABool x) (AnInt y) h = refl
  chars_mixed f (ABool x) (ABool y) h = absurd h
  chars_mixed f (ABool x) (AChar y) h = refl
  chars_mixed f (ABool x) Other h = refl
  chars_mixed f (AChar x) (AnInt y) h = refl
  chars_mixed f (AChar x) (ABool y) h = refl
  chars_mixed f (AChar x) (AChar y) h = absurd h
  chars_mixed f (AChar x) Other h = refl
  chars_mixed f Other (AnInt y) h = refl
  chars_mixed f Other (ABool y) h = refl
  chars_mixed f Other (AChar y) h = refl
  chars_mixed f Other Other h = refl

  bools_mixed : (f : Bool → Bool → Answer TypedCell) (l m : Look) → IsMixed l m → of_bools R f (look typed_rules (cell_seen l)) (look typed_rules (cell_seen m)) ≡ Unfit
  bools_mixed f (AnInt x) (AnInt y) h = absurd h
  bools_mixed f (AnInt x) (ABool y) h = refl
  bools_mixed f (AnInt x) (AChar y) h = refl
  bools_mixed f (AnInt x) Other h = refl
  bools_mixed f (ABool x) (AnInt y) h = refl
  bools_mixed f (ABool x) (ABool y) h = absurd h
  bools_mixed f (ABool x) (AChar y) h = refl
  bools_mixed f (ABool x) Other h = refl
  bools_mixed f (AChar x) (AnInt y) h = refl
  bools_mixed f (AChar x) (ABool y) h = refl
  bools_mixed f (AChar x) (AChar y) h = absurd h
  bools_mixed f (AChar x) Other h = refl
  bools_mixed f Other (AnInt y) h = refl
  bools_mixed f Other (ABool y) h = refl
  bools_mixed f Other (AChar y) h = refl
  bools_mixed f Other Other h = refl

  pub mixed_unfit : (q : Primitive) (l m : Look) → IsMixed l m → answer_on_looks r q (l ∷ m ∷ []) ≡ Unfit
  mixed_unfit p.Add l m h = ints_mixed _ l m h
  mixed_unfit p.Sub l m h = ints_mixed _ l m h
  mixed_unfit p.Mul l m h = ints_mixed _ l m h
  mixed_unfit p.Div l m h = ints_mixed _ l m h
  mixed_unfit p.Mod l m h = ints_mixed _ l m h
  mixed_unfit p.Min l m h = ints_mixed _ l m h
  mixed_unfit p.Max l m h = ints_mixed _ l m h
  mixed_unfit p.Equal l m h = ints_mixed _ l m h
  mixed_unfit p.Less l m h = ints_mixed _ l m h
  mixed_unfit p.AtMost l m h = ints_mixed _ l m h
  mixed_unfit p.CharEqual l m h = chars_mixed _ l m h
  mixed_unfit p.CharLess l m h = chars_mixed _ l m h
  mixed_unfit p.CharToInt l m h = refl
  mixed_unfit p.BoolToInt l m h = refl
  mixed_unfit p.And l m h = bools_mixed _ l m h
  mixed_unfit p.Or l m h = bools_mixed _ l m h
  mixed_unfit p.Not l m h = refl
  mixed_unfit p.Select l m h = refl
  mixed_unfit p.Append l m h = refl
  mixed_unfit p.Reverse l m h = refl
  mixed_unfit p.Take l m h = refl
  mixed_unfit p.Drop l m h = refl
  mixed_unfit p.Transpose l m h = refl
  mixed_unfit p.Replicate l m h = refl
  mixed_unfit p.Length l m h = refl
  mixed_unfit p.Positions l m h = refl
  mixed_unfit p.IndexOr l m h = refl
  mixed_unfit p.Reduce l m h = refl
  mixed_unfit p.Fold l m h = refl
  mixed_unfit p.Iota l m h = refl
  mixed_unfit p.Reshape l m h = refl
  mixed_unfit p.Ravel l m h = refl
  mixed_unfit p.Filter l m h = refl

  pub one_char : (q : Primitive) → IsPlain q → q ≢ p.CharToInt → (c : ℕ) → Unfit ≡ answer_on_looks r q (AChar c ∷ [])
  one_char p.Add h n0 c = refl
  one_char p.Sub h n0 c = refl
  one_char p.Mul h n0 c = refl
  one_char p.Div h n0 c = refl
  one_char p.Mod h n0 c = refl
  one_char p.Min h n0 c = refl
  one_char p.Max h n0 c = refl
  one_char p.Equal h n0 c = refl
  one_char p.Less h n0 c = refl
  one_char p.AtMost h n0 c = refl
  one_char p.CharEqual h n0 c = refl
  one_char p.CharLess h n0 c = refl
  one_char p.CharToInt h n0 c = absurd (n0 refl)
  one_char p.BoolToInt h n0 c = refl
  one_char p.And h n0 c = refl
  one_char p.Or h n0 c = refl
  one_char p.Not h n0 c = refl
  one_char p.Select h n0 c = absurd h
  one_char p.Append h n0 c = absurd h
  one_char p.Reverse h n0 c = absurd h
  one_char p.Take h n0 c = absurd h
  one_char p.Drop h n0 c = absurd h
  one_char p.Transpose h n0 c = absurd h
  one_char p.Replicate h n0 c = absurd h
  one_char p.Length h n0 c = absurd h
  one_char p.Positions h n0 c = absurd h
  one_char p.IndexOr h n0 c = absurd h
  one_char p.Reduce h n0 c = absurd h
  one_char p.Fold h n0 c = absurd h
  one_char p.Iota h n0 c = absurd h
  one_char p.Reshape h n0 c = absurd h
  one_char p.Ravel h n0 c = absurd h
  one_char p.Filter h n0 c = absurd h

  pub one_bool : (q : Primitive) → IsPlain q → q ≢ p.BoolToInt → q ≢ p.Not → (b : Bool) → Unfit ≡ answer_on_looks r q (ABool b ∷ [])
  one_bool p.Add h n0 n1 b = refl
  one_bool p.Sub h n0 n1 b = refl
  one_bool p.Mul h n0 n1 b = refl
  one_bool p.Div h n0 n1 b = refl
  one_bool p.Mod h n0 n1 b = refl
  one_bool p.Min h n0 n1 b = refl
  one_bool p.Max h n0 n1 b = refl
  one_bool p.Equal h n0 n1 b = refl
  one_bool p.Less h n0 n1 b = refl
  one_bool p.AtMost h n0 n1 b = refl
  one_bool p.CharEqual h n0 n1 b = refl
  one_bool p.CharLess h n0 n1 b = refl
  one_bool p.CharToInt h n0 n1 b = refl
  one_bool p.BoolToInt h n0 n1 b = absurd (n0 refl)
  one_bool p.And h n0 n1 b = refl
  one_bool p.Or h n0 n1 b = refl
  one_bool p.Not h n0 n1 b = absurd (n1 refl)
  one_bool p.Select h n0 n1 b = absurd h
  one_bool p.Append h n0 n1 b = absurd h
  one_bool p.Reverse h n0 n1 b = absurd h
  one_bool p.Take h n0 n1 b = absurd h
  one_bool p.Drop h n0 n1 b = absurd h
  one_bool p.Transpose h n0 n1 b = absurd h
  one_bool p.Replicate h n0 n1 b = absurd h
  one_bool p.Length h n0 n1 b = absurd h
  one_bool p.Positions h n0 n1 b = absurd h
  one_bool p.IndexOr h n0 n1 b = absurd h
  one_bool p.Reduce h n0 n1 b = absurd h
  one_bool p.Fold h n0 n1 b = absurd h
  one_bool p.Iota h n0 n1 b = absurd h
  one_bool p.Reshape h n0 n1 b = absurd h
  one_bool p.Ravel h n0 n1 b = absurd h
  one_bool p.Filter h n0 n1 b = absurd h

  pub one_int : (q : Primitive) → IsPlain q → (z : ℤ) → Unfit ≡ answer_on_looks r q (AnInt z ∷ [])
  one_int p.Add h z = refl
  one_int p.Sub h z = refl
  one_int p.Mul h z = refl
  one_int p.Div h z = refl
  one_int p.Mod h z = refl
  one_int p.Min h z = refl
  one_int p.Max h z = refl
  one_int p.Equal h z = refl
  one_int p.Less h z = refl
  one_int p.AtMost h z = refl
  one_int p.CharEqual h z = refl
  one_int p.CharLess h z = refl
  one_int p.CharToInt h z = refl
  one_int p.BoolToInt h z = refl
  one_int p.And h z = refl
  one_int p.Or h z = refl
  one_int p.Not h z = refl
  one_int p.Select h z = absurd h
  one_int p.Append h z = absurd h
  one_int p.Reverse h z = absurd h
  one_int p.Take h z = absurd h
  one_int p.Drop h z = absurd h
  one_int p.Transpose h z = absurd h
  one_int p.Replicate h z = absurd h
  one_int p.Length h z = absurd h
  one_int p.Positions h z = absurd h
  one_int p.IndexOr h z = absurd h
  one_int p.Reduce h z = absurd h
  one_int p.Fold h z = absurd h
  one_int p.Iota h z = absurd h
  one_int p.Reshape h z = absurd h
  one_int p.Ravel h z = absurd h
  one_int p.Filter h z = absurd h

  pub one_other : (q : Primitive) → IsPlain q → Unfit ≡ answer_on_looks r q (Other ∷ [])
  one_other p.Add h = refl
  one_other p.Sub h = refl
  one_other p.Mul h = refl
  one_other p.Div h = refl
  one_other p.Mod h = refl
  one_other p.Min h = refl
  one_other p.Max h = refl
  one_other p.Equal h = refl
  one_other p.Less h = refl
  one_other p.AtMost h = refl
  one_other p.CharEqual h = refl
  one_other p.CharLess h = refl
  one_other p.CharToInt h = refl
  one_other p.BoolToInt h = refl
  one_other p.And h = refl
  one_other p.Or h = refl
  one_other p.Not h = refl
  one_other p.Select h = absurd h
  one_other p.Append h = absurd h
  one_other p.Reverse h = absurd h
  one_other p.Take h = absurd h
  one_other p.Drop h = absurd h
  one_other p.Transpose h = absurd h
  one_other p.Replicate h = absurd h
  one_other p.Length h = absurd h
  one_other p.Positions h = absurd h
  one_other p.IndexOr h = absurd h
  one_other p.Reduce h = absurd h
  one_other p.Fold h = absurd h
  one_other p.Iota h = absurd h
  one_other p.Reshape h = absurd h
  one_other p.Ravel h = absurd h
  one_other p.Filter h = absurd h

  pub of_div : (q : Primitive) (x y : ℤ) (a : Answer TypedCell) → q ≡ p.Div → a ≡ quotient R x y → a ≡ answer_on_looks r q (AnInt x ∷ AnInt y ∷ [])
  of_div q x y a h e = subst (λ q. a ≡ answer_on_looks r q (AnInt x ∷ AnInt y ∷ [])) (sym h) e

  pub of_mod : (q : Primitive) (x y : ℤ) (a : Answer TypedCell) → q ≡ p.Mod → a ≡ remainder R x y → a ≡ answer_on_looks r q (AnInt x ∷ AnInt y ∷ [])
  of_mod q x y a h e = subst (λ q. a ≡ answer_on_looks r q (AnInt x ∷ AnInt y ∷ [])) (sym h) e

  -- one argument, and two
  pub on_one_is : (is : List IndexValue) (q : Primitive) → IsPlain q → (ts : List TermExpr) (x : TermExpr) (l : Look) (a : Answer TypedCell) → 1 ≤ length ts → length ts < 2 → x ≡ get_or ts 0 x
      → l ≡ seen_of (atoms_of typed_rules (term_of x)) → a ≡ answer_on_looks r q (l ∷ []) → a ≡ answer_on r q is ts
  on_one_is is q plain [] x l a least below h s e = absurd (let f : ⊥ = omega (arith, least) in f)
  on_one_is is q plain (t ∷ t' ∷ ts) x l a least below h s e = absurd (let f : ⊥ = omega (arith, below) in f)
  on_one_is is q plain (t ∷ []) x l a least below h s e =
      e ∙ ap (λ l. answer_on_looks r q (l ∷ [])) (s ∙ ap (λ x. seen_of (atoms_of typed_rules (term_of x))) h) ∙ sym (seen_one is q plain (array_of t))

  pub on_two_is : (is : List IndexValue) (q : Primitive) → IsPlain q → (ts : List TermExpr) (x y : TermExpr) (l m : Look) (a : Answer TypedCell) → 2 ≤ length ts → length ts < 3 → x ≡ get_or ts 0 x → y ≡ get_or ts 1 y
      → l ≡ seen_of (atoms_of typed_rules (term_of x)) → m ≡ seen_of (atoms_of typed_rules (term_of y)) → a ≡ answer_on_looks r q (l ∷ m ∷ []) → a ≡ answer_on r q is ts
  on_two_is is q plain [] x y l m a least below h k s s' e = absurd (let f : ⊥ = omega (arith, least) in f)
  on_two_is is q plain (t ∷ []) x y l m a least below h k s s' e = absurd (let f : ⊥ = omega (arith, least) in f)
  on_two_is is q plain (t ∷ t' ∷ t'' ∷ ts) x y l m a least below h k s s' e = absurd (let f : ⊥ = omega (arith, below) in f)
  on_two_is is q plain (t ∷ t' ∷ []) x y l m a least below h k s s' e =
      e ∙ ap (λ l. answer_on_looks r q (l ∷ m ∷ [])) (s ∙ ap (λ x. seen_of (atoms_of typed_rules (term_of x))) h)
      ∙ ap (λ m. answer_on_looks r q (seen_of (atoms_of typed_rules (term_of t)) ∷ m ∷ [])) (s' ∙ ap (λ x. seen_of (atoms_of typed_rules (term_of x))) k) ∙ sym (seen_two is q plain (array_of t) (array_of t'))

  -- another number of them
  pub on_others_is : (is : List IndexValue) (q : Primitive) → IsPlain q → (ts : List TermExpr) → 3 ≤ length ts → Unfit ≡ answer_on r q is ts
  on_others_is is q plain [] h = absurd (let f : ⊥ = omega (arith, h) in f)
  on_others_is is q plain (t ∷ []) h = absurd (let f : ⊥ = omega (arith, h) in f)
  on_others_is is q plain (t ∷ t' ∷ []) h = absurd (let f : ⊥ = omega (arith, h) in f)
  on_others_is is q plain (t ∷ t' ∷ t'' ∷ ts) h = sym (seen_many is q plain (array_of t) (array_of t') (array_of t'') (each array_of ts))
