-- What each primitive gives fits, where its arguments do.
use Rattle.std.proofs.Common.{◌≡◌, ap, subst, ℕ, suc, ◌+◌, ◌*◌, ◌^◌, ◌≤◌, ℤ, pos, arith, Bool, true, false, List, [], ◌∷◌, length}
use Rattle.std.specs.Prelude.{⊤, Option, Some, None, nat_le, ◌++◌, ◌&&◌, ◌||◌, ◌==◌, nat_lt, ◌+ℤ◌, ◌-ℤ◌, ◌*ℤ◌, int_lt, int_le, if◌then◌else◌, take, drop, replicate}
use Rattle.std.proofs.lemmas.Bool.Decides.{nat_tests}
use Rattle.core_syntax.specs.declared.primitive.Primitive.{Primitive}
use Rattle.core_syntax.specs.declared.primitive.Primitive.TheVariants as p
use Rattle.core_syntax.specs.declared.errors.TrapKind.TheVariants as trap
use Rattle.core_syntax.specs.Lists.{onto, each, joined, product, Each}
use Rattle.core_syntax.specs.Fits.{forms, all_fit}
use Rattle.core_syntax.specs.Terms.{IndexValue, DimValue, ShapeValue}
use Rattle.core_syntax.specs.Arrays.{Arrayed, array, runs, columns}
use Rattle.core_syntax.specs.Answer.{Look, AnInt, ABool, AChar, Other, AtomRules, Answer, Gives, Traps, Folds}
use Rattle.core_syntax.specs.Delta as d
use Rattle.core_syntax.specs.Delta.{same_int, number_at, counting, delta}
use Rattle.naturality.specs.WholeArrays.{IsWhole}
use Rattle.naturality.proofs.Counts.{form_of, has_form, form_fewer, run_count}
use Rattle.evaluation.proofs.forms.DeltaFits as f
use Rattle.evaluation.proofs.forms.DeltaFits.{AnswerFits, IsHeldArray, IsFolding, all_joined, all_taken, all_dropped, all_runs, all_flat, all_onto, all_copies, all_columns, all_mapped}

-- the dims of as many atoms as an array has
raveled_form : {A : Type 0} (a : Arrayed A) → IsWhole a → forms (length a.atoms ∷ []) ≡ true
raveled_form a w =
    let form = form_of a.dims w.0 in
    let count = form.count in
    let full = w.1 in
    let small : length a.atoms ≤ 2 ^ 24 = omega arith in
    let lt : nat_lt (length a.atoms) (2 ^ 32) ≡ true = grind (arith, nat_tests) in
    has_form (length a.atoms ∷ []) (record { below = ap (λ b. b && true) lt; rank = omega arith; count = omega arith })

module _ {A : Type 0} (R : AtomRules A) where
  -- fewer items pass a mask
  kept_count : {B : Type 0} (l : Look) (b : B) (bs : List B) (n : ℕ) → length bs ≤ n → length (d.keep_if R l b bs) ≤ suc n
  kept_count (ABool true) b bs n h = omega arith
  kept_count (ABool false) b bs n h = omega arith
  kept_count (AnInt z) b bs n h = omega arith
  kept_count (AChar c) b bs n h = omega arith
  kept_count Other b bs n h = omega arith

  masked_count : {B : Type 0} (ms : List A) (bs : List B) → length (d.masked R ms bs) ≤ length bs
  masked_count [] bs = omega arith
  masked_count (m ∷ ms) [] = omega arith
  masked_count (m ∷ ms) (b ∷ bs) = kept_count (R.look m) b (d.masked R ms bs) (length bs) (masked_count ms bs)

  kept_all : {B : Type 0} (P : B → Type 0) (l : Look) (b : B) (bs : List B) → P b → Each P bs → Each P (d.keep_if R l b bs)
  kept_all P (ABool true) b bs h k = (h, k)
  kept_all P (ABool false) b bs h k = k
  kept_all P (AnInt z) b bs h k = k
  kept_all P (AChar c) b bs h k = k
  kept_all P Other b bs h k = k

  masked_all : {B : Type 0} (P : B → Type 0) (ms : List A) (bs : List B) → Each P bs → Each P (d.masked R ms bs)
  masked_all P [] bs h = tt
  masked_all P (m ∷ ms) [] h = tt
  masked_all P (m ∷ ms) (b ∷ bs) h = kept_all P (R.look m) b (d.masked R ms bs) h.0 (masked_all P ms bs h.1)

module _ {A : Type 0} (R : AtomRules A) (P : A → Type 0) (ints : (z : ℤ) → P (R.int z)) (bools : (b : Bool) → P (R.bool b))
    (boxes : (vs : List IndexValue) (a : Arrayed A) → all_fit vs ≡ true → forms a.dims ≡ true → Each P a.atoms → P (R.box vs a)) where
  module _ (F : Type 0) where
    abbrev Fits : Answer A → Type 0
    Fits x = AnswerFits P F x

    appended_fits : (a b : Arrayed A) → IsHeldArray P a → IsHeldArray P b → Fits (d.appended R a b)
    appended_fits a b h k =
        f.leading_fits R P ints bools boxes F a.dims a.atoms (λ m s xs. d.leading R b (λ n s' ys. d.gives_formed R ((m + n) ∷ s) (xs ++ ys)))
        (λ m s e. f.leading_fits R P ints bools boxes F b.dims b.atoms (λ n s' ys. d.gives_formed R ((m + n) ∷ s) (a.atoms ++ ys)) (λ n s' e'. f.formed_fits R P ints bools boxes F ((m + n) ∷ s) (a.atoms ++ b.atoms) (all_joined P a.atoms b.atoms h.1 k.1)))

    reversed_fits : (a : Arrayed A) → IsHeldArray P a → Fits (d.reversed R a)
    reversed_fits a h =
        f.leading_fits R P ints bools boxes F a.dims a.atoms (λ m s xs. Gives (array (m ∷ s) (joined (onto (runs m (product s) xs) []))))
        (λ m s e. all_flat P (onto (runs m (product s) a.atoms) []) (all_onto (Each P) (runs m (product s) a.atoms) [] (all_runs P m (product s) a.atoms h.1) tt))

    taken_fits : (k : ℕ) (a : Arrayed A) → IsHeldArray P a → Fits (d.taken R k a)
    taken_fits k a h = f.leading_fits R P ints bools boxes F a.dims a.atoms (λ m s xs. Gives (array (k ∷ s) (take (k * product s) xs))) (λ m s e. all_taken P (k * product s) a.atoms h.1)

    dropped_fits : (k n : ℕ) (a : Arrayed A) → IsHeldArray P a → Fits (d.dropped R k n a)
    dropped_fits k n a h = f.leading_fits R P ints bools boxes F a.dims a.atoms (λ m s xs. Gives (array (n ∷ s) (drop (k * product s) xs))) (λ m s e. all_dropped P (k * product s) a.atoms h.1)

    transposed_fits : (a : Arrayed A) → IsHeldArray P a → Fits (d.transposed R a)
    transposed_fits a h =
        f.leading_fits R P ints bools boxes F a.dims a.atoms (λ m ns xs. d.by_leading R ns xs (λ n s ys. Gives (array (n ∷ m ∷ s) (joined (each joined (columns n (each (runs n (product s)) (runs m (n * product s) ys))))))))
        (λ m ns e. f.leading_fits R P ints bools boxes F ns a.atoms (λ n s ys. Gives (array (n ∷ m ∷ s) (joined (each joined (columns n (each (runs n (product s)) (runs m (n * product s) ys)))))))
        (λ n s e'. all_flat P (each joined (columns n (each (runs n (product s)) (runs m (n * product s) a.atoms))))
        (all_mapped (Each P) (Each (Each P)) joined (all_flat P) (columns n (each (runs n (product s)) (runs m (n * product s) a.atoms)))
        (all_columns (Each P) n (each (runs n (product s)) (runs m (n * product s) a.atoms))
        (all_mapped (Each (Each P)) (Each P) (runs n (product s)) (all_runs P n (product s)) (runs m (n * product s) a.atoms) (all_runs P m (n * product s) a.atoms h.1))))))

    copied_fits : (k : ℕ) (a : Arrayed A) → IsHeldArray P a → Fits (d.copied R k a)
    copied_fits k a h =
        f.either_fits P F (forms (k ∷ a.dims)) (Gives (array (k ∷ a.dims) (joined (replicate k a.atoms)))) (Traps trap.Size) (λ e. all_flat P (replicate k a.atoms) (all_copies (Each P) k a.atoms h.1)) tt

    length_fits : (a : Arrayed A) → IsHeldArray P a → Fits (d.length_of R a)
    length_fits a h = f.leading_fits R P ints bools boxes F a.dims a.atoms (λ m s xs. d.gives_int R (pos m)) (λ m s e. f.int_fits R P ints bools boxes F (pos m))

    positions_fits : (a : Arrayed A) → IsHeldArray P a → Fits (d.positions_of R a)
    positions_fits a h =
        f.leading_fits R P ints bools boxes F a.dims a.atoms (λ m s xs. elim (forms (m ∷ [])) as (λ b. Answer A) [ true ↦ Gives (array (m ∷ []) (each (λ k. R.int (pos k)) (counting 0 m))) | false ↦ Traps trap.Size ])
        (λ m s e. f.either_fits P F (forms (m ∷ [])) (Gives (array (m ∷ []) (each (λ k. R.int (pos k)) (counting 0 m)))) (Traps trap.Size) (λ e. f.numbers_fit R P ints bools boxes F m) tt)

    index_or_fits : (a i other : Arrayed A) → IsHeldArray P a → IsHeldArray P i → IsHeldArray P other → Fits (d.index_or R a i other)
    index_or_fits a i other h k o = f.leading_fits R P ints bools boxes F a.dims a.atoms (λ m s xs. d.cell_or_by R m s xs other i.atoms) (λ m s e. f.cell_or_by_fits R P ints bools boxes F m s a.atoms other i.atoms h.1 o.1)

    iota_fits : (q : List ℕ) → Fits (d.iota R q)
    iota_fits q =
        f.either_fits P F (forms q) (d.gives_box R (ShapeValue q) (array q (each (λ k. R.int (pos k)) (counting 0 (product q))))) (Traps trap.Size)
        (λ e. f.shaped_box R P ints bools boxes F q (each (λ k. R.int (pos k)) (counting 0 (product q))) e (f.numbers_fit R P ints bools boxes F (product q))) tt

    raveled_fits : (a : Arrayed A) → IsHeldArray P a → Fits (d.raveled R a)
    raveled_fits a h = f.counted_box R P ints bools boxes F (length a.atoms) [] a.atoms (raveled_form a h.0) h.1

    filtered_fits : (mask a : Arrayed A) → IsHeldArray P mask → IsHeldArray P a → Fits (d.filtered R mask a)
    filtered_fits mask a h k =
        f.leading_fits R P ints bools boxes F a.dims a.atoms
        (λ m s xs. d.gives_box R (DimValue (length (d.masked R mask.atoms (runs m (product s) xs)))) (array (length (d.masked R mask.atoms (runs m (product s) xs)) ∷ s) (joined (d.masked R mask.atoms (runs m (product s) xs)))))
        (λ m s e.
        let few = masked_count R mask.atoms (runs m (product s) a.atoms) in
        let all = run_count m (product s) a.atoms in
        f.counted_box R P ints bools boxes F (length (d.masked R mask.atoms (runs m (product s) a.atoms))) s (joined (d.masked R mask.atoms (runs m (product s) a.atoms)))
        (form_fewer (length (d.masked R mask.atoms (runs m (product s) a.atoms))) m s (omega arith) (subst (λ ds. forms ds ≡ true) e k.0.0))
        (all_flat P (d.masked R mask.atoms (runs m (product s) a.atoms)) (masked_all R (Each P) mask.atoms (runs m (product s) a.atoms) (all_runs P m (product s) a.atoms k.1))))

    -- folds are folds
    folds_fit : F → (fs : List A) (first : Option (Arrayed A)) (items : Arrayed A) → Fits (d.folds R fs first items)
    folds_fit x [] first items = tt
    folds_fit x (g ∷ []) first items =
        f.leading_fits R P ints bools boxes F items.dims items.atoms (λ n s xs. elim (nat_le n (2 ^ 24)) as (λ b. Answer A) [ true ↦ Folds g first (each (array s) (runs n (product s) xs)) | false ↦ Traps trap.Size ])
        (λ n s e. f.either_fits P F (nat_le n (2 ^ 24)) (Folds g first (each (array s) (runs n (product s) items.atoms))) (Traps trap.Size) (λ e. x) tt)
    folds_fit x (g ∷ h ∷ fs) first items = tt

  -- every primitive, on arrays that can be held and whose atoms fit
  pub delta_fits : (q : Primitive) (is : List IndexValue) (xs : List (Arrayed A)) → Each (IsHeldArray P) xs → AnswerFits P (IsFolding q) (delta R q is xs)
  delta_fits p.Add is xs h = f.of_two_fits R P ints bools boxes ⊥ (d.of_ints R (λ x y. d.gives_int R (x +ℤ y))) (f.of_ints_fits R P ints bools boxes ⊥ (λ x y. d.gives_int R (x +ℤ y)) (λ x y. f.int_fits R P ints bools boxes ⊥ (x +ℤ y))) (each (λ a. a.atoms) xs)
  delta_fits p.Sub is xs h = f.of_two_fits R P ints bools boxes ⊥ (d.of_ints R (λ x y. d.gives_int R (x -ℤ y))) (f.of_ints_fits R P ints bools boxes ⊥ (λ x y. d.gives_int R (x -ℤ y)) (λ x y. f.int_fits R P ints bools boxes ⊥ (x -ℤ y))) (each (λ a. a.atoms) xs)
  delta_fits p.Mul is xs h = f.of_two_fits R P ints bools boxes ⊥ (d.of_ints R (λ x y. d.gives_int R (x *ℤ y))) (f.of_ints_fits R P ints bools boxes ⊥ (λ x y. d.gives_int R (x *ℤ y)) (λ x y. f.int_fits R P ints bools boxes ⊥ (x *ℤ y))) (each (λ a. a.atoms) xs)
  delta_fits p.Div is xs h = f.of_two_fits R P ints bools boxes ⊥ (d.of_ints R (d.quotient R)) (f.of_ints_fits R P ints bools boxes ⊥ (d.quotient R) (f.quotient_fits R P ints bools boxes ⊥)) (each (λ a. a.atoms) xs)
  delta_fits p.Mod is xs h = f.of_two_fits R P ints bools boxes ⊥ (d.of_ints R (d.remainder R)) (f.of_ints_fits R P ints bools boxes ⊥ (d.remainder R) (f.remainder_fits R P ints bools boxes ⊥)) (each (λ a. a.atoms) xs)
  delta_fits p.Min is xs h = f.of_two_fits R P ints bools boxes ⊥ (d.of_ints R (λ x y. d.gives_int R (if int_le x y then x else y))) (f.of_ints_fits R P ints bools boxes ⊥ (λ x y. d.gives_int R (if int_le x y then x else y)) (λ x y. f.int_fits R P ints bools boxes ⊥ (if int_le x y then x else y))) (each (λ a. a.atoms) xs)
  delta_fits p.Max is xs h = f.of_two_fits R P ints bools boxes ⊥ (d.of_ints R (λ x y. d.gives_int R (if int_le x y then y else x))) (f.of_ints_fits R P ints bools boxes ⊥ (λ x y. d.gives_int R (if int_le x y then y else x)) (λ x y. f.int_fits R P ints bools boxes ⊥ (if int_le x y then y else x))) (each (λ a. a.atoms) xs)
  delta_fits p.Equal is xs h = f.of_two_fits R P ints bools boxes ⊥ (d.of_ints R (λ x y. d.gives_bool R (same_int x y))) (f.of_ints_fits R P ints bools boxes ⊥ (λ x y. d.gives_bool R (same_int x y)) (λ x y. f.bool_fits R P ints bools boxes ⊥ (same_int x y))) (each (λ a. a.atoms) xs)
  delta_fits p.Less is xs h = f.of_two_fits R P ints bools boxes ⊥ (d.of_ints R (λ x y. d.gives_bool R (int_lt x y))) (f.of_ints_fits R P ints bools boxes ⊥ (λ x y. d.gives_bool R (int_lt x y)) (λ x y. f.bool_fits R P ints bools boxes ⊥ (int_lt x y))) (each (λ a. a.atoms) xs)
  delta_fits p.AtMost is xs h = f.of_two_fits R P ints bools boxes ⊥ (d.of_ints R (λ x y. d.gives_bool R (int_le x y))) (f.of_ints_fits R P ints bools boxes ⊥ (λ x y. d.gives_bool R (int_le x y)) (λ x y. f.bool_fits R P ints bools boxes ⊥ (int_le x y))) (each (λ a. a.atoms) xs)
  delta_fits p.CharEqual is xs h = f.of_two_fits R P ints bools boxes ⊥ (d.of_chars R (λ x y. d.gives_bool R (x == y))) (f.of_chars_fits R P ints bools boxes ⊥ (λ x y. d.gives_bool R (x == y)) (λ x y. f.bool_fits R P ints bools boxes ⊥ (x == y))) (each (λ a. a.atoms) xs)
  delta_fits p.CharLess is xs h = f.of_two_fits R P ints bools boxes ⊥ (d.of_chars R (λ x y. d.gives_bool R (nat_lt x y))) (f.of_chars_fits R P ints bools boxes ⊥ (λ x y. d.gives_bool R (nat_lt x y)) (λ x y. f.bool_fits R P ints bools boxes ⊥ (nat_lt x y))) (each (λ a. a.atoms) xs)
  delta_fits p.CharToInt is xs h = f.of_one_fits R P ints bools boxes ⊥ (d.char_number R) (f.char_fits R P ints bools boxes ⊥) (each (λ a. a.atoms) xs)
  delta_fits p.BoolToInt is xs h = f.of_one_fits R P ints bools boxes ⊥ (d.bool_number R) (f.bool_number_fits R P ints bools boxes ⊥) (each (λ a. a.atoms) xs)
  delta_fits p.And is xs h = f.of_two_fits R P ints bools boxes ⊥ (d.of_bools R (λ x y. d.gives_bool R (x && y))) (f.of_bools_fits R P ints bools boxes ⊥ (λ x y. d.gives_bool R (x && y)) (λ x y. f.bool_fits R P ints bools boxes ⊥ (x && y))) (each (λ a. a.atoms) xs)
  delta_fits p.Or is xs h = f.of_two_fits R P ints bools boxes ⊥ (d.of_bools R (λ x y. d.gives_bool R (x || y))) (f.of_bools_fits R P ints bools boxes ⊥ (λ x y. d.gives_bool R (x || y)) (λ x y. f.bool_fits R P ints bools boxes ⊥ (x || y))) (each (λ a. a.atoms) xs)
  delta_fits p.Not is xs h = f.of_one_fits R P ints bools boxes ⊥ (d.negation R) (f.negation_fits R P ints bools boxes ⊥) (each (λ a. a.atoms) xs)
  delta_fits p.Select is xs h = f.select_fits R P ints bools boxes ⊥ xs h
  delta_fits p.Append is xs h = f.of_arrays_fits R P ints bools boxes ⊥ (d.appended R) (appended_fits ⊥) xs h
  delta_fits p.Reverse is xs h = f.of_array_fits R P ints bools boxes ⊥ (d.reversed R) (reversed_fits ⊥) xs h
  delta_fits p.Take is xs h = f.of_array_fits R P ints bools boxes ⊥ (d.taken R (number_at is 0)) (taken_fits ⊥ (number_at is 0)) xs h
  delta_fits p.Drop is xs h = f.of_array_fits R P ints bools boxes ⊥ (d.dropped R (number_at is 0) (number_at is 1)) (dropped_fits ⊥ (number_at is 0) (number_at is 1)) xs h
  delta_fits p.Transpose is xs h = f.of_array_fits R P ints bools boxes ⊥ (d.transposed R) (transposed_fits ⊥) xs h
  delta_fits p.Replicate is xs h = f.of_array_fits R P ints bools boxes ⊥ (d.copied R (number_at is 0)) (copied_fits ⊥ (number_at is 0)) xs h
  delta_fits p.Length is xs h = f.of_array_fits R P ints bools boxes ⊥ (d.length_of R) (length_fits ⊥) xs h
  delta_fits p.Positions is xs h = f.of_array_fits R P ints bools boxes ⊥ (d.positions_of R) (positions_fits ⊥) xs h
  delta_fits p.IndexOr is xs h = f.of_three_fits R P ints bools boxes ⊥ (d.index_or R) (index_or_fits ⊥) xs h
  delta_fits p.Reduce is xs h = f.of_arrays_fits R P ints bools boxes ⊤ (λ g items. d.folds R g.atoms None items) (λ g items h k. folds_fit ⊤ tt g.atoms None items) xs h
  delta_fits p.Fold is xs h = f.of_three_fits R P ints bools boxes ⊤ (λ g z items. d.folds R g.atoms (Some z) items) (λ g z items h k l. folds_fit ⊤ tt g.atoms (Some z) items) xs h
  delta_fits p.Iota is xs h = f.of_array_fits R P ints bools boxes ⊥ (λ a. d.iota R (d.asked R a.atoms)) (λ a h. iota_fits ⊥ (d.asked R a.atoms)) xs h
  delta_fits p.Reshape is xs h = f.of_three_fits R P ints bools boxes ⊥ (λ q a fill. d.reshaped R (d.asked R q.atoms) a.atoms fill.atoms) (λ q a fill h k l. f.reshaped_fits R P ints bools boxes ⊥ (d.asked R q.atoms) a.atoms fill.atoms k.1 l.1) xs h
  delta_fits p.Ravel is xs h = f.of_array_fits R P ints bools boxes ⊥ (d.raveled R) (raveled_fits ⊥) xs h
  delta_fits p.Filter is xs h = f.of_arrays_fits R P ints bools boxes ⊥ (d.filtered R) (filtered_fits ⊥) xs h
