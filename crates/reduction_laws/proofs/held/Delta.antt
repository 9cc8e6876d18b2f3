-- Each primitive on held arrays answers held parts, and its answer as a move goes on to a held term.
use Rattle.std.proofs.Common.{ℕ, ℤ, List, [], ◌∷◌, Option, Some, None, Bool}
use Rattle.std.specs.Prelude.{◌+ℤ◌, ◌-ℤ◌, ◌*ℤ◌, int_lt, int_le, ◌&&◌, ◌||◌, ◌==◌, nat_lt, if◌then◌else◌}
use Rattle.core_syntax.specs.declared.primitive.Primitive.{Primitive}
use Rattle.core_syntax.specs.declared.primitive.Primitive.TheVariants as p
use Rattle.core_syntax.specs.Syntax.{Index, Ty}
use Rattle.core_syntax.specs.Lists.{each, Each}
use Rattle.core_syntax.specs.Nodes.{vector}
use Rattle.core_syntax.specs.Terms.{IndexValue, TApp, Cell, term_list, scalar_of}
use Rattle.core_syntax.specs.Arrays.{Arrayed}
use Rattle.core_syntax.specs.Answer.{Look, Answer, Gives, Traps, Folds, Unfit}
use Rattle.core_syntax.specs.Delta
use Rattle.core_syntax.specs.Delta.{same_int, number_at, delta}
use Rattle.core_syntax.specs.Rules.{array_term, fold_term, reduce_term, goes_fold, answered}
use Rattle.core_syntax.specs.Typed.{typed, typed_rules, TypedTerm}
use Rattle.core_syntax.specs.Held.{CellHeld, IsHeld}
use Rattle.reduction_laws.proofs.held.Forms.{each_mapped}
use Rattle.reduction_laws.proofs.held.Moves.{Kept, scalar_held, array_held, each_arguments}
use Rattle.reduction_laws.proofs.held.Answers
use Rattle.reduction_laws.proofs.held.Answers.{Whole, MaybeWhole, AnswerHeld, Leads, Counted, Suits, R}

each_both : {A : Type 0} (P Q : A → Type 0) (xs : List A) → Each P xs → Each Q xs → Each (λ a. P a × Q a) xs
each_both P Q [] h k = tt
each_both P Q (x ∷ xs) h k = ((h.0, k.0), each_both P Q xs h.1 k.1)

module _ (note : Ty) where
  int_two : (f : ℤ → ℤ → Answer (Cell typed)) → ((x y : ℤ) → AnswerHeld (f x y)) → (xs : List (Arrayed (Cell typed))) → AnswerHeld (Delta.of_two (R note) (Delta.of_ints (R note) f) (each (λ a. a.atoms) xs))
  int_two f k xs = Answers.two_held note (Delta.of_ints (R note) f) (Answers.ints_held note f k) (each (λ a. a.atoms) xs)

  char_two : (f : ℕ → ℕ → Answer (Cell typed)) → ((x y : ℕ) → AnswerHeld (f x y)) → (xs : List (Arrayed (Cell typed))) → AnswerHeld (Delta.of_two (R note) (Delta.of_chars (R note) f) (each (λ a. a.atoms) xs))
  char_two f k xs = Answers.two_held note (Delta.of_chars (R note) f) (Answers.chars_held note f k) (each (λ a. a.atoms) xs)

  bool_two : (f : Bool → Bool → Answer (Cell typed)) → ((x y : Bool) → AnswerHeld (f x y)) → (xs : List (Arrayed (Cell typed))) → AnswerHeld (Delta.of_two (R note) (Delta.of_bools (R note) f) (each (λ a. a.atoms) xs))
  bool_two f k xs = Answers.two_held note (Delta.of_bools (R note) f) (Answers.bools_held note f k) (each (λ a. a.atoms) xs)

  look_one : (g : Look → Answer (Cell typed)) → ((l : Look) → AnswerHeld (g l)) → (xs : List (Arrayed (Cell typed))) → AnswerHeld (Delta.of_one (R note) g (each (λ a. a.atoms) xs))
  look_one g k xs = Answers.one_held note g k (each (λ a. a.atoms) xs)

  -- each primitive
  pub delta_held : (q : Primitive) (vs : List IndexValue) (xs : List (Arrayed (Cell typed))) → Each Whole xs → Suits q vs xs → AnswerHeld (delta (R note) q vs xs)
  delta_held p.Add vs xs h s = int_two (λ x y. Delta.gives_int (R note) (x +ℤ y)) (λ x y. Answers.int_held note (x +ℤ y)) xs
  delta_held p.Sub vs xs h s = int_two (λ x y. Delta.gives_int (R note) (x -ℤ y)) (λ x y. Answers.int_held note (x -ℤ y)) xs
  delta_held p.Mul vs xs h s = int_two (λ x y. Delta.gives_int (R note) (x *ℤ y)) (λ x y. Answers.int_held note (x *ℤ y)) xs
  delta_held p.Div vs xs h s = int_two (Delta.quotient (R note)) (Answers.quotient_held note) xs
  delta_held p.Mod vs xs h s = int_two (Delta.remainder (R note)) (Answers.remainder_held note) xs
  delta_held p.Min vs xs h s = int_two (λ x y. Delta.gives_int (R note) (if int_le x y then x else y)) (λ x y. Answers.int_held note (if int_le x y then x else y)) xs
  delta_held p.Max vs xs h s = int_two (λ x y. Delta.gives_int (R note) (if int_le x y then y else x)) (λ x y. Answers.int_held note (if int_le x y then y else x)) xs
  delta_held p.Equal vs xs h s = int_two (λ x y. Delta.gives_bool (R note) (same_int x y)) (λ x y. Answers.bool_held note (same_int x y)) xs
  delta_held p.Less vs xs h s = int_two (λ x y. Delta.gives_bool (R note) (int_lt x y)) (λ x y. Answers.bool_held note (int_lt x y)) xs
  delta_held p.AtMost vs xs h s = int_two (λ x y. Delta.gives_bool (R note) (int_le x y)) (λ x y. Answers.bool_held note (int_le x y)) xs
  delta_held p.CharEqual vs xs h s = char_two (λ x y. Delta.gives_bool (R note) (x == y)) (λ x y. Answers.bool_held note (x == y)) xs
  delta_held p.CharLess vs xs h s = char_two (λ x y. Delta.gives_bool (R note) (nat_lt x y)) (λ x y. Answers.bool_held note (nat_lt x y)) xs
  delta_held p.CharToInt vs xs h s = look_one (Delta.char_number (R note)) (Answers.char_number_held note) xs
  delta_held p.BoolToInt vs xs h s = look_one (Delta.bool_number (R note)) (Answers.bool_number_held note) xs
  delta_held p.And vs xs h s = bool_two (λ x y. Delta.gives_bool (R note) (x && y)) (λ x y. Answers.bool_held note (x && y)) xs
  delta_held p.Or vs xs h s = bool_two (λ x y. Delta.gives_bool (R note) (x || y)) (λ x y. Answers.bool_held note (x || y)) xs
  delta_held p.Not vs xs h s = look_one (Delta.negation (R note)) (Answers.negation_held note) xs
  delta_held p.Select vs xs h s = Answers.select_held note xs h
  delta_held p.Append vs xs h s = Answers.array_two note (Delta.appended (R note)) (Answers.appended_held note) xs h
  delta_held p.Reverse vs xs h s = Answers.array_one note Whole (Delta.reversed (R note)) (Answers.reversed_held note) xs h
  delta_held p.Take vs xs h s =
      Answers.array_one note (λ a. Whole a × Leads (number_at vs 0) a) (Delta.taken (R note) (number_at vs 0)) (Answers.taken_held note (number_at vs 0)) xs (each_both Whole (Leads (number_at vs 0)) xs h s)
  delta_held p.Drop vs xs h s =
      Answers.array_one note (λ a. Whole a × Leads (number_at vs 1) a) (Delta.dropped (R note) (number_at vs 0) (number_at vs 1)) (Answers.dropped_held note (number_at vs 0) (number_at vs 1)) xs (each_both Whole (Leads (number_at vs 1)) xs h s)
  delta_held p.Transpose vs xs h s = Answers.array_one note Whole (Delta.transposed (R note)) (Answers.transposed_held note) xs h
  delta_held p.Replicate vs xs h s = Answers.array_one note Whole (Delta.copied (R note) (number_at vs 0)) (Answers.copied_held note (number_at vs 0)) xs h
  delta_held p.Length vs xs h s = Answers.array_one note Whole (Delta.length_of (R note)) (Answers.length_held note) xs h
  delta_held p.Positions vs xs h s = Answers.array_one note Whole (Delta.positions_of (R note)) (Answers.positions_held note) xs h
  delta_held p.IndexOr vs xs h s = Answers.array_three note (Delta.index_or (R note)) (Answers.index_or_held note) xs h
  delta_held p.Reduce vs xs h s = Answers.array_two note (λ f items. Delta.folds (R note) f.atoms None items) (λ f items k w. Answers.folds_held note f.atoms None items k.1 tt w) xs h
  delta_held p.Fold vs xs h s = Answers.array_three note (λ f z items. Delta.folds (R note) f.atoms (Some z) items) (λ f z items k o w. Answers.folds_held note f.atoms (Some z) items k.1 o w) xs h
  delta_held p.Iota vs xs h s = Answers.array_one note Whole (λ a. Delta.iota (R note) (Delta.asked (R note) a.atoms)) (λ a k. Answers.iota_held note (Delta.asked (R note) a.atoms)) xs h
  delta_held p.Reshape vs xs h s =
      Answers.array_three note (λ q a fill. Delta.reshaped (R note) (Delta.asked (R note) q.atoms) a.atoms fill.atoms) (λ q a fill k l m. Answers.reshaped_held note (Delta.asked (R note) q.atoms) a.atoms fill.atoms l.1 m.1) xs h
  delta_held p.Ravel vs xs h s = Answers.array_one note (λ a. Whole a × Counted a) (Delta.raveled (R note)) (Answers.raveled_held note) xs (each_both Whole Counted xs h s)
  delta_held p.Filter vs xs h s = Answers.array_two note (Delta.filtered (R note)) (Answers.filtered_held note) xs h

-- ---- answers as moves

fold_held : (f : Cell typed) (cs : List Index) (r : Ty) (acc : TypedTerm) (ts : List TypedTerm) → CellHeld f → IsHeld acc → Each IsHeld ts → IsHeld (fold_term typed_rules f cs r acc ts)
fold_held f cs r acc [] h k ks = k
fold_held f cs r acc (t ∷ ts) h k ks = fold_held f cs r (TApp (scalar_of f) (term_list (acc ∷ t ∷ [])) cs r) ts h (scalar_held (Some (vector [])) f h, each_arguments cs (acc ∷ t ∷ []) (k, (ks.0, tt))) ks.1

item_held : (n : Ty) (a : Arrayed (Cell typed)) → Whole a → IsHeld (array_term typed_rules n a)
item_held n a h = array_held n a.dims a.atoms h.0 h.1

items_held : (n : Ty) (xs : List (Arrayed (Cell typed))) → Each Whole xs → Each IsHeld (each (array_term typed_rules n) xs)
items_held n xs h = each_mapped Whole IsHeld (array_term typed_rules n) (item_held n) xs h

reduce_kept : (f : Cell typed) (us : List Ty) (s : Index) (xs : List (Arrayed (Cell typed))) → CellHeld f → Each Whole xs → Kept IsHeld (reduce_term typed_rules f us s xs)
reduce_kept f us s [] h k = tt
reduce_kept f us s (x ∷ xs) h k =
    let r = typed_rules.typed_result us 0 s in
    let n = typed_rules.result_atom r in
    fold_held f (s ∷ s ∷ []) r (array_term typed_rules n x) (each (array_term typed_rules n) xs) h (item_held n x k.0) (items_held n xs k.1)

fold_kept : (us : Option (List Ty)) (is : Option (List Index)) (f : Cell typed) (acc : Option (Arrayed (Cell typed))) (xs : List (Arrayed (Cell typed))) → CellHeld f → MaybeWhole acc → Each Whole xs → Kept IsHeld (goes_fold typed_rules us is f acc xs)
fold_kept (Some us) (Some (d ∷ s ∷ [])) f None xs h k ks = reduce_kept f us s xs h ks
fold_kept (Some us) (Some (d ∷ s ∷ r ∷ [])) f (Some z) xs h k ks =
    let out = typed_rules.typed_result us 1 r in
    let n = typed_rules.result_atom (typed_rules.typed_result us 0 s) in
    fold_held f (r ∷ s ∷ []) out (array_term typed_rules (typed_rules.result_atom out) z) (each (array_term typed_rules n) xs) h (item_held (typed_rules.result_atom out) z k) (items_held n xs ks)
fold_kept _ _ f acc xs h k ks = tt

pub answered_kept : (r : Ty) (us : Option (List Ty)) (is : Option (List Index)) (a : Answer (Cell typed)) → AnswerHeld a → Kept IsHeld (answered typed_rules r us is a)
answered_kept r us is (Gives a) h = item_held (typed_rules.result_atom r) a h
answered_kept r us is (Traps k) h = tt
answered_kept r us is (Folds f acc xs) h = fold_kept us is f acc xs h.0 h.1 h.2
answered_kept r us is Unfit h = tt
