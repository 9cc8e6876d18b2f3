-- What primitives give of held arrays is held.
use Rattle.std.proofs.Common.{◌≡◌, refl, subst, ℕ, zero, suc, ◌+◌, ◌*◌, ◌^◌, ◌≤◌, ℤ, pos, negsuc, arith, List, [], ◌∷◌, ◌++◌, length, take, drop, replicate, Option, Some, None, Bool, true, false}
use Rattle.std.specs.Prelude.{int_div, int_rem, not, ◌%◌, nat_lt, nat_le, if◌then◌else◌, slice_index_or, ⊤}
use Rattle.std.proofs.lemmas.Bool.Decides.{nat_tests}
use Rattle.core_syntax.specs.declared.primitive.Primitive.{Primitive}
use Rattle.core_syntax.specs.declared.primitive.Primitive.TheVariants as p
use Rattle.core_syntax.specs.declared.errors.TrapKind.TheVariants as trap
use Rattle.core_syntax.specs.Syntax.{Ty}
use Rattle.core_syntax.specs.Lists.{onto, each, Each, joined, product}
use Rattle.core_syntax.specs.Fits.{forms}
use Rattle.core_syntax.specs.Terms.{IndexValue, DimValue, ShapeValue, Cell, TInt}
use Rattle.core_syntax.specs.Arrays.{Arrayed, array, single, runs, columns}
use Rattle.core_syntax.specs.Answer.{Look, AnInt, ABool, AChar, AtomRules, Answer, Gives, Traps, Folds, Unfit}
use Rattle.core_syntax.specs.Delta
use Rattle.core_syntax.specs.Delta.{is_int, same_int, number_at, counting, delta}
use Rattle.core_syntax.specs.Rules.{look, atom_rules}
use Rattle.core_syntax.specs.Typed.{typed, typed_rules}
use Rattle.core_syntax.specs.Held.{HasForm, CellHeld}
use Rattle.reduction_laws.proofs.held.Forms.{form_of, form_behind, form_fewer, form_turned, form_vector, test_lt, each_runs, each_columns, each_picked, each_mapped, each_made}
use Rattle.reduction_laws.proofs.held.Moves.{array_held}
use Rattle.reduction_laws.proofs.putting.ClosedValues.{each_reversed}
use Rattle.reduction_laws.proofs.steps.Counts.{each_append, each_take, each_drop, each_joined, each_replicate, run_count}

-- an array that a run may have
abbrev pub Whole : Arrayed (Cell typed) → Type 0
Whole a = HasForm a.dims × Each CellHeld a.atoms

-- an accumulator, if there is one
abbrev pub MaybeWhole : Option (Arrayed (Cell typed)) → Type 0
MaybeWhole None = ⊤
MaybeWhole (Some a) = Whole a

-- an answer of held parts
abbrev pub AnswerHeld : Answer (Cell typed) → Type 0
AnswerHeld (Gives a) = Whole a
AnswerHeld (Traps k) = ⊤
AnswerHeld (Folds f acc xs) = CellHeld f × MaybeWhole acc × Each Whole xs
AnswerHeld Unfit = ⊤

-- as many leading cells at least
abbrev pub Leads : ℕ → Arrayed (Cell typed) → Type 0
Leads n a = (k : ℕ) (s : List ℕ) → a.dims ≡ k ∷ s → n ≤ k

-- as many atoms as the dims say
abbrev pub Counted : Arrayed (Cell typed) → Type 0
Counted a = length a.atoms ≡ product a.dims

-- what types say of the arguments of three primitives
abbrev pub Suits : Primitive → List IndexValue → List (Arrayed (Cell typed)) → Type 0
Suits p.Take vs xs = Each (Leads (number_at vs 0)) xs
Suits p.Drop vs xs = Each (Leads (number_at vs 1)) xs
Suits p.Ravel vs xs = Each Counted xs
Suits _ vs xs = ⊤

answer_either : (b : Bool) (x y : Answer (Cell typed)) → (b ≡ true → AnswerHeld x) → AnswerHeld y → AnswerHeld (elim b as (λ b. Answer (Cell typed)) [ true ↦ x | false ↦ y ])
answer_either true x y f g = f refl
answer_either false x y f g = g

cell_form : (n : ℕ) (s : List ℕ) → HasForm (suc n ∷ s) → HasForm s
cell_form n s h = form_behind (suc n ∷ []) s h (λ z. omega arith)

items_whole : (n : ℕ) (s : List ℕ) (xs : List (Cell typed)) → HasForm (n ∷ s) → Each CellHeld xs → Each Whole (each (array s) (runs n (product s) xs))
items_whole zero s xs f h = tt
items_whole (suc n) s xs f h = each_mapped (Each CellHeld) Whole (array s) (λ r k. (cell_form n s f, k)) (runs (suc n) (product s) xs) (each_runs CellHeld (suc n) (product s) xs h)

counting_held : (k n : ℕ) → k + n ≤ 2 ^ 24 → Each CellHeld (each (λ k. TInt (pos k)) (counting k n))
counting_held k zero le = tt
counting_held k (suc n) le = (test_lt k (2 ^ 63) (omega arith), counting_held (suc k) n (omega arith))

no_place : (k : ℕ) → nat_lt k 0 ≡ true → ⊥
no_place k e = grind (arith, nat_tests)

module _ (note : Ty) where
  -- how primitives see and make atoms
  abbrev pub R : AtomRules (Cell typed)
  R = atom_rules typed_rules note

  pub int_held : (z : ℤ) → AnswerHeld (Delta.gives_int R z)
  int_held z = answer_either (is_int z) (Gives (single (TInt z))) (Traps trap.Overflow) (λ e. (refl, (e, tt))) tt

  pub bool_held : (b : Bool) → AnswerHeld (Delta.gives_bool R b)
  bool_held b = (refl, (tt, tt))

  pub formed_held : (dims : List ℕ) (xs : List (Cell typed)) → Each CellHeld xs → AnswerHeld (Delta.gives_formed R dims xs)
  formed_held dims xs h = answer_either (forms dims) (Gives (array dims xs)) (Traps trap.Size) (λ f. (f, h)) tt

  pub box_held : (v : IndexValue) (a : Arrayed (Cell typed)) → Whole a → AnswerHeld (Delta.gives_box R v a)
  box_held v a h = (refl, (array_held (typed_rules.box_atom (typed_rules.result_box note) (v ∷ [])) a.dims a.atoms h.0 h.1, tt))

  pub quotient_held : (x y : ℤ) → AnswerHeld (Delta.quotient R x y)
  quotient_held x (pos zero) = tt
  quotient_held x (pos (suc k)) = int_held (int_div x (pos (suc k)))
  quotient_held x (negsuc k) = int_held (int_div x (negsuc k))

  pub remainder_held : (x y : ℤ) → AnswerHeld (Delta.remainder R x y)
  remainder_held x (pos zero) = tt
  remainder_held x (pos (suc k)) = int_held (int_rem x (pos (suc k)))
  remainder_held x (negsuc k) = int_held (int_rem x (negsuc k))

  pub two_held : (g : Look → Look → Answer (Cell typed)) → ((l m : Look) → AnswerHeld (g l m)) → (xss : List (List (Cell typed))) → AnswerHeld (Delta.of_two R g xss)
  two_held g k ((x ∷ []) ∷ (y ∷ []) ∷ []) = k (look typed_rules x) (look typed_rules y)
  two_held g k _ = tt

  pub one_held : (g : Look → Answer (Cell typed)) → ((l : Look) → AnswerHeld (g l)) → (xss : List (List (Cell typed))) → AnswerHeld (Delta.of_one R g xss)
  one_held g k ((x ∷ []) ∷ []) = k (look typed_rules x)
  one_held g k _ = tt

  pub ints_held : (f : ℤ → ℤ → Answer (Cell typed)) → ((x y : ℤ) → AnswerHeld (f x y)) → (l m : Look) → AnswerHeld (Delta.of_ints R f l m)
  ints_held f k (AnInt x) (AnInt y) = k x y
  ints_held f k _ _ = tt

  pub chars_held : (f : ℕ → ℕ → Answer (Cell typed)) → ((x y : ℕ) → AnswerHeld (f x y)) → (l m : Look) → AnswerHeld (Delta.of_chars R f l m)
  chars_held f k (AChar x) (AChar y) = k x y
  chars_held f k _ _ = tt

  pub bools_held : (f : Bool → Bool → Answer (Cell typed)) → ((x y : Bool) → AnswerHeld (f x y)) → (l m : Look) → AnswerHeld (Delta.of_bools R f l m)
  bools_held f k (ABool x) (ABool y) = k x y
  bools_held f k _ _ = tt

  pub char_number_held : (l : Look) → AnswerHeld (Delta.char_number R l)
  char_number_held (AChar c) = int_held (pos c)
  char_number_held _ = tt

  pub bool_number_held : (l : Look) → AnswerHeld (Delta.bool_number R l)
  bool_number_held (ABool true) = int_held (pos 1)
  bool_number_held (ABool false) = int_held (pos 0)
  bool_number_held _ = tt

  pub negation_held : (l : Look) → AnswerHeld (Delta.negation R l)
  negation_held (ABool b) = bool_held (not b)
  negation_held _ = tt

  pub selected_held : (l : Look) (x y : Arrayed (Cell typed)) → Whole x → Whole y → AnswerHeld (Delta.selected R l x y)
  selected_held (ABool true) x y h k = h
  selected_held (ABool false) x y h k = k
  selected_held _ x y h k = tt

  pub select_by_held : (xs : List (Cell typed)) (x y : Arrayed (Cell typed)) → Whole x → Whole y → AnswerHeld (Delta.select_by R xs x y)
  select_by_held (a ∷ []) x y h k = selected_held (look typed_rules a) x y h k
  select_by_held _ x y h k = tt

  pub select_held : (xs : List (Arrayed (Cell typed))) → Each Whole xs → AnswerHeld (Delta.select R xs)
  select_held (b ∷ x ∷ y ∷ []) h = select_by_held b.atoms x y h.1.0 h.1.1.0
  select_held _ h = tt

  pub by_leading_held : (dims : List ℕ) (xs : List (Cell typed)) (f : ℕ → List ℕ → List (Cell typed) → Answer (Cell typed)) → ((m : ℕ) (s : List ℕ) → dims ≡ m ∷ s → AnswerHeld (f m s xs)) → AnswerHeld (Delta.by_leading R dims xs f)
  by_leading_held [] xs f k = tt
  by_leading_held (m ∷ s) xs f k = k m s refl

  pub array_one : (P : Arrayed (Cell typed) → Type 0) (f : Arrayed (Cell typed) → Answer (Cell typed)) → ((a : Arrayed (Cell typed)) → P a → AnswerHeld (f a)) → (xs : List (Arrayed (Cell typed))) → Each P xs → AnswerHeld (Delta.of_array R f xs)
  array_one P f k (a ∷ []) h = k a h.0
  array_one P f k _ h = tt

  pub array_two : (f : Arrayed (Cell typed) → Arrayed (Cell typed) → Answer (Cell typed)) → ((a b : Arrayed (Cell typed)) → Whole a → Whole b → AnswerHeld (f a b)) → (xs : List (Arrayed (Cell typed))) → Each Whole xs → AnswerHeld (Delta.of_arrays R f xs)
  array_two f k (a ∷ b ∷ []) h = k a b h.0 h.1.0
  array_two f k _ h = tt

  pub array_three : (f : Arrayed (Cell typed) → Arrayed (Cell typed) → Arrayed (Cell typed) → Answer (Cell typed)) → ((a b c : Arrayed (Cell typed)) → Whole a → Whole b → Whole c → AnswerHeld (f a b c))
      → (xs : List (Arrayed (Cell typed))) → Each Whole xs → AnswerHeld (Delta.of_three R f xs)
  array_three f k (a ∷ b ∷ c ∷ []) h = k a b c h.0 h.1.0 h.1.1.0
  array_three f k _ h = tt

  pub appended_held : (a b : Arrayed (Cell typed)) → Whole a → Whole b → AnswerHeld (Delta.appended R a b)
  appended_held a b h k = by_leading_held a.dims a.atoms _ (λ m s e. by_leading_held b.dims b.atoms _ (λ n s' e'. formed_held ((m + n) ∷ s) (a.atoms ++ b.atoms) (each_append CellHeld a.atoms b.atoms h.1 k.1)))

  pub reversed_held : (a : Arrayed (Cell typed)) → Whole a → AnswerHeld (Delta.reversed R a)
  reversed_held a h =
      by_leading_held a.dims a.atoms _ (λ m s e.
      (subst HasForm e h.0, each_joined CellHeld (onto (runs m (product s) a.atoms) []) (each_reversed (Each CellHeld) (runs m (product s) a.atoms) [] (each_runs CellHeld m (product s) a.atoms h.1) tt)))

  pub taken_held : (n : ℕ) (a : Arrayed (Cell typed)) → Whole a × Leads n a → AnswerHeld (Delta.taken R n a)
  taken_held n a h = by_leading_held a.dims a.atoms _ (λ k s e. (form_fewer n k s (h.1 k s e) (subst HasForm e h.0.0), each_take CellHeld (n * product s) a.atoms h.0.1))

  pub dropped_held : (m n : ℕ) (a : Arrayed (Cell typed)) → Whole a × Leads n a → AnswerHeld (Delta.dropped R m n a)
  dropped_held m n a h = by_leading_held a.dims a.atoms _ (λ k s e. (form_fewer n k s (h.1 k s e) (subst HasForm e h.0.0), each_drop CellHeld (m * product s) a.atoms h.0.1))

  pub transposed_held : (a : Arrayed (Cell typed)) → Whole a → AnswerHeld (Delta.transposed R a)
  transposed_held a h =
      by_leading_held a.dims a.atoms _ (λ m ns e. by_leading_held ns a.atoms _ (λ n s e'.
      let rows = each (runs n (product s)) (runs m (n * product s) a.atoms) in (
        form_turned m n s (subst (λ ns. HasForm (m ∷ ns)) e' (subst HasForm e h.0)),
        each_joined CellHeld (each joined (columns n rows))
            (each_mapped (Each (Each CellHeld)) (Each CellHeld) joined (λ c k. each_joined CellHeld c k) (columns n rows)
            (each_columns (Each CellHeld) n rows
            (each_mapped (Each CellHeld) (Each (Each CellHeld)) (runs n (product s)) (λ r k. each_runs CellHeld n (product s) r k) (runs m (n * product s) a.atoms) (each_runs CellHeld m (n * product s) a.atoms h.1)))),
      )))

  pub copied_held : (m : ℕ) (a : Arrayed (Cell typed)) → Whole a → AnswerHeld (Delta.copied R m a)
  copied_held m a h =
      answer_either (forms (m ∷ a.dims)) (Gives (array (m ∷ a.dims) (joined (replicate m a.atoms)))) (Traps trap.Size)
      (λ f. (f, each_joined CellHeld (replicate m a.atoms) (each_replicate (Each CellHeld) m a.atoms h.1))) tt

  pub length_held : (a : Arrayed (Cell typed)) → Whole a → AnswerHeld (Delta.length_of R a)
  length_held a h = by_leading_held a.dims a.atoms _ (λ m s e. int_held (pos m))

  pub positions_held : (a : Arrayed (Cell typed)) → Whole a → AnswerHeld (Delta.positions_of R a)
  positions_held a h =
      by_leading_held a.dims a.atoms _ (λ m s e.
      answer_either (forms (m ∷ [])) (Gives (array (m ∷ []) (each (λ k. TInt (pos k)) (counting 0 m)))) (Traps trap.Size)
      (λ f. (f, counting_held 0 m (let c = (form_of (m ∷ []) f).count in omega arith))) tt)

  pub cell_or_held : (m : ℕ) (s : List ℕ) (xs : List (Cell typed)) (other : Arrayed (Cell typed)) (z : ℤ) → HasForm (m ∷ s) → Each CellHeld xs → Whole other → AnswerHeld (Delta.cell_or R m s xs other z)
  cell_or_held m s xs other (negsuc k) f h o = o
  cell_or_held zero s xs other (pos k) f h o = by (nat_lt k 0) (λ e. absurd (no_place k e))
    where
      by : (b : Bool) → (b ≡ true → AnswerHeld (Gives (array s (take (product s) (drop (k * product s) xs))))) → AnswerHeld (if b then Gives (array s (take (product s) (drop (k * product s) xs))) else Gives other)
      by true g = g refl
      by false g = o
  cell_or_held (suc m) s xs other (pos k) f h o = by (nat_lt k (suc m))
    where
      by : (b : Bool) → AnswerHeld (if b then Gives (array s (take (product s) (drop (k * product s) xs))) else Gives other)
      by true = (cell_form m s f, each_take CellHeld (product s) (drop (k * product s) xs) (each_drop CellHeld (k * product s) xs h))
      by false = o

  pub cell_or_at_held : (m : ℕ) (s : List ℕ) (xs : List (Cell typed)) (other : Arrayed (Cell typed)) (l : Look) → HasForm (m ∷ s) → Each CellHeld xs → Whole other → AnswerHeld (Delta.cell_or_at R m s xs other l)
  cell_or_at_held m s xs other (AnInt z) f h o = cell_or_held m s xs other z f h o
  cell_or_at_held m s xs other _ f h o = tt

  pub cell_or_by_held : (m : ℕ) (s : List ℕ) (xs : List (Cell typed)) (other : Arrayed (Cell typed)) (is : List (Cell typed)) → HasForm (m ∷ s) → Each CellHeld xs → Whole other → AnswerHeld (Delta.cell_or_by R m s xs other is)
  cell_or_by_held m s xs other (i ∷ []) f h o = cell_or_at_held m s xs other (look typed_rules i) f h o
  cell_or_by_held m s xs other _ f h o = tt

  pub index_or_held : (a i other : Arrayed (Cell typed)) → Whole a → Whole i → Whole other → AnswerHeld (Delta.index_or R a i other)
  index_or_held a i other h k o = by_leading_held a.dims a.atoms _ (λ m s e. cell_or_by_held m s a.atoms other i.atoms (subst HasForm e h.0) h.1 o)

  pub folds_held : (fs : List (Cell typed)) (first : Option (Arrayed (Cell typed))) (items : Arrayed (Cell typed)) → Each CellHeld fs → MaybeWhole first → Whole items → AnswerHeld (Delta.folds R fs first items)
  folds_held (f ∷ []) first items h k w =
      by_leading_held items.dims items.atoms _ (λ n s e.
      answer_either (nat_le n (2 ^ 24)) (Folds f first (each (array s) (runs n (product s) items.atoms))) (Traps trap.Size) (λ t. (h.0, k, items_whole n s items.atoms (subst HasForm e w.0) w.1)) tt)
  folds_held _ first items h k w = tt

  pub iota_held : (q : List ℕ) → AnswerHeld (Delta.iota R q)
  iota_held q =
      answer_either (forms q) (Delta.gives_box R (ShapeValue q) (array q (each (λ k. TInt (pos k)) (counting 0 (product q))))) (Traps trap.Size)
      (λ f. box_held (ShapeValue q) (array q (each (λ k. TInt (pos k)) (counting 0 (product q)))) (f, counting_held 0 (product q) (let c = (form_of q f).count in omega arith))) tt

  pub reshaped_held : (q : List ℕ) (xs fill : List (Cell typed)) → Each CellHeld xs → Each CellHeld fill → AnswerHeld (Delta.reshaped R q xs fill)
  reshaped_held q xs (x ∷ []) h k =
      let item : ℕ → Cell typed = λ j. slice_index_or xs (j % length xs) x in
      answer_either (forms q) (Delta.gives_box R (ShapeValue q) (array q (each item (counting 0 (product q))))) (Traps trap.Size)
      (λ f. box_held (ShapeValue q) (array q (each item (counting 0 (product q)))) (f, each_made CellHeld item (λ j. each_picked CellHeld xs (j % length xs) x h k.0) (counting 0 (product q)))) tt
  reshaped_held q xs _ h k = tt

  pub raveled_held : (a : Arrayed (Cell typed)) → Whole a × Counted a → AnswerHeld (Delta.raveled R a)
  raveled_held a h = box_held (DimValue (length a.atoms)) (array (length a.atoms ∷ []) a.atoms) (form_vector (length a.atoms) a.dims h.1 h.0.0, h.0.1)

  pub kept_if : {B : Type 0} (P : B → Type 0) (l : Look) (b : B) (bs : List B) → P b → Each P bs → Each P (Delta.keep_if R l b bs)
  kept_if P (ABool true) b bs h k = (h, k)
  kept_if P _ b bs h k = k

  pub masked_held : {B : Type 0} (P : B → Type 0) (ms : List (Cell typed)) (bs : List B) → Each P bs → Each P (Delta.masked R ms bs)
  masked_held P [] bs h = tt
  masked_held P (m ∷ ms) [] h = tt
  masked_held P (m ∷ ms) (b ∷ bs) h = kept_if P (look typed_rules m) b (Delta.masked R ms bs) h.0 (masked_held P ms bs h.1)

  pub kept_few : {B : Type 0} (l : Look) (b : B) (bs : List B) (n : ℕ) → length bs ≤ n → length (Delta.keep_if R l b bs) ≤ suc n
  kept_few (ABool true) b bs n h = omega arith
  kept_few _ b bs n h = omega arith

  pub masked_few : {B : Type 0} (ms : List (Cell typed)) (bs : List B) → length (Delta.masked R ms bs) ≤ length bs
  masked_few [] bs = omega arith
  masked_few (m ∷ ms) [] = omega arith
  masked_few (m ∷ ms) (b ∷ bs) = kept_few (look typed_rules m) b (Delta.masked R ms bs) (length bs) (masked_few ms bs)

  pub filtered_held : (mask a : Arrayed (Cell typed)) → Whole mask → Whole a → AnswerHeld (Delta.filtered R mask a)
  filtered_held mask a k h =
      by_leading_held a.dims a.atoms _ (λ m s e.
      let all = runs m (product s) a.atoms in
      let cells = Delta.masked R mask.atoms all in
      box_held (DimValue (length cells)) (array (length cells ∷ s) (joined cells)) (
        form_fewer (length cells) m s (subst (λ n. length cells ≤ n) (run_count m (product s) a.atoms) (masked_few mask.atoms all)) (subst HasForm e h.0),
        each_joined CellHeld cells (masked_held (Each CellHeld) mask.atoms all (each_runs CellHeld m (product s) a.atoms h.1)),
      ))
