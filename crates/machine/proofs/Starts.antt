-- Arguments over the frame of an application.
use Rattle.std.proofs.Common.{◌≡◌, ℕ, zero, suc, ◌+◌, ◌*◌, ◌/◌, ◌<◌, ◌≤◌, ◌^◌, nat_lt, min, refl, ap, sym, subst, ◌∙◌, arith, Bool, true, false, List, [], ◌∷◌, ◌++◌, length, take, drop, eqb}
use Rattle.std.specs.List.{All}
use Rattle.std.proofs.lemmas.Bool.{lt-ltb, le-ltb, ne_eqb, eq-eqb}
use Rattle.std.proofs.lemmas.List.Elements.{All-nil, All-cons, All-head, All-tail}
use Rattle.std.proofs.lemmas.List.{take-append-le, take_all}
use Rattle.std.proofs.Math.Nat.{mul_comm, mul-div_cancel_left}
use Rattle.core_syntax.specs.Arrays.{is_prefix, all_prefixes, columns}
use Rattle.core_syntax.specs.Lists.{each, product}
use Rattle.core_syntax.specs.Word.{Word}
use Rattle.core_syntax.specs.Terms.{IndexValue}
use Rattle.core_syntax.specs.declared.errors.TrapKind.TheVariants as trap
use Rattle.array_values.specs.Forms.{Forms, cells}
use Rattle.array_values.specs.declared.value.Value.{Value}
use Rattle.machine_table.specs.Begins.{Place}
use Rattle.machine_table.specs.Instructions.{Begun, Halts, Maps, no_cell, app_over, places}
use Rattle.machine_table.specs.Values.{all_cells_at, spread}
use Rattle.machine.specs.Applied.{IsCelled, IsFrame, HasPlaces, array_of, placed}
use Rattle.machine.specs.Works.{FitsFrame, frame_of, cell_of, argument_cells, work_places_of}
use Rattle.machine.specs.declared.state.Argument.{Argument}
use Rattle.machine.proofs.Placed.{prefix_rest}
use Rattle.machine.proofs.Results.{cells_product}
use Rattle.machine.proofs.Rooms.{cells_append, and_left, and_right}

-- ---- one argument over a frame of which its own is a prefix

module _ (F : List ℕ) (count : ℕ) (a : Argument) (prefix : is_prefix (frame_of a) F ≡ true) (is : count ≡ product F) (some : 0 < count) where
  abbrev rest : List ℕ
  rest = (prefix_rest (frame_of a) F prefix).0

  parts : count ≡ product (frame_of a) * product rest
  parts =
      is ∙ ap product (prefix_rest (frame_of a) F prefix).1.1 ∙ sym (cells_product (frame_of a ++ rest)) ∙ cells_append (frame_of a) rest
      ∙ (λ i. cells_product (frame_of a) i * cells_product rest i)

  factor_some : (p q : ℕ) → count ≡ p * q → 0 < p
  factor_some zero q e = absurd (omega (arith, e, some))
  factor_some (suc p) q e = omega arith

  factor_few : (p q : ℕ) → count ≡ p * q → p ≤ count
  factor_few p zero e = absurd (omega (arith, e, some))
  factor_few p (suc q) e = let k : p * suc q ≡ p + p * q = omega arith in omega (arith, e, k)

  frame_some : 0 < product (frame_of a)
  frame_some = factor_some (product (frame_of a)) (product rest) parts

  pub has_places : count ≤ 2 ^ 24 → HasPlaces a
  has_places few = record { some = frame_some; few = below (factor_few (product (frame_of a)) (product rest) parts) few }
    where
      below : {p q r : ℕ} → p ≤ q → q ≤ r → p ≤ r
      below p q = omega (arith, p, q)

  repeats : count / product (frame_of a) ≡ product rest
  repeats = ap (λ n. n / product (frame_of a)) parts ∙ mul-div_cancel_left (product rest) frame_some

  pub fits_frame : IsCelled a → FitsFrame F count (placed count a)
  fits_frame celled = record {
    whole = celled.whole;
    ranked = celled.ranked;
    prefix = prefix;
    repeats = ap (λ n. n * product (frame_of a)) repeats ∙ mul_comm (product rest) (product (frame_of a)) ∙ sym parts;
    some = subst (λ n. 0 < n) (sym repeats) (factor_some (product rest) (product (frame_of a)) (parts ∙ mul_comm (product (frame_of a)) (product rest)));
  }

-- ---- all of them

module _ (F : List ℕ) (count : ℕ) (is : count ≡ product F) (some : 0 < count) where
  pub all_have_places : (as' : List Argument) → all_prefixes (each frame_of as') F ≡ true → count ≤ 2 ^ 24 → All HasPlaces as'
  all_have_places [] e few = All-nil HasPlaces
  all_have_places (a ∷ as') e few =
      All-cons HasPlaces a as' (has_places F count a (and_left (is_prefix (frame_of a) F) (all_prefixes (each frame_of as') F) e) is some few)
      (all_have_places as' (and_right (is_prefix (frame_of a) F) (all_prefixes (each frame_of as') F) e) few)

  pub all_fit_frame : (as' : List Argument) → all_prefixes (each frame_of as') F ≡ true → All IsCelled as' → All (FitsFrame F count) (each (placed count) as')
  all_fit_frame [] e all = All-nil (FitsFrame F count)
  all_fit_frame (a ∷ as') e all =
      All-cons (FitsFrame F count) (placed count a) (each (placed count) as')
      (fits_frame F count a (and_left (is_prefix (frame_of a) F) (all_prefixes (each frame_of as') F) e) is some (All-head IsCelled a as' all))
      (all_fit_frame as' (and_right (is_prefix (frame_of a) F) (all_prefixes (each frame_of as') F) e) (All-tail IsCelled a as' all))

  pub start_arguments : (f g : Argument) (as' xs : List Argument) → is_prefix (frame_of f) F ≡ true → IsCelled f → all_prefixes (each frame_of as') F ≡ true → All IsCelled as' → g ≡ placed count f → xs ≡ each (placed count) as'
      → All (FitsFrame F count) (g ∷ xs)
  start_arguments f g as' xs prefix celled prefixes all at same =
      let own : FitsFrame F count g = subst (FitsFrame F count) (sym at) (fits_frame F count f prefix is some celled) in
      let others : All (FitsFrame F count) xs = subst (All (FitsFrame F count)) (sym same) (all_fit_frame as' prefixes all) in
      All-cons (FitsFrame F count) g xs own others

  -- their cells
  placed_cells : (as' : List Argument) → each (argument_cells F) (each (placed count) as') ≡ each (argument_cells F) as'
  placed_cells [] = refl
  placed_cells (a ∷ as') = ap (λ l. argument_cells F a ∷ l) (placed_cells as')

  pub placed_places : (f : Argument) (as' : List Argument) → work_places_of F (placed count f) (each (placed count) as') ≡ work_places_of F f as'
  placed_places f as' = ap (λ l. places (spread F f.array.dims [] f.array.atoms) (columns (product F) l)) (placed_cells as')

-- ---- items of a vector that are written in place

length_each : {A B : Type 0} (f : A → B) (xs : List A) → length (each f xs) ≡ length xs
length_each f [] = refl
length_each f (x ∷ xs) = ap suc (length_each f xs)

pub kept_items : {A : Type 0} (f : A → A) (n : ℕ) (new seen old : List A) → n ≡ length old → new ≡ each f seen → seen ≡ old → take n (new ++ drop (length new) old) ≡ each f old
kept_items f n new seen old size e same =
    let at : new ≡ each f old = e ∙ ap (each f) same in
    let long : length new ≡ length old = ap (λ l. length l) at ∙ length_each f old in
    take-append-le n new (drop (length new) old) (omega (arith, long, size)) ∙ take_all n new (omega (arith, long, size)) ∙ at

-- a frame of few places is that of an array
pub frame_forms : (F : List ℕ) (count : ℕ) → IsFrame F → count ≡ product F → count ≤ 2 ^ 24 → Forms F
frame_forms F count frame is few = record { rank = frame.rank; each = frame.each; few = subst (λ n. n ≤ 2 ^ 24) (is ∙ sym (cells_product F)) few }

-- ---- the application

cells_of : (F : List ℕ) (as' : List Argument) → all_cells_at F (each frame_of as') (each cell_of as') (each array_of as') ≡ each (argument_cells F) as'
cells_of F [] = refl
cells_of F (a ∷ as') = ap (λ l. argument_cells F a ∷ l) (cells_of F as')

module _ (is : List IndexValue) (F : List ℕ) (r : Word) (f : Argument) (as' : List Argument) (count : ℕ) (size : count ≡ min (cells F) (2 ^ 24 + 1)) where
  abbrev application : Begun Value
  application = app_over is F (each frame_of as') (each cell_of as') r f.array (each array_of as')

  by_tests : (b c : Bool) → nat_lt (2 ^ 24) (product F) ≡ b → eqb (product F) 0 ≡ c
      → elim b as (λ b. Begun Value) [ true ↦ Halts trap.Size | false ↦ elim c as (λ c. Begun Value) [ true ↦ no_cell is F r | false ↦ Maps F (places (spread F f.array.dims [] f.array.atoms) (columns (product F) (all_cells_at F (each frame_of as') (each cell_of as') (each array_of as')))) ] ] ≡ application
  by_tests b c e d = λ i. elim (sym e i) as (λ b. Begun Value) [ true ↦ Halts trap.Size | false ↦ elim (sym d i) as (λ c. Begun Value) [ true ↦ no_cell is F r | false ↦ Maps F (places (spread F f.array.dims [] f.array.atoms) (columns (product F) (all_cells_at F (each frame_of as') (each cell_of as') (each array_of as')))) ] ]

  -- over too many places
  pub too_many : 2 ^ 24 < count → ◌≡◌ {A = Begun Value} (Halts trap.Size) application
  too_many lt = by_tests true (eqb (product F) 0) (lt-ltb (2 ^ 24) (product F) (omega (arith, size, lt, cells_product F))) refl

  few_places : count ≤ 2 ^ 24 → nat_lt (2 ^ 24) (product F) ≡ false
  few_places le = le-ltb (2 ^ 24) (product F) (omega (arith, size, le, cells_product F))

  pub product_is : count ≤ 2 ^ 24 → count ≡ product F
  product_is le = omega (arith, size, le, cells_product F)

  -- over none
  pub no_place : count ≡ 0 → no_cell is F r ≡ application
  no_place none = by_tests false true (few_places (omega (arith, none))) (eq-eqb (product F) 0 (omega (arith, size, none, cells_product F)))

  -- over some
  pub some_places : (G : List ℕ) (ps : List (Place Value)) → count ≤ 2 ^ 24 → (count ≡ 0 → ⊥) → G ≡ F → ps ≡ work_places_of F f as' → ◌≡◌ {A = Begun Value} (Maps G ps) application
  some_places G ps le some same at =
      (λ i. Maps (same i) ((at ∙ ap (λ l. places (spread F f.array.dims [] f.array.atoms) (columns (product F) l)) (sym (cells_of F as'))) i))
      ∙ by_tests false false (few_places le) (ne_eqb (product F) 0 (λ none. some (omega (arith, size, le, cells_product F, none))))
