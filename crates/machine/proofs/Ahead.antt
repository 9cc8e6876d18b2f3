-- Several steps at once: places of a map and turns of a fold that give scalars.
use Rattle.std.proofs.Common.{◌≡◌, ℕ, zero, suc, ◌+◌, ◌*◌, ◌-◌, ◌<◌, ◌≤◌, refl, ap, sym, subst, ◌∙◌, List, [], ◌∷◌, ◌++◌, length, take, drop, get_or, Bool, eqb, true, false, nat_lt, Option, Some, None, is_some, slice_get, arith, length-append, IfSome}
use Rattle.std.specs.Option.{option_map}
use Rattle.std.specs.List.{All}
use Rattle.std.proofs.lemmas.Bool.{lt-ltb, eqb-true}
use Rattle.std.proofs.lemmas.List.{append-nil, drop_all}
use Rattle.std.proofs.lemmas.List.Elements.{All-nil, All-cons, All-head}
use Rattle.std.proofs.lemmas.Option.{none-some}
use Rattle.core_syntax.specs.Fits.{forms}
use Rattle.core_syntax.specs.Lists.{each, product}
use Rattle.core_syntax.specs.Arrays.{array, runs, single}
use Rattle.core_syntax.specs.declared.errors.TrapKind.TheVariants as trap
use Rattle.array_values.specs.Cells.{cell_of, cell_with}
use Rattle.array_values.specs.Arrays.{IsArray}
use Rattle.array_values.specs.Forms.{Forms, cells}
use Rattle.array_values.specs.Values.{Array}
use Rattle.array_values.specs.declared.value.Value.{Value}
use Rattle.machine_table.specs.declared.code.Block.{Block}
use Rattle.machine_table.specs.Begins.{Place, Applies, Entry, Answers, apply_atom, place_entry}
use Rattle.machine_table.specs.Machine as table
use Rattle.machine_table.specs.Machine.{Goes, Stops, Mapping, Folding}
use Rattle.machine_table.specs.ValueRules.{value_parts, value_rules}
use Rattle.prim_kernels.specs.Deltas.{scalar_entry, leading_cells}
use Rattle.prim_kernels.specs.declared.answers.Scalar.{Scalar}
use Rattle.machine.specs.Entered.{turn_entry}
use Rattle.machine.specs.Refines.{results_of}
use Rattle.machine.specs.Scalars.{Leads, given_atom, scalar_map}
use Rattle.machine.specs.declared.scalars.Given.{Given}
use Rattle.machine.specs.Works.{result_dims, result_size, work_places}
use Rattle.machine.specs.declared.state.Work.{Work}
use Rattle.machine.proofs.Leads.{leading_at}
use Rattle.machine.proofs.Placed.{take_one}
use Rattle.machine.proofs.Results.{each_append}
use Rattle.machine.proofs.Rooms.{forms_true}
use Rattle.machine.proofs.Runs.{from_more}
use Rattle.machine.proofs.Turns.{step_place, step_turn}

-- ---- one place or turn more

module _ (blocks : List Block) (F : List ℕ) (ps : List (Place Value)) (s : table.State Value) (fits : Forms F) where
  -- a scalar is the next result of scalars
  hand_scalar : (xs : List Value) (y : Value) (qs : List (Place Value)) → table.hand (single y) (Mapping F (each single xs) qs ∷ s) ≡ Goes (Mapping F (each single (xs ++ y ∷ [])) qs ∷ s)
  hand_scalar [] y qs =
      ap (λ (b : Bool). elim b as (λ b. table.Next Value) [ true ↦ Goes (Mapping F (single y ∷ []) qs ∷ s) | false ↦ Stops (table.Trap trap.Size) ]) (ap forms (append-nil F) ∙ forms_true F fits)
  hand_scalar (x ∷ xs) y qs = ap (λ rs. Goes (Mapping F (single x ∷ rs) qs ∷ s)) (sym (each_append single xs (y ∷ [])))

  pub place_more : (n : ℕ) (start : table.State Value) (xs : List Value) (y : Value) → option_map (place_entry value_rules) (slice_get ps (length xs)) ≡ Some (Answers (single y))
      → Leads blocks n start (scalar_map F ps xs ∷ s) → Leads blocks (suc n) start (scalar_map F ps (xs ++ y ∷ []) ∷ s)
  place_more n start xs y at e =
      let k : length xs + 1 ≡ length (xs ++ y ∷ []) = omega (arith, length-append xs (y ∷ [])) in
      from_more blocks n (Goes start) (scalar_map F ps xs ∷ s) e
      ∙ ap (λ (x : table.Next Value). Some x)
      (sym (step_place blocks F (each single xs) ps (length xs) s (Answers (single y)) at)
      ∙ hand_scalar xs y (drop (length xs + 1) ps)
      ∙ ap (λ (m : ℕ). Goes (Mapping F (each single (xs ++ y ∷ [])) (drop m ps) ∷ s)) k)

-- the results so far, and one more
pub places_more : (blocks : List Block) (F : List ℕ) (ps : List (Place Value)) (s : table.State Value) (old xs next : List Value) (y : Value) (j m k : ℕ) → Forms F → length xs ≡ j → next ≡ xs ++ y ∷ []
    → option_map (place_entry value_rules) (slice_get ps j) ≡ Some (Answers (single y)) → m ≡ suc k
    → Leads blocks k (scalar_map F ps old ∷ s) (scalar_map F ps xs ∷ s) → Leads blocks m (scalar_map F ps old ∷ s) (scalar_map F ps next ∷ s)
places_more blocks F ps s old xs next y j m k fits here is at count e =
    ap (λ (n : ℕ). table.from value_rules blocks n (Goes (scalar_map F ps old ∷ s))) count
    ∙ place_more blocks F ps s fits k (scalar_map F ps old ∷ s) xs y (ap (λ (n : ℕ). option_map (place_entry value_rules) (slice_get ps n)) here ∙ at) e
    ∙ ap (λ l. Some (Goes (scalar_map F ps l ∷ s))) (sym is)

pub turns_more : (blocks : List Block) (f : Value) (cells : List Array) (s start : table.State Value) (x y : Value) (j m k : ℕ) → option_map (turn_entry f (single x)) (slice_get cells j) ≡ Some (Answers (single y)) → m ≡ suc k
    → Leads blocks k start (Folding f (single x) (drop j cells) ∷ s) → Leads blocks m start (Folding f (single y) (drop (j + 1) cells) ∷ s)
turns_more blocks f cells s start x y j m k at count e =
    ap (λ (n : ℕ). table.from value_rules blocks n (Goes start)) count
    ∙ from_more blocks k (Goes start) (Folding f (single x) (drop j cells) ∷ s) e
    ∙ ap (λ (x : table.Next Value). Some x) (sym (step_turn blocks f (single x) cells j s (Answers (single y)) at))

-- ---- cells that are scalars

pub cell_is_single : (a : Array) (rank j i : ℕ) (x : Value) → rank ≡ 0 → i ≡ j → slice_get a.atoms i ≡ Some x → cell_of a rank j ≡ single x
cell_is_single a rank j i x zeros same e =
    let none : drop (length a.dims - rank) a.dims ≡ [] = drop_all (length a.dims - rank) a.dims (omega (arith, zeros)) in
    ap (λ ds. cell_with ds j a.atoms) none ∙ ap (array []) (take_one j a.atoms x (ap (slice_get a.atoms) (sym same) ∙ e))

-- an array without dims is the scalar of its atom
module _ (a : Array) (whole : IsArray a) (none : a.dims ≡ []) where
  one_atom : length a.atoms ≡ 1
  one_atom = whole.full ∙ ap cells none

  pub has_atom : 0 < length a.atoms
  has_atom = omega (arith, one_atom)

  is_single : (x : Value) → slice_get a.atoms 0 ≡ Some x → a ≡ single x
  is_single x at = λ i. record { dims = none i; atoms = only a.atoms one_atom at i }
    where
      some_is : (y : Value) → ◌≡◌ {A = Option Value} (Some y) (Some x) → y ≡ x
      some_is y e = cc

      only : (xs : List Value) → length xs ≡ 1 → slice_get xs 0 ≡ Some x → xs ≡ x ∷ []
      only [] e at = absurd (none-some x at)
      only (y ∷ []) e at = ap (λ z. z ∷ []) (some_is y at)
      only (y ∷ z ∷ xs) e at = absurd (omega (arith, e))

  pub array_given : (o : Option Given) (x : Value) → IfSome o (λ g. x ≡ given_atom g) → slice_get a.atoms 0 ≡ Some x → IfSome o (λ g. a ≡ single (given_atom g))
  array_given None x is at = tt
  array_given (Some g) x is at = is_single x at ∙ ap single is

-- no dims are in a slice that is empty
pub empty_dims : (seen dims : List ℕ) → seen ≡ dims → true ≡ eqb (length seen) 0 → dims ≡ []
empty_dims seen dims same e = sym same ∙ none seen (eqb-true (length seen) 0 (sym e))
  where
    none : (xs : List ℕ) → length xs ≡ 0 → xs ≡ []
    none [] e = refl
    none (x ∷ xs) e = absurd (omega (arith, e))

-- ---- what a place and a turn give

module _ (o : Option Given) (given : Option Scalar) (is : IfSome o (λ g. option_map scalar_entry given ≡ Some (Answers (single (given_atom g))))) (x : Value) (cs : List Array)
    (on : IfSome given (λ s. scalar_entry s ≡ apply_atom value_rules (value_parts x) cs)) where
  applied : IfSome o (λ g. apply_atom value_rules (value_parts x) cs ≡ Answers (single (given_atom g)))
  applied = go o given is on
    where
      some_is : (a b : Entry Value) → ◌≡◌ {A = Option (Entry Value)} (Some a) (Some b) → a ≡ b
      some_is a b e = cc

      go : (o : Option Given) (given : Option Scalar) → IfSome o (λ g. option_map scalar_entry given ≡ Some (Answers (single (given_atom g)))) → IfSome given (λ s. scalar_entry s ≡ apply_atom value_rules (value_parts x) cs)
          → IfSome o (λ g. apply_atom value_rules (value_parts x) cs ≡ Answers (single (given_atom g)))
      go None given is on = tt
      go (Some g) None is on = absurd (none-some (Answers (single (given_atom g))) is)
      go (Some g) (Some s) is on = sym on ∙ some_is (scalar_entry s) (Answers (single (given_atom g))) is

  pub place_given : (place : Option (Place Value)) → place ≡ Some (Applies x cs) → IfSome o (λ g. option_map (place_entry value_rules) place ≡ Some (Answers (single (given_atom g))))
  place_given place at = go o applied
    where
      go : (o : Option Given) → IfSome o (λ g. apply_atom value_rules (value_parts x) cs ≡ Answers (single (given_atom g))) → IfSome o (λ g. option_map (place_entry value_rules) place ≡ Some (Answers (single (given_atom g))))
      go None is = tt
      go (Some g) is = ap (option_map (place_entry value_rules)) at ∙ ap (λ (e : Entry Value). Some e) is

-- the same of a turn
pub turn_given : (o : Option Given) (given : Option Scalar) (f acc x : Value) (item : Option Array) → IfSome o (λ g. option_map scalar_entry given ≡ Some (Answers (single (given_atom g))))
    → IfSome given (λ s. scalar_entry s ≡ apply_atom value_rules (value_parts f) (single acc ∷ single x ∷ [])) → item ≡ Some (single x)
    → IfSome o (λ g. option_map (turn_entry f (single acc)) item ≡ Some (Answers (single (given_atom g))))
turn_given o given f acc x item is on at = go o (applied o given is f (single acc ∷ single x ∷ []) on)
  where
    go : (o : Option Given) → IfSome o (λ g. apply_atom value_rules (value_parts f) (single acc ∷ single x ∷ []) ≡ Answers (single (given_atom g))) → IfSome o (λ g. option_map (turn_entry f (single acc)) item ≡ Some (Answers (single (given_atom g))))
    go None is = tt
    go (Some g) is = ap (option_map (turn_entry f (single acc))) at ∙ ap (λ (e : Entry Value). Some e) is

-- an item of a vector
module _ (a : Array) (rank : length a.dims ≡ 1) (place : ℕ) where
  pub item_within : IsArray a → place < get_or a.dims 0 0 → place < length a.atoms
  item_within whole lt = go a.dims rank whole.full lt
    where
      go : (dims : List ℕ) → length dims ≡ 1 → length a.atoms ≡ cells dims → place < get_or dims 0 0 → place < length a.atoms
      go [] e full lt = absurd (omega (arith, e))
      go (d ∷ []) e full lt = omega (arith, full, lt)
      go (d ∷ n ∷ ds) e full lt = absurd (omega (arith, e))

  pub item_is : (x : Value) → place < get_or a.dims 0 0 → slice_get a.atoms place ≡ Some x → slice_get (leading_cells a.dims a.atoms) place ≡ Some (single x)
  item_is x lt at =
      leading_at a place (omega (arith, rank)) lt
      ∙ ap (λ (y : Array). Some y) (cell_is_single a (length a.dims - 1) place place x (omega (arith, rank)) refl at)

-- a fold over a vector
pub lead_count : (dims : List ℕ) (count : ℕ) → take 1 dims ≡ count ∷ [] → get_or dims 0 0 ≡ count
lead_count [] count e = absurd (no e)
  where
    no : ◌≡◌ {A = List ℕ} [] (count ∷ []) → ⊥
    no e = cc
lead_count (d ∷ ds) count e = first d count e
  where
    first : (a b : ℕ) → ◌≡◌ {A = List ℕ} (a ∷ []) (b ∷ []) → a ≡ b
    first a b e = cc

pub folds_from : (blocks : List Block) (f : Value) (acc : Array) (y : Value) (cells : List Array) (s t : table.State Value) (n : ℕ) → acc ≡ single y → Leads blocks n (Folding f (single y) cells ∷ s) t → Leads blocks n (Folding f acc cells ∷ s) t
folds_from blocks f acc y cells s t n is e = ap (λ (a : Array). table.from value_rules blocks n (Goes (Folding f a cells ∷ s))) is ∙ e

-- no step
pub stays : (blocks : List Block) (n : ℕ) (s : table.State Value) → n ≡ 0 → Leads blocks n s s
stays blocks n s e = ap (λ (k : ℕ). table.from value_rules blocks k (Goes s)) e

-- ---- the results of a map that are scalars

module _ {V : Type 0} (items : V → List ℕ) where
  each_run : (xs : List Value) → each (array []) (runs (length xs) 1 xs) ≡ each single xs
  each_run [] = refl
  each_run (x ∷ xs) = ap (λ l. single x ∷ l) (each_run xs)

  apart : (g : ℕ) → false ≡ nat_lt 0 (suc g) → ⊥
  apart g e = no (e ∙ lt-ltb 0 (suc g) (omega arith))
    where
      no : false ≡ true → ⊥
      no e = cc

  -- there are as many as places that are done
  pub scalar_count : (g : ℕ) (cell : Option V) (xs : List Value) → All (λ w. w ≡ []) (result_dims items cell) → is_some cell ≡ nat_lt 0 g → length xs ≡ g * result_size items cell → length xs ≡ g
  scalar_count zero None xs alike begun full = omega (arith, full)
  scalar_count (suc g) None xs alike begun full = absurd (apart g begun)
  scalar_count g (Some w) xs alike begun full =
      let one : product (items w) ≡ 1 = ap product (All-head (λ ds. ds ≡ []) (items w) [] alike) in
      full ∙ ap (λ n. g * n) one ∙ omega arith

  scalar_results : (g : ℕ) (cell : Option V) (xs : List Value) → All (λ w. w ≡ []) (result_dims items cell) → length xs ≡ g → length xs ≡ g * result_size items cell → results_of items g cell xs ≡ each single xs
  scalar_results g None [] alike count full = refl
  scalar_results g None (x ∷ xs) alike count full = absurd (omega (arith, full))
  scalar_results g (Some w) xs alike count full =
      let none : items w ≡ [] = All-head (λ ds. ds ≡ []) (items w) [] alike in
      (λ i. each (array (none i)) (runs (sym count i) (ap product none i) xs)) ∙ each_run xs

  -- the map as one of scalars
  pub as_scalars : (F : List ℕ) (ps : List (Place Value)) (g : ℕ) (cell : Option V) (xs : List Value) → All (λ w. w ≡ []) (result_dims items cell) → is_some cell ≡ nat_lt 0 g → length xs ≡ g * result_size items cell
      → ◌≡◌ {A = table.Activation Value} (Mapping F (results_of items g cell xs) (drop g ps)) (scalar_map F ps xs)
  as_scalars F ps g cell xs alike begun full =
      let count = scalar_count g cell xs alike begun full in
      λ i. Mapping F (scalar_results g cell xs alike count full i) (drop (sym count i) ps)

  pub scalar_full : (g : ℕ) (w : V) (xs : List Value) → length xs ≡ g → items w ≡ [] → length xs ≡ g * product (items w)
  scalar_full g w xs count none = let one : g ≡ g * 1 = omega arith in count ∙ one ∙ ap (λ ds. g * product ds) (sym none)

  -- cells without dims
  pub no_dims : (w : V) → items w ≡ [] → All (λ ds. ds ≡ []) (result_dims items (Some w))
  no_dims w e = All-cons (λ ds. ds ≡ []) (items w) [] e (All-nil (λ ds. ds ≡ []))

-- what steps lead to, said of maps
pub led : (blocks : List Block) (s : table.State Value) (F G : List ℕ) (work : Work) (n m : ℕ) (x y : table.Activation Value) (old xs : List Value) → G ≡ F
    → Leads blocks n (scalar_map G (work_places G work) old ∷ s) (scalar_map G (work_places G work) xs ∷ s) → x ≡ scalar_map F (work_places F work) old → y ≡ scalar_map F (work_places F work) xs → n ≡ m
    → Leads blocks m (x ∷ s) (y ∷ s)
led blocks s F G work n m x y old xs same e from to count =
    ap (λ (k : ℕ). table.from value_rules blocks k (Goes (x ∷ s))) (sym count)
    ∙ ap (λ (a : table.Activation Value). table.from value_rules blocks n (Goes (a ∷ s))) (from ∙ ap (λ H. scalar_map H (work_places H work) old) (sym same))
    ∙ e
    ∙ ap (λ (a : table.Activation Value). Some (Goes (a ∷ s))) (ap (λ H. scalar_map H (work_places H work) xs) same ∙ sym to)
