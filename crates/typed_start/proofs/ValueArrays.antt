-- The array of a value that fits a type.
use Rattle.std.proofs.Common.{◌≡◌, refl, sym, ap, subst, ◌∙◌, ℕ, zero, suc, ◌+◌, ◌*◌, ◌^◌, ◌<◌, ◌≤◌, true, ◌&&◌, nat_lt, nat_le, List, [], ◌∷◌, ◌++◌, All, map, length, take, slice_index_or, Option, ◌⊎◌, ⊎_elim, Result, IfOk, arith}
use Rattle.std.proofs.Math.Bool.{Bool-set}
use Rattle.std.proofs.Math.Logic.{∥∥₁_map, ∥∥₁_elim}
use Rattle.std.proofs.Math.Nat.{ℕ_set}
use Rattle.std.proofs.lemmas.Bool.{and_parts, ltb-true, leb-true}
use Rattle.std.proofs.lemmas.List.{take_more, take_all}
use Rattle.std.proofs.lemmas.Result.{IfOk-weaker}
use Rattle.std.proofs.lemmas.List.Elements.{All-nil, All-cons}
use Rattle.array_values.specs.Data.{index_data, data_list, atom_data, array_data}
use Rattle.array_values.specs.Data as seen
use Rattle.array_values.specs.Forms.{Forms, cells}
use Rattle.array_values.specs.Values.{Array}
use Rattle.array_values.specs.declared.closure.Closure.{Closure, fold-Closure}
use Rattle.array_values.specs.declared.value.BoxedValue.{BoxedValue, fold-BoxedValue, fold_out-BoxedValue}
use Rattle.array_values.specs.declared.value.Value.{Value, fold_out-Value, map-Value}
use Rattle.array_values.specs.declared.value.Value.TheVariants.{Boxed, outs-Boxed}
use Rattle.core_syntax.specs.declared.index.Index.{Index as Tree}
use Rattle.core_syntax.specs.declared.index.Sort.{Sort}
use Rattle.core_syntax.specs.declared.primitive.Primitive.{Primitive}
use Rattle.core_syntax.specs.declared.term.TermAtom.{TermAtom, Prim, Fn, TypeFn, IndexFn, Boxed as BoxedTree}
use Rattle.core_syntax.specs.declared.term.TermExpr.{TermExpr}
use Rattle.core_syntax.specs.declared.ty.Ty.{Ty as TyTree}
use Rattle.core_syntax.specs.declared.ty.Base.TheVariants as base
use Rattle.core_syntax.specs.Data.{Data, DataArray, DataAtom, DataBox, DataFn, DataAtoms, more_data, data_count, FitsType, AtomFits, AtomsFit, array_of_value, atom_of_cell, atoms_of_cells}
use Rattle.core_syntax.specs.Fits.{all_below, forms, value_fits, all_fit}
use Rattle.core_syntax.specs.Lists.{each, product}
use Rattle.core_syntax.specs.Refine.{index_of}
use Rattle.core_syntax.specs.RefineTerms.{term_of, cell_of, cells_of, TypedCell}
use Rattle.core_syntax.specs.Rules.{dims_of, atoms_of}
use Rattle.core_syntax.specs.Syntax.{Ty, BaseTy, Sigma, Arr}
use Rattle.core_syntax.specs.Terms.{IndexValue, TArray, TNoAtoms, Cells, no_cells, more_cells, cell_items}
use Rattle.core_syntax.specs.Typed.{typed, typed_rules, TypedTerm, closed_value}
use Rattle.core_syntax.proofs.RowsOfTerms.{of_fn, of_type_fn, of_index_fn, of_boxed}

-- ---- one item after another

each_push : {A B : Type 0} (f : A → B) (xs : List A) (x : A) → each f (xs ++ x ∷ []) ≡ each f xs ++ f x ∷ []
each_push f [] x = refl
each_push f (y ∷ ys) x = ap (λ zs. f y ∷ zs) (each_push f ys x)

each_through : {A B C : Type 0} (f : B → C) (g : A → B) (xs : List A) → each f (each g xs) ≡ each (λ x. f (g x)) xs
each_through f g [] = refl
each_through f g (x ∷ xs) = ap (λ zs. f (g x) ∷ zs) (each_through f g xs)

each_mapped : {A B : Type 0} (f : A → B) (xs : List A) → map f xs ≡ each f xs
each_mapped f [] = refl
each_mapped f (x ∷ xs) = ap (λ zs. f x ∷ zs) (each_mapped f xs)

each_length : {A B : Type 0} (f : A → B) (xs : List A) → length (each f xs) ≡ length xs
each_length f [] = refl
each_length f (x ∷ xs) = ap suc (each_length f xs)

-- what is made so far has the values of the first items
abbrev pub Matched : {A B C : Type 0} → (A → C) → (B → C) → List A → List B → ℕ → Type 0
Matched g f made xs k = each g made ≡ each f (take k xs)

pub matched_more : {A B C : Type 0} (g : A → C) (f : B → C) (made next : List A) (xs : List B) (k : ℕ) (v : A) (x : B) → k < length xs → x ≡ slice_index_or xs k x → next ≡ made ++ v ∷ [] → g v ≡ f x
    → Matched g f made xs k → Matched g f next xs (k + 1)
matched_more g f made next xs k v x lt at e same m =
    ap (each g) e ∙ each_push g made v ∙ ap (λ zs. zs ++ g v ∷ []) m ∙ ap (λ z. each f (take k xs) ++ z ∷ []) (same ∙ ap f at)
    ∙ sym (ap (each f) (take_more xs k x lt) ∙ each_push f (take k xs) (slice_index_or xs k x))

pub matched_all : {A B C : Type 0} (g : A → C) (f : B → C) (made : List A) (xs : List B) (k : ℕ) → length xs ≤ k → Matched g f made xs k → each g made ≡ each f xs
matched_all g f made xs k le m = m ∙ ap (each f) (take_all k xs le)

pub matched_through : {A B C D : Type 0} (g : A → D) (f : C → D) (h : B → C) (made : List A) (xs : List B) (k : ℕ) → length xs ≤ k → Matched g (λ x. f (h x)) made xs k → each g made ≡ each f (each h xs)
matched_through g f h made xs k le m = matched_all g (λ x. f (h x)) made xs k le m ∙ sym (each_through f h xs)

-- ---- indices

pub index_fits : (xs : List Tree) (k : ℕ) (x : Tree) → k < length xs → x ≡ slice_index_or xs k x → all_fit (each closed_value (each index_of xs)) ≡ true → value_fits (closed_value (index_of x)) ≡ true
index_fits [] k x lt at h = absurd (omega (arith, lt))
index_fits (y ∷ ys) zero x lt at h = ap (λ (z : Tree). value_fits (closed_value (index_of z))) at ∙ (and_parts (value_fits (closed_value (index_of y))) (all_fit (each closed_value (each index_of ys))) h).0
index_fits (y ∷ ys) (suc k) x lt at h = index_fits ys k x (omega (arith, lt)) at (and_parts (value_fits (closed_value (index_of y))) (all_fit (each closed_value (each index_of ys))) h).1

-- ---- data that fits some type

abbrev pub SomeFits : Data → Type 0
SomeFits d = ∥ ((t : Ty) × FitsType t d) ∥₁

abbrev pub SomeAtomFits : DataAtom → Type 0
SomeAtomFits a = ∥ ((t : Ty) × AtomFits t a) ∥₁

abbrev pub SomeAtomsFit : DataAtoms → Type 0
SomeAtomsFit xs = ∥ ((t : Ty) × AtomsFit t xs) ∥₁

-- a function fits none
fn_fits_none : (t : Ty) → AtomFits t DataFn → ⊥
fn_fits_none (BaseTy at base.Int) h = h
fn_fits_none (BaseTy at base.Bool) h = h
fn_fits_none (BaseTy at base.Char) h = h
fn_fits_none _ h = h

no_fn : SomeAtomFits DataFn → ⊥
no_fn h = ∥∥₁_elim h (λ x y. absurd x) (λ w. fn_fits_none w.0 w.1)

-- a box's indices can be kept, and its content fits a type
box_parts : (t : Ty) (vs : List IndexValue) (d : Data) → AtomFits t (DataBox vs d) → (all_fit vs ≡ true) × ((u : Ty) × FitsType u d)
box_parts (Sigma at ss t) vs d h = (h.1, (_, h.2))
box_parts (BaseTy at base.Int) vs d h = absurd h
box_parts (BaseTy at base.Bool) vs d h = absurd h
box_parts (BaseTy at base.Char) vs d h = absurd h
box_parts _ vs d h = absurd h

pub box_keeps : (vs : List IndexValue) (d : Data) → SomeAtomFits (DataBox vs d) → all_fit vs ≡ true
box_keeps vs d h = ∥∥₁_elim h (Bool-set (all_fit vs) true) (λ w. (box_parts w.0 vs d w.1).0)

pub box_content : (vs : List IndexValue) (d : Data) → SomeAtomFits (DataBox vs d) → SomeFits d
box_content vs d h = ∥∥₁_map h (λ w. (box_parts w.0 vs d w.1).1)

-- an array's dims are those of an array, with as many atoms, which fit a type
array_parts : (t : Ty) (dims : List ℕ) (xs : DataAtoms) → FitsType t (DataArray dims xs) → (forms dims ≡ true) × (data_count xs ≡ product dims) × ((u : Ty) × AtomsFit u xs)
array_parts (Arr at t i) dims xs h = (h.1, h.2, (t, h.3))
array_parts _ dims xs h = absurd h

pub array_forms : (dims : List ℕ) (xs : DataAtoms) → SomeFits (DataArray dims xs) → forms dims ≡ true
array_forms dims xs h = ∥∥₁_elim h (Bool-set (forms dims) true) (λ w. (array_parts w.0 dims xs w.1).0)

pub array_counts : (dims : List ℕ) (xs : DataAtoms) → SomeFits (DataArray dims xs) → data_count xs ≡ product dims
array_counts dims xs h = ∥∥₁_elim h (ℕ_set (data_count xs) (product dims)) (λ w. (array_parts w.0 dims xs w.1).1)

pub array_atoms : (dims : List ℕ) (xs : DataAtoms) → SomeFits (DataArray dims xs) → SomeAtomsFit xs
array_atoms dims xs h = ∥∥₁_map h (λ w. (array_parts w.0 dims xs w.1).2)

-- each atom fits where all do
atom_fits_at : (t : Ty) (xs : List TermAtom) (k : ℕ) (x : TermAtom) → k < length xs → x ≡ slice_index_or xs k x → AtomsFit t (atoms_of_cells typed_rules (cells_of xs)) → AtomFits t (atom_of_cell typed_rules (cell_of x))
atom_fits_at t [] k x lt at h = absurd (omega (arith, lt))
atom_fits_at t (y ∷ ys) zero x lt at h = subst (λ (z : TermAtom). AtomFits t (atom_of_cell typed_rules (cell_of z))) (sym at) h.0
atom_fits_at t (y ∷ ys) (suc k) x lt at h = atom_fits_at t ys k x (omega (arith, lt)) at h.1

pub atom_fits : (xs : List TermAtom) (k : ℕ) (x : TermAtom) → k < length xs → x ≡ slice_index_or xs k x → SomeAtomsFit (atoms_of_cells typed_rules (cells_of xs)) → SomeAtomFits (atom_of_cell typed_rules (cell_of x))
atom_fits xs k x lt at h = ∥∥₁_map h (λ w. (w.0, atom_fits_at w.0 xs k x lt at w.1))

-- ---- which dims an array may have

small_all : (ds : List ℕ) (n : ℕ) → all_below n ds ≡ true → All (λ d. d < n) ds
small_all [] n h = All-nil (λ d. d < n)
small_all (d ∷ ds) n h =
    let both = and_parts (nat_lt d n) (all_below n ds) h in
    All-cons (λ d. d < n) d ds (ltb-true d n both.0) (small_all ds n both.1)

product_cells : (ds : List ℕ) → product ds ≡ cells ds
product_cells [] = refl
product_cells (d ∷ ds) = ap (λ n. d * n) (product_cells ds)

formed : (ds : List ℕ) → forms ds ≡ true → Forms ds
formed ds h =
    let one = and_parts (all_below (2 ^ 32) ds && nat_le (length ds) 64) (nat_le (product ds) (2 ^ 24)) h in
    let two = and_parts (all_below (2 ^ 32) ds) (nat_le (length ds) 64) one.0 in
    record {
      rank = leb-true (length ds) 64 two.1;
      each = small_all ds (2 ^ 32) two.0;
      few = subst (λ n. n ≤ 2 ^ 24) (product_cells ds) (leb-true (product ds) (2 ^ 24) one.1);
    }

-- ---- the array of a value

abbrev atom_of : TypedCell → DataAtom
atom_of = atom_of_cell typed_rules

listed : (xs : Cells typed) → atoms_of_cells typed_rules xs ≡ data_list (each atom_of (cell_items xs))
listed no_cells = refl
listed (more_cells x xs) = ap (λ zs. more_data (atom_of x) zs) (listed xs)

listed_trees : (xs : List TermAtom) → atoms_of_cells typed_rules (cells_of xs) ≡ data_list (each atom_of (each cell_of xs))
listed_trees [] = refl
listed_trees (x ∷ xs) = ap (λ zs. more_data (atom_of (cell_of x)) zs) (listed_trees xs)

counted : (xs : List DataAtom) → data_count (data_list xs) ≡ length xs
counted [] = refl
counted (x ∷ xs) = ap suc (counted xs)

value_is : (t : TypedTerm) → array_of_value typed_rules t ≡ DataArray (dims_of typed_rules t) (data_list (each atom_of (atoms_of typed_rules t)))
value_is (TArray dims xs) = ap (DataArray dims) (listed xs)
value_is (TNoAtoms dims a) = refl
value_is _ = refl

module _ (t : TypedTerm) (dims : List ℕ) (xs : List TermAtom) (own : dims ≡ dims_of typed_rules t) (all : each cell_of xs ≡ atoms_of typed_rules t) where
  -- in the words of the code
  is_array : array_of_value typed_rules t ≡ DataArray dims (data_list (each atom_of (each cell_of xs)))
  is_array = value_is t ∙ sym (ap (λ ds. DataArray ds (data_list (each atom_of (each cell_of xs)))) own ∙ ap (λ ys. DataArray (dims_of typed_rules t) (data_list (each atom_of ys))) all)

  fits_here : SomeFits (array_of_value typed_rules t) → SomeFits (DataArray dims (data_list (each atom_of (each cell_of xs))))
  fits_here h = subst SomeFits is_array h

  pub atoms_fit : SomeFits (array_of_value typed_rules t) → SomeAtomsFit (atoms_of_cells typed_rules (cells_of xs))
  atoms_fit h = subst SomeAtomsFit (sym (listed_trees xs)) (array_atoms dims _ (fits_here h))

  pub dims_form : SomeFits (array_of_value typed_rules t) → Forms dims
  dims_form h = formed dims (array_forms dims _ (fits_here h))

  pub is_full : (values : List Value) → each atom_data values ≡ each atom_of (each cell_of xs) → SomeFits (array_of_value typed_rules t) → length values ≡ cells dims
  is_full values made h =
      sym (each_length atom_data values) ∙ ap (λ (zs : List DataAtom). length zs) made ∙ sym (counted (each atom_of (each cell_of xs)))
      ∙ array_counts dims (data_list (each atom_of (each cell_of xs))) (fits_here h) ∙ product_cells dims

  array_is : (a : Array) (values : List Value) → each atom_data values ≡ each atom_of (each cell_of xs) → a ≡ record { dims = dims; atoms = values } → array_data a ≡ array_of_value typed_rules t
  array_is a values made e = ap array_data e ∙ ap (λ zs. DataArray dims (data_list zs)) made ∙ sym is_array

  pub made_is : {E : Type 0} (r : Result Array E) (values : List Value) → each atom_data values ≡ each atom_of (each cell_of xs) → IfOk r (λ a. a ≡ record { dims = dims; atoms = values }) → IfOk r (λ a. array_data a ≡ array_of_value typed_rules t)
  made_is r values made e = IfOk-weaker r (λ a. a ≡ record { dims = dims; atoms = values }) (λ a. array_data a ≡ array_of_value typed_rules t) (λ a. array_is a values made) e

-- ---- boxes

abbrev box_data : BoxedValue → DataAtom
box_data = fold-BoxedValue DataAtom DataAtom DataAtom seen.atom_step seen.closure_step seen.box_step

abbrev closure_data : Closure → DataAtom
closure_data = fold-Closure DataAtom DataAtom DataAtom seen.atom_step seen.closure_step seen.box_step

pub data_boxed : (b : BoxedValue) → atom_data (Boxed b) ≡ DataBox (each index_data b.indices) (array_data b.content)
data_boxed b =
    fold_out-Value DataAtom DataAtom DataAtom seen.atom_step seen.closure_step seen.box_step (Boxed b)
    ∙ ap (λ x. seen.atom_step (map-Value Value Closure BoxedValue DataAtom DataAtom DataAtom atom_data closure_data box_data x)) (outs-Boxed b)
    ∙ fold_out-BoxedValue DataAtom DataAtom DataAtom seen.atom_step seen.closure_step seen.box_step b
    ∙ ap (λ zs. DataBox (each index_data b.indices) (DataArray b.content.dims (data_list zs))) (each_mapped atom_data b.content.atoms)

pub box_is : (v : Value) (b s : BoxedValue) (vs : List IndexValue) (d : Data) → v ≡ Boxed s → s ≡ b → each index_data b.indices ≡ vs → array_data b.content ≡ d → atom_data v ≡ DataBox vs d
box_is v b s vs d e shared indices content =
    ap atom_data (e ∙ ap Boxed shared) ∙ data_boxed b ∙ ap (λ is. DataBox is (array_data b.content)) indices ∙ ap (DataBox vs) content

-- the data of a box's tree
pub boxed_cell : (a : TermAtom) (is js : List Tree) (e f : TermExpr) (t : TyTree) → a ≡ BoxedTree is e t → js ≡ is → f ≡ e
    → atom_of_cell typed_rules (cell_of a) ≡ DataBox (each closed_value (each index_of js)) (array_of_value typed_rules (term_of f))
boxed_cell a is js e f t h own content =
    ap (λ x. atom_of_cell typed_rules (cell_of x)) h ∙ ap (atom_of_cell typed_rules) (of_boxed is e t)
    ∙ sym (ap (λ xs. DataBox (each closed_value (each index_of xs)) (array_of_value typed_rules (term_of f))) own ∙ ap (λ x. DataBox (each closed_value (each index_of is)) (array_of_value typed_rules (term_of x))) content)

-- an atom of a function's tree
abbrev pub IsFunction : TermAtom → Type 0
IsFunction a =
    ((p : Primitive) × (ts : Option (List TyTree)) × (is : Option (List Tree)) × (a ≡ Prim p ts is))
    ⊎ ((ts : List TyTree) × (t : TyTree) × (e : TermExpr) × (a ≡ Fn ts t e))
    ⊎ ((n : ℕ) × (e : TermExpr) × (a ≡ TypeFn n e))
    ⊎ ((ss : List Sort) × (e : TermExpr) × (a ≡ IndexFn ss e))

-- which fits no type
pub no_function : (a : TermAtom) → SomeAtomFits (atom_of_cell typed_rules (cell_of a)) → IsFunction a → ⊥
no_function a h is = no_fn (subst SomeAtomFits (function is) h)
  where
    seen_as : (b : TermAtom) → a ≡ b → atom_of_cell typed_rules (cell_of b) ≡ DataFn → atom_of_cell typed_rules (cell_of a) ≡ DataFn
    seen_as b e f = ap (λ x. atom_of_cell typed_rules (cell_of x)) e ∙ f

    function : IsFunction a → atom_of_cell typed_rules (cell_of a) ≡ DataFn
    function is =
        ⊎_elim (λ w. seen_as (Prim w.0 w.1 w.2) w.3 refl)
        (λ js. ⊎_elim (λ w. seen_as (Fn w.0 w.1 w.2) w.3 (ap (atom_of_cell typed_rules) (of_fn w.0 w.1 w.2)))
        (λ ks. ⊎_elim (λ w. seen_as (TypeFn w.0 w.1) w.2 (ap (atom_of_cell typed_rules) (of_type_fn w.0 w.1)))
        (λ w. seen_as (IndexFn w.0 w.1) w.2 (ap (atom_of_cell typed_rules) (of_index_fn w.0 w.1))) ks) js) is
