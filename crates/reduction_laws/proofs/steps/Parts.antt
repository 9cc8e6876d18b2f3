-- Values of closed typed terms: their dims are the value of their type's shape, and their atoms have their type's atom type.
use Rattle.std.proofs.Common.{◌≡◌, refl, sym, ◌∙◌, ap, ℕ, suc, ◌+◌, arith, List, [], ◌∷◌, ◌++◌, length, Option, Some, None}
use Rattle.core_syntax.specs.declared.index.Sort.{Sort}
use Rattle.core_syntax.specs.declared.index.Sort.TheVariants as sort
use Rattle.core_syntax.specs.Syntax.{Index, Num, Var, Sum, Dims, Join, Indices, end, more, Ty, Fun, Forall, Pi, Arr, no_span, index_list, ty_list}
use Rattle.core_syntax.specs.Lists.{each, Each, product}
use Rattle.core_syntax.specs.Sorts.{IsSorted, AreSorted}
use Rattle.core_syntax.specs.Kinds.{IsWellFormed}
use Rattle.core_syntax.specs.Value.{Valuation, dim_val, dim_sum, dim_vals, shape_val, shape_join, then_shape}
use Rattle.core_syntax.specs.TypeEqual.{Same}
use Rattle.core_syntax.specs.Subst.{with_types, with_indices}
use Rattle.core_syntax.specs.Prims.{prim_type, array_of, int_ty, bool_ty, char_ty}
use Rattle.core_syntax.specs.Typing.{Context, numbers, OnArr, Takes, IsAtomType, defs_only}
use Rattle.core_syntax.specs.Terms.{TVar, TDef, TArray, TNoAtoms, TFrame, TNoCells, TApp, TTypeApp, TIndexApp, TUnbox, no_terms, more_terms, Cell, TInt, TBool, TChar, TPrim, TFn, TTypeFn, TIndexFn, TBoxed, Cells, no_cells, more_cells, cell_items, cell_list}
use Rattle.core_syntax.specs.Arrays.{array}
use Rattle.core_syntax.specs.Rules.{dims_of, atoms_of, part_of, array_term}
use Rattle.core_syntax.specs.Typed.{typed, typed_rules, TypedTerm, closed}
use Rattle.core_syntax.specs.TermTyping.{GivenTypes, GivenIndices, PrimHas, HasTerm, HasCell, CellsHave, cell_count}
use Rattle.core_syntax.proofs.Equality.{same_refl, same_trans}
use Rattle.reduction_laws.proofs.putting.TermSubst.{term_same, takes_same}
use Rattle.std.specs.Prelude.{slice_get}

-- ---- closed indices

pub nowhere : (k : ℕ) (s : Sort) → slice_get (let none : List Sort = [] in none) k ≡ Some s → ⊥
nowhere k s e = cc

mutual
  pub closed_dim : (i : Index) → IsSorted [] sort.Dim i → (v w : Valuation) → dim_val v i ≡ dim_val w i
  closed_dim (Num at n) h v w = refl
  closed_dim (Var at k) h v w = absurd (nowhere k sort.Dim h)
  closed_dim (Sum at is) h v w = closed_sum is h.1 v w
  closed_dim (Dims at is) h v w = refl
  closed_dim (Join at is) h v w = refl

  pub closed_sum : (is : Indices) → AreSorted [] sort.Dim is → (v w : Valuation) → dim_sum v is ≡ dim_sum w is
  closed_sum end h v w = refl
  closed_sum (more i is) h v w = λ k. (closed_dim i h.0 v w k) + (closed_sum is h.1 v w k)

pub closed_dims : (is : Indices) → AreSorted [] sort.Dim is → (v w : Valuation) → dim_vals v is ≡ dim_vals w is
closed_dims end h v w = refl
closed_dims (more i is) h v w = λ k. closed_dim i h.0 v w k ∷ closed_dims is h.1 v w k

mutual
  pub closed_shape : (i : Index) → IsSorted [] sort.Shape i → (v w : Valuation) → shape_val v i ≡ shape_val w i
  closed_shape (Num at n) h v w = refl
  closed_shape (Var at k) h v w = absurd (nowhere k sort.Shape h)
  closed_shape (Sum at is) h v w = refl
  closed_shape (Dims at is) h v w = closed_dims is h.1 v w
  closed_shape (Join at is) h v w = closed_join is h.1 v w

  pub closed_join : (is : Indices) → AreSorted [] sort.Shape is → (v w : Valuation) → shape_join v is ≡ shape_join w is
  closed_join end h v w = refl
  closed_join (more i is) h v w = λ k. closed_shape i h.0 v w k ++ closed_join is h.1 v w k

numerals_val : (v : Valuation) (ns : List ℕ) → dim_vals v (index_list (each (λ n. Num no_span n) ns)) ≡ ns
numerals_val v [] = refl
numerals_val v (n ∷ ns) = ap (λ ms. n ∷ ms) (numerals_val v ns)

pub numbers_val : (v : Valuation) (ns : List ℕ) → shape_val v (numbers ns) ≡ ns
numbers_val v ns = numerals_val v ns

numerals_sorted : (ss : List Sort) (ns : List ℕ) → AreSorted ss sort.Dim (index_list (each (λ n. Num no_span n) ns))
numerals_sorted ss [] = tt
numerals_sorted ss (n ∷ ns) = (refl, numerals_sorted ss ns)

pub numbers_sorted : (ss : List Sort) (ns : List ℕ) → IsSorted ss sort.Shape (numbers ns)
numbers_sorted ss ns = (refl, numerals_sorted ss ns)

-- ---- a type that a term has is well formed

on_formed : (Γ : Context) (r : Ty) (p : Index) (t : Ty) → OnArr r (λ a c. Takes Γ (array_of a (then_shape p c)) t) → IsWellFormed Γ.types Γ.sorts t
on_formed Γ (Arr at a c) p t h = h.0
on_formed Γ _ p t h = absurd h

pub type_formed : (Γ : Context) (e : TypedTerm) (t : Ty) → HasTerm Γ e t → IsWellFormed Γ.types Γ.sorts t
type_formed Γ (TVar k) t h = h.2.0
type_formed Γ (TDef k) t h = h.2.0
type_formed Γ (TArray dims no_cells) t h = absurd h
type_formed Γ (TArray dims (more_cells x xs)) t h = h.3.0
type_formed Γ (TNoAtoms dims a) t h = h.1.0
type_formed Γ (TFrame dims no_terms n) t h = absurd h
type_formed Γ (TFrame dims (more_terms e es) n) t h = h.5.0
type_formed Γ (TNoCells w) t h = on_formed Γ w.cell (numbers w.dims) t h.1
type_formed Γ (TApp f es cs n) t h = on_formed Γ h.1 h.4.3.0 t h.4.3.2
type_formed Γ (TTypeApp e us n) t h = on_formed Γ (with_types us h.1) h.2 t h.7
type_formed Γ (TIndexApp e is n) t h = on_formed Γ (with_indices is h.1) h.2 t h.6
type_formed Γ (TUnbox ss e b n) t h = on_formed Γ n h.1 t h.5

-- ---- an atom has each type that equals one of its types

on_to : (r : Ty) (P Q : Ty → Type 0) → ((u : Ty) → P u → Q u) → OnArr r (λ t s. P t) → OnArr r (λ t s. Q t)
on_to (Arr at a c) P Q f h = f a h
on_to _ P Q f h = absurd h

given_indices_to : (Γ : Context) (g : Ty) (is : List Index) (P Q : Ty → Type 0) → ((u : Ty) → P u → Q u) → GivenIndices Γ g is P → GivenIndices Γ g is Q
given_indices_to Γ (Pi at ss b) is P Q f h = (h.0, on_to (with_indices is b) P Q f h.1)
given_indices_to Γ _ is P Q f h = absurd h

given_types_to : (Γ : Context) (g : Ty) (us : List Ty) (P Q : Ty → Type 0) → ((u : Ty) → P u → Q u) → GivenTypes Γ g us P → GivenTypes Γ g us Q
given_types_to Γ (Forall at n b) us P Q f h = (h.0, h.1, on_to (with_types us b) P Q f h.2)
given_types_to Γ _ us P Q f h = absurd h

pub prim_to : (Γ : Context) (g : Ty) (us : Option (List Ty)) (is : Option (List Index)) (t u : Ty) → ((a : Ty) → Takes Γ a t → Takes Γ a u) → PrimHas Γ g us is t → PrimHas Γ g us is u
prim_to Γ g None None t u f h = f g h
prim_to Γ g (Some us) None t u f h = given_types_to Γ g us (λ a. Takes Γ a t) (λ a. Takes Γ a u) f h
prim_to Γ g None (Some is) t u f h = given_indices_to Γ g is (λ a. Takes Γ a t) (λ a. Takes Γ a u) f h
prim_to Γ g (Some us) (Some is) t u f h =
    given_types_to Γ g us (λ a. GivenIndices Γ a is (λ w. Takes Γ w t)) (λ a. GivenIndices Γ a is (λ w. Takes Γ w u)) (λ a. given_indices_to Γ a is (λ w. Takes Γ w t) (λ w. Takes Γ w u) f) h

pub cell_same : (Γ : Context) (x : Cell typed) (t u : Ty) → HasCell Γ x t → Same t u → IsWellFormed Γ.types Γ.sorts u → HasCell Γ x u
cell_same Γ (TInt z) t u h e w = takes_same Γ int_ty t u h e w
cell_same Γ (TBool z) t u h e w = takes_same Γ bool_ty t u h e w
cell_same Γ (TChar z) t u h e w = takes_same Γ char_ty t u h e w
cell_same Γ (TPrim q us is) t u h e w = prim_to Γ (prim_type q) us is t u (λ a k. takes_same Γ a t u k e w) h
cell_same Γ (TFn i b) t u h e w = (h.0, h.1, h.2, takes_same Γ (Fun no_span (ty_list i.inputs) i.result) t u h.3 e w)
cell_same Γ (TTypeFn n b) t u h e w = (h.0, h.1, takes_same Γ (Forall no_span n h.0) t u h.2 e w)
cell_same Γ (TIndexFn ss b) t u h e w = (h.0, h.1, takes_same Γ (Pi no_span ss h.0) t u h.2 e w)
cell_same Γ (TBoxed is b q) t u h e w = (h.0, h.1, takes_same Γ q t u h.2 e w)

pub cells_each : (Γ : Context) (xs : Cells typed) (t u : Ty) → CellsHave Γ xs t → Same t u → IsWellFormed Γ.types Γ.sorts u → Each (λ x. HasCell Γ x u) (cell_items xs)
cells_each Γ no_cells t u h e w = tt
cells_each Γ (more_cells x xs) t u h e w = (cell_same Γ x t u h.0 e w, cells_each Γ xs t u h.1 e w)

pub each_cells : (Γ : Context) (xs : List (Cell typed)) (t : Ty) → Each (λ x. HasCell Γ x t) xs → CellsHave Γ (cell_list xs) t
each_cells Γ [] t h = tt
each_cells Γ (x ∷ xs) t h = (h.0, each_cells Γ xs t h.1)

pub count_items : (xs : Cells typed) → length (cell_items xs) ≡ cell_count xs
count_items no_cells = refl
count_items (more_cells x xs) = ap suc (count_items xs)

pub count_list : (xs : List (Cell typed)) → cell_count (cell_list xs) ≡ length xs
count_list [] = refl
count_list (x ∷ xs) = ap suc (count_list xs)

-- ---- values

-- an array literal or an empty one
abbrev pub IsArr : TypedTerm → Type 0
IsArr (TArray dims xs) = Unit {0}
IsArr (TNoAtoms dims a) = Unit {0}
IsArr _ = ⊥

module _ (D : List Ty) where
  -- what a value of a type holds
  pub record Parts (t : TypedTerm) (a : Ty) (s : Index) : Type 0 where
    pub dims : dims_of typed_rules t ≡ shape_val closed s
    pub count : length (atoms_of typed_rules t) ≡ product (dims_of typed_rules t)
    pub atoms : Each (λ x. HasCell (defs_only D) x a) (atoms_of typed_rules t)

  pub parts_of : (t : TypedTerm) (a : Ty) (s : Index) → IsArr t → HasTerm (defs_only D) t (array_of a s) → Parts t a s
  parts_of (TArray dims no_cells) a s v h = absurd h
  parts_of (TArray dims (more_cells x xs)) a s v h =
      record {
        dims = sym (numbers_val closed dims) ∙ h.3.1.1 closed;
        count = ap suc (count_items xs) ∙ h.4;
        atoms = (cell_same (defs_only D) x h.0 a h.1 h.3.1.0 h.3.0.2, cells_each (defs_only D) xs h.0 a h.2 h.3.1.0 h.3.0.2);
      }
  parts_of (TNoAtoms dims n) a s v h = record { dims = sym (numbers_val closed dims) ∙ h.1.1.1 closed; count = sym h.2; atoms = tt }
  parts_of _ a s v h = absurd v

  -- a term whose shape has the value of what a rule concludes has the concluded type
  pub fits : (t : TypedTerm) (a : Ty) (s : Index) (b : Ty) (i : Index) (T : Ty) → HasTerm (defs_only D) t (array_of a s) → Same a b → shape_val closed s ≡ shape_val closed i → Takes (defs_only D) (array_of b i) T → HasTerm (defs_only D) t T
  fits t a s b i (Arr at c j) h e same k =
      let w = type_formed (defs_only D) t (array_of a s) h in
      term_same (defs_only D) t (array_of a s) (Arr at c j) h
      (same_trans a b c e k.1.0, λ v. closed_shape s w.1 v closed ∙ same ∙ k.1.1 closed ∙ closed_shape j k.0.1 closed v)
      k.0
  fits t a s b i _ h e same k = absurd k.1

  -- an array of atoms of one type, with a note for the empty case that equals it
  pub array_has : (n a : Ty) (dims : List ℕ) (xs : List (Cell typed)) → IsAtomType (defs_only D) n → IsAtomType (defs_only D) a → Same n a
      → Each (λ x. HasCell (defs_only D) x a) xs → length xs ≡ product dims → HasTerm (defs_only D) (array_term typed_rules n (array dims xs)) (array_of a (numbers dims))
  array_has n a dims [] ok w e h c = (ok, ((w.0, numbers_sorted [] dims, w.1), (e, λ v. refl)), sym c)
  array_has n a dims (x ∷ xs) ok w e h c =
      (a, h.0, each_cells (defs_only D) xs a h.1, ((w.0, numbers_sorted [] dims, w.1), same_refl (array_of a (numbers dims))), ap suc (count_list xs) ∙ c)

  -- an array made of a value's atoms
  pub part_has : (t : TypedTerm) (a : Ty) (s : Index) (dims : List ℕ) (xs : List (Cell typed)) → IsArr t → HasTerm (defs_only D) t (array_of a s)
      → Each (λ x. HasCell (defs_only D) x a) xs → length xs ≡ product dims
      → (product dims ≡ 0 → product (dims_of typed_rules t) ≡ 0) → (product (dims_of typed_rules t) ≡ 0 → product dims ≡ 0)
      → HasTerm (defs_only D) (part_of typed_rules t (array dims xs)) (array_of a (numbers dims))
  part_has (TArray d no_cells) a s dims xs v h k c f g = absurd h
  part_has (TArray d (more_cells y ys)) a s dims [] v h k c f g = let z = f (sym c) in let e = h.4 in absurd (omega arith)
  part_has (TArray d (more_cells y ys)) a s dims (x ∷ xs) v h k c f g =
      let w = h.3.0 in
      (a, k.0, each_cells (defs_only D) xs a k.1, ((w.0, numbers_sorted [] dims, w.2), same_refl (array_of a (numbers dims))), ap suc (count_list xs) ∙ c)
  part_has (TNoAtoms d n) a s dims xs v h k c f g = let w = h.1.0 in (h.0, ((w.0, numbers_sorted [] dims, w.2), (h.1.1.0, λ v. refl)), g h.2)
  part_has _ a s dims xs v h k c f g = absurd v
