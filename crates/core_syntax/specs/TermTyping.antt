-- Which types a typed term has: the rules of expressions, with each annotation equal to what the rule finds at its place, and as many items as the dims say.
use Rattle.std.specs.Prelude.{ℕ, suc, ◌≡◌, List, [], ◌∷◌, length, Option, Some, None, slice_get, ⊤}
use Rattle.core_syntax.specs.declared.index.Sort.{Sort}
use Rattle.core_syntax.specs.declared.index.Sort.TheVariants as sort
use Rattle.core_syntax.specs.Syntax.{Index, Ty, Fun, Forall, Pi, Sigma, Tys, no_tys, more_tys, no_span, ty_list}
use Rattle.core_syntax.specs.Lists.{Each, EachTwo, product}
use Rattle.core_syntax.specs.Sorts.{IsSorted}
use Rattle.core_syntax.specs.Kinds.{IsWellFormed}
use Rattle.core_syntax.specs.Value.{IndexEqual, then_shape}
use Rattle.core_syntax.specs.TypeEqual.{TypeEqual}
use Rattle.core_syntax.specs.Subst.{ty_under_index, with_types, with_indices}
use Rattle.core_syntax.specs.Prims.{prim_type, array_of, int_ty, bool_ty, char_ty}
use Rattle.core_syntax.specs.Typing.{Context, times, under_types, under_sorts, under_terms, numbers, OnArr, OnSigma, Takes, IsAtomType, IsPrincipal, defs_only}
use Rattle.core_syntax.specs.Terms.{TVar, TDef, TArray, TNoAtoms, TFrame, TNoCells, TApp, TTypeApp, TIndexApp, TUnbox, Terms, no_terms, more_terms, Cell, TInt, TBool, TChar, TPrim, TFn, TTypeFn, TIndexFn, TBoxed, Cells, no_cells, more_cells}
use Rattle.core_syntax.specs.Typed.{typed, TypedTerm}

-- how many atoms a list has
abbrev pub cell_count : Cells typed → ℕ
cell_count no_cells = 0
cell_count (more_cells a xs) = suc (cell_count xs)

-- how many terms a list has
abbrev pub term_count : Terms typed → ℕ
term_count no_terms = 0
term_count (more_terms t ts) = suc (term_count ts)

-- an annotation equals the type that the rule finds
abbrev pub Notes : Context → Ty → Ty → Type 0
Notes Γ found note = TypeEqual Γ.types Γ.sorts found note

-- the atom type of the body of a Forall type with types in place
abbrev pub GivenTypes : Context → Ty → List Ty → (Ty → Type 0) → Type 0
GivenTypes Γ (Forall at n b) us P = (length us ≡ n) × Each (IsAtomType Γ) us × OnArr (with_types us b) (λ t s. P t)
GivenTypes Γ _ us P = ⊥

-- the atom type of the body of a Pi type with indices in place
abbrev pub GivenIndices : Context → Ty → List Index → (Ty → Type 0) → Type 0
GivenIndices Γ (Pi at ss b) is P = EachTwo (IsSorted Γ.sorts) ss is × OnArr (with_indices is b) (λ t s. P t)
GivenIndices Γ _ is P = ⊥

-- a primitive with the type arguments and index arguments that it has so far
abbrev pub PrimHas : Context → Ty → Option (List Ty) → Option (List Index) → Ty → Type 0
PrimHas Γ given None None t = Takes Γ given t
PrimHas Γ given (Some us) None t = GivenTypes Γ given us (λ u. Takes Γ u t)
PrimHas Γ given None (Some is) t = GivenIndices Γ given is (λ u. Takes Γ u t)
PrimHas Γ given (Some us) (Some is) t = GivenTypes Γ given us (λ u. GivenIndices Γ u is (λ w. Takes Γ w t))

-- a term has a type
abbrev mutual
  pub HasTerm : Context → TypedTerm → Ty → Type 0
  HasTerm Γ (TVar k) t = (u : Ty) × (slice_get Γ.terms k ≡ Some u) × Takes Γ u t
  HasTerm Γ (TDef k) t = (u : Ty) × (slice_get Γ.defs k ≡ Some u) × Takes Γ u t
  HasTerm Γ (TArray dims no_cells) t = ⊥
  HasTerm Γ (TArray dims (more_cells x xs)) t =
      (a : Ty) × HasCell Γ x a × CellsHave Γ xs a × Takes Γ (array_of a (numbers dims)) t × (cell_count (more_cells x xs) ≡ product dims)
  HasTerm Γ (TNoAtoms dims a) t = IsAtomType Γ a × Takes Γ (array_of a (numbers dims)) t × (product dims ≡ 0)
  HasTerm Γ (TFrame dims no_terms note) t = ⊥
  HasTerm Γ (TFrame dims (more_terms e ts) note) t =
      (a : Ty) × (s : Index) × HasTerm Γ e (array_of a s) × TermsHave Γ ts (array_of a s) × Notes Γ (array_of a s) note × Takes Γ (array_of a (then_shape (numbers dims) s)) t
      × (term_count (more_terms e ts) ≡ product dims)
  HasTerm Γ (TNoCells w) t = IsWellFormed Γ.types Γ.sorts w.cell × OnArr w.cell (λ a s. Takes Γ (array_of a (then_shape (numbers w.dims) s)) t) × (product w.dims ≡ 0)
  HasTerm Γ (TApp f ts cs note) t =
      (us : Tys) × (r : Ty) × (s : Index) × HasTerm Γ f (array_of (Fun no_span us r) s)
      × ((frames : List Index) × TermArgsHave Γ ts us cs frames × Notes Γ r note
      × ((p : Index) × IsPrincipal Γ (s ∷ frames) p × OnArr r (λ a c. Takes Γ (array_of a (then_shape p c)) t)))
  HasTerm Γ (TTypeApp e us note) t =
      (n : ℕ) × (b : Ty) × (s : Index) × HasTerm Γ e (array_of (Forall no_span n b) s) × (length us ≡ n) × Each (IsAtomType Γ) us
      × Notes Γ (with_types us b) note × OnArr (with_types us b) (λ a c. Takes Γ (array_of a (then_shape s c)) t)
  HasTerm Γ (TIndexApp e is note) t =
      (ss : List Sort) × (b : Ty) × (s : Index) × HasTerm Γ e (array_of (Pi no_span ss b) s) × EachTwo (IsSorted Γ.sorts) ss is
      × Notes Γ (with_indices is b) note × OnArr (with_indices is b) (λ a c. Takes Γ (array_of a (then_shape s c)) t)
  HasTerm Γ (TUnbox ss e b note) t =
      (c : Ty) × (s : Index) × HasTerm Γ e (array_of (Sigma no_span ss c) s) × IsWellFormed Γ.types Γ.sorts note
      × HasTerm (under_terms (c ∷ []) (under_sorts ss Γ)) b (times (length ss) ty_under_index note)
      × OnArr note (λ a w. Takes Γ (array_of a (then_shape s w)) t)

  -- each term has the type
  pub TermsHave : Context → Terms typed → Ty → Type 0
  TermsHave Γ no_terms t = ⊤
  TermsHave Γ (more_terms e es) t = HasTerm Γ e t × TermsHave Γ es t

  -- each argument has its input's atom type, and the shape of its frame followed by its cell, which equals the annotation
  pub TermArgsHave : Context → Terms typed → Tys → List Index → List Index → Type 0
  TermArgsHave Γ no_terms no_tys [] [] = ⊤
  TermArgsHave Γ (more_terms e es) (more_tys t ts) (c ∷ cs) (p ∷ ps) =
      OnArr t (λ a w. HasTerm Γ e (array_of a (then_shape p w)) × IndexEqual Γ.sorts sort.Shape w c) × TermArgsHave Γ es ts cs ps
  TermArgsHave Γ _ _ _ _ = ⊥

  -- an atom has a type
  pub HasCell : Context → Cell typed → Ty → Type 0
  HasCell Γ (TInt z) t = Takes Γ int_ty t
  HasCell Γ (TBool b) t = Takes Γ bool_ty t
  HasCell Γ (TChar c) t = Takes Γ char_ty t
  HasCell Γ (TPrim p us is) t = PrimHas Γ (prim_type p) us is t
  HasCell Γ (TFn i e) t =
      Each (IsWellFormed Γ.types Γ.sorts) i.inputs × IsWellFormed Γ.types Γ.sorts i.result × HasTerm (under_terms i.inputs Γ) e i.result
      × Takes Γ (Fun no_span (ty_list i.inputs) i.result) t
  HasCell Γ (TTypeFn n e) t = (u : Ty) × HasTerm (under_types n Γ) e u × Takes Γ (Forall no_span n u) t
  HasCell Γ (TIndexFn ss e) t = (u : Ty) × HasTerm (under_sorts ss Γ) e u × Takes Γ (Pi no_span ss u) t
  HasCell Γ (TBoxed is e u) t =
      IsAtomType Γ u × OnSigma u (λ ss b. EachTwo (IsSorted Γ.sorts) ss is × HasTerm Γ e (with_indices is b)) × Takes Γ u t

  -- each atom has the type
  pub CellsHave : Context → Cells typed → Ty → Type 0
  CellsHave Γ no_cells t = ⊤
  CellsHave Γ (more_cells a xs) t = HasCell Γ a t × CellsHave Γ xs t

-- a closed term has a type
abbrev pub HasClosed : List Ty → TypedTerm → Ty → Type 0
HasClosed defs t u = HasTerm (defs_only defs) t u

-- each definition, in its order, has its type
abbrev pub DefTermsTyped : List Ty → List TypedTerm → Type 0
DefTermsTyped tys ts = EachTwo (λ u t. HasClosed tys t u) tys ts
