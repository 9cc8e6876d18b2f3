-- Which types an expression has, and which programs are typed. The rules guess types and frames.
use Rattle.std.specs.Prelude.{ℕ, zero, suc, ◌+◌, ◌≡◌, Bool, true, false, ◌&&◌, List, [], ◌∷◌, ◌++◌, length, Some, slice_get, ⊤}
use Rattle.core_syntax.specs.declared.index.Sort.{Sort}
use Rattle.core_syntax.specs.Nodes.{number}
use Rattle.core_syntax.specs.Syntax.{Index, Ty, BaseTy, Fun, Forall, Pi, Sigma, Arr, Tys, no_tys, more_tys, Expr, TermVar, DefVar, Array, NoAtoms, Frame, NoCells, App, TypeApp, IndexApp, Unbox, Exprs, no_exprs, more_exprs, Atom, IntAtom, BoolAtom, CharAtom, PrimAtom, Fn, TypeFn, IndexFn, Boxed, Atoms, no_atoms, more_atoms, Def, Program, no_span, ty_items}
use Rattle.core_syntax.specs.Lists.{onto, each, Each, EachTwo}
use Rattle.core_syntax.specs.Sorts.{IsSorted}
use Rattle.core_syntax.specs.Kinds.{IsWellFormed, AreWellFormed, is_atom_kind}
use Rattle.core_syntax.specs.Value.{IsPrefix, then_shape}
use Rattle.core_syntax.specs.TypeEqual.{Same}
use Rattle.core_syntax.specs.Subst.{ty_under_index, ty_under_type, with_types, with_indices}
use Rattle.core_syntax.specs.Prims.{prim_type, array_of, int_ty, bool_ty, char_ty}
use Rattle.core_syntax.specs.Nodes.{vector}

-- what is in scope: the types of the definitions by their numbers, the count of type variables, and, the innermost first, the sorts of the index variables and the types of the term variables
pub record Context : Type 0 where
  pub defs : List Ty
  pub types : ℕ
  pub sorts : List Sort
  pub terms : List Ty

-- f done n times
abbrev pub times : {A : Type 0} → ℕ → (A → A) → A → A
times zero f a = a
times (suc n) f a = f (times n f a)

-- a context under n type binders more. Of the binders of one list the last is the innermost
abbrev pub under_types : ℕ → Context → Context
under_types n Γ = record Γ { types = n + Γ.types; terms = each (times n ty_under_type) Γ.terms }

-- a context under index binders of these sorts
abbrev pub under_sorts : List Sort → Context → Context
under_sorts ss Γ = record Γ { sorts = onto ss Γ.sorts; terms = each (times (length ss) ty_under_index) Γ.terms }

-- a context under term binders of these types
abbrev pub under_terms : List Ty → Context → Context
under_terms ts Γ = record Γ { terms = onto ts Γ.terms }

-- the shape of these numbers
abbrev pub numbers : List ℕ → Index
numbers ns = vector (each (λ n. number n) ns)

-- a fact of the atom type and the shape of an array type
abbrev pub OnArr : Ty → (Ty → Index → Type 0) → Type 0
OnArr (Arr at t i) P = P t i
OnArr _ P = ⊥

-- a fact of the sorts and the body of a Sigma type
abbrev pub OnSigma : Ty → (List Sort → Ty → Type 0) → Type 0
OnSigma (Sigma at ss t) P = P ss t
OnSigma _ P = ⊥

-- a well-formed type that equals the one that a rule gives
abbrev pub Takes : Context → Ty → Ty → Type 0
Takes Γ given t = IsWellFormed Γ.types Γ.sorts t × Same given t

-- a well-formed type of kind Atom
abbrev pub IsAtomType : Context → Ty → Type 0
IsAtomType Γ t = (is_atom_kind t ≡ true) × IsWellFormed Γ.types Γ.sorts t

-- one of the frames, of which all are prefixes
abbrev pub IsPrincipal : Context → List Index → Index → Type 0
IsPrincipal Γ frames p = (k : ℕ) × (slice_get frames k ≡ Some p) × Each (λ q. IsPrefix Γ.sorts q p) frames

-- an expression has a type
abbrev mutual
  pub Has : Context → Expr → Ty → Type 0
  Has Γ (TermVar at k) t = (u : Ty) × (slice_get Γ.terms k ≡ Some u) × Takes Γ u t
  Has Γ (DefVar at k) t = (u : Ty) × (slice_get Γ.defs k ≡ Some u) × Takes Γ u t
  Has Γ (Array at dims no_atoms) t = ⊥
  Has Γ (Array at dims (more_atoms x xs)) t = (a : Ty) × HasAtom Γ x a × AtomsHave Γ xs a × Takes Γ (array_of a (numbers dims)) t
  Has Γ (NoAtoms at dims a) t = IsAtomType Γ a × Takes Γ (array_of a (numbers dims)) t
  Has Γ (Frame at dims no_exprs) t = ⊥
  Has Γ (Frame at dims (more_exprs e es)) t =
      (a : Ty) × (s : Index) × Has Γ e (array_of a s) × ExprsHave Γ es (array_of a s) × Takes Γ (array_of a (then_shape (numbers dims) s)) t
  Has Γ (NoCells at dims u) t = IsWellFormed Γ.types Γ.sorts u × OnArr u (λ a s. Takes Γ (array_of a (then_shape (numbers dims) s)) t)
  Has Γ (App at f es) t =
      (ts : Tys) × (r : Ty) × (s : Index) × Has Γ f (array_of (Fun no_span ts r) s)
      × ((frames : List Index) × ArgsHave Γ es ts frames
      × ((p : Index) × IsPrincipal Γ (s ∷ frames) p × OnArr r (λ a c. Takes Γ (array_of a (then_shape p c)) t)))
  Has Γ (TypeApp at e us) t =
      (n : ℕ) × (b : Ty) × (s : Index) × Has Γ e (array_of (Forall no_span n b) s) × (length us ≡ n) × Each (IsAtomType Γ) us
      × OnArr (with_types us b) (λ a c. Takes Γ (array_of a (then_shape s c)) t)
  Has Γ (IndexApp at e is) t =
      (ss : List Sort) × (b : Ty) × (s : Index) × Has Γ e (array_of (Pi no_span ss b) s) × EachTwo (IsSorted Γ.sorts) ss is
      × OnArr (with_indices is b) (λ a c. Takes Γ (array_of a (then_shape s c)) t)
  Has Γ (Unbox at n e u b) t =
      (ss : List Sort) × (c : Ty) × (s : Index) × Has Γ e (array_of (Sigma no_span ss c) s) × (length ss ≡ n) × IsWellFormed Γ.types Γ.sorts u
      × Has (under_terms (c ∷ []) (under_sorts ss Γ)) b (times n ty_under_index u)
      × OnArr u (λ a w. Takes Γ (array_of a (then_shape s w)) t)

  -- each expression has the type
  pub ExprsHave : Context → Exprs → Ty → Type 0
  ExprsHave Γ no_exprs t = ⊤
  ExprsHave Γ (more_exprs e es) t = Has Γ e t × ExprsHave Γ es t

  -- each argument has the atom type of its input type, and the shape of its frame followed by its cell
  pub ArgsHave : Context → Exprs → Tys → List Index → Type 0
  ArgsHave Γ no_exprs no_tys [] = ⊤
  ArgsHave Γ (more_exprs e es) (more_tys t ts) (p ∷ ps) = OnArr t (λ a c. Has Γ e (array_of a (then_shape p c))) × ArgsHave Γ es ts ps
  ArgsHave Γ _ _ _ = ⊥

  -- an atom has a type
  pub HasAtom : Context → Atom → Ty → Type 0
  HasAtom Γ (IntAtom at z) t = Takes Γ int_ty t
  HasAtom Γ (BoolAtom at b) t = Takes Γ bool_ty t
  HasAtom Γ (CharAtom at c) t = Takes Γ char_ty t
  HasAtom Γ (PrimAtom at p) t = Takes Γ (prim_type p) t
  HasAtom Γ (Fn at ts r e) t =
      AreWellFormed Γ.types Γ.sorts ts × IsWellFormed Γ.types Γ.sorts r × Has (under_terms (ty_items ts) Γ) e r × Takes Γ (Fun no_span ts r) t
  HasAtom Γ (TypeFn at n e) t = (u : Ty) × Has (under_types n Γ) e u × Takes Γ (Forall no_span n u) t
  HasAtom Γ (IndexFn at ss e) t = (u : Ty) × Has (under_sorts ss Γ) e u × Takes Γ (Pi no_span ss u) t
  HasAtom Γ (Boxed at is e u) t =
      IsAtomType Γ u × OnSigma u (λ ss b. EachTwo (IsSorted Γ.sorts) ss is × Has Γ e (with_indices is b)) × Takes Γ u t

  -- each atom has the type
  pub AtomsHave : Context → Atoms → Ty → Type 0
  AtomsHave Γ no_atoms t = ⊤
  AtomsHave Γ (more_atoms a xs) t = HasAtom Γ a t × AtomsHave Γ xs t

-- an atom that a definition's value may hold
abbrev pub is_value_atom : Atom → Bool
is_value_atom (IntAtom at z) = true
is_value_atom (BoolAtom at b) = true
is_value_atom (CharAtom at c) = true
is_value_atom (PrimAtom at p) = true
is_value_atom (Fn at ts r e) = true
is_value_atom (TypeFn at n e) = true
is_value_atom (IndexFn at ss e) = true
is_value_atom (Boxed at is e t) = false

-- each atom is one
abbrev pub are_value_atoms : Atoms → Bool
are_value_atoms no_atoms = true
are_value_atoms (more_atoms a xs) = is_value_atom a && are_value_atoms xs

-- a syntactic value: an array literal without boxes
abbrev pub is_syntactic_value : Expr → Bool
is_syntactic_value (Array at dims xs) = are_value_atoms xs
is_syntactic_value (NoAtoms at dims t) = true
is_syntactic_value _ = false

-- a printable type: an array of base atoms, or of boxes with printable content
abbrev mutual
  pub is_printable : Ty → Bool
  is_printable (Arr at t i) = is_printable_atom t
  is_printable _ = false

  -- the atoms of a printable type
  pub is_printable_atom : Ty → Bool
  is_printable_atom (BaseTy at b) = true
  is_printable_atom (Sigma at ss t) = is_printable t
  is_printable_atom _ = false

-- no variables, and these definitions
abbrev pub defs_only : List Ty → Context
defs_only defs = record { defs = defs; types = 0; sorts = []; terms = [] }

-- a definition behind those with these types
abbrev pub DefTyped : List Ty → Def → Type 0
DefTyped earlier d = IsWellFormed 0 [] d.ty × (is_syntactic_value d.value ≡ true) × Has (defs_only earlier) d.value d.ty

-- definitions in order, each behind those with these types
abbrev pub DefsTyped : List Ty → List Def → Type 0
DefsTyped earlier [] = ⊤
DefsTyped earlier (d ∷ ds) = DefTyped earlier d × DefsTyped (earlier ++ d.ty ∷ []) ds

-- the context of a program's body, and that of a definition by the types of all definitions
abbrev pub body_context : Program → Context
body_context P = under_terms P.inputs (defs_only (each (λ d. d.ty) P.defs))

-- a program is typed
pub record Typed (P : Program) : Type 0 where
  pub defs : DefsTyped [] P.defs
  pub inputs : Each (λ t. IsWellFormed 0 [] t × (is_printable t ≡ true)) P.inputs
  pub body : (t : Ty) × (is_printable t ≡ true) × Has (body_context P) P.body t
