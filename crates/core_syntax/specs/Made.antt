-- Which syntax is well made, and how many nodes a program has.
use Rattle.std.specs.Prelude.{ℕ, suc, ◌+◌, ◌<◌, ◌≤◌, ◌^◌, ◌≡◌, false, List, [], ◌∷◌, length, ⊤}
use Rattle.core_syntax.specs.Syntax.{Index, Num, Var, Sum, Dims, Join, Indices, end, more, Ty, BaseTy, TyVar, Fun, Forall, Pi, Sigma, Arr, Tys, no_tys, more_tys, Expr, TermVar, DefVar, Array, NoAtoms, Frame, NoCells, App, TypeApp, IndexApp, Unbox, Exprs, no_exprs, more_exprs, Atom, IntAtom, BoolAtom, CharAtom, PrimAtom, Fn, TypeFn, IndexFn, Boxed, Atoms, no_atoms, more_atoms, Def, Program, ty_items, expr_items, atom_items}
use Rattle.core_syntax.specs.Lists.{Each, product}
use Rattle.core_syntax.specs.Kinds.{is_atom_kind}

-- the numbers of an index's variables are in range with so many variables in scope
abbrev mutual
  pub IndexMade : ℕ → Index → Type 0
  IndexMade n (Num at k) = ⊤
  IndexMade n (Var at k) = k < n
  IndexMade n (Sum at is) = IndicesMade n is
  IndexMade n (Dims at is) = IndicesMade n is
  IndexMade n (Join at is) = IndicesMade n is

  -- and those of each of a list
  pub IndicesMade : ℕ → Indices → Type 0
  IndicesMade n end = ⊤
  IndicesMade n (more i is) = IndexMade n i × IndicesMade n is

-- how many variables of each space are in scope, and how many definitions
pub record Scope : Type 0 where
  pub defs : ℕ
  pub types : ℕ
  pub indices : ℕ
  pub terms : ℕ

-- a scope under binders more
abbrev pub types_more : ℕ → Scope → Scope
types_more n Γ = record Γ { types = n + Γ.types }

abbrev pub indices_more : ℕ → Scope → Scope
indices_more n Γ = record Γ { indices = n + Γ.indices }

abbrev pub terms_more : ℕ → Scope → Scope
terms_more n Γ = record Γ { terms = n + Γ.terms }

-- fewer than 2^31 variables of each space
abbrev pub IsSmall : Scope → Type 0
IsSmall Γ = (Γ.types < 2 ^ 31) × (Γ.indices < 2 ^ 31) × (Γ.terms < 2 ^ 31)

-- a type in an array type's place is an array type
abbrev pub IsArray : Ty → Type 0
IsArray t = is_atom_kind t ≡ false

-- a type is well made: its variables are in range, its lists have items, and array types stand in their places
abbrev mutual
  pub TyMade : Scope → Ty → Type 0
  TyMade Γ (BaseTy at b) = ⊤
  TyMade Γ (TyVar at k) = k < Γ.types
  TyMade Γ (Fun at ts r) = (0 < length (ty_items ts)) × ArraysMade Γ ts × IsArray r × TyMade Γ r
  TyMade Γ (Forall at n t) = (0 < n) × IsSmall (types_more n Γ) × IsArray t × TyMade (types_more n Γ) t
  TyMade Γ (Pi at ss t) = (0 < length ss) × IsSmall (indices_more (length ss) Γ) × IsArray t × TyMade (indices_more (length ss) Γ) t
  TyMade Γ (Sigma at ss t) = (0 < length ss) × IsSmall (indices_more (length ss) Γ) × IsArray t × TyMade (indices_more (length ss) Γ) t
  TyMade Γ (Arr at t i) = TyMade Γ t × IndexMade Γ.indices i

  -- each is an array type
  pub ArraysMade : Scope → Tys → Type 0
  ArraysMade Γ no_tys = ⊤
  ArraysMade Γ (more_tys t ts) = IsArray t × TyMade Γ t × ArraysMade Γ ts

-- array types stand at each array type's place inside a type
abbrev mutual
  pub HoldsArrays : Ty → Type 0
  HoldsArrays (BaseTy at b) = ⊤
  HoldsArrays (TyVar at k) = ⊤
  HoldsArrays (Fun at ts r) = AreArrays ts × IsArray r × HoldsArrays r
  HoldsArrays (Forall at n t) = IsArray t × HoldsArrays t
  HoldsArrays (Pi at ss t) = IsArray t × HoldsArrays t
  HoldsArrays (Sigma at ss t) = IsArray t × HoldsArrays t
  HoldsArrays (Arr at t i) = HoldsArrays t

  -- each of a list is an array type, and they stand inside it
  pub AreArrays : Tys → Type 0
  AreArrays no_tys = ⊤
  AreArrays (more_tys t ts) = (IsArray t × HoldsArrays t) × AreArrays ts

-- the numbers of a type's variables are in range with so many type variables and index variables in scope, and fewer than 2^31 of each are in scope at each place
abbrev mutual
  pub TyInScope : ℕ → ℕ → Ty → Type 0
  TyInScope types indices (BaseTy at b) = ⊤
  TyInScope types indices (TyVar at k) = k < types
  TyInScope types indices (Fun at ts r) = TysInScope types indices ts × TyInScope types indices r
  TyInScope types indices (Forall at n t) = (n + types < 2 ^ 31) × TyInScope (n + types) indices t
  TyInScope types indices (Pi at ss t) = (length ss + indices < 2 ^ 31) × TyInScope types (length ss + indices) t
  TyInScope types indices (Sigma at ss t) = (length ss + indices < 2 ^ 31) × TyInScope types (length ss + indices) t
  TyInScope types indices (Arr at t i) = TyInScope types indices t × IndexMade indices i

  -- and those of each of a list
  pub TysInScope : ℕ → ℕ → Tys → Type 0
  TysInScope types indices no_tys = ⊤
  TysInScope types indices (more_tys t ts) = TyInScope types indices t × TysInScope types indices ts

-- a type is well made and an array type, as in an array type's place
abbrev pub ArrayMade : Scope → Ty → Type 0
ArrayMade Γ t = IsArray t × TyMade Γ t

-- dims of as many items, and dims of none
abbrev pub DimsOf : List ℕ → ℕ → Type 0
DimsOf dims n = (length dims ≤ 64) × (0 < n) × (n ≤ 2 ^ 24) × (product dims ≡ n)

abbrev pub DimsOfNone : List ℕ → Type 0
DimsOfNone dims = (length dims ≤ 64) × (product dims ≡ 0)

-- an expression or an atom is well made
abbrev mutual
  pub ExprMade : Scope → Expr → Type 0
  ExprMade Γ (TermVar at k) = k < Γ.terms
  ExprMade Γ (DefVar at k) = k < Γ.defs
  ExprMade Γ (Array at dims xs) = DimsOf dims (length (atom_items xs)) × AtomsMade Γ xs
  ExprMade Γ (NoAtoms at dims t) = DimsOfNone dims × TyMade Γ t
  ExprMade Γ (Frame at dims es) = DimsOf dims (length (expr_items es)) × ExprsMade Γ es
  ExprMade Γ (NoCells at dims t) = DimsOfNone dims × ArrayMade Γ t
  ExprMade Γ (App at f es) = ExprMade Γ f × (0 < length (expr_items es)) × ExprsMade Γ es
  ExprMade Γ (TypeApp at e ts) = ExprMade Γ e × (0 < length ts) × Each (TyMade Γ) ts
  ExprMade Γ (IndexApp at e is) = ExprMade Γ e × (0 < length is) × Each (IndexMade Γ.indices) is
  ExprMade Γ (Unbox at n e t b) =
      (0 < n) × ExprMade Γ e × ArrayMade Γ t × IsSmall (terms_more 1 (indices_more n Γ)) × ExprMade (terms_more 1 (indices_more n Γ)) b

  pub ExprsMade : Scope → Exprs → Type 0
  ExprsMade Γ no_exprs = ⊤
  ExprsMade Γ (more_exprs e es) = ExprMade Γ e × ExprsMade Γ es

  pub AtomMade : Scope → Atom → Type 0
  AtomMade Γ (IntAtom at z) = ⊤
  AtomMade Γ (BoolAtom at b) = ⊤
  AtomMade Γ (CharAtom at c) = ⊤
  AtomMade Γ (PrimAtom at p) = ⊤
  AtomMade Γ (Fn at ts r e) =
      (0 < length (ty_items ts)) × ArraysMade Γ ts × ArrayMade Γ r × IsSmall (terms_more (length (ty_items ts)) Γ) × ExprMade (terms_more (length (ty_items ts)) Γ) e
  AtomMade Γ (TypeFn at n e) = (0 < n) × IsSmall (types_more n Γ) × ExprMade (types_more n Γ) e
  AtomMade Γ (IndexFn at ss e) = (0 < length ss) × IsSmall (indices_more (length ss) Γ) × ExprMade (indices_more (length ss) Γ) e
  AtomMade Γ (Boxed at is e t) = (0 < length is) × Each (IndexMade Γ.indices) is × ExprMade Γ e × TyMade Γ t

  pub AtomsMade : Scope → Atoms → Type 0
  AtomsMade Γ no_atoms = ⊤
  AtomsMade Γ (more_atoms a xs) = AtomMade Γ a × AtomsMade Γ xs

-- expression and atom nodes
abbrev mutual
  pub expr_nodes : Expr → ℕ
  expr_nodes (TermVar at k) = 1
  expr_nodes (DefVar at k) = 1
  expr_nodes (Array at dims xs) = 1 + atoms_nodes xs
  expr_nodes (NoAtoms at dims t) = 1
  expr_nodes (Frame at dims es) = 1 + exprs_nodes es
  expr_nodes (NoCells at dims t) = 1
  expr_nodes (App at f es) = 1 + (expr_nodes f + exprs_nodes es)
  expr_nodes (TypeApp at e ts) = 1 + expr_nodes e
  expr_nodes (IndexApp at e is) = 1 + expr_nodes e
  expr_nodes (Unbox at n e t b) = 1 + (expr_nodes e + expr_nodes b)

  pub exprs_nodes : Exprs → ℕ
  exprs_nodes no_exprs = 0
  exprs_nodes (more_exprs e es) = expr_nodes e + exprs_nodes es

  pub atom_nodes : Atom → ℕ
  atom_nodes (IntAtom at z) = 1
  atom_nodes (BoolAtom at b) = 1
  atom_nodes (CharAtom at c) = 1
  atom_nodes (PrimAtom at p) = 1
  atom_nodes (Fn at ts r e) = 1 + expr_nodes e
  atom_nodes (TypeFn at n e) = 1 + expr_nodes e
  atom_nodes (IndexFn at ss e) = 1 + expr_nodes e
  atom_nodes (Boxed at is e t) = 1 + expr_nodes e

  pub atoms_nodes : Atoms → ℕ
  atoms_nodes no_atoms = 0
  atoms_nodes (more_atoms a xs) = atom_nodes a + atoms_nodes xs

-- the nodes of a program's definitions and of its body
abbrev pub defs_nodes : List Def → ℕ
defs_nodes [] = 0
defs_nodes (d ∷ ds) = expr_nodes d.value + defs_nodes ds

abbrev pub nodes : Program → ℕ
nodes P = defs_nodes P.defs + expr_nodes P.body

-- the scope of closed code behind so many definitions
abbrev pub behind_defs : ℕ → Scope
behind_defs n = record { defs = n; types = 0; indices = 0; terms = 0 }

abbrev pub DefsMade : ℕ → List Def → Type 0
DefsMade n [] = ⊤
DefsMade n (d ∷ ds) = ArrayMade (behind_defs n) d.ty × ExprMade (behind_defs n) d.value × DefsMade (suc n) ds

-- a program is well made
pub record IsWellMade (P : Program) : Type 0 where
  pub defs : DefsMade 0 P.defs
  pub inputs : Each (ArrayMade (behind_defs 0)) P.inputs
  pub body : ExprMade (terms_more (length P.inputs) (behind_defs (length P.defs))) P.body
  pub nodes_few : nodes P < 2 ^ 30
  pub defs_few : length P.defs < 2 ^ 30
  pub inputs_few : length P.inputs < 2 ^ 30
