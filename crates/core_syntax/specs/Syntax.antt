-- The language's syntax. Variables count from the innermost binder, 0 first. Each node has its place in the source.
use Rattle.std.specs.Prelude.{ℕ, ℤ, Bool, List, [], ◌∷◌}
use Rattle.core_syntax.specs.declared.span.Span.{Span}
use Rattle.core_syntax.specs.declared.index.Sort.{Sort}
use Rattle.core_syntax.specs.declared.ty.Base.{Base}
use Rattle.core_syntax.specs.declared.primitive.Primitive.{Primitive}

mutual
  -- an index: a number, a variable, a sum, a list of dims, shapes joined
  pub data Index : Type 0 where
    Num : Span → ℕ → Index
    Var : Span → ℕ → Index
    Sum : Span → Indices → Index
    Dims : Span → Indices → Index
    Join : Span → Indices → Index

  -- a list of indices
  pub data Indices : Type 0 where
    end : Indices
    more : Index → Indices → Indices

mutual
  -- a type
  pub data Ty : Type 0 where
    BaseTy : Span → Base → Ty
    TyVar : Span → ℕ → Ty
    Fun : Span → Tys → Ty → Ty
    Forall : Span → ℕ → Ty → Ty
    Pi : Span → List Sort → Ty → Ty
    Sigma : Span → List Sort → Ty → Ty
    Arr : Span → Ty → Index → Ty

  -- a list of types
  pub data Tys : Type 0 where
    no_tys : Tys
    more_tys : Ty → Tys → Tys

mutual
  -- an expression
  pub data Expr : Type 0 where
    TermVar : Span → ℕ → Expr
    DefVar : Span → ℕ → Expr
    Array : Span → List ℕ → Atoms → Expr
    NoAtoms : Span → List ℕ → Ty → Expr
    Frame : Span → List ℕ → Exprs → Expr
    NoCells : Span → List ℕ → Ty → Expr
    App : Span → Expr → Exprs → Expr
    TypeApp : Span → Expr → List Ty → Expr
    IndexApp : Span → Expr → List Index → Expr
    Unbox : Span → ℕ → Expr → Ty → Expr → Expr

  -- a list of expressions
  pub data Exprs : Type 0 where
    no_exprs : Exprs
    more_exprs : Expr → Exprs → Exprs

  -- an atom
  pub data Atom : Type 0 where
    IntAtom : Span → ℤ → Atom
    BoolAtom : Span → Bool → Atom
    CharAtom : Span → ℕ → Atom
    PrimAtom : Span → Primitive → Atom
    Fn : Span → Tys → Ty → Expr → Atom
    TypeFn : Span → ℕ → Expr → Atom
    IndexFn : Span → List Sort → Expr → Atom
    Boxed : Span → List Index → Expr → Ty → Atom

  -- a list of atoms
  pub data Atoms : Type 0 where
    no_atoms : Atoms
    more_atoms : Atom → Atoms → Atoms

-- a definition: its place, its type and its expression
pub record Def : Type 0 where
  pub at : Span
  pub ty : Ty
  pub value : Expr

-- a program: its definitions, the types of its inputs, and its body
pub record Program : Type 0 where
  pub defs : List Def
  pub inputs : List Ty
  pub body : Expr

-- the place of a node that no source text has
abbrev pub no_span : Span
no_span = record { from = 0; to = 0; line = 1; col = 1 }

-- where a node stands
abbrev pub index_at : Index → Span
index_at (Num at n) = at
index_at (Var at k) = at
index_at (Sum at is) = at
index_at (Dims at is) = at
index_at (Join at is) = at

-- the items of a list
abbrev pub index_items : Indices → List Index
index_items end = []
index_items (more i is) = i ∷ index_items is

-- a list with these items
abbrev pub index_list : List Index → Indices
index_list [] = end
index_list (i ∷ is) = more i (index_list is)

-- where a type, an expression and an atom stand
abbrev pub ty_at : Ty → Span
ty_at (BaseTy at b) = at
ty_at (TyVar at k) = at
ty_at (Fun at ts r) = at
ty_at (Forall at n t) = at
ty_at (Pi at ss t) = at
ty_at (Sigma at ss t) = at
ty_at (Arr at t i) = at

abbrev pub expr_at : Expr → Span
expr_at (TermVar at k) = at
expr_at (DefVar at k) = at
expr_at (Array at dims xs) = at
expr_at (NoAtoms at dims t) = at
expr_at (Frame at dims es) = at
expr_at (NoCells at dims t) = at
expr_at (App at f es) = at
expr_at (TypeApp at e ts) = at
expr_at (IndexApp at e is) = at
expr_at (Unbox at n e t b) = at

abbrev pub atom_at : Atom → Span
atom_at (IntAtom at z) = at
atom_at (BoolAtom at b) = at
atom_at (CharAtom at c) = at
atom_at (PrimAtom at p) = at
atom_at (Fn at ts r e) = at
atom_at (TypeFn at n e) = at
atom_at (IndexFn at ss e) = at
atom_at (Boxed at is e t) = at

-- the items of a list of each kind
abbrev pub ty_items : Tys → List Ty
ty_items no_tys = []
ty_items (more_tys t ts) = t ∷ ty_items ts

abbrev pub expr_items : Exprs → List Expr
expr_items no_exprs = []
expr_items (more_exprs e es) = e ∷ expr_items es

abbrev pub atom_items : Atoms → List Atom
atom_items no_atoms = []
atom_items (more_atoms a xs) = a ∷ atom_items xs

-- the list of these types
abbrev pub ty_list : List Ty → Tys
ty_list [] = no_tys
ty_list (t ∷ ts) = more_tys t (ty_list ts)
