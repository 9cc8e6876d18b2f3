-- That a program is well made is a fact with one proof.
use Rattle.std.specs.Prelude.{ℕ, suc, List, [], ◌∷◌, length, false}
use Rattle.std.specs.Coded.{×_prop, le_prop, Unit-prop, Coded-set, coded_bool, coded_ℕ}
use mathlib.Core.HLevel.{×₃_prop}
use Rattle.core_syntax.specs.Syntax.{Index, Num, Var, Sum, Dims, Join, Indices, end, more, Ty, BaseTy, TyVar, Fun, Forall, Pi, Sigma, Arr, Tys, no_tys, more_tys, Expr, TermVar, DefVar, Array, NoAtoms, Frame, NoCells, App, TypeApp, IndexApp, Unbox, Exprs, no_exprs, more_exprs, Atom, IntAtom, BoolAtom, CharAtom, PrimAtom, Fn, TypeFn, IndexFn, Boxed, Atoms, no_atoms, more_atoms, Def, Program, ty_items, expr_items, atom_items}
use Rattle.core_syntax.specs.Lists.{Each, product}
use Rattle.core_syntax.specs.Kinds.{is_atom_kind}
use Rattle.core_syntax.specs.Made.{Scope, types_more, indices_more, terms_more, IsSmall, IndexMade, IndicesMade, IsArray, TyMade, ArraysMade, ArrayMade, DimsOf, DimsOfNone, ExprMade, ExprsMade, AtomMade, AtomsMade, DefsMade, behind_defs, IsWellMade}

-- four facts, and five
four_prop : {A B C D : Type 0} → IsProp A → IsProp B → IsProp C → IsProp D → IsProp (A × B × C × D)
four_prop h k l m u v = λ i. (h u.0 v.0 i, k u.1 v.1 i, l u.2 v.2 i, m u.3 v.3 i)

five_prop : {A B C D E : Type 0} → IsProp A → IsProp B → IsProp C → IsProp D → IsProp E → IsProp (A × B × C × D × E)
five_prop h k l m n u v = λ i. (h u.0 v.0 i, k u.1 v.1 i, l u.2 v.2 i, m u.3 v.3 i, n u.4 v.4 i)

mutual
  index_prop : (n : ℕ) (i : Index) → IsProp (IndexMade n i)
  index_prop n (Num at k) = Unit-prop
  index_prop n (Var at k) = le_prop
  index_prop n (Sum at is) = indices_prop n is
  index_prop n (Dims at is) = indices_prop n is
  index_prop n (Join at is) = indices_prop n is

  indices_prop : (n : ℕ) (is : Indices) → IsProp (IndicesMade n is)
  indices_prop n end = Unit-prop
  indices_prop n (more i is) = ×_prop (index_prop n i) (indices_prop n is)

small_prop : (Γ : Scope) → IsProp (IsSmall Γ)
small_prop Γ = ×₃_prop le_prop le_prop le_prop

array_prop : (t : Ty) → IsProp (IsArray t)
array_prop t = Coded-set coded_bool (is_atom_kind t) false

each_prop : {A : Type 0} (P : A → Type 0) → ((x : A) → IsProp (P x)) → (xs : List A) → IsProp (Each P xs)
each_prop P p [] = Unit-prop
each_prop P p (x ∷ xs) = ×_prop (p x) (each_prop P p xs)

mutual
  ty_prop : (Γ : Scope) (t : Ty) → IsProp (TyMade Γ t)
  ty_prop Γ (BaseTy at b) = Unit-prop
  ty_prop Γ (TyVar at k) = le_prop
  ty_prop Γ (Fun at ts r) = four_prop le_prop (arrays_prop Γ ts) (array_prop r) (ty_prop Γ r)
  ty_prop Γ (Forall at n t) = four_prop le_prop (small_prop (types_more n Γ)) (array_prop t) (ty_prop (types_more n Γ) t)
  ty_prop Γ (Pi at ss t) = four_prop le_prop (small_prop (indices_more (length ss) Γ)) (array_prop t) (ty_prop (indices_more (length ss) Γ) t)
  ty_prop Γ (Sigma at ss t) = four_prop le_prop (small_prop (indices_more (length ss) Γ)) (array_prop t) (ty_prop (indices_more (length ss) Γ) t)
  ty_prop Γ (Arr at t i) = ×_prop (ty_prop Γ t) (index_prop Γ.indices i)

  arrays_prop : (Γ : Scope) (ts : Tys) → IsProp (ArraysMade Γ ts)
  arrays_prop Γ no_tys = Unit-prop
  arrays_prop Γ (more_tys t ts) = ×₃_prop (array_prop t) (ty_prop Γ t) (arrays_prop Γ ts)

array_made_prop : (Γ : Scope) (t : Ty) → IsProp (ArrayMade Γ t)
array_made_prop Γ t = ×_prop (array_prop t) (ty_prop Γ t)

dims_prop : (dims : List ℕ) (n : ℕ) → IsProp (DimsOf dims n)
dims_prop dims n = four_prop le_prop le_prop le_prop (Coded-set coded_ℕ (product dims) n)

none_prop : (dims : List ℕ) → IsProp (DimsOfNone dims)
none_prop dims = ×_prop le_prop (Coded-set coded_ℕ (product dims) 0)

mutual
  expr_prop : (Γ : Scope) (e : Expr) → IsProp (ExprMade Γ e)
  expr_prop Γ (TermVar at k) = le_prop
  expr_prop Γ (DefVar at k) = le_prop
  expr_prop Γ (Array at dims xs) = ×_prop (dims_prop dims (length (atom_items xs))) (atoms_prop Γ xs)
  expr_prop Γ (NoAtoms at dims t) = ×_prop (none_prop dims) (ty_prop Γ t)
  expr_prop Γ (Frame at dims es) = ×_prop (dims_prop dims (length (expr_items es))) (exprs_prop Γ es)
  expr_prop Γ (NoCells at dims t) = ×_prop (none_prop dims) (array_made_prop Γ t)
  expr_prop Γ (App at f es) = ×₃_prop (expr_prop Γ f) le_prop (exprs_prop Γ es)
  expr_prop Γ (TypeApp at e ts) = ×₃_prop (expr_prop Γ e) le_prop (each_prop (TyMade Γ) (ty_prop Γ) ts)
  expr_prop Γ (IndexApp at e is) = ×₃_prop (expr_prop Γ e) le_prop (each_prop (IndexMade Γ.indices) (index_prop Γ.indices) is)
  expr_prop Γ (Unbox at n e t b) =
      let Δ = terms_more 1 (indices_more n Γ) in
      five_prop le_prop (expr_prop Γ e) (array_made_prop Γ t) (small_prop Δ) (expr_prop Δ b)

  exprs_prop : (Γ : Scope) (es : Exprs) → IsProp (ExprsMade Γ es)
  exprs_prop Γ no_exprs = Unit-prop
  exprs_prop Γ (more_exprs e es) = ×_prop (expr_prop Γ e) (exprs_prop Γ es)

  atom_prop : (Γ : Scope) (a : Atom) → IsProp (AtomMade Γ a)
  atom_prop Γ (IntAtom at z) = Unit-prop
  atom_prop Γ (BoolAtom at b) = Unit-prop
  atom_prop Γ (CharAtom at c) = Unit-prop
  atom_prop Γ (PrimAtom at p) = Unit-prop
  atom_prop Γ (Fn at ts r e) =
      let Δ = terms_more (length (ty_items ts)) Γ in
      five_prop le_prop (arrays_prop Γ ts) (array_made_prop Γ r) (small_prop Δ) (expr_prop Δ e)
  atom_prop Γ (TypeFn at n e) = ×₃_prop le_prop (small_prop (types_more n Γ)) (expr_prop (types_more n Γ) e)
  atom_prop Γ (IndexFn at ss e) = ×₃_prop le_prop (small_prop (indices_more (length ss) Γ)) (expr_prop (indices_more (length ss) Γ) e)
  atom_prop Γ (Boxed at is e t) = four_prop le_prop (each_prop (IndexMade Γ.indices) (index_prop Γ.indices) is) (expr_prop Γ e) (ty_prop Γ t)

  atoms_prop : (Γ : Scope) (xs : Atoms) → IsProp (AtomsMade Γ xs)
  atoms_prop Γ no_atoms = Unit-prop
  atoms_prop Γ (more_atoms a xs) = ×_prop (atom_prop Γ a) (atoms_prop Γ xs)

defs_prop : (n : ℕ) (ds : List Def) → IsProp (DefsMade n ds)
defs_prop n [] = Unit-prop
defs_prop n (d ∷ ds) = ×₃_prop (array_made_prop (behind_defs n) d.ty) (expr_prop (behind_defs n) d.value) (defs_prop (suc n) ds)

pub IsWellMade-prop : (P : Program) → IsProp (IsWellMade P)
IsWellMade-prop P u v = λ i. record {
  defs = defs_prop 0 P.defs u.defs v.defs i;
  inputs = each_prop (ArrayMade (behind_defs 0)) (array_made_prop (behind_defs 0)) P.inputs u.inputs v.inputs i;
  body = expr_prop (terms_more (length P.inputs) (behind_defs (length P.defs))) P.body u.body v.body i;
  nodes_few = le_prop u.nodes_few v.nodes_few i;
  defs_few = le_prop u.defs_few v.defs_few i;
  inputs_few = le_prop u.inputs_few v.inputs_few i;
}
