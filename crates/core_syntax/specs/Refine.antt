-- The syntax that a tree of the program stands for.
use Rattle.std.specs.Prelude.{List, [], ◌∷◌}
use Rattle.core_syntax.specs.declared.span.Span.{Span}
use Rattle.core_syntax.specs.declared.index.Index.{Index}
use Rattle.core_syntax.specs.declared.index.IndexForm.{IndexForm, Row_of-Index, end_of-Index, more_of-Index}
use Rattle.core_syntax.specs.declared.index.IndexForm.TheVariants.{Num, Var, Sum', Dims', Join'}
use Rattle.core_syntax.specs.declared.ty.Ty.{Ty}
use Rattle.core_syntax.specs.declared.ty.TyForm.{TyForm, Row_of-Ty, end_of-Ty, more_of-Ty}
use Rattle.core_syntax.specs.declared.ty.TyForm.TheVariants as ty
use Rattle.core_syntax.specs.declared.expr.Expr.{Expr}
use Rattle.core_syntax.specs.declared.expr.Atom.{Atom}
use Rattle.core_syntax.specs.declared.expr.ExprForm.{ExprForm, Row_of-Expr, end_of-Expr, more_of-Expr, Row_of-Atom, end_of-Atom, more_of-Atom}
use Rattle.core_syntax.specs.declared.expr.AtomForm.{AtomForm}
use Rattle.core_syntax.specs.declared.expr.ExprForm.TheVariants as expr
use Rattle.core_syntax.specs.declared.expr.AtomForm.TheVariants as atom
use Rattle.core_syntax.specs.Lists.{each}
use Rattle.core_syntax.specs.Syntax as syntax

abbrev mutual
  -- the index of a form at a place
  pub form_of : Span → IndexForm → syntax.Index
  form_of at (Num n) = syntax.Num at n
  form_of at (Var k) = syntax.Var at k
  form_of at (Sum' s row) = syntax.Sum at (row_of row)
  form_of at (Dims' s row) = syntax.Dims at (row_of row)
  form_of at (Join' s row) = syntax.Join at (row_of row)

  -- the indices of the parts of a form
  pub row_of : {m : _} → Row_of-Index m → syntax.Indices
  row_of end_of-Index = syntax.end
  row_of (more_of-Index at form rest) = syntax.more (form_of at form) (row_of rest)

-- the index of a tree
abbrev pub index_of : Index → syntax.Index
index_of i = form_of i.at i.form

-- the indices of a list of trees
abbrev pub indices_of : List Index → syntax.Indices
indices_of [] = syntax.end
indices_of (i ∷ is) = syntax.more (index_of i) (indices_of is)

abbrev mutual
  -- the type of a form at a place
  pub ty_form_of : Span → TyForm → syntax.Ty
  ty_form_of at (ty.Base b) = syntax.BaseTy at b
  ty_form_of at (ty.Var k) = syntax.TyVar at k
  ty_form_of at (ty.Fun' s row s' r) = syntax.Fun at (ty_row_of row) (sole_ty_of r)
  ty_form_of at (ty.Forall' n s t) = syntax.Forall at n (sole_ty_of t)
  ty_form_of at (ty.Pi' ss s t) = syntax.Pi at ss (sole_ty_of t)
  ty_form_of at (ty.Sigma' ss s t) = syntax.Sigma at ss (sole_ty_of t)
  ty_form_of at (ty.Arr' s t i) = syntax.Arr at (sole_ty_of t) (index_of i)

  -- the types of the parts of a form
  pub ty_row_of : {m : _} → Row_of-Ty m → syntax.Tys
  ty_row_of end_of-Ty = syntax.no_tys
  ty_row_of (more_of-Ty at t rest) = syntax.more_tys (ty_form_of at t) (ty_row_of rest)

  -- a boxed type is a row of one
  pub sole_ty_of : {m : _} → Row_of-Ty m → syntax.Ty
  sole_ty_of end_of-Ty = syntax.TyVar syntax.no_span 0
  sole_ty_of (more_of-Ty at t rest) = ty_form_of at t

-- the type of a tree, and the types of a list of trees
abbrev pub ty_of : Ty → syntax.Ty
ty_of t = ty_form_of t.at t.form

abbrev pub tys_of : List Ty → syntax.Tys
tys_of [] = syntax.no_tys
tys_of (t ∷ ts) = syntax.more_tys (ty_of t) (tys_of ts)

abbrev mutual
  -- the expression of a form at a place
  pub expr_form_of : Span → ExprForm → syntax.Expr
  expr_form_of at (expr.Var k) = syntax.TermVar at k
  expr_form_of at (expr.Def k) = syntax.DefVar at k
  expr_form_of at (expr.Array' dims s row) = syntax.Array at dims (atom_row_of row)
  expr_form_of at (expr.NoAtoms dims t) = syntax.NoAtoms at dims (ty_of t)
  expr_form_of at (expr.Frame' dims s row) = syntax.Frame at dims (expr_row_of row)
  expr_form_of at (expr.NoCells dims t) = syntax.NoCells at dims (ty_of t)
  expr_form_of at (expr.App' s f s' row) = syntax.App at (sole_expr_of f) (expr_row_of row)
  expr_form_of at (expr.TypeApp' s e ts) = syntax.TypeApp at (sole_expr_of e) (each ty_of ts)
  expr_form_of at (expr.IndexApp' s e is) = syntax.IndexApp at (sole_expr_of e) (each index_of is)
  expr_form_of at (expr.Unbox' n s e t s' b) = syntax.Unbox at n (sole_expr_of e) (ty_of t) (sole_expr_of b)

  -- the expressions of the parts of a form
  pub expr_row_of : {m : _} → Row_of-Expr m → syntax.Exprs
  expr_row_of end_of-Expr = syntax.no_exprs
  expr_row_of (more_of-Expr at e rest) = syntax.more_exprs (expr_form_of at e) (expr_row_of rest)

  -- a boxed expression is a row of one
  pub sole_expr_of : {m : _} → Row_of-Expr m → syntax.Expr
  sole_expr_of end_of-Expr = syntax.TermVar syntax.no_span 0
  sole_expr_of (more_of-Expr at e rest) = expr_form_of at e

  -- the atom of a form at a place, and those of the parts of a form
  pub atom_form_of : Span → AtomForm → syntax.Atom
  atom_form_of at (atom.Int z) = syntax.IntAtom at z
  atom_form_of at (atom.Bool b) = syntax.BoolAtom at b
  atom_form_of at (atom.Char c) = syntax.CharAtom at c
  atom_form_of at (atom.Prim p) = syntax.PrimAtom at p
  atom_form_of at (atom.Fn' ts r s e) = syntax.Fn at (tys_of ts) (ty_of r) (sole_expr_of e)
  atom_form_of at (atom.TypeFn' n s e) = syntax.TypeFn at n (sole_expr_of e)
  atom_form_of at (atom.IndexFn' ss s e) = syntax.IndexFn at ss (sole_expr_of e)
  atom_form_of at (atom.Boxed' is s e t) = syntax.Boxed at (each index_of is) (sole_expr_of e) (ty_of t)

  pub atom_row_of : {m : _} → Row_of-Atom m → syntax.Atoms
  atom_row_of end_of-Atom = syntax.no_atoms
  atom_row_of (more_of-Atom at a rest) = syntax.more_atoms (atom_form_of at a) (atom_row_of rest)

-- the expression and the atom of a tree
abbrev pub expr_of : Expr → syntax.Expr
expr_of e = expr_form_of e.at e.form

abbrev pub atom_of : Atom → syntax.Atom
atom_of a = atom_form_of a.at a.form

-- the expressions and the atoms of lists of trees
abbrev pub exprs_of : List Expr → syntax.Exprs
exprs_of [] = syntax.no_exprs
exprs_of (e ∷ es) = syntax.more_exprs (expr_of e) (exprs_of es)

abbrev pub atoms_of : List Atom → syntax.Atoms
atoms_of [] = syntax.no_atoms
atoms_of (a ∷ xs) = syntax.more_atoms (atom_of a) (atoms_of xs)
