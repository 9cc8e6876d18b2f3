-- A tree of an expression or an atom stands for that of what its parts stand for.
use Rattle.std.proofs.Common.{◌≡◌, refl, ap, ℕ, List, [], ◌∷◌}
use Rattle.core_syntax.specs.declared.span.Span.{Span}
use Rattle.core_syntax.specs.declared.index.Index.{Index}
use Rattle.core_syntax.specs.declared.index.Sort.{Sort}
use Rattle.core_syntax.specs.declared.ty.Ty.{Ty}
use Rattle.core_syntax.specs.declared.expr.Expr.{Expr}
use Rattle.core_syntax.specs.declared.expr.Atom.{Atom}
use Rattle.core_syntax.specs.declared.expr.ExprForm.{Array, Frame, App, TypeApp, IndexApp, Unbox}
use Rattle.core_syntax.specs.declared.expr.AtomForm.TheBlock.{hidden-the_row-Expr-0, hidden-the_row-Atom-1, hidden-the_row-Expr-2}
use Rattle.core_syntax.specs.declared.expr.AtomForm.{Fn, TypeFn, IndexFn, Boxed}
use Rattle.core_syntax.specs.Lists.{each}
use Rattle.core_syntax.specs.Refine.{index_of, ty_of, tys_of, expr_form_of, atom_form_of, expr_of, exprs_of, atom_of, atoms_of}
use Rattle.core_syntax.specs.Syntax as syntax

-- the items of an array, the cells of a frame, the arguments of an application
abbrev items_of : syntax.Expr → syntax.Atoms
items_of (syntax.Array at dims xs) = xs
items_of _ = syntax.no_atoms

abbrev cells_of : syntax.Expr → syntax.Exprs
cells_of (syntax.Frame at dims es) = es
cells_of (syntax.App at f es) = es
cells_of _ = syntax.no_exprs

pub form_of_array : (at : Span) (dims : List ℕ) (xs : List Atom) → expr_form_of at (Array dims xs) ≡ syntax.Array at dims (atoms_of xs)
unfolding hidden-the_row-Atom-1 denote.Hole.Carrier.hidden
form_of_array at dims [] = refl
form_of_array at dims (x ∷ xs) = ap (λ u. syntax.Array at dims (syntax.more_atoms (atom_of x) (items_of u))) (form_of_array at dims xs)

pub form_of_frame : (at : Span) (dims : List ℕ) (es : List Expr) → expr_form_of at (Frame dims es) ≡ syntax.Frame at dims (exprs_of es)
unfolding hidden-the_row-Expr-0 hidden-the_row-Expr-2 denote.Hole.Carrier.hidden
form_of_frame at dims [] = refl
form_of_frame at dims (e ∷ es) = ap (λ u. syntax.Frame at dims (syntax.more_exprs (expr_of e) (cells_of u))) (form_of_frame at dims es)

pub form_of_app : (at : Span) (f : Expr) (es : List Expr) → expr_form_of at (App f es) ≡ syntax.App at (expr_of f) (exprs_of es)
unfolding hidden-the_row-Expr-0 hidden-the_row-Expr-2 denote.Hole.Carrier.hidden
form_of_app at f [] = refl
form_of_app at f (e ∷ es) = ap (λ u. syntax.App at (expr_of f) (syntax.more_exprs (expr_of e) (cells_of u))) (form_of_app at f es)

pub form_of_type_app : (at : Span) (f : Expr) (ts : List Ty) → expr_form_of at (TypeApp f ts) ≡ syntax.TypeApp at (expr_of f) (each ty_of ts)
unfolding hidden-the_row-Expr-0 hidden-the_row-Expr-2 denote.Hole.Carrier.hidden
form_of_type_app at f ts = refl

pub form_of_index_app : (at : Span) (f : Expr) (is : List Index) → expr_form_of at (IndexApp f is) ≡ syntax.IndexApp at (expr_of f) (each index_of is)
unfolding hidden-the_row-Expr-0 hidden-the_row-Expr-2 denote.Hole.Carrier.hidden
form_of_index_app at f is = refl

pub form_of_unbox : (at : Span) (n : ℕ) (e : Expr) (t : Ty) (b : Expr) → expr_form_of at (Unbox n e t b) ≡ syntax.Unbox at n (expr_of e) (ty_of t) (expr_of b)
unfolding hidden-the_row-Expr-0 hidden-the_row-Expr-2 denote.Hole.Carrier.hidden
form_of_unbox at n e t b = refl

pub form_of_fn : (at : Span) (ts : List Ty) (r : Ty) (e : Expr) → atom_form_of at (Fn ts r e) ≡ syntax.Fn at (tys_of ts) (ty_of r) (expr_of e)
unfolding hidden-the_row-Expr-0 hidden-the_row-Expr-2 denote.Hole.Carrier.hidden
form_of_fn at ts r e = refl

pub form_of_type_fn : (at : Span) (n : ℕ) (e : Expr) → atom_form_of at (TypeFn n e) ≡ syntax.TypeFn at n (expr_of e)
unfolding hidden-the_row-Expr-0 hidden-the_row-Expr-2 denote.Hole.Carrier.hidden
form_of_type_fn at n e = refl

pub form_of_index_fn : (at : Span) (ss : List Sort) (e : Expr) → atom_form_of at (IndexFn ss e) ≡ syntax.IndexFn at ss (expr_of e)
unfolding hidden-the_row-Expr-0 hidden-the_row-Expr-2 denote.Hole.Carrier.hidden
form_of_index_fn at ss e = refl

pub form_of_boxed : (at : Span) (is : List Index) (e : Expr) (t : Ty) → atom_form_of at (Boxed is e t) ≡ syntax.Boxed at (each index_of is) (expr_of e) (ty_of t)
unfolding hidden-the_row-Expr-0 hidden-the_row-Expr-2 denote.Hole.Carrier.hidden
form_of_boxed at is e t = refl
