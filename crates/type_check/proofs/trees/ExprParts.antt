-- What a tree of an expression or an atom with these parts stands for, and how many nodes it has.
use Rattle.std.proofs.Common.{◌≡◌, refl, sym, ◌∙◌, ap, ℕ, zero, suc, ◌+◌, ◌<◌, ◌≤◌, arith, List, [], ◌∷◌, length}
use Rattle.std.specs.Prelude.{slice_index_or}
use Rattle.core_syntax.specs.declared.index.Index.{Index}
use Rattle.core_syntax.specs.declared.index.Sort.{Sort}
use Rattle.core_syntax.specs.declared.ty.Ty.{Ty}
use Rattle.core_syntax.specs.declared.expr.Expr.{Expr}
use Rattle.core_syntax.specs.declared.expr.Atom.{Atom}
use Rattle.core_syntax.specs.declared.span.Span.{Span}
use Rattle.core_syntax.specs.declared.expr.ExprForm.{ExprForm, Array, Frame, App, TypeApp, IndexApp, Unbox}
use Rattle.core_syntax.specs.declared.expr.ExprForm.TheVariants as form
use Rattle.core_syntax.specs.declared.expr.AtomForm.TheVariants as atom
use Rattle.core_syntax.specs.declared.expr.AtomForm.{AtomForm, Fn, TypeFn, IndexFn, Boxed}
use Rattle.core_syntax.specs.Lists.{each}
use Rattle.core_syntax.specs.Made.{expr_nodes, exprs_nodes, atom_nodes, atoms_nodes}
use Rattle.core_syntax.specs.Refine.{index_of, ty_of, tys_of, expr_form_of, atom_form_of, expr_of, exprs_of, atom_of, atoms_of}
use Rattle.core_syntax.specs.Syntax as syntax
use Rattle.core_syntax.proofs.ExprRows.{form_of_array, form_of_frame, form_of_app, form_of_type_app, form_of_index_app, form_of_unbox, form_of_fn, form_of_type_fn, form_of_index_fn, form_of_boxed}

module _ (e : Expr) where
  pub is_array : (dims ns : List ℕ) (xs now : List Atom) → ns ≡ dims → now ≡ xs → e.form ≡ Array dims xs → expr_of e ≡ syntax.Array e.at ns (atoms_of now)
  is_array dims ns xs now p q f = ap (expr_form_of e.at) f ∙ form_of_array e.at dims xs ∙ λ i. syntax.Array e.at (sym p i) (atoms_of (sym q i))

  pub is_frame : (dims ns : List ℕ) (es now : List Expr) → ns ≡ dims → now ≡ es → e.form ≡ Frame dims es → expr_of e ≡ syntax.Frame e.at ns (exprs_of now)
  is_frame dims ns es now p q f = ap (expr_form_of e.at) f ∙ form_of_frame e.at dims es ∙ λ i. syntax.Frame e.at (sym p i) (exprs_of (sym q i))

  pub is_app : (f f' : Expr) (es now : List Expr) → f' ≡ f → now ≡ es → e.form ≡ App f es → expr_of e ≡ syntax.App e.at (expr_of f') (exprs_of now)
  is_app f f' es now p q h = ap (expr_form_of e.at) h ∙ form_of_app e.at f es ∙ λ i. syntax.App e.at (expr_of (sym p i)) (exprs_of (sym q i))

  pub is_type_app : (f f' : Expr) (ts now : List Ty) → f' ≡ f → now ≡ ts → e.form ≡ TypeApp f ts → expr_of e ≡ syntax.TypeApp e.at (expr_of f') (each ty_of now)
  is_type_app f f' ts now p q h = ap (expr_form_of e.at) h ∙ form_of_type_app e.at f ts ∙ λ i. syntax.TypeApp e.at (expr_of (sym p i)) (each ty_of (sym q i))

  pub is_index_app : (f f' : Expr) (is now : List Index) → f' ≡ f → now ≡ is → e.form ≡ IndexApp f is → expr_of e ≡ syntax.IndexApp e.at (expr_of f') (each index_of now)
  is_index_app f f' is now p q h = ap (expr_form_of e.at) h ∙ form_of_index_app e.at f is ∙ λ i. syntax.IndexApp e.at (expr_of (sym p i)) (each index_of (sym q i))

  pub is_unbox : (n : ℕ) (c c' : Expr) (t : Ty) (b b' : Expr) → c' ≡ c → b' ≡ b → e.form ≡ Unbox n c t b → expr_of e ≡ syntax.Unbox e.at n (expr_of c') (ty_of t) (expr_of b')
  is_unbox n c c' t b b' p q h = ap (expr_form_of e.at) h ∙ form_of_unbox e.at n c t b ∙ λ i. syntax.Unbox e.at n (expr_of (sym p i)) (ty_of t) (expr_of (sym q i))

  pub is_no_atoms : (dims ns : List ℕ) (t : Ty) → ns ≡ dims → e.form ≡ form.NoAtoms dims t → expr_of e ≡ syntax.NoAtoms e.at ns (ty_of t)
  is_no_atoms dims ns t p f = ap (expr_form_of e.at) f ∙ λ i. syntax.NoAtoms e.at (sym p i) (ty_of t)

  pub is_no_cells : (dims ns : List ℕ) (t : Ty) → ns ≡ dims → e.form ≡ form.NoCells dims t → expr_of e ≡ syntax.NoCells e.at ns (ty_of t)
  is_no_cells dims ns t p f = ap (expr_form_of e.at) f ∙ λ i. syntax.NoCells e.at (sym p i) (ty_of t)

module _ (a : Atom) where
  pub is_fn : (ts now : List Ty) (r : Ty) (e e' : Expr) → now ≡ ts → e' ≡ e → a.form ≡ Fn ts r e → atom_of a ≡ syntax.Fn a.at (tys_of now) (ty_of r) (expr_of e')
  is_fn ts now r e e' p q h = ap (atom_form_of a.at) h ∙ form_of_fn a.at ts r e ∙ λ i. syntax.Fn a.at (tys_of (sym p i)) (ty_of r) (expr_of (sym q i))

  pub is_type_fn : (n : ℕ) (e e' : Expr) → e' ≡ e → a.form ≡ TypeFn n e → atom_of a ≡ syntax.TypeFn a.at n (expr_of e')
  is_type_fn n e e' q h = ap (atom_form_of a.at) h ∙ form_of_type_fn a.at n e ∙ λ i. syntax.TypeFn a.at n (expr_of (sym q i))

  pub is_index_fn : (ss now : List Sort) (e e' : Expr) → now ≡ ss → e' ≡ e → a.form ≡ IndexFn ss e → atom_of a ≡ syntax.IndexFn a.at now (expr_of e')
  is_index_fn ss now e e' p q h = ap (atom_form_of a.at) h ∙ form_of_index_fn a.at ss e ∙ λ i. syntax.IndexFn a.at (sym p i) (expr_of (sym q i))

  pub is_boxed : (is now : List Index) (e e' : Expr) (t : Ty) → now ≡ is → e' ≡ e → a.form ≡ Boxed is e t → atom_of a ≡ syntax.Boxed a.at (each index_of now) (expr_of e') (ty_of t)
  is_boxed is now e e' t p q h = ap (atom_form_of a.at) h ∙ form_of_boxed a.at is e t ∙ λ i. syntax.Boxed a.at (each index_of (sym p i)) (expr_of (sym q i)) (ty_of t)

-- an item has no more nodes than the list
pub expr_within : (k : ℕ) (es : List Expr) (d : Expr) → k < length es → expr_nodes (expr_of (slice_index_or es k d)) ≤ exprs_nodes (exprs_of es)
expr_within k [] d lt = absurd (omega arith)
expr_within zero (e ∷ es) d lt = omega arith
expr_within (suc k) (e ∷ es) d lt = let h = expr_within k es d (omega arith) in omega (arith, h)

pub atom_within : (k : ℕ) (xs : List Atom) (d : Atom) → k < length xs → atom_nodes (atom_of (slice_index_or xs k d)) ≤ atoms_nodes (atoms_of xs)
atom_within k [] d lt = absurd (omega arith)
atom_within zero (x ∷ xs) d lt = omega arith
atom_within (suc k) (x ∷ xs) d lt = let h = atom_within k xs d (omega arith) in omega (arith, h)

-- a tree stands where its syntax does
pub at_expr : (e : Expr) → syntax.expr_at (expr_of e) ≡ e.at
at_expr e = at e.at e.form
  where
    at : (p : Span) (f : ExprForm) → syntax.expr_at (expr_form_of p f) ≡ p
    at p (form.Var k) = refl
    at p (form.Def k) = refl
    at p (form.Array' dims s row) = refl
    at p (form.NoAtoms dims t) = refl
    at p (form.Frame' dims s row) = refl
    at p (form.NoCells dims t) = refl
    at p (form.App' s f s' row) = refl
    at p (form.TypeApp' s e ts) = refl
    at p (form.IndexApp' s e is) = refl
    at p (form.Unbox' n s e t s' b) = refl

pub at_atom : (a : Atom) → syntax.atom_at (atom_of a) ≡ a.at
at_atom a = at a.at a.form
  where
    at : (p : Span) (f : AtomForm) → syntax.atom_at (atom_form_of p f) ≡ p
    at p (atom.Int z) = refl
    at p (atom.Bool b) = refl
    at p (atom.Char c) = refl
    at p (atom.Prim q) = refl
    at p (atom.Fn' ts r s e) = refl
    at p (atom.TypeFn' n s e) = refl
    at p (atom.IndexFn' ss s e) = refl
    at p (atom.Boxed' is s e t) = refl
