-- A tree of a term stands for that of what its parts stand for.
use Rattle.std.proofs.Common.{◌≡◌, refl, ap, ℕ, List, [], ◌∷◌}
use Rattle.core_syntax.specs.declared.index.Index.{Index}
use Rattle.core_syntax.specs.declared.index.Sort.{Sort}
use Rattle.core_syntax.specs.declared.ty.Ty.{Ty}
use Rattle.core_syntax.specs.declared.term.TermExpr.{TermExpr, Array, Frame, App, TypeApp, IndexApp, Unbox}
use Rattle.core_syntax.specs.declared.term.TermAtom.{TermAtom, Fn, TypeFn, IndexFn, Boxed}
use Rattle.core_syntax.specs.declared.term.TermAtom.TheBlock.{hidden-the_row-TermExpr-0, hidden-the_row-TermAtom-1, hidden-the_row-TermExpr-2}
use Rattle.core_syntax.specs.Lists.{each}
use Rattle.core_syntax.specs.Refine.{index_of, ty_of}
use Rattle.core_syntax.specs.RefineTerms.{term_of, cell_of, terms_of, cells_of}
use Rattle.core_syntax.specs.Terms.{TArray, TFrame, TApp, TTypeApp, TIndexApp, TUnbox, Terms, no_terms, more_terms, TFn, TTypeFn, TIndexFn, TBoxed, Cells, no_cells, more_cells}
use Rattle.core_syntax.specs.Typed.{typed, TypedTerm}

-- the atoms of an array, the cells of a frame, the arguments of an application
abbrev atoms_in : TypedTerm → Cells typed
atoms_in (TArray dims xs) = xs
atoms_in _ = no_cells

abbrev terms_in : TypedTerm → Terms typed
terms_in (TFrame dims ts n) = ts
terms_in (TApp f ts cs n) = ts
terms_in _ = no_terms

pub of_array : (dims : List ℕ) (xs : List TermAtom) → term_of (Array dims xs) ≡ TArray dims (cells_of xs)
unfolding hidden-the_row-TermAtom-1 denote.Hole.Carrier.hidden
of_array dims [] = refl
of_array dims (x ∷ xs) = ap (λ u. TArray dims (more_cells (cell_of x) (atoms_in u))) (of_array dims xs)

pub of_frame : (dims : List ℕ) (ts : List TermExpr) (t : Ty) → term_of (Frame dims ts t) ≡ TFrame dims (terms_of ts) (ty_of t)
unfolding hidden-the_row-TermExpr-0 hidden-the_row-TermExpr-2 denote.Hole.Carrier.hidden
of_frame dims [] t = refl
of_frame dims (e ∷ es) t = ap (λ u. TFrame dims (more_terms (term_of e) (terms_in u)) (ty_of t)) (of_frame dims es t)

pub of_app : (f : TermExpr) (ts : List TermExpr) (cs : List Index) (t : Ty) → term_of (App f ts cs t) ≡ TApp (term_of f) (terms_of ts) (each index_of cs) (ty_of t)
unfolding hidden-the_row-TermExpr-0 hidden-the_row-TermExpr-2 denote.Hole.Carrier.hidden
of_app f [] cs t = refl
of_app f (e ∷ es) cs t = ap (λ u. TApp (term_of f) (more_terms (term_of e) (terms_in u)) (each index_of cs) (ty_of t)) (of_app f es cs t)

pub of_type_app : (f : TermExpr) (us : List Ty) (t : Ty) → term_of (TypeApp f us t) ≡ TTypeApp (term_of f) (each ty_of us) (ty_of t)
unfolding hidden-the_row-TermExpr-0 hidden-the_row-TermExpr-2 denote.Hole.Carrier.hidden
of_type_app f us t = refl

pub of_index_app : (f : TermExpr) (is : List Index) (t : Ty) → term_of (IndexApp f is t) ≡ TIndexApp (term_of f) (each index_of is) (ty_of t)
unfolding hidden-the_row-TermExpr-0 hidden-the_row-TermExpr-2 denote.Hole.Carrier.hidden
of_index_app f is t = refl

pub of_unbox : (ss : List Sort) (e b : TermExpr) (t : Ty) → term_of (Unbox ss e b t) ≡ TUnbox ss (term_of e) (term_of b) (ty_of t)
unfolding hidden-the_row-TermExpr-0 hidden-the_row-TermExpr-2 denote.Hole.Carrier.hidden
of_unbox ss e b t = refl

pub of_fn : (ts : List Ty) (r : Ty) (e : TermExpr) → cell_of (Fn ts r e) ≡ TFn (record { inputs = each ty_of ts; result = ty_of r }) (term_of e)
unfolding hidden-the_row-TermExpr-0 hidden-the_row-TermExpr-2 denote.Hole.Carrier.hidden
of_fn ts r e = refl

pub of_type_fn : (n : ℕ) (e : TermExpr) → cell_of (TypeFn n e) ≡ TTypeFn n (term_of e)
unfolding hidden-the_row-TermExpr-0 hidden-the_row-TermExpr-2 denote.Hole.Carrier.hidden
of_type_fn n e = refl

pub of_index_fn : (ss : List Sort) (e : TermExpr) → cell_of (IndexFn ss e) ≡ TIndexFn ss (term_of e)
unfolding hidden-the_row-TermExpr-0 hidden-the_row-TermExpr-2 denote.Hole.Carrier.hidden
of_index_fn ss e = refl

pub of_boxed : (is : List Index) (e : TermExpr) (t : Ty) → cell_of (Boxed is e t) ≡ TBoxed (each index_of is) (term_of e) (ty_of t)
unfolding hidden-the_row-TermExpr-0 hidden-the_row-TermExpr-2 denote.Hole.Carrier.hidden
of_boxed is e t = refl
