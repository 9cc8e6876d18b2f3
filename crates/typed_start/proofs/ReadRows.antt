-- The typed term of a tree of an expression, by its form: from those of its parts and the notes of its node.
use Rattle.std.proofs.Common.{◌≡◌, ◌∙◌, refl, sym, ap, ℕ, zero, suc, ◌+◌, ◌<◌, ◌≤◌, arith, List, [], ◌∷◌, ◌++◌, length, take, drop, get_or}
use Rattle.std.proofs.lemmas.List.{take_more}
use Rattle.core_syntax.specs.declared.index.Sort.{Sort}
use Rattle.core_syntax.specs.declared.index.Index.{Index}
use Rattle.core_syntax.specs.declared.ty.Ty.{Ty}
use Rattle.core_syntax.specs.declared.expr.Expr.{Expr}
use Rattle.core_syntax.specs.declared.expr.Atom.{Atom}
use Rattle.core_syntax.specs.declared.expr.ExprForm.{Array, Frame, App, TypeApp, IndexApp, Unbox}
use Rattle.core_syntax.specs.declared.expr.ExprForm.TheVariants as expr
use Rattle.core_syntax.specs.declared.expr.AtomForm.{Fn, TypeFn, IndexFn, Boxed}
use Rattle.core_syntax.specs.declared.note.Note.{Note}
use Rattle.core_syntax.specs.declared.def.Def.{Def}
use Rattle.core_syntax.specs.declared.term.TermExpr.{TermExpr}
use Rattle.core_syntax.specs.declared.term.TermAtom.{TermAtom}
use Rattle.core_syntax.specs.Annotate.{Read, annotated, annotated_all, annotated_atom, annotated_atoms, annotated_defs, first_note, later_notes, noted, cell_noted}
use Rattle.core_syntax.specs.Lists.{each}
use Rattle.core_syntax.specs.Norm.{word_tree}
use Rattle.core_syntax.specs.Notes.{NodeNote, note_of}
use Rattle.core_syntax.specs.Programs.{def_of}
use Rattle.core_syntax.specs.Refine.{index_of, ty_of, tys_of, expr_form_of, expr_of, exprs_of, atom_form_of, atom_of, atoms_of}
use Rattle.core_syntax.specs.RefineTerms.{TypedCell, term_of, terms_of, cell_of, cells_of}
use Rattle.core_syntax.specs.Syntax as syntax
use Rattle.core_syntax.specs.Terms.{TVar, TDef, TArray, TNoAtoms, TFrame, TNoCells, TApp, TTypeApp, TIndexApp, TUnbox, Terms, no_terms, more_terms, TFn, TTypeFn, TIndexFn, TBoxed, Cells, no_cells, more_cells}
use Rattle.core_syntax.specs.Typed.{typed, TypedTerm}
use Rattle.core_syntax.proofs.ExprRows.{form_of_array, form_of_frame, form_of_app, form_of_type_app, form_of_index_app, form_of_unbox, form_of_fn, form_of_type_fn, form_of_index_fn, form_of_boxed}
use Rattle.type_substitution.proofs.Made.{terms_then, then_terms, cells_then, then_cells}

-- ---- expressions

-- a term that is read, by an equal one
pub reads : {A : Type 0} (r : Read A) (a b : A) (ls : List NodeNote) → r ≡ (a, ls) → b ≡ a → r ≡ (b, ls)
reads r a b ls p e = p ∙ ap (λ v. (v, ls)) (sym e)

module _ (x : Expr) (ns : List NodeNote) where
  module _ (ms : List NodeNote) (behind : ms ≡ later_notes ns) where
    pub read_var : (k : ℕ) → x.form ≡ expr.Var k → annotated (expr_of x) ns ≡ (TVar k, ms)
    read_var k h = ap (λ f. annotated (expr_form_of x.at f) ns) h ∙ (λ i. (TVar k, sym behind i))

    pub read_def : (k : ℕ) → x.form ≡ expr.Def k → annotated (expr_of x) ns ≡ (TDef k, ms)
    read_def k h = ap (λ f. annotated (expr_form_of x.at f) ns) h ∙ (λ i. (TDef k, sym behind i))

    pub read_no_atoms : (ds dims : List ℕ) (u : Ty) → ds ≡ dims → x.form ≡ expr.NoAtoms dims u → annotated (expr_of x) ns ≡ (TNoAtoms ds (ty_of u), ms)
    read_no_atoms ds dims u d h = ap (λ f. annotated (expr_form_of x.at f) ns) h ∙ (λ i. (TNoAtoms (sym d i) (ty_of u), sym behind i))

    pub read_no_cells : (ds dims : List ℕ) (u : Ty) → ds ≡ dims → x.form ≡ expr.NoCells dims u → annotated (expr_of x) ns ≡ (TNoCells (record { dims = ds; cell = ty_of u }), ms)
    read_no_cells ds dims u d h = ap (λ f. annotated (expr_form_of x.at f) ns) h ∙ (λ i. (TNoCells (record { dims = sym d i; cell = ty_of u }), sym behind i))

    pub read_array : (ds dims : List ℕ) (zs now : List Atom) → ds ≡ dims → now ≡ zs → x.form ≡ Array dims zs → (ys : Cells typed) (ls : List NodeNote) →
        annotated_atoms (atoms_of now) ms ≡ (ys, ls) → annotated (expr_of x) ns ≡ (TArray ds ys, ls)
    read_array ds dims zs now d q h ys ls e =
        ap (λ f. annotated f ns) (ap (expr_form_of x.at) h ∙ form_of_array x.at dims zs)
        ∙ ap (λ (r : Read (Cells typed)). (TArray dims r.0, r.1)) ((λ i. annotated_atoms (atoms_of (sym q i)) (sym behind i)) ∙ e)
        ∙ (λ i. (TArray (sym d i) ys, ls))

    -- with the note of the node
    module _ (n : NodeNote) (note : n ≡ first_note ns) where
      pub read_frame : (ds dims : List ℕ) (zs now : List Expr) → ds ≡ dims → now ≡ zs → x.form ≡ Frame dims zs → (ys : Terms typed) (ls : List NodeNote) →
          annotated_all (exprs_of now) ms ≡ (ys, ls) → annotated (expr_of x) ns ≡ (TFrame ds ys (noted n.cell), ls)
      read_frame ds dims zs now d q h ys ls e =
          ap (λ f. annotated f ns) (ap (expr_form_of x.at) h ∙ form_of_frame x.at dims zs)
          ∙ ap (λ (r : Read (Terms typed)). (TFrame dims r.0 (cell_noted ns), r.1)) ((λ i. annotated_all (exprs_of (sym q i)) (sym behind i)) ∙ e)
          ∙ (λ i. (TFrame (sym d i) ys (noted (sym note i).cell), ls))

      pub read_app : (f f' : Expr) (zs now : List Expr) → f' ≡ f → now ≡ zs → x.form ≡ App f zs → (g : TypedTerm) (ys : Terms typed) (ks ls : List NodeNote) →
          annotated (expr_of f') ms ≡ (g, ks) → annotated_all (exprs_of now) ks ≡ (ys, ls) →
          annotated (expr_of x) ns ≡ (TApp g ys (each word_tree n.cells) (noted n.cell), ls)
      read_app f f' zs now p q h g ys ks ls a b =
          ap (λ u. annotated u ns) (ap (expr_form_of x.at) h ∙ form_of_app x.at f zs)
          ∙ ap (λ (r : Read TypedTerm). (TApp r.0 (annotated_all (exprs_of zs) r.1).0 (each word_tree (first_note ns).cells) (cell_noted ns), (annotated_all (exprs_of zs) r.1).1))
          ((λ i. annotated (expr_of (sym p i)) (sym behind i)) ∙ a)
          ∙ ap (λ (s : Read (Terms typed)). (TApp g s.0 (each word_tree (first_note ns).cells) (cell_noted ns), s.1)) ((λ i. annotated_all (exprs_of (sym q i)) ks) ∙ b)
          ∙ (λ i. (TApp g ys (each word_tree (sym note i).cells) (noted (sym note i).cell), ls))

      pub read_type_app : (f f' : Expr) (us us' : List Ty) → f' ≡ f → us' ≡ us → x.form ≡ TypeApp f us → (g : TypedTerm) (ls : List NodeNote) →
          annotated (expr_of f') ms ≡ (g, ls) → annotated (expr_of x) ns ≡ (TTypeApp g (each ty_of us') (noted n.cell), ls)
      read_type_app f f' us us' p r h g ls a =
          ap (λ u. annotated u ns) (ap (expr_form_of x.at) h ∙ form_of_type_app x.at f us)
          ∙ ap (λ (r : Read TypedTerm). (TTypeApp r.0 (each ty_of us) (cell_noted ns), r.1)) ((λ i. annotated (expr_of (sym p i)) (sym behind i)) ∙ a)
          ∙ (λ i. (TTypeApp g (each ty_of (sym r i)) (noted (sym note i).cell), ls))

      pub read_index_app : (f f' : Expr) (js js' : List Index) → f' ≡ f → js' ≡ js → x.form ≡ IndexApp f js → (g : TypedTerm) (ls : List NodeNote) →
          annotated (expr_of f') ms ≡ (g, ls) → annotated (expr_of x) ns ≡ (TIndexApp g (each index_of js') (noted n.cell), ls)
      read_index_app f f' js js' p r h g ls a =
          ap (λ u. annotated u ns) (ap (expr_form_of x.at) h ∙ form_of_index_app x.at f js)
          ∙ ap (λ (r : Read TypedTerm). (TIndexApp r.0 (each index_of js) (cell_noted ns), r.1)) ((λ i. annotated (expr_of (sym p i)) (sym behind i)) ∙ a)
          ∙ (λ i. (TIndexApp g (each index_of (sym r i)) (noted (sym note i).cell), ls))

      pub read_unbox : (count : ℕ) (e e' : Expr) (t : Ty) (b b' : Expr) → e' ≡ e → b' ≡ b → x.form ≡ Unbox count e t b → (g y : TypedTerm) (ks ls : List NodeNote) →
          annotated (expr_of e') ms ≡ (g, ks) → annotated (expr_of b') ks ≡ (y, ls) → annotated (expr_of x) ns ≡ (TUnbox n.sorts g y (noted n.cell), ls)
      read_unbox count e e' t b b' p q h g y ks ls a c =
          ap (λ u. annotated u ns) (ap (expr_form_of x.at) h ∙ form_of_unbox x.at count e t b)
          ∙ ap (λ (r : Read TypedTerm). (TUnbox (first_note ns).sorts r.0 (annotated (expr_of b) r.1).0 (cell_noted ns), (annotated (expr_of b) r.1).1))
          ((λ i. annotated (expr_of (sym p i)) (sym behind i)) ∙ a)
          ∙ ap (λ (s : Read TypedTerm). (TUnbox (first_note ns).sorts g s.0 (cell_noted ns), s.1)) ((λ i. annotated (expr_of (sym q i)) ks) ∙ c)
          ∙ (λ i. (TUnbox (sym note i).sorts g y (noted (sym note i).cell), ls))

-- ---- atoms

items_each : (xs : List Ty) → syntax.ty_items (tys_of xs) ≡ each ty_of xs
items_each [] = refl
items_each (x ∷ xs) = ap (λ ts. ty_of x ∷ ts) (items_each xs)

module _ (x : Atom) (ns ls : List NodeNote) (y : TypedTerm) where
  pub read_fn : (us us' : List Ty) (r : Ty) (e e' : Expr) → us' ≡ us → e' ≡ e → x.form ≡ Fn us r e → annotated (expr_of e') ns ≡ (y, ls) →
      annotated_atom (atom_of x) ns ≡ (TFn (record { inputs = each ty_of us'; result = ty_of r }) y, ls)
  read_fn us us' r e e' s q h a =
      ap (λ u. annotated_atom u ns) (ap (atom_form_of x.at) h ∙ form_of_fn x.at us r e)
      ∙ ap (λ (s : Read TypedTerm). (TFn (record { inputs = syntax.ty_items (tys_of us); result = ty_of r }) s.0, s.1)) ((λ i. annotated (expr_of (sym q i)) ns) ∙ a)
      ∙ (λ i. (TFn (record { inputs = (items_each us ∙ ap (each ty_of) (sym s)) i; result = ty_of r }) y, ls))

  pub read_type_fn : (count : ℕ) (e e' : Expr) → e' ≡ e → x.form ≡ TypeFn count e → annotated (expr_of e') ns ≡ (y, ls) → annotated_atom (atom_of x) ns ≡ (TTypeFn count y, ls)
  read_type_fn count e e' q h a =
      ap (λ u. annotated_atom u ns) (ap (atom_form_of x.at) h ∙ form_of_type_fn x.at count e)
      ∙ ap (λ (s : Read TypedTerm). (TTypeFn count s.0, s.1)) ((λ i. annotated (expr_of (sym q i)) ns) ∙ a)

  pub read_index_fn : (ss ss' : List Sort) (e e' : Expr) → ss' ≡ ss → e' ≡ e → x.form ≡ IndexFn ss e → annotated (expr_of e') ns ≡ (y, ls) →
      annotated_atom (atom_of x) ns ≡ (TIndexFn ss' y, ls)
  read_index_fn ss ss' e e' s q h a =
      ap (λ u. annotated_atom u ns) (ap (atom_form_of x.at) h ∙ form_of_index_fn x.at ss e)
      ∙ ap (λ (s : Read TypedTerm). (TIndexFn ss s.0, s.1)) ((λ i. annotated (expr_of (sym q i)) ns) ∙ a)
      ∙ (λ i. (TIndexFn (sym s i) y, ls))

  pub read_boxed : (js js' : List Index) (e e' : Expr) (t : Ty) → js' ≡ js → e' ≡ e → x.form ≡ Boxed js e t → annotated (expr_of e') ns ≡ (y, ls) →
      annotated_atom (atom_of x) ns ≡ (TBoxed (each index_of js') y (ty_of t), ls)
  read_boxed js js' e e' t s q h a =
      ap (λ u. annotated_atom u ns) (ap (atom_form_of x.at) h ∙ form_of_boxed x.at js e t)
      ∙ ap (λ (s : Read TypedTerm). (TBoxed (each index_of js) s.0 (ty_of t), s.1)) ((λ i. annotated (expr_of (sym q i)) ns) ∙ a)
      ∙ (λ i. (TBoxed (each index_of (sym s i)) y (ty_of t), ls))

-- ---- lists, read item by item

read_behind : (es : List Expr) (x : Expr) (ns ks ls : List NodeNote) (ts : Terms typed) (t : TypedTerm) → annotated_all (exprs_of es) ns ≡ (ts, ks) → annotated (expr_of x) ks ≡ (t, ls) →
    annotated_all (exprs_of (es ++ x ∷ [])) ns ≡ (terms_then ts t, ls)
read_behind [] x ns ks ls ts t e a =
    let same : ns ≡ ks = ap (λ r. r.1) e in
    ap (λ (r : Read TypedTerm). (more_terms r.0 no_terms, r.1)) (ap (annotated (expr_of x)) same ∙ a) ∙ (λ i. (terms_then (ap (λ r. r.0) e i) t, ls))
read_behind (y ∷ es) x ns ks ls ts t e a =
    let r = annotated (expr_of y) ns in
    let s = annotated_all (exprs_of es) r.1 in
    let at : s.1 ≡ ks = ap (λ p. p.1) e in
    let more : annotated_all (exprs_of (es ++ x ∷ [])) r.1 ≡ (terms_then s.0 t, ls) = read_behind es x r.1 ks ls s.0 t (λ i. (s.0, at i)) a in
    (λ i. (more_terms r.0 (more i).0, (more i).1)) ∙ (λ i. (terms_then (ap (λ p. p.0) e i) t, ls))

pub terms_read : (es : List Expr) (k : ℕ) (x : Expr) (ns ks ls : List NodeNote) (made new : List TermExpr) (t : TermExpr) → k < length es → x ≡ get_or es k x → new ≡ made ++ t ∷ [] →
    annotated (expr_of x) ks ≡ (term_of t, ls) → annotated_all (exprs_of (take k es)) ns ≡ (terms_of made, ks) →
    annotated_all (exprs_of (take (k + 1) es)) ns ≡ (terms_of new, ls)
terms_read es k x ns ks ls made new t lt is e one before =
    ap (λ zs. annotated_all (exprs_of zs) ns) (take_more es k x lt ∙ ap (λ z. take k es ++ z ∷ []) (sym is))
    ∙ read_behind (take k es) x ns ks ls (terms_of made) (term_of t) before one
    ∙ (λ i. ((sym (then_terms made t) ∙ ap terms_of (sym e)) i, ls))

read_atoms_behind : (xs : List Atom) (x : Atom) (ns ks ls : List NodeNote) (ys : Cells typed) (y : TypedCell) → annotated_atoms (atoms_of xs) ns ≡ (ys, ks) → annotated_atom (atom_of x) ks ≡ (y, ls) →
    annotated_atoms (atoms_of (xs ++ x ∷ [])) ns ≡ (cells_then ys y, ls)
read_atoms_behind [] x ns ks ls ys y e a =
    let same : ns ≡ ks = ap (λ r. r.1) e in
    ap (λ (r : Read TypedCell). (more_cells r.0 no_cells, r.1)) (ap (annotated_atom (atom_of x)) same ∙ a) ∙ (λ i. (cells_then (ap (λ r. r.0) e i) y, ls))
read_atoms_behind (z ∷ xs) x ns ks ls ys y e a =
    let r = annotated_atom (atom_of z) ns in
    let s = annotated_atoms (atoms_of xs) r.1 in
    let at : s.1 ≡ ks = ap (λ p. p.1) e in
    let more : annotated_atoms (atoms_of (xs ++ x ∷ [])) r.1 ≡ (cells_then s.0 y, ls) = read_atoms_behind xs x r.1 ks ls s.0 y (λ i. (s.0, at i)) a in
    (λ i. (more_cells r.0 (more i).0, (more i).1)) ∙ (λ i. (cells_then (ap (λ p. p.0) e i) y, ls))

pub atoms_read : (xs : List Atom) (k : ℕ) (x : Atom) (ns ks ls : List NodeNote) (made new : List TermAtom) (a : TermAtom) → k < length xs → x ≡ get_or xs k x → new ≡ made ++ a ∷ [] →
    annotated_atom (atom_of x) ks ≡ (cell_of a, ls) → annotated_atoms (atoms_of (take k xs)) ns ≡ (cells_of made, ks) →
    annotated_atoms (atoms_of (take (k + 1) xs)) ns ≡ (cells_of new, ls)
atoms_read xs k x ns ks ls made new a lt is e one before =
    ap (λ zs. annotated_atoms (atoms_of zs) ns) (take_more xs k x lt ∙ ap (λ z. take k xs ++ z ∷ []) (sym is))
    ∙ read_atoms_behind (take k xs) x ns ks ls (cells_of made) (cell_of a) before one
    ∙ (λ i. ((sym (then_cells made a) ∙ ap cells_of (sym e)) i, ls))

read_defs_behind : (ds : List syntax.Def) (d : syntax.Def) (ns ks ls : List NodeNote) (ts : List TypedTerm) (t : TypedTerm) → annotated_defs ds ns ≡ (ts, ks) → annotated d.value ks ≡ (t, ls) →
    annotated_defs (ds ++ d ∷ []) ns ≡ (ts ++ t ∷ [], ls)
read_defs_behind [] d ns ks ls ts t e a =
    let same : ns ≡ ks = ap (λ r. r.1) e in
    ap (λ (r : Read TypedTerm). (r.0 ∷ [], r.1)) (ap (annotated d.value) same ∙ a) ∙ (λ i. (ap (λ r. r.0) e i ++ t ∷ [], ls))
read_defs_behind (c ∷ ds) d ns ks ls ts t e a =
    let r = annotated c.value ns in
    let s = annotated_defs ds r.1 in
    let at : s.1 ≡ ks = ap (λ p. p.1) e in
    let more : annotated_defs (ds ++ d ∷ []) r.1 ≡ (s.0 ++ t ∷ [], ls) = read_defs_behind ds d r.1 ks ls s.0 t (λ i. (s.0, at i)) a in
    (λ i. (r.0 ∷ (more i).0, (more i).1)) ∙ (λ i. (ap (λ p. p.0) e i ++ t ∷ [], ls))

each_behind : {A B : Type 0} (f : A → B) (xs : List A) (x : A) → each f (xs ++ x ∷ []) ≡ each f xs ++ f x ∷ []
each_behind f [] x = refl
each_behind f (y ∷ xs) x = ap (λ ys. f y ∷ ys) (each_behind f xs x)

pub defs_read : (ds : List Def) (k : ℕ) (d : Def) (ns ks ls : List NodeNote) (made new : List TermExpr) (t : TermExpr) → k < length ds → d ≡ get_or ds k d → new ≡ made ++ t ∷ [] →
    annotated (expr_of d.value) ks ≡ (term_of t, ls) → annotated_defs (each def_of (take k ds)) ns ≡ (each term_of made, ks) →
    annotated_defs (each def_of (take (k + 1) ds)) ns ≡ (each term_of new, ls)
defs_read ds k d ns ks ls made new t lt is e one before =
    ap (λ zs. annotated_defs (each def_of zs) ns) (take_more ds k d lt ∙ ap (λ z. take k ds ++ z ∷ []) (sym is))
    ∙ ap (λ zs. annotated_defs zs ns) (each_behind def_of (take k ds) d)
    ∙ read_defs_behind (each def_of (take k ds)) (def_of d) ns ks ls (each term_of made) (term_of t) before one
    ∙ (λ i. ((sym (each_behind term_of made t) ∙ ap (each term_of) (sym e)) i, ls))

pub each_made : {A B C : Type 0} (f : A → C) (g : B → C) (xs : List B) (made new : List A) (k : ℕ) (x : B) (y : A) → k < length xs → x ≡ get_or xs k x → new ≡ made ++ y ∷ [] → f y ≡ g x →
    each f made ≡ each g (take k xs) → each f new ≡ each g (take (k + 1) xs)
each_made f g xs made new k x y lt is e one before =
    ap (each f) e ∙ each_behind f made y ∙ (λ i. before i ++ one i ∷ []) ∙ sym (each_behind g (take k xs) x)
    ∙ ap (each g) (ap (λ z. take k xs ++ z ∷ []) is ∙ sym (take_more xs k x lt))
