-- The erased term of a tree of an expression, by its form: from those of its parts and the notes of its node.
use Rattle.std.proofs.Common.{◌≡◌, ◌∙◌, refl, sym, ap, ℕ, zero, suc, List, [], ◌∷◌, length, drop}
use Rattle.core_syntax.specs.declared.index.Sort.{Sort}
use Rattle.core_syntax.specs.declared.index.Index.{Index}
use Rattle.core_syntax.specs.declared.ty.Ty.{Ty}
use Rattle.core_syntax.specs.declared.expr.Expr.{Expr}
use Rattle.core_syntax.specs.declared.expr.Atom.{Atom}
use Rattle.core_syntax.specs.declared.expr.ExprForm.{Array, Frame, App, TypeApp, IndexApp, Unbox}
use Rattle.core_syntax.specs.declared.expr.AtomForm.{Fn, TypeFn, IndexFn, Boxed}
use Rattle.core_syntax.specs.declared.note.Note.{Note}
use Rattle.core_syntax.specs.Annotate.{Read, annotated, annotated_all, annotated_atom, annotated_atoms, first_note, later_notes, noted}
use Rattle.core_syntax.specs.Lists.{onto, each, Each}
use Rattle.core_syntax.specs.Norm.{norm_word, word_tree}
use Rattle.core_syntax.specs.Notes.{NodeNote, note_of}
use Rattle.core_syntax.specs.Refine.{index_of, tys_of, expr_form_of, expr_of, exprs_of, atom_form_of, atom_of, atoms_of}
use Rattle.core_syntax.specs.Syntax.{ty_items}
use Rattle.core_syntax.specs.Terms.{TArray, TFrame, TApp, TTypeApp, TIndexApp, TUnbox, Terms, TFn, TTypeFn, TIndexFn, TBoxed, Cells}
use Rattle.core_syntax.proofs.ExprRows.{form_of_array, form_of_frame, form_of_app, form_of_type_app, form_of_index_app, form_of_unbox, form_of_fn, form_of_type_fn, form_of_index_fn, form_of_boxed}
use Rattle.erasure.specs.Erased.{erased, ErasedTerm, ErasedCell}
use Rattle.erasure.specs.Erasure.{norm_in, cell_word, er, er_terms, er_cell, er_cells}
use Rattle.reduction_laws.specs.Readings.{notes_from}
use Rattle.erasure.specs.Readings.{read_as, IsNormalNote}

-- ---- notes

each_dropped : {A : Type 0} (P : A → Type 0) (xs : List A) (k : ℕ) → Each P xs → Each P (drop k xs)
each_dropped P xs zero h = h
each_dropped P [] (suc k) h = tt
each_dropped P (x ∷ xs) (suc k) h = each_dropped P xs k h.1

first_of : (ns : List NodeNote) → Each IsNormalNote ns → IsNormalNote (first_note ns)
first_of [] h = (refl, refl)
first_of (n ∷ ns) h = h.0

-- the note at a place is normal where all are
pub first_normal : (ns : List Note) (k : ℕ) → Each IsNormalNote (each note_of ns) → IsNormalNote (first_note (notes_from k ns))
first_normal ns k h = first_of (drop k (each note_of ns)) (each_dropped IsNormalNote (each note_of ns) k h)

-- ---- expressions

module _ (ss : List Sort) (x : Expr) (ns ms : List NodeNote) (behind : ms ≡ later_notes ns) where
  -- what the expression is read as
  abbrev pub ReadsAs : ErasedTerm → List NodeNote → Type 0
  ReadsAs t ls = read_as (er ss) (annotated (expr_of x) ns) ≡ (t, ls)

  pub reads_array : (ds dims : List ℕ) (zs now : List Atom) → ds ≡ dims → now ≡ zs → x.form ≡ Array dims zs → (Y : Cells erased) (ls : List NodeNote) (t : ErasedTerm) →
      read_as (er_cells ss) (annotated_atoms (atoms_of now) ms) ≡ (Y, ls) → t ≡ TArray ds Y → ReadsAs t ls
  reads_array ds dims zs now d q h Y ls t e done =
      ap (λ f. read_as (er ss) (annotated f ns)) (ap (expr_form_of x.at) h ∙ form_of_array x.at dims zs)
      ∙ ap (λ (r : Read (Cells erased)). (TArray dims r.0, r.1)) ((λ i. read_as (er_cells ss) (annotated_atoms (atoms_of (sym q i)) (sym behind i))) ∙ e)
      ∙ (λ i. ((ap (λ z. TArray z Y) (sym d) ∙ sym done) i, ls))

  pub reads_frame : (ds dims : List ℕ) (zs now : List Expr) → ds ≡ dims → now ≡ zs → x.form ≡ Frame dims zs → (Y : Terms erased) (ls : List NodeNote) (t : ErasedTerm) →
      read_as (er_terms ss) (annotated_all (exprs_of now) ms) ≡ (Y, ls) → t ≡ TFrame ds Y tt → ReadsAs t ls
  reads_frame ds dims zs now d q h Y ls t e done =
      ap (λ f. read_as (er ss) (annotated f ns)) (ap (expr_form_of x.at) h ∙ form_of_frame x.at dims zs)
      ∙ ap (λ (r : Read (Terms erased)). (TFrame dims r.0 tt, r.1)) ((λ i. read_as (er_terms ss) (annotated_all (exprs_of (sym q i)) (sym behind i))) ∙ e)
      ∙ (λ i. ((ap (λ z. TFrame z Y tt) (sym d) ∙ sym done) i, ls))

  -- with the note of the node, which is normal
  module _ (n : NodeNote) (note : n ≡ first_note ns) (normal : IsNormalNote (first_note ns)) where
    cells_are : each norm_word (each word_tree (first_note ns).cells) ≡ n.cells
    cells_are = normal.1 ∙ ap (λ (m : NodeNote). m.cells) (sym note)

    shape_is : cell_word (noted (first_note ns).cell) ≡ n.shape
    shape_is = normal.0 ∙ ap (λ (m : NodeNote). m.shape) (sym note)

    pub reads_app : (f f' : Expr) (zs now : List Expr) → f' ≡ f → now ≡ zs → x.form ≡ App f zs → (F : ErasedTerm) (Y : Terms erased) (ks ls : List NodeNote) (t : ErasedTerm) →
        read_as (er ss) (annotated (expr_of f') ms) ≡ (F, ks) → read_as (er_terms ss) (annotated_all (exprs_of now) ks) ≡ (Y, ls) → t ≡ TApp F Y n.cells n.shape → ReadsAs t ls
    reads_app f f' zs now p q h F Y ks ls t a b done =
        ap (λ u. read_as (er ss) (annotated u ns)) (ap (expr_form_of x.at) h ∙ form_of_app x.at f zs)
        ∙ ap (λ (r : Read ErasedTerm). (
          TApp r.0 (er_terms ss (annotated_all (exprs_of zs) r.1).0) (each norm_word (each word_tree (first_note ns).cells)) (cell_word (noted (first_note ns).cell)),
          (annotated_all (exprs_of zs) r.1).1,
        )) ((λ i. read_as (er ss) (annotated (expr_of (sym p i)) (sym behind i))) ∙ a)
        ∙ ap (λ (r : Read (Terms erased)). (TApp F r.0 (each norm_word (each word_tree (first_note ns).cells)) (cell_word (noted (first_note ns).cell)), r.1))
        ((λ i. read_as (er_terms ss) (annotated_all (exprs_of (sym q i)) ks)) ∙ b)
        ∙ (λ i. (((λ j. TApp F Y (cells_are j) (shape_is j)) ∙ sym done) i, ls))

    pub reads_type_app : (f f' : Expr) (us : List Ty) → f' ≡ f → x.form ≡ TypeApp f us → (F : ErasedTerm) (ls : List NodeNote) (t : ErasedTerm) →
        read_as (er ss) (annotated (expr_of f') ms) ≡ (F, ls) → t ≡ TTypeApp F tt n.shape → ReadsAs t ls
    reads_type_app f f' us p h F ls t a done =
        ap (λ u. read_as (er ss) (annotated u ns)) (ap (expr_form_of x.at) h ∙ form_of_type_app x.at f us)
        ∙ ap (λ (r : Read ErasedTerm). (TTypeApp r.0 tt (cell_word (noted (first_note ns).cell)), r.1)) ((λ i. read_as (er ss) (annotated (expr_of (sym p i)) (sym behind i))) ∙ a)
        ∙ (λ i. ((ap (TTypeApp F tt) shape_is ∙ sym done) i, ls))

    pub reads_index_app : (f f' : Expr) (js js' : List Index) → f' ≡ f → js' ≡ js → x.form ≡ IndexApp f js → (F : ErasedTerm) (ls : List NodeNote) (t : ErasedTerm) →
        read_as (er ss) (annotated (expr_of f') ms) ≡ (F, ls) → t ≡ TIndexApp F (each (norm_in ss) (each index_of js')) n.shape → ReadsAs t ls
    reads_index_app f f' js js' p r h F ls t a done =
        ap (λ u. read_as (er ss) (annotated u ns)) (ap (expr_form_of x.at) h ∙ form_of_index_app x.at f js)
        ∙ ap (λ (z : Read ErasedTerm). (TIndexApp z.0 (each (norm_in ss) (each index_of js)) (cell_word (noted (first_note ns).cell)), z.1))
        ((λ i. read_as (er ss) (annotated (expr_of (sym p i)) (sym behind i))) ∙ a)
        ∙ (λ i. (((λ j. TIndexApp F (each (norm_in ss) (each index_of (sym r j))) (shape_is j)) ∙ sym done) i, ls))

    pub reads_unbox : (count : ℕ) (e e' : Expr) (u : Ty) (b b' : Expr) → e' ≡ e → b' ≡ b → x.form ≡ Unbox count e u b → (F B : ErasedTerm) (ks ls : List NodeNote) (t : ErasedTerm) →
        read_as (er ss) (annotated (expr_of e') ms) ≡ (F, ks) → read_as (er (onto n.sorts ss)) (annotated (expr_of b') ks) ≡ (B, ls) → t ≡ TUnbox (length n.sorts) F B n.shape → ReadsAs t ls
    reads_unbox count e e' u b b' p q h F B ks ls t a c done =
        ap (λ z. read_as (er ss) (annotated z ns)) (ap (expr_form_of x.at) h ∙ form_of_unbox x.at count e u b)
        ∙ ap (λ (r : Read ErasedTerm). (
          TUnbox (length (first_note ns).sorts) r.0 (er (onto (first_note ns).sorts ss) (annotated (expr_of b) r.1).0) (cell_word (noted (first_note ns).cell)),
          (annotated (expr_of b) r.1).1,
        )) ((λ i. read_as (er ss) (annotated (expr_of (sym p i)) (sym behind i))) ∙ a)
        ∙ ap (λ (r : Read ErasedTerm). (TUnbox (length (first_note ns).sorts) F r.0 (cell_word (noted (first_note ns).cell)), r.1))
        ((λ i. read_as (er (onto (sym note i).sorts ss)) (annotated (expr_of (sym q i)) ks)) ∙ c)
        ∙ (λ i. (((λ j. TUnbox (length (sym note j).sorts) F B (shape_is j)) ∙ sym done) i, ls))

-- ---- atoms

module _ (ss : List Sort) (x : Atom) (ns : List NodeNote) where
  -- what the atom is read as
  abbrev pub AtomReadsAs : ErasedCell → List NodeNote → Type 0
  AtomReadsAs a ls = read_as (er_cell ss) (annotated_atom (atom_of x) ns) ≡ (a, ls)

  types_counted : (us : List Ty) → length (ty_items (tys_of us)) ≡ length us
  types_counted [] = refl
  types_counted (u ∷ us) = ap suc (types_counted us)

  pub reads_fn : (us us' : List Ty) (r : Ty) (e e' : Expr) → us' ≡ us → e' ≡ e → x.form ≡ Fn us r e → (B : ErasedTerm) (ls : List NodeNote) (a : ErasedCell) →
      read_as (er ss) (annotated (expr_of e') ns) ≡ (B, ls) → a ≡ TFn (length us') B → AtomReadsAs a ls
  reads_fn us us' r e e' p q h B ls a b done =
      ap (λ z. read_as (er_cell ss) (annotated_atom z ns)) (ap (atom_form_of x.at) h ∙ form_of_fn x.at us r e)
      ∙ ap (λ (z : Read ErasedTerm). (TFn (length (ty_items (tys_of us))) z.0, z.1)) ((λ i. read_as (er ss) (annotated (expr_of (sym q i)) ns)) ∙ b)
      ∙ (λ i. ((ap (λ k. TFn k B) (types_counted us ∙ ap length (sym p)) ∙ sym done) i, ls))

  pub reads_type_fn : (k : ℕ) (e e' : Expr) → e' ≡ e → x.form ≡ TypeFn k e → (B : ErasedTerm) (ls : List NodeNote) (a : ErasedCell) →
      read_as (er ss) (annotated (expr_of e') ns) ≡ (B, ls) → a ≡ TTypeFn tt B → AtomReadsAs a ls
  reads_type_fn k e e' q h B ls a b done =
      ap (λ z. read_as (er_cell ss) (annotated_atom z ns)) (ap (atom_form_of x.at) h ∙ form_of_type_fn x.at k e)
      ∙ ap (λ (z : Read ErasedTerm). (TTypeFn tt z.0, z.1)) ((λ i. read_as (er ss) (annotated (expr_of (sym q i)) ns)) ∙ b)
      ∙ (λ i. (sym done i, ls))

  pub reads_index_fn : (qs qs' : List Sort) (e e' : Expr) → qs' ≡ qs → e' ≡ e → x.form ≡ IndexFn qs e → (B : ErasedTerm) (ls : List NodeNote) (a : ErasedCell) →
      read_as (er (onto qs' ss)) (annotated (expr_of e') ns) ≡ (B, ls) → a ≡ TIndexFn (length qs') B → AtomReadsAs a ls
  reads_index_fn qs qs' e e' p q h B ls a b done =
      ap (λ z. read_as (er_cell ss) (annotated_atom z ns)) (ap (atom_form_of x.at) h ∙ form_of_index_fn x.at qs e)
      ∙ ap (λ (z : Read ErasedTerm). (TIndexFn (length qs) z.0, z.1)) ((λ i. read_as (er (onto (sym p i) ss)) (annotated (expr_of (sym q i)) ns)) ∙ b)
      ∙ (λ i. ((ap (λ rs. TIndexFn (length rs) B) (sym p) ∙ sym done) i, ls))

  pub reads_boxed : (js js' : List Index) (e e' : Expr) (u : Ty) → js' ≡ js → e' ≡ e → x.form ≡ Boxed js e u → (B : ErasedTerm) (ls : List NodeNote) (a : ErasedCell) →
      read_as (er ss) (annotated (expr_of e') ns) ≡ (B, ls) → a ≡ TBoxed (each (norm_in ss) (each index_of js')) B tt → AtomReadsAs a ls
  reads_boxed js js' e e' u p q h B ls a b done =
      ap (λ z. read_as (er_cell ss) (annotated_atom z ns)) (ap (atom_form_of x.at) h ∙ form_of_boxed x.at js e u)
      ∙ ap (λ (z : Read ErasedTerm). (TBoxed (each (norm_in ss) (each index_of js)) z.0 tt, z.1)) ((λ i. read_as (er ss) (annotated (expr_of (sym q i)) ns)) ∙ b)
      ∙ (λ i. ((ap (λ ks. TBoxed (each (norm_in ss) (each index_of ks)) B tt) (sym p) ∙ sym done) i, ls))

-- ---- the sorts in scope

-- what is read under sorts, by equal ones
pub scope_kept : {A B : Type 0} (f : List Sort → A → B) (s s' : List Sort) → s' ≡ s → (r : Read A) (q : Read B) → read_as (f (onto s' [])) r ≡ q → read_as (f (onto s [])) r ≡ q
scope_kept f s s' e r q h = ap (λ z. read_as (f (onto z [])) r) (sym e) ∙ h

-- the same under binders
pub under_kept : {A B : Type 0} (f : List Sort → A → B) (qs qs' s s' : List Sort) → qs' ≡ qs → s' ≡ s → (r : Read A) (q : Read B) → read_as (f (onto qs' (onto s' []))) r ≡ q → read_as (f (onto qs (onto s []))) r ≡ q
under_kept f qs qs' s s' d e r q h = (λ i. read_as (f (onto (sym d i) (onto (sym e i) []))) r) ∙ h
