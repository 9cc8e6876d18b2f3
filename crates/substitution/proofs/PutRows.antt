-- What a tree of a term stands for in which something is put, by its form.
use Rattle.std.proofs.Common.{◌≡◌, ◌∙◌, sym, ap, ℕ, ◌+◌, List, length, Option}
use Rattle.std.specs.Prelude.{option_map}
use Rattle.core_syntax.specs.declared.index.Sort.{Sort}
use Rattle.core_syntax.specs.declared.index.Index.{Index}
use Rattle.core_syntax.specs.declared.primitive.Primitive.{Primitive}
use Rattle.core_syntax.specs.declared.ty.Ty.{Ty}
use Rattle.core_syntax.specs.declared.term.TermExpr.{TermExpr, Array, Frame, App, TypeApp, IndexApp, Unbox}
use Rattle.core_syntax.specs.declared.term.TermExpr.TheVariants as term
use Rattle.core_syntax.specs.declared.term.TermAtom.{TermAtom, Fn, TypeFn, IndexFn, Boxed}
use Rattle.core_syntax.specs.declared.term.TermAtom.TheVariants as atom
use Rattle.core_syntax.specs.Lists.{each}
use Rattle.core_syntax.specs.Refine.{index_of, ty_of}
use Rattle.core_syntax.specs.RefineTerms.{TypedCell, term_of, terms_of, cell_of, cells_of}
use Rattle.core_syntax.specs.Terms.{TArray, TNoAtoms, TFrame, TNoCells, TApp, TTypeApp, TIndexApp, TUnbox, Terms, TPrim, TFn, TTypeFn, TIndexFn, TBoxed, Cells}
use Rattle.core_syntax.specs.TermPut.{term_put, terms_put, cell_put, cells_put, terms_under}
use Rattle.core_syntax.specs.Typed.{typed, typed_rules, TypedTerm, TypedPuts, put_in_index, put_in_ty}
use Rattle.core_syntax.proofs.RowsOfTerms.{of_array, of_frame, of_app, of_type_app, of_index_app, of_unbox, of_fn, of_type_fn, of_index_fn, of_boxed}
use Rattle.type_substitution.specs.Putting.{puts_at, terms_at}
use Rattle.type_substitution.proofs.Fates.{each_length, indices_at_pi, types_at_pi, types_at_forall, terms_at_fn}

module _ (m n k : ℕ) (is : List Index) (ts : List Ty) (xs : List TermExpr) where
  -- what is put, and what terms and atoms become
  abbrev σ : TypedPuts
  σ = puts_at m n is ts

  abbrev in_term : TypedTerm → TypedTerm
  in_term = term_put typed_rules σ (terms_at k xs)

  abbrev in_terms : Terms typed → Terms typed
  in_terms = terms_put typed_rules σ (terms_at k xs)

  abbrev in_cell : TypedCell → TypedCell
  in_cell = cell_put typed_rules σ (terms_at k xs)

  abbrev in_cells : Cells typed → Cells typed
  in_cells = cells_put typed_rules σ (terms_at k xs)

  -- under binders
  inside_sorts : (m' len : ℕ) (ss : List Sort) → m' ≡ m + len → len ≡ length ss → puts_at m' n is ts ≡ typed_rules.under_sorts ss σ
  inside_sorts m' len ss e l =
      ap (λ (j : ℕ). puts_at j n is ts) (e ∙ ap (λ (j : ℕ). m + j) l)
      ∙ (λ i. record { indices = sym (indices_at_pi is (length ss) m) i; types = sym (types_at_pi ts (length ss) n m) i })

  inside_count : (n' j : ℕ) → n' ≡ n + j → puts_at m n' is ts ≡ typed_rules.under_count j σ
  inside_count n' j e = ap (λ (a : ℕ). puts_at m a is ts) e ∙ (λ i. record { indices = σ.indices; types = sym (types_at_forall ts j n m) i })

  inside_terms : (k' j : ℕ) → k' ≡ k + j → terms_at k' xs ≡ terms_under j (terms_at k xs)
  inside_terms k' j e = ap (λ (a : ℕ). terms_at a xs) e ∙ sym (terms_at_fn xs j k)

  -- ---- terms
  module _ (t : TermExpr) where
    pub put_array : (ds dims : List ℕ) (zs now : List TermAtom) → ds ≡ dims → now ≡ zs → t ≡ Array dims zs → (ys : Cells typed) → ys ≡ in_cells (cells_of now) → TArray ds ys ≡ in_term (term_of t)
    put_array ds dims zs now d q h ys e = (λ i. TArray (d i) ((e ∙ ap (λ us. in_cells (cells_of us)) q) i)) ∙ ap in_term (sym (ap term_of h ∙ of_array dims zs))

    pub put_no_atoms : (ds dims : List ℕ) (u : Ty) → ds ≡ dims → t ≡ term.NoAtoms dims u → TNoAtoms ds (put_in_ty σ (ty_of u)) ≡ in_term (term_of t)
    put_no_atoms ds dims u d h = ap (λ ns. TNoAtoms ns (put_in_ty σ (ty_of u))) d ∙ ap (λ v. in_term (term_of v)) (sym h)

    pub put_frame : (ds dims : List ℕ) (zs now : List TermExpr) (u : Ty) → ds ≡ dims → now ≡ zs → t ≡ Frame dims zs u → (ys : Terms typed) → ys ≡ in_terms (terms_of now) → TFrame ds ys (put_in_ty σ (ty_of u)) ≡ in_term (term_of t)
    put_frame ds dims zs now u d q h ys e =
        (λ i. TFrame (d i) ((e ∙ ap (λ us. in_terms (terms_of us)) q) i) (put_in_ty σ (ty_of u))) ∙ ap in_term (sym (ap term_of h ∙ of_frame dims zs u))

    pub put_no_cells : (ds dims : List ℕ) (u : Ty) → ds ≡ dims → t ≡ term.NoCells dims u → TNoCells (record { dims = ds; cell = put_in_ty σ (ty_of u) }) ≡ in_term (term_of t)
    put_no_cells ds dims u d h = ap (λ ns. TNoCells (record { dims = ns; cell = put_in_ty σ (ty_of u) })) d ∙ ap (λ v. in_term (term_of v)) (sym h)

    pub put_app : (f f' : TermExpr) (zs now : List TermExpr) (cs cs' : List Index) (u : Ty) → f' ≡ f → now ≡ zs → cs' ≡ cs → t ≡ App f zs cs u →
        (g : TypedTerm) (ys : Terms typed) → g ≡ in_term (term_of f') → ys ≡ in_terms (terms_of now) →
        TApp g ys (each (put_in_index σ) (each index_of cs')) (put_in_ty σ (ty_of u)) ≡ in_term (term_of t)
    put_app f f' zs now cs cs' u p q r h g ys a b =
        (λ i. TApp ((a ∙ ap (λ v. in_term (term_of v)) p) i) ((b ∙ ap (λ us. in_terms (terms_of us)) q) i) (each (put_in_index σ) (each index_of (r i))) (put_in_ty σ (ty_of u)))
        ∙ ap in_term (sym (ap term_of h ∙ of_app f zs cs u))

    pub put_type_app : (f f' : TermExpr) (us us' : List Ty) (u : Ty) → f' ≡ f → us' ≡ us → t ≡ TypeApp f us u → (g : TypedTerm) → g ≡ in_term (term_of f') →
        TTypeApp g (each (put_in_ty σ) (each ty_of us')) (put_in_ty σ (ty_of u)) ≡ in_term (term_of t)
    put_type_app f f' us us' u p r h g a =
        (λ i. TTypeApp ((a ∙ ap (λ v. in_term (term_of v)) p) i) (each (put_in_ty σ) (each ty_of (r i))) (put_in_ty σ (ty_of u)))
        ∙ ap in_term (sym (ap term_of h ∙ of_type_app f us u))

    pub put_index_app : (f f' : TermExpr) (js js' : List Index) (u : Ty) → f' ≡ f → js' ≡ js → t ≡ IndexApp f js u → (g : TypedTerm) → g ≡ in_term (term_of f') →
        TIndexApp g (each (put_in_index σ) (each index_of js')) (put_in_ty σ (ty_of u)) ≡ in_term (term_of t)
    put_index_app f f' js js' u p r h g a =
        (λ i. TIndexApp ((a ∙ ap (λ v. in_term (term_of v)) p) i) (each (put_in_index σ) (each index_of (r i))) (put_in_ty σ (ty_of u)))
        ∙ ap in_term (sym (ap term_of h ∙ of_index_app f js u))

    pub put_unbox : (ss ss' : List Sort) (e e' b b' : TermExpr) (u : Ty) → ss' ≡ ss → e' ≡ e → b' ≡ b → t ≡ Unbox ss e b u →
        (m' len k' : ℕ) → m' ≡ m + len → len ≡ length ss → k' ≡ k + 1 →
        (x y : TypedTerm) → x ≡ in_term (term_of e') → y ≡ term_put typed_rules (puts_at m' n is ts) (terms_at k' xs) (term_of b') →
        TUnbox ss' x y (put_in_ty σ (ty_of u)) ≡ in_term (term_of t)
    put_unbox ss ss' e e' b b' u s p q h m' len k' em el ek x y ex ey =
        (λ i. TUnbox (s i) ((ex ∙ ap (λ v. in_term (term_of v)) p) i)
        ((ey ∙ (λ j. term_put typed_rules (inside_sorts m' len ss em el j) (inside_terms k' 1 ek j) (term_of (q j)))) i) (put_in_ty σ (ty_of u)))
        ∙ ap in_term (sym (ap term_of h ∙ of_unbox ss e b u))

  -- ---- atoms
  module _ (a : TermAtom) where
    pub put_prim : (p : Primitive) (us : Option (List Ty)) (js : Option (List Index)) → a ≡ atom.Prim p us js →
        TPrim p (option_map (each (put_in_ty σ)) (option_map (each ty_of) us)) (option_map (each (put_in_index σ)) (option_map (each index_of) js)) ≡ in_cell (cell_of a)
    put_prim p us js h = ap (λ v. in_cell (cell_of v)) (sym h)

    pub put_fn : (us us' : List Ty) (r : Ty) (e e' : TermExpr) → us' ≡ us → e' ≡ e → a ≡ Fn us r e → (k' len : ℕ) → k' ≡ k + len → len ≡ length us →
        (y : TypedTerm) → y ≡ term_put typed_rules σ (terms_at k' xs) (term_of e') →
        TFn (record { inputs = each (put_in_ty σ) (each ty_of us'); result = put_in_ty σ (ty_of r) }) y ≡ in_cell (cell_of a)
    put_fn us us' r e e' s q h k' len ek el y ey =
        (λ i. TFn (record { inputs = each (put_in_ty σ) (each ty_of (s i)); result = put_in_ty σ (ty_of r) })
        ((ey ∙ (λ j. term_put typed_rules σ (inside_terms k' (length (each ty_of us)) (ek ∙ ap (λ (l : ℕ). k + l) (el ∙ sym (each_length ty_of us))) j) (term_of (q j)))) i))
        ∙ ap in_cell (sym (ap cell_of h ∙ of_fn us r e))

    pub put_type_fn : (count : ℕ) (e e' : TermExpr) → e' ≡ e → a ≡ TypeFn count e → (n' : ℕ) → n' ≡ n + count →
        (y : TypedTerm) → y ≡ term_put typed_rules (puts_at m n' is ts) (terms_at k xs) (term_of e') → TTypeFn count y ≡ in_cell (cell_of a)
    put_type_fn count e e' q h n' en y ey =
        ap (TTypeFn count) (ey ∙ (λ j. term_put typed_rules (inside_count n' count en j) (terms_at k xs) (term_of (q j))))
        ∙ ap in_cell (sym (ap cell_of h ∙ of_type_fn count e))

    pub put_index_fn : (ss ss' : List Sort) (e e' : TermExpr) → ss' ≡ ss → e' ≡ e → a ≡ IndexFn ss e → (m' len : ℕ) → m' ≡ m + len → len ≡ length ss →
        (y : TypedTerm) → y ≡ term_put typed_rules (puts_at m' n is ts) (terms_at k xs) (term_of e') → TIndexFn ss' y ≡ in_cell (cell_of a)
    put_index_fn ss ss' e e' s q h m' len em el y ey =
        (λ i. TIndexFn (s i) ((ey ∙ (λ j. term_put typed_rules (inside_sorts m' len ss em el j) (terms_at k xs) (term_of (q j)))) i))
        ∙ ap in_cell (sym (ap cell_of h ∙ of_index_fn ss e))

    pub put_boxed : (js js' : List Index) (e e' : TermExpr) (u : Ty) → js' ≡ js → e' ≡ e → a ≡ Boxed js e u → (x : TypedTerm) → x ≡ in_term (term_of e') →
        TBoxed (each (put_in_index σ) (each index_of js')) x (put_in_ty σ (ty_of u)) ≡ in_cell (cell_of a)
    put_boxed js js' e e' u r p h x ex =
        (λ i. TBoxed (each (put_in_index σ) (each index_of (r i))) ((ex ∙ ap (λ v. in_term (term_of v)) p) i) (put_in_ty σ (ty_of u)))
        ∙ ap in_cell (sym (ap cell_of h ∙ of_boxed js e u))
