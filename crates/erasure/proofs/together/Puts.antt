-- Erasure and substitution commute: index values, types and closed terms in place, erased, are those in place of the erased term.
use Rattle.std.proofs.Common.{◌≡◌, refl, sym, ◌∙◌, ap, subst, ℕ, zero, suc, List, [], ◌∷◌, ◌++◌, Option, Some, None, true, length}
use Rattle.std.specs.Prelude.{option_map, slice_get}
use mathlib.Core.Path.{fun_ext}
use Rattle.core_syntax.specs.declared.index.Sort.{Sort}
use Rattle.core_syntax.specs.declared.norm.Letter.TheVariants as letter
use Rattle.core_syntax.specs.declared.norm.NormIndex.TheVariants as norm
use Rattle.core_syntax.specs.declared.index.Sort.TheVariants as sort
use Rattle.core_syntax.specs.Data.{HasSort}
use Rattle.core_syntax.specs.Kinds.{is_atom_kind}
use Rattle.core_syntax.specs.Lists.{each, onto}
use Rattle.core_syntax.specs.Nodes.{vector}
use Rattle.core_syntax.specs.Norm.{norm_word, constant}
use Rattle.core_syntax.specs.Sorts.{own_sort}
use Rattle.core_syntax.specs.Subst.{under, indices_renamed, index_under, Fate, Fates, moved, Keep, Put, under_n, indices_under, same, ty_under_type, fate_under_index, fates_under_index, index_put, in_place}
use Rattle.core_syntax.specs.Syntax.{Var, index_list, Num, no_span, more, Index, Dims, Ty, TyVar, Arr, BaseTy, Fun, Forall, Pi, Sigma, Sum, Join}
use Rattle.core_syntax.specs.TermPut.{terms_under, term_put, cells_put, terms_put, cell_put}
use Rattle.core_syntax.specs.Terms.{Terms, IndexValue, DimValue, ShapeValue, TVar, TDef, TArray, TNoAtoms, TFrame, TNoCells, Cell, Cells, TApp, TTypeApp, TIndexApp, TUnbox, no_terms, more_terms, TInt, TBool, TChar, TPrim, TFn, TTypeFn, TIndexFn, TBoxed, no_cells, more_cells}
use Rattle.core_syntax.specs.Typed.{value_index, TypedTerm, TypedPuts, typed, typed_rules, shape_of, put_in_ty, put_in_index}
use Rattle.erasure.specs.Erased.{ErasedTerm, erased_rules}
use Rattle.erasure.specs.Erasure.{er, norm_by, norm_in, er_cells, er_cell, er_terms}
use Rattle.core_syntax.specs.NormPut.{put_in_word, put_in_norm, number_letters}
use Rattle.reduction_laws.proofs.putting.TermSubst.{under_inside}
use Rattle.reduction_laws.proofs.putting.Formed.{kind_renamed}
use Rattle.reduction_laws.proofs.putting.Binders.{length-each}
use Rattle.erasure.proofs.together.NormPuts.{as_index, norm_word-put, norm_dim-put, put_append}

-- ---- fates of values under binders

numerals_under : (ns : List ℕ) → indices_renamed suc (index_list (each (λ n. Num no_span n) ns)) ≡ index_list (each (λ n. Num no_span n) ns)
numerals_under [] = refl
numerals_under (n ∷ ns) = ap (more (Num no_span n)) (numerals_under ns)

value_under : (v : IndexValue) → index_under (value_index v) ≡ value_index v
value_under (DimValue n) = refl
value_under (ShapeValue ns) = ap (Dims no_span) (numerals_under ns)

values_under : (σ : Fates IndexValue) → under index_under (λ k. as_index (σ k)) ≡ (λ (k : ℕ). as_index (under (λ v. v) σ k))
values_under σ = fun_ext at
  where
    by : (f : Fate IndexValue) → moved index_under (as_index f) ≡ as_index (moved (λ v. v) f)
    by (Keep k) = refl
    by (Put v) = ap Put (value_under v)

    at : (k : ℕ) → under index_under (λ k. as_index (σ k)) k ≡ as_index (under (λ v. v) σ k)
    at zero = refl
    at (suc k) = by (σ k)

values_under_n : (n : ℕ) (σ : Fates IndexValue) → indices_under n (λ k. as_index (σ k)) ≡ (λ (k : ℕ). as_index (under_n n (λ v. v) σ k))
values_under_n zero σ = refl
values_under_n (suc n) σ = ap (under index_under) (values_under_n n σ) ∙ values_under (under_n n (λ v. v) σ)

-- ---- what is put in place on both sides

-- a kept variable keeps its sort, and a value has its variable's sort
abbrev pub SortFate : List Sort → List Sort → ℕ → Fate IndexValue → Type 0
SortFate ss rs k (Keep j) = slice_get rs j ≡ slice_get ss k
SortFate ss rs k (Put v) = (q : Sort) × (slice_get ss k ≡ Some q) × HasSort q v

abbrev pub AtomFate : Fate Ty → Type 0
AtomFate (Keep k) = Unit {0}
AtomFate (Put t) = is_atom_kind t ≡ true

-- a term fate, and the same of an erased term, whose put terms are erased alike in each context
abbrev pub ErFate : Fate TypedTerm → Fate ErasedTerm → Type 0
ErFate (Keep j) g = g ≡ Keep j
ErFate (Put v) g = (w : ErasedTerm) × (g ≡ Put w) × ((rs : List Sort) → er rs v ≡ w)

abbrev pub ErFates : Fates TypedTerm → Fates ErasedTerm → Type 0
ErFates τ υ = (k : ℕ) → ErFate (τ k) (υ k)

pub record ErPuts (ss rs : List Sort) (σ : TypedPuts) (ρ : Fates IndexValue) : Type 0 where
  pub indices : σ.indices ≡ (λ k. as_index (ρ k))
  pub sorts : (k : ℕ) → SortFate ss rs k (ρ k)
  pub types : (k : ℕ) → AtomFate (σ.types k)

moved_sort : (ss rs : List Sort) (q : Sort) (k : ℕ) (f : Fate IndexValue) → SortFate ss rs k f → SortFate (q ∷ ss) (q ∷ rs) (suc k) (moved (λ v. v) f)
moved_sort ss rs q k (Keep j) h = h
moved_sort ss rs q k (Put v) h = h

sorts_cons : (ss rs : List Sort) (q : Sort) (ρ : Fates IndexValue) → ((k : ℕ) → SortFate ss rs k (ρ k)) → (k : ℕ) → SortFate (q ∷ ss) (q ∷ rs) k (under (λ v. v) ρ k)
sorts_cons ss rs q ρ h zero = refl
sorts_cons ss rs q ρ h (suc k) = moved_sort ss rs q k (ρ k) (h k)

sorts_onto : (qs ss rs : List Sort) (ρ : Fates IndexValue) → ((k : ℕ) → SortFate ss rs k (ρ k)) → (k : ℕ) → SortFate (onto qs ss) (onto qs rs) k (under_n (length qs) (λ v. v) ρ k)
sorts_onto [] ss rs ρ h = h
sorts_onto (q ∷ qs) ss rs ρ h =
    subst (λ ρ. (k : ℕ) → SortFate (onto qs (q ∷ ss)) (onto qs (q ∷ rs)) k (ρ k)) (under_inside (length qs) (λ v. v) ρ) (sorts_onto qs (q ∷ ss) (q ∷ rs) (under (λ v. v) ρ) (sorts_cons ss rs q ρ h))

moved_atom : (f : Fate Ty) → AtomFate f → AtomFate (moved ty_under_type f)
moved_atom (Keep k) h = tt
moved_atom (Put t) h = kind_renamed same suc t h

atoms_under : (n : ℕ) (τ : Fates Ty) → ((k : ℕ) → AtomFate (τ k)) → (k : ℕ) → AtomFate (under_n n ty_under_type τ k)
atoms_under zero τ h k = h k
atoms_under (suc n) τ h zero = tt
atoms_under (suc n) τ h (suc k) = moved_atom (under_n n ty_under_type τ k) (atoms_under n τ h k)

index_atom : (f : Fate Ty) → AtomFate f → AtomFate (fate_under_index f)
index_atom (Keep k) h = tt
index_atom (Put t) h = kind_renamed suc same t h

atoms_under_index : (n : ℕ) (τ : Fates Ty) → ((k : ℕ) → AtomFate (τ k)) → (k : ℕ) → AtomFate (fates_under_index n τ k)
atoms_under_index zero τ h k = h k
atoms_under_index (suc n) τ h k = index_atom (fates_under_index n τ k) (atoms_under_index n τ h k)

er_under_sorts : (qs ss rs : List Sort) (σ : TypedPuts) (ρ : Fates IndexValue) → ErPuts ss rs σ ρ → ErPuts (onto qs ss) (onto qs rs) (typed_rules.under_sorts qs σ) (under_n (length qs) (λ v. v) ρ)
er_under_sorts qs ss rs σ ρ p =
    record { indices = ap (indices_under (length qs)) p.indices ∙ values_under_n (length qs) ρ; sorts = sorts_onto qs ss rs ρ p.sorts; types = atoms_under_index (length qs) σ.types p.types }

er_under_count : (n : ℕ) (ss rs : List Sort) (σ : TypedPuts) (ρ : Fates IndexValue) → ErPuts ss rs σ ρ → ErPuts ss rs (typed_rules.under_count n σ) ρ
er_under_count n ss rs σ ρ p = record { indices = p.indices; sorts = p.sorts; types = atoms_under n σ.types p.types }

moved_er : (f : Fate TypedTerm) (g : Fate ErasedTerm) → ErFate f g → ErFate (moved (λ a. a) f) (moved (λ a. a) g)
moved_er (Keep j) g h = ap (moved (λ a. a)) h
moved_er (Put v) g h = (h.0, ap (moved (λ a. a)) h.1, h.2)

terms_er : (n : ℕ) (τ : Fates TypedTerm) (υ : Fates ErasedTerm) → ErFates τ υ → ErFates (terms_under n τ) (terms_under n υ)
terms_er zero τ υ h k = h k
terms_er (suc n) τ υ h zero = refl
terms_er (suc n) τ υ h (suc k) = moved_er (terms_under n τ k) (terms_under n υ k) (terms_er n τ υ h k)

-- ---- notes

module _ (ss rs : List Sort) (σ : TypedPuts) (ρ : Fates IndexValue) (p : ErPuts ss rs σ ρ) where
  shape-put : (t : Ty) → shape_of (put_in_ty σ t) ≡ index_put σ.indices (shape_of t)
  shape-put (TyVar at k) = by (σ.types k) (p.types k)
    where
      by : (f : Fate Ty) → AtomFate f → shape_of (in_place (TyVar at) f) ≡ vector []
      by (Keep j) h = refl
      by (Put (Arr at' t i)) h = absurd (let e = h in cc)
      by (Put (BaseTy at' b)) h = refl
      by (Put (TyVar at' b)) h = refl
      by (Put (Fun at' ts r)) h = refl
      by (Put (Forall at' n t)) h = refl
      by (Put (Pi at' n t)) h = refl
      by (Put (Sigma at' n t)) h = refl
  shape-put (BaseTy at b) = refl
  shape-put (Fun at ts r) = refl
  shape-put (Forall at n t) = refl
  shape-put (Pi at n t) = refl
  shape-put (Sigma at n t) = refl
  shape-put (Arr at t i) = refl

  word-put : (i : Index) → norm_word (index_put σ.indices i) ≡ put_in_word ρ (norm_word i)
  word-put i = ap (λ φ. norm_word (index_put φ i)) p.indices ∙ norm_word-put ρ i

  shape_note : (i : Index) → norm_word (put_in_index σ i) ≡ put_in_word ρ (norm_word i)
  shape_note i = word-put i

  result_note : (t : Ty) → norm_word (shape_of (put_in_ty σ t)) ≡ put_in_word ρ (norm_word (shape_of t))
  result_note t = ap norm_word (shape-put t) ∙ shape_note (shape_of t)

  own_sort-put : (i : Index) → own_sort rs (index_put (λ k. as_index (ρ k)) i) ≡ own_sort ss i
  own_sort-put (Num at n) = refl
  own_sort-put (Var at k) = by (ρ k) (p.sorts k)
    where
      of_value : (q : Sort) (v : IndexValue) → HasSort q v → own_sort rs (value_index v) ≡ Some q
      of_value sort.Dim (DimValue n) h = refl
      of_value sort.Shape (ShapeValue s) h = refl
      of_value sort.Dim (ShapeValue s) h = absurd h
      of_value sort.Shape (DimValue n) h = absurd h

      by : (f : Fate IndexValue) → SortFate ss rs k f → own_sort rs (in_place (Var at) (as_index f)) ≡ slice_get ss k
      by (Keep j) h = h
      by (Put v) h = of_value h.0 v h.2 ∙ sym h.1
  own_sort-put (Sum at is) = refl
  own_sort-put (Dims at is) = refl
  own_sort-put (Join at is) = refl

  norm_by-put : (o : Option Sort) (i : Index) → norm_by o (index_put (λ k. as_index (ρ k)) i) ≡ put_in_norm ρ (norm_by o i)
  norm_by-put None i = ap norm.Dim (norm_dim-put ρ i)
  norm_by-put (Some sort.Dim) i = ap norm.Dim (norm_dim-put ρ i)
  norm_by-put (Some sort.Shape) i = ap norm.Shape (norm_word-put ρ i)

  index_note : (i : Index) → norm_in rs (put_in_index σ i) ≡ put_in_norm ρ (norm_in ss i)
  index_note i = ap (λ φ. norm_in rs (index_put φ i)) p.indices ∙ ap (λ o. norm_by o (index_put (λ k. as_index (ρ k)) i)) (own_sort-put i) ∙ norm_by-put (own_sort ss i) i

  cells_note : (cs : List Index) → each norm_word (each (put_in_index σ) cs) ≡ each (put_in_word ρ) (each norm_word cs)
  cells_note [] = refl
  cells_note (c ∷ cs) = λ i. shape_note c i ∷ cells_note cs i

  indices_note : (is : List Index) → each (norm_in rs) (each (put_in_index σ) is) ≡ each (put_in_norm ρ) (each (norm_in ss) is)
  indices_note [] = refl
  indices_note (j ∷ is) = λ i. index_note j i ∷ indices_note is i

  option_note : (o : Option (List Index)) → option_map (each (norm_in rs)) (option_map (each (put_in_index σ)) o) ≡ option_map (each (put_in_norm ρ)) (option_map (each (norm_in ss)) o)
  option_note None = refl
  option_note (Some is) = ap Some (indices_note is)

  types_note : (o : Option (List Ty)) → option_map (λ u. tt {0}) (option_map (each (put_in_ty σ)) o) ≡ option_map (λ u. u) (option_map (λ u. tt {0}) o)
  types_note None = refl
  types_note (Some us) = refl

  dims_note : (ns : List ℕ) → put_in_word ρ (number_letters ns) ≡ number_letters ns
  dims_note [] = refl
  dims_note (n ∷ ns) = ap (λ z. letter.Dim (constant n) ∷ z) (dims_note ns)

-- ---- terms

er_variable : (rs : List Sort) (f : Fate TypedTerm) (g : Fate ErasedTerm) → ErFate f g → er rs (in_place TVar f) ≡ in_place TVar g
er_variable rs (Keep j) g h = ap (in_place TVar) (sym h)
er_variable rs (Put v) g h = h.2 rs ∙ ap (in_place TVar) (sym h.1)

mutual
  pub er_put : (ss rs : List Sort) (σ : TypedPuts) (ρ : Fates IndexValue) (τ : Fates TypedTerm) (υ : Fates ErasedTerm) → ErPuts ss rs σ ρ → ErFates τ υ → (e : TypedTerm)
      → er rs (term_put typed_rules σ τ e) ≡ term_put erased_rules ρ υ (er ss e)
  er_put ss rs σ ρ τ υ p t (TVar k) = er_variable rs (τ k) (υ k) (t k)
  er_put ss rs σ ρ τ υ p t (TDef k) = refl
  er_put ss rs σ ρ τ υ p t (TArray dims xs) = ap (TArray dims) (er_cells_put ss rs σ ρ τ υ p t xs)
  er_put ss rs σ ρ τ υ p t (TNoAtoms dims a) = refl
  er_put ss rs σ ρ τ υ p t (TFrame dims ts n) = ap (λ z. TFrame dims z tt) (er_terms_put ss rs σ ρ τ υ p t ts)
  er_put ss rs σ ρ τ υ p t (TNoCells w) =
      ap TNoCells
      ((λ i. number_letters w.dims ++ (ap norm_word (shape-put ss rs σ ρ p w.cell) ∙ word-put ss rs σ ρ p (shape_of w.cell)) i)
      ∙ sym (put_append ρ (number_letters w.dims) (norm_word (shape_of w.cell)) ∙ ap (λ z. z ++ put_in_word ρ (norm_word (shape_of w.cell))) (dims_note ss rs σ ρ p w.dims)))
  er_put ss rs σ ρ τ υ p t (TApp f es cs n) = λ i. TApp (er_put ss rs σ ρ τ υ p t f i) (er_terms_put ss rs σ ρ τ υ p t es i) (cells_note ss rs σ ρ p cs i) (result_note ss rs σ ρ p n i)
  er_put ss rs σ ρ τ υ p t (TTypeApp e us n) = λ i. TTypeApp (er_put ss rs σ ρ τ υ p t e i) tt (result_note ss rs σ ρ p n i)
  er_put ss rs σ ρ τ υ p t (TIndexApp e is n) = λ i. TIndexApp (er_put ss rs σ ρ τ υ p t e i) (indices_note ss rs σ ρ p is i) (result_note ss rs σ ρ p n i)
  er_put ss rs σ ρ τ υ p t (TUnbox qs e b n) =
      λ i.
      TUnbox (length qs) (er_put ss rs σ ρ τ υ p t e i)
      (er_put (onto qs ss) (onto qs rs) (typed_rules.under_sorts qs σ) (under_n (length qs) (λ v. v) ρ) (terms_under 1 τ) (terms_under 1 υ) (er_under_sorts qs ss rs σ ρ p) (terms_er 1 τ υ t) b i) (result_note ss rs σ ρ p n i)

  er_terms_put : (ss rs : List Sort) (σ : TypedPuts) (ρ : Fates IndexValue) (τ : Fates TypedTerm) (υ : Fates ErasedTerm) → ErPuts ss rs σ ρ → ErFates τ υ → (es : Terms typed)
      → er_terms rs (terms_put typed_rules σ τ es) ≡ terms_put erased_rules ρ υ (er_terms ss es)
  er_terms_put ss rs σ ρ τ υ p t no_terms = refl
  er_terms_put ss rs σ ρ τ υ p t (more_terms e es) = λ i. more_terms (er_put ss rs σ ρ τ υ p t e i) (er_terms_put ss rs σ ρ τ υ p t es i)

  er_cell_put : (ss rs : List Sort) (σ : TypedPuts) (ρ : Fates IndexValue) (τ : Fates TypedTerm) (υ : Fates ErasedTerm) → ErPuts ss rs σ ρ → ErFates τ υ → (x : Cell typed)
      → er_cell rs (cell_put typed_rules σ τ x) ≡ cell_put erased_rules ρ υ (er_cell ss x)
  er_cell_put ss rs σ ρ τ υ p t (TInt z) = refl
  er_cell_put ss rs σ ρ τ υ p t (TBool z) = refl
  er_cell_put ss rs σ ρ τ υ p t (TChar z) = refl
  er_cell_put ss rs σ ρ τ υ p t (TPrim q us is) = λ i. TPrim q (types_note ss rs σ ρ p us i) (option_note ss rs σ ρ p is i)
  er_cell_put ss rs σ ρ τ υ p t (TFn j e) =
      λ i. TFn (length-each (put_in_ty σ) j.inputs i) (er_put ss rs σ ρ (terms_under (length j.inputs) τ) (terms_under (length j.inputs) υ) p (terms_er (length j.inputs) τ υ t) e i)
  er_cell_put ss rs σ ρ τ υ p t (TTypeFn n e) = ap (TTypeFn tt) (er_put ss rs (typed_rules.under_count n σ) ρ τ υ (er_under_count n ss rs σ ρ p) t e)
  er_cell_put ss rs σ ρ τ υ p t (TIndexFn qs e) =
      ap (TIndexFn (length qs)) (er_put (onto qs ss) (onto qs rs) (typed_rules.under_sorts qs σ) (under_n (length qs) (λ v. v) ρ) τ υ (er_under_sorts qs ss rs σ ρ p) t e)
  er_cell_put ss rs σ ρ τ υ p t (TBoxed is e u) = λ i. TBoxed (indices_note ss rs σ ρ p is i) (er_put ss rs σ ρ τ υ p t e i) tt

  er_cells_put : (ss rs : List Sort) (σ : TypedPuts) (ρ : Fates IndexValue) (τ : Fates TypedTerm) (υ : Fates ErasedTerm) → ErPuts ss rs σ ρ → ErFates τ υ → (xs : Cells typed)
      → er_cells rs (cells_put typed_rules σ τ xs) ≡ cells_put erased_rules ρ υ (er_cells ss xs)
  er_cells_put ss rs σ ρ τ υ p t no_cells = refl
  er_cells_put ss rs σ ρ τ υ p t (more_cells x xs) = λ i. more_cells (er_cell_put ss rs σ ρ τ υ p t x i) (er_cells_put ss rs σ ρ τ υ p t xs i)
