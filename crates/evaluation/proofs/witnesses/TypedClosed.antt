-- The erased term of a closed typed one is closed.
use Rattle.std.proofs.Common.{◌≡◌, refl, sym, ap, subst, ◌∙◌, ℕ, zero, suc, ◌+◌, ◌<◌, arith, List, [], ◌∷◌, ◌++◌, length, Option, Some, None}
use Rattle.std.specs.Prelude.{slice_get, option_map}
use Rattle.core_syntax.specs.declared.index.Sort.{Sort}
use Rattle.core_syntax.specs.declared.index.Sort.TheVariants as sort
use Rattle.core_syntax.specs.declared.norm.Letter.TheVariants as letter
use Rattle.core_syntax.specs.declared.norm.NormIndex.TheVariants as norm
use Rattle.core_syntax.specs.Syntax.{Index, Num, Var, Sum, Dims, Join, Indices, end, more, Ty, Fun, Forall, Pi, Sigma, Arr, Tys, no_tys, more_tys, no_span}
use Rattle.core_syntax.specs.Lists.{onto, each, EachTwo}
use Rattle.core_syntax.specs.Sorts.{IsSorted, AreSorted}
use Rattle.core_syntax.specs.Kinds.{IsWellFormed}
use Rattle.core_syntax.specs.Norm.{constant, norm_dim, norm_word}
use Rattle.core_syntax.specs.Value.{then_shape}
use Rattle.core_syntax.specs.Subst.{Keep, Fates, moved, under_n, in_place, index_put, indices_put, with_indices, ty_under_index, ty_under_type}
use Rattle.core_syntax.specs.Prims.{prim_type, array_of}
use Rattle.core_syntax.specs.Typing.{Context, times, under_types, under_sorts, under_terms, OnSigma, Takes, defs_only}
use Rattle.core_syntax.specs.Terms.{IndexValue, TVar, TDef, TArray, TNoAtoms, TFrame, TNoCells, TApp, TTypeApp, TIndexApp, TUnbox, Terms, no_terms, more_terms, Cell, TInt, TBool, TChar, TPrim, TFn, TTypeFn, TIndexFn, TBoxed, Cells, no_cells, more_cells}
use Rattle.core_syntax.specs.TermPut.{term_put, terms_put, cell_put, cells_put, terms_under}
use Rattle.core_syntax.specs.Typed.{typed, TypedTerm}
use Rattle.core_syntax.specs.TermTyping.{GivenIndices, PrimHas, HasTerm, HasCell, CellsHave, TermsHave, TermArgsHave}
use Rattle.core_syntax.specs.NormPut.{number_letters, put_in_dim, put_in_word, put_in_norm}
use Rattle.erasure.specs.Erased.{ErasedTerm, erased_rules}
use Rattle.erasure.specs.Erasure.{er, er_terms, er_cell, er_cells, norm_in, norm_by, cell_word}
use Rattle.erasure.proofs.together.NormPuts.{as_index, norm_dim-put, norm_word-put, put_append}
use Rattle.erasure.proofs.together.Closed.{given_inside}
use Rattle.evaluation.specs.Lawful.{IsClosed}
use Rattle.evaluation.specs.Witnessed.{Witnessed}
use Rattle.evaluation.proofs.environments.Puts.{same_value}
use Rattle.evaluation.proofs.environments.Entered.{length_onto, length_all, length_each}

-- the first n variables are kept
abbrev pub KeepsBelow : {A : Type 0} → ℕ → Fates A → Type 0
KeepsBelow n σ = (k : ℕ) → k < n → σ k ≡ Keep k

keeps_under : {A : Type 0} (m n : ℕ) (σ : Fates A) → KeepsBelow n σ → KeepsBelow (m + n) (under_n m same_value σ)
keeps_under zero n σ h k lt = h k (omega arith)
keeps_under (suc m) n σ h zero lt = refl
keeps_under (suc m) n σ h (suc k) lt = ap (moved same_value) (keeps_under m n σ h k (omega arith))

below : {A : Type 0} (xs : List A) (k : ℕ) (a : A) → slice_get xs k ≡ Some a → k < length xs
below [] k a e = absurd (cc)
below (x ∷ xs) zero a e = omega arith
below (x ∷ xs) (suc k) a e = let lt = below xs k a e in omega arith

onto_count : {A : Type 0} (xs ys : List A) → length xs + length ys ≡ length (onto xs ys)
onto_count xs ys = let a = length_onto xs ys in let b = length_all xs in omega arith

one_more : {A B : Type 0} (f : A → B) (xs : List A) → 1 + length xs ≡ suc (length (each f xs))
one_more f xs = let a = length_each f xs in omega arith

-- ---- notes

module _ (ss : List Sort) (σ : Fates IndexValue) (keep : KeepsBelow (length ss) σ) where
  -- a variable that has a sort is kept
  kept_var : (k : ℕ) (s : Sort) → slice_get ss k ≡ Some s → as_index (σ k) ≡ Keep k
  kept_var k s e = ap as_index (keep k (below ss k s e))

  mutual
    index_stays : (q : Sort) (i : Index) → IsSorted ss q i → index_put (λ k. as_index (σ k)) i ≡ i
    index_stays q (Num at n) h = refl
    index_stays q (Var at k) h = ap (in_place (Var at)) (kept_var k q h)
    index_stays q (Sum at is) h = ap (Sum at) (indices_stay sort.Dim is h.1)
    index_stays q (Dims at is) h = ap (Dims at) (indices_stay sort.Dim is h.1)
    index_stays q (Join at is) h = ap (Join at) (indices_stay sort.Shape is h.1)

    indices_stay : (q : Sort) (is : Indices) → AreSorted ss q is → indices_put (λ k. as_index (σ k)) is ≡ is
    indices_stay q end h = refl
    indices_stay q (more i is) h = λ j. more (index_stays q i h.0 j) (indices_stay q is h.1 j)

  word_stays : (i : Index) → IsSorted ss sort.Shape i → put_in_word σ (norm_word i) ≡ norm_word i
  word_stays i h = sym (norm_word-put σ i) ∙ ap norm_word (index_stays sort.Shape i h)

  dim_stays : (i : Index) → IsSorted ss sort.Dim i → put_in_dim σ (norm_dim i) ≡ norm_dim i
  dim_stays i h = sym (norm_dim-put σ i) ∙ ap norm_dim (index_stays sort.Dim i h)

  note_stays : (q : Sort) (i : Index) → IsSorted ss q i → put_in_norm σ (norm_in ss i) ≡ norm_in ss i
  note_stays q (Num at n) h = ap norm.Dim (dim_stays (Num at n) refl)
  note_stays sort.Dim (Var at k) h = subst (λ o. put_in_norm σ (norm_by o (Var at k)) ≡ norm_by o (Var at k)) (sym h) (ap norm.Dim (dim_stays (Var at k) h))
  note_stays sort.Shape (Var at k) h = subst (λ o. put_in_norm σ (norm_by o (Var at k)) ≡ norm_by o (Var at k)) (sym h) (ap norm.Shape (word_stays (Var at k) h))
  note_stays q (Sum at is) h = ap norm.Dim (dim_stays (Sum at is) (refl, h.1))
  note_stays q (Dims at is) h = ap norm.Shape (word_stays (Dims at is) (refl, h.1))
  note_stays q (Join at is) h = ap norm.Shape (word_stays (Join at is) (refl, h.1))

  notes_stay : (qs : List Sort) (is : List Index) → EachTwo (IsSorted ss) qs is → each (put_in_norm σ) (each (norm_in ss) is) ≡ each (norm_in ss) is
  notes_stay [] [] h = refl
  notes_stay (q ∷ qs) (i ∷ is) h = λ j. note_stays q i h.0 j ∷ notes_stay qs is h.1 j
  notes_stay [] (i ∷ is) h = absurd h
  notes_stay (q ∷ qs) [] h = absurd h

  cell_stays : (types : ℕ) (t : Ty) → IsWellFormed types ss t → put_in_word σ (cell_word t) ≡ cell_word t
  cell_stays types (Arr at a i) h = word_stays i h.1
  cell_stays types _ h = refl

numbers_stay : (σ : Fates IndexValue) (ns : List ℕ) → put_in_word σ (number_letters ns) ≡ number_letters ns
numbers_stay σ [] = refl
numbers_stay σ (n ∷ ns) = ap (λ z. letter.Dim (constant n) ∷ z) (numbers_stay σ ns)

args_stay : (Γ : Context) (σ : Fates IndexValue) → KeepsBelow (length Γ.sorts) σ → (es : Terms typed) (us : Tys) (cs ps : List Index) → TermArgsHave Γ es us cs ps → each (put_in_word σ) (each norm_word cs) ≡ each norm_word cs
args_stay Γ σ k no_terms no_tys [] [] h = refl
args_stay Γ σ k (more_terms e es) (more_tys (Arr at a w) us) (c ∷ cs) (p ∷ ps) h = λ j. word_stays Γ.sorts σ k c h.0.1.1 j ∷ args_stay Γ σ k es us cs ps h.1 j
args_stay Γ σ k (more_terms e es) (more_tys _ us) (c ∷ cs) (p ∷ ps) h = absurd h.0
args_stay Γ σ k _ _ _ _ h = absurd h

given_stay : (Γ : Context) (σ : Fates IndexValue) → KeepsBelow (length Γ.sorts) σ → (g : Ty) (is : List Index) (P : Ty → Type 0) → GivenIndices Γ g is P → each (put_in_norm σ) (each (norm_in Γ.sorts) is) ≡ each (norm_in Γ.sorts) is
given_stay Γ σ k (Pi at ss b) is P h = notes_stay Γ.sorts σ k ss is h.0
given_stay Γ σ k _ is P h = absurd h

prim_stays : (Γ : Context) (σ : Fates IndexValue) → KeepsBelow (length Γ.sorts) σ → (g : Ty) (us : Option (List Ty)) (is : Option (List Index)) (t : Ty) → PrimHas Γ g us is t
    → option_map (each (put_in_norm σ)) (option_map (each (norm_in Γ.sorts)) is) ≡ option_map (each (norm_in Γ.sorts)) is
prim_stays Γ σ k g us None t h = refl
prim_stays Γ σ k g None (Some is) t h = ap Some (given_stay Γ σ k g is (λ u. Takes Γ u t) h)
prim_stays Γ σ k g (Some us) (Some is) t h =
    ap Some (given_inside Γ g us (λ u. GivenIndices Γ u is (λ w. Takes Γ w t)) (each (put_in_norm σ) (each (norm_in Γ.sorts) is) ≡ each (norm_in Γ.sorts) is) (λ u j. given_stay Γ σ k u is (λ w. Takes Γ w t) j) h)

types_stay : (us : Option (List Ty)) → option_map (λ u. u) (option_map (λ u. tt) us) ≡ option_map (λ u. tt {0}) us
types_stay None = refl
types_stay (Some us) = refl

box_stays : (Γ : Context) (σ : Fates IndexValue) → KeepsBelow (length Γ.sorts) σ → (u : Ty) (is : List Index) (P : List Sort → Ty → Type 0) → OnSigma u (λ ss b. EachTwo (IsSorted Γ.sorts) ss is × P ss b)
    → each (put_in_norm σ) (each (norm_in Γ.sorts) is) ≡ each (norm_in Γ.sorts) is
box_stays Γ σ k (Sigma at ss b) is P h = notes_stay Γ.sorts σ k ss is h.0
box_stays Γ σ k _ is P h = absurd h

box_inner : (Γ : Context) (u : Ty) (is : List Index) (e : TypedTerm) → OnSigma u (λ ss b. EachTwo (IsSorted Γ.sorts) ss is × HasTerm Γ e (with_indices is b)) → (T : Ty) × HasTerm Γ e T
box_inner Γ (Sigma at ss b) is e h = (with_indices is b, h.1)
box_inner Γ _ is e h = absurd h

-- ---- terms

mutual
  pub typed_stays : (Γ : Context) (σ : Fates IndexValue) (θ : Fates ErasedTerm) → KeepsBelow (length Γ.sorts) σ → KeepsBelow (length Γ.terms) θ → (e : TypedTerm) (T : Ty) → HasTerm Γ e T → term_put erased_rules σ θ (er Γ.sorts e) ≡ er Γ.sorts e
  typed_stays Γ σ θ k l (TVar j) T h = ap (in_place TVar) (l j (below Γ.terms j h.0 h.1))
  typed_stays Γ σ θ k l (TDef j) T h = refl
  typed_stays Γ σ θ k l (TArray dims no_cells) T h = absurd h
  typed_stays Γ σ θ k l (TArray dims (more_cells x xs)) T h = λ j. TArray dims (more_cells (stays_cell Γ σ θ k l x h.0 h.1 j) (stays_cells Γ σ θ k l xs h.0 h.2 j))
  typed_stays Γ σ θ k l (TNoAtoms dims a) T h = refl
  typed_stays Γ σ θ k l (TFrame dims no_terms n) T h = absurd h
  typed_stays Γ σ θ k l (TFrame dims (more_terms e es) n) T h = λ j. TFrame dims (more_terms (typed_stays Γ σ θ k l e (array_of h.0 h.1) h.2 j) (stays_terms Γ σ θ k l es (array_of h.0 h.1) h.3 j)) tt
  typed_stays Γ σ θ k l (TNoCells w) T h =
      ap TNoCells (put_append σ (number_letters w.dims) (cell_word w.cell) ∙ (λ j. numbers_stay σ w.dims j ++ cell_stays Γ.sorts σ k Γ.types w.cell h.0 j))
  typed_stays Γ σ θ k l (TApp f es cs n) T h =
      λ j. TApp (typed_stays Γ σ θ k l f (array_of (Fun no_span h.0 h.1) h.2) h.3 j) (stays_args Γ σ θ k l es h.0 cs h.4.0 h.4.1 j) (args_stay Γ σ k es h.0 cs h.4.0 h.4.1 j) (cell_stays Γ.sorts σ k Γ.types n h.4.2.1 j)
  typed_stays Γ σ θ k l (TTypeApp e us n) T h = λ j. TTypeApp (typed_stays Γ σ θ k l e (array_of (Forall no_span h.0 h.1) h.2) h.3 j) tt (cell_stays Γ.sorts σ k Γ.types n h.6.1 j)
  typed_stays Γ σ θ k l (TIndexApp e is n) T h =
      λ j. TIndexApp (typed_stays Γ σ θ k l e (array_of (Pi no_span h.0 h.1) h.2) h.3 j) (notes_stay Γ.sorts σ k h.0 is h.4 j) (cell_stays Γ.sorts σ k Γ.types n h.5.1 j)
  typed_stays Γ σ θ k l (TUnbox ss e b n) T h =
      λ j. TUnbox (length ss) (typed_stays Γ σ θ k l e (array_of (Sigma no_span ss h.0) h.1) h.2 j)
      (typed_stays (under_terms (h.0 ∷ []) (under_sorts ss Γ)) (under_n (length ss) same_value σ) (terms_under 1 θ)
      (subst (λ m. KeepsBelow m (under_n (length ss) same_value σ)) (onto_count ss Γ.sorts) (keeps_under (length ss) (length Γ.sorts) σ k))
      (subst (λ m. KeepsBelow m (terms_under 1 θ)) (one_more (times (length ss) ty_under_index) Γ.terms) (keeps_under 1 (length Γ.terms) θ l))
      b (times (length ss) ty_under_index n) h.4 j)
      (cell_stays Γ.sorts σ k Γ.types n h.3 j)

  stays_terms : (Γ : Context) (σ : Fates IndexValue) (θ : Fates ErasedTerm) → KeepsBelow (length Γ.sorts) σ → KeepsBelow (length Γ.terms) θ → (es : Terms typed) (T : Ty) → TermsHave Γ es T → terms_put erased_rules σ θ (er_terms Γ.sorts es) ≡ er_terms Γ.sorts es
  stays_terms Γ σ θ k l no_terms T h = refl
  stays_terms Γ σ θ k l (more_terms e es) T h = λ j. more_terms (typed_stays Γ σ θ k l e T h.0 j) (stays_terms Γ σ θ k l es T h.1 j)

  stays_args : (Γ : Context) (σ : Fates IndexValue) (θ : Fates ErasedTerm) → KeepsBelow (length Γ.sorts) σ → KeepsBelow (length Γ.terms) θ → (es : Terms typed) (us : Tys) (cs ps : List Index) → TermArgsHave Γ es us cs ps
      → terms_put erased_rules σ θ (er_terms Γ.sorts es) ≡ er_terms Γ.sorts es
  stays_args Γ σ θ k l no_terms us cs ps h = refl
  stays_args Γ σ θ k l (more_terms e es) (more_tys (Arr at a w) us) (c ∷ cs) (p ∷ ps) h = λ j. more_terms (typed_stays Γ σ θ k l e (array_of a (then_shape p w)) h.0.0 j) (stays_args Γ σ θ k l es us cs ps h.1 j)
  stays_args Γ σ θ k l (more_terms e es) (more_tys _ us) (c ∷ cs) (p ∷ ps) h = absurd h.0
  stays_args Γ σ θ k l (more_terms e es) no_tys cs ps h = absurd h
  stays_args Γ σ θ k l (more_terms e es) (more_tys u us) [] ps h = absurd h
  stays_args Γ σ θ k l (more_terms e es) (more_tys u us) (c ∷ cs) [] h = absurd h

  stays_cell : (Γ : Context) (σ : Fates IndexValue) (θ : Fates ErasedTerm) → KeepsBelow (length Γ.sorts) σ → KeepsBelow (length Γ.terms) θ → (x : Cell typed) (T : Ty) → HasCell Γ x T → cell_put erased_rules σ θ (er_cell Γ.sorts x) ≡ er_cell Γ.sorts x
  stays_cell Γ σ θ k l (TInt z) T h = refl
  stays_cell Γ σ θ k l (TBool z) T h = refl
  stays_cell Γ σ θ k l (TChar z) T h = refl
  stays_cell Γ σ θ k l (TPrim p us is) T h = λ j. TPrim p (types_stay us j) (prim_stays Γ σ k (prim_type p) us is T h j)
  stays_cell Γ σ θ k l (TFn i e) T h =
      ap (TFn (length i.inputs)) (typed_stays (under_terms i.inputs Γ) σ (terms_under (length i.inputs) θ) k
      (subst (λ m. KeepsBelow m (terms_under (length i.inputs) θ)) (onto_count i.inputs Γ.terms) (keeps_under (length i.inputs) (length Γ.terms) θ l)) e i.result h.2)
  stays_cell Γ σ θ k l (TTypeFn n e) T h = ap (TTypeFn tt) (typed_stays (under_types n Γ) σ θ k (subst (λ m. KeepsBelow m θ) (sym (length_each (times n ty_under_type) Γ.terms)) l) e h.0 h.1)
  stays_cell Γ σ θ k l (TIndexFn ss e) T h =
      ap (TIndexFn (length ss)) (typed_stays (under_sorts ss Γ) (under_n (length ss) same_value σ) θ
      (subst (λ m. KeepsBelow m (under_n (length ss) same_value σ)) (onto_count ss Γ.sorts) (keeps_under (length ss) (length Γ.sorts) σ k))
      (subst (λ m. KeepsBelow m θ) (sym (length_each (times (length ss) ty_under_index) Γ.terms)) l) e h.0 h.1)
  stays_cell Γ σ θ k l (TBoxed is e u) T h =
      let inner = box_inner Γ u is e h.1 in
      λ j. TBoxed (box_stays Γ σ k u is (λ ss b. HasTerm Γ e (with_indices is b)) h.1 j) (typed_stays Γ σ θ k l e inner.0 inner.1 j) tt

  stays_cells : (Γ : Context) (σ : Fates IndexValue) (θ : Fates ErasedTerm) → KeepsBelow (length Γ.sorts) σ → KeepsBelow (length Γ.terms) θ → (xs : Cells typed) (T : Ty) → CellsHave Γ xs T → cells_put erased_rules σ θ (er_cells Γ.sorts xs) ≡ er_cells Γ.sorts xs
  stays_cells Γ σ θ k l no_cells T h = refl
  stays_cells Γ σ θ k l (more_cells x xs) T h = λ j. more_cells (stays_cell Γ σ θ k l x T h.0 j) (stays_cells Γ σ θ k l xs T h.1 j)

-- a closed one stays as it is, whatever is put in the place of variables
pub closed : (D : List Ty) (T : Ty) (t : ErasedTerm) → Witnessed D T t → IsClosed t
closed D T t g σ θ = subst (λ u. term_put erased_rules σ θ u ≡ u) g.2 (typed_stays (defs_only D) σ θ (λ k lt. absurd (omega arith)) (λ k lt. absurd (omega arith)) g.0 T g.1)
