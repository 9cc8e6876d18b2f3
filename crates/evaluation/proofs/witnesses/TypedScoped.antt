-- The erased term of a typed one has notes in scope of the sorts of its context.
use Rattle.std.proofs.Common.{◌≡◌, refl, sym, ap, subst, ℕ, zero, suc, true, List, [], ◌∷◌, ◌++◌, length, Option, Some, None}
use Rattle.std.specs.Prelude.{slice_get, option_map}
use Rattle.core_syntax.specs.declared.index.Sort.{Sort}
use Rattle.core_syntax.specs.declared.index.Sort.TheVariants as sort
use Rattle.core_syntax.specs.declared.norm.Coef.{Coef}
use Rattle.core_syntax.specs.declared.norm.Letter.TheVariants as letter
use Rattle.core_syntax.specs.Syntax.{Index, Num, Var, Sum, Dims, Join, Indices, end, more, Ty, Fun, Forall, Pi, Sigma, Arr, Tys, no_tys, more_tys, no_span}
use Rattle.core_syntax.specs.Lists.{onto, each, Each, EachTwo}
use Rattle.core_syntax.specs.Word.{Word}
use Rattle.core_syntax.specs.Sorts.{IsSorted, AreSorted}
use Rattle.core_syntax.specs.Kinds.{IsWellFormed}
use Rattle.core_syntax.specs.Norm.{add_coef, add_coefs, norm_dim, norm_sum, norm_letters, norm_word, norm_words}
use Rattle.core_syntax.specs.Value.{then_shape}
use Rattle.core_syntax.specs.Subst.{with_indices, ty_under_index}
use Rattle.core_syntax.specs.Prims.{prim_type, array_of}
use Rattle.core_syntax.specs.Typing.{Context, times, under_types, under_sorts, under_terms, OnSigma, Takes}
use Rattle.core_syntax.specs.Terms.{IndexValue, DimValue, ShapeValue, TVar, TDef, TArray, TNoAtoms, TFrame, TNoCells, TApp, TTypeApp, TIndexApp, TUnbox, Terms, no_terms, more_terms, Cell, TInt, TBool, TChar, TPrim, TFn, TTypeFn, TIndexFn, TBoxed, Cells, no_cells, more_cells}
use Rattle.core_syntax.specs.Typed.{typed, TypedTerm}
use Rattle.core_syntax.specs.TermTyping.{GivenIndices, PrimHas, HasTerm, HasCell, CellsHave, TermsHave, TermArgsHave}
use Rattle.core_syntax.proofs.NormLemmas.{add_cases, IsNormal-norm}
use Rattle.core_syntax.specs.DeltaStuck.{have_sorts}
use Rattle.core_syntax.specs.NormPut.{number_letters}
use Rattle.erasure.specs.Erasure.{er, er_terms, er_cell, er_cells, norm_in, norm_by, cell_word}
use Rattle.erasure.proofs.together.Closed.{given_inside}
use Rattle.evaluation.specs.Scoped.{Scope, bound, with_values, stands_for_dim, stands_for_shape, CoefsScoped, WordScoped, IndexScoped, PrimScoped, Scoped, TermsScoped, CellScoped, CellsScoped}

-- a variable stands for an index of this sort
abbrev pub Stands : Sort → Option (Option IndexValue) → Type 0
Stands sort.Dim o = stands_for_dim o ≡ true
Stands sort.Shape o = stands_for_shape o ≡ true

-- variables of these sorts
abbrev pub HasScope : List Sort → Scope → Type 0
HasScope ss S = (k : ℕ) (s : Sort) → slice_get ss k ≡ Some s → Stands s (slice_get S k)

bound_stands : (s : Sort) → Stands s (Some None)
bound_stands sort.Dim = refl
bound_stands sort.Shape = refl

scope_more : (s : Sort) (ss : List Sort) (o : Option IndexValue) (S : Scope) → Stands s (Some o) → HasScope ss S → HasScope (s ∷ ss) (o ∷ S)
scope_more s ss o S h k zero r e = subst (λ q. Stands q (Some o)) (let same : s ≡ r = cc in same) h
scope_more s ss o S h k (suc j) r e = k j r e

bound_in : (n : ℕ) (S : Scope) → bound n (None ∷ S) ≡ None ∷ bound n S
bound_in zero S = refl
bound_in (suc n) S = ap (λ T. None ∷ T) (bound_in n S)

pub scope_bound : (rs ss : List Sort) (S : Scope) → HasScope ss S → HasScope (onto rs ss) (bound (length rs) S)
scope_bound [] ss S h = h
scope_bound (r ∷ rs) ss S h = subst (HasScope (onto rs (r ∷ ss))) (bound_in (length rs) S) (scope_bound rs (r ∷ ss) (None ∷ S) (scope_more r ss None S (bound_stands r) h))

-- variables that have values of their sorts
pub scope_values : (rs ss : List Sort) (vs ws : List IndexValue) → have_sorts rs vs ≡ true → HasScope ss (with_values ws) → HasScope (onto rs ss) (with_values (onto vs ws))
scope_values [] ss [] ws e h = h
scope_values (sort.Dim ∷ rs) ss (DimValue n ∷ vs) ws e h = scope_values rs (sort.Dim ∷ ss) vs (DimValue n ∷ ws) e (scope_more sort.Dim ss (Some (DimValue n)) (with_values ws) refl h)
scope_values (sort.Shape ∷ rs) ss (ShapeValue n ∷ vs) ws e h = scope_values rs (sort.Shape ∷ ss) vs (ShapeValue n ∷ ws) e (scope_more sort.Shape ss (Some (ShapeValue n)) (with_values ws) refl h)
scope_values (sort.Dim ∷ rs) ss (ShapeValue n ∷ vs) ws e h = absurd (cc)
scope_values (sort.Shape ∷ rs) ss (DimValue n ∷ vs) ws e h = absurd (cc)
scope_values [] ss (v ∷ vs) ws e h = absurd (cc)
scope_values (sort.Dim ∷ rs) ss [] ws e h = absurd (cc)
scope_values (sort.Shape ∷ rs) ss [] ws e h = absurd (cc)

pub scope_none : HasScope [] []
scope_none k s e = absurd (nowhere k s e)
  where
    nowhere : (k : ℕ) (s : Sort) → slice_get (let none : List Sort = [] in none) k ≡ Some s → ⊥
    nowhere k s e = cc

-- ---- notes

coef_scoped : (S : Scope) (k n : ℕ) (cs : List Coef) → stands_for_dim (slice_get S k) ≡ true → CoefsScoped S cs → CoefsScoped S (add_coef k n cs)
coef_scoped S k n [] e h = (e, tt)
coef_scoped S k n (c ∷ cs) e h = add_cases (CoefsScoped S) k n c cs (λ lt. (e, h)) (λ same. (e, h.1)) (λ gt. (h.0, coef_scoped S k n cs e h.1))

coefs_scoped : (S : Scope) (cs ds : List Coef) → CoefsScoped S cs → CoefsScoped S ds → CoefsScoped S (add_coefs cs ds)
coefs_scoped S [] ds h k = k
coefs_scoped S (c ∷ cs) ds h k = coef_scoped S c.var c.times (add_coefs cs ds) h.0 (coefs_scoped S cs ds h.1 k)

joined_scoped : (S : Scope) (w v : Word) → WordScoped S w → WordScoped S v → WordScoped S (w ++ v)
joined_scoped S [] v h k = k
joined_scoped S (letter.Dim d ∷ w) v h k = (h.0, joined_scoped S w v h.1 k)
joined_scoped S (letter.Var j ∷ w) v h k = (h.0, joined_scoped S w v h.1 k)

module _ (ss : List Sort) (S : Scope) (scope : HasScope ss S) where
  mutual
    dim_scoped : (i : Index) → IsSorted ss sort.Dim i → CoefsScoped S (norm_dim i).coefs
    dim_scoped (Num at n) h = tt
    dim_scoped (Var at k) h = (scope k sort.Dim h, tt)
    dim_scoped (Sum at is) h = sum_scoped is h.1
    dim_scoped (Dims at is) h = tt
    dim_scoped (Join at is) h = tt

    sum_scoped : (is : Indices) → AreSorted ss sort.Dim is → CoefsScoped S (norm_sum is).coefs
    sum_scoped end h = tt
    sum_scoped (more i is) h = coefs_scoped S (norm_dim i).coefs (norm_sum is).coefs (dim_scoped i h.0) (sum_scoped is h.1)

  letters_scoped : (is : Indices) → AreSorted ss sort.Dim is → WordScoped S (norm_letters is)
  letters_scoped end h = tt
  letters_scoped (more i is) h = ((IsNormal-norm i, dim_scoped i h.0), letters_scoped is h.1)

  mutual
    pub word_scoped : (i : Index) → IsSorted ss sort.Shape i → WordScoped S (norm_word i)
    word_scoped (Num at n) h = tt
    word_scoped (Var at k) h = (scope k sort.Shape h, tt)
    word_scoped (Sum at is) h = tt
    word_scoped (Dims at is) h = letters_scoped is h.1
    word_scoped (Join at is) h = words_scoped is h.1

    words_scoped : (is : Indices) → AreSorted ss sort.Shape is → WordScoped S (norm_words is)
    words_scoped end h = tt
    words_scoped (more i is) h = joined_scoped S (norm_word i) (norm_words is) (word_scoped i h.0) (words_scoped is h.1)

  pub index_scoped : (q : Sort) (i : Index) → IsSorted ss q i → IndexScoped S (norm_in ss i)
  index_scoped q (Num at n) h = (IsNormal-norm (Num at n), tt)
  index_scoped sort.Dim (Var at k) h = subst (λ o. IndexScoped S (norm_by o (Var at k))) (sym h) (IsNormal-norm (Var at k), (scope k sort.Dim h, tt))
  index_scoped sort.Shape (Var at k) h = subst (λ o. IndexScoped S (norm_by o (Var at k))) (sym h) (scope k sort.Shape h, tt)
  index_scoped q (Sum at is) h = (IsNormal-norm (Sum at is), sum_scoped is h.1)
  index_scoped q (Dims at is) h = letters_scoped is h.1
  index_scoped q (Join at is) h = words_scoped is h.1

  pub indices_scoped : (qs : List Sort) (is : List Index) → EachTwo (IsSorted ss) qs is → Each (IndexScoped S) (each (norm_in ss) is)
  indices_scoped [] [] h = tt
  indices_scoped (q ∷ qs) (i ∷ is) h = (index_scoped q i h.0, indices_scoped qs is h.1)
  indices_scoped [] (i ∷ is) h = absurd h
  indices_scoped (q ∷ qs) [] h = absurd h

  pub cell_scoped : (types : ℕ) (t : Ty) → IsWellFormed types ss t → WordScoped S (cell_word t)
  cell_scoped types (Arr at a i) h = word_scoped i h.1
  cell_scoped types _ h = tt

numbers_scoped : (S : Scope) (ns : List ℕ) → WordScoped S (number_letters ns)
numbers_scoped S [] = tt
numbers_scoped S (n ∷ ns) = ((tt, tt), numbers_scoped S ns)

args_scoped : (Γ : Context) (S : Scope) → HasScope Γ.sorts S → (es : Terms typed) (us : Tys) (cs ps : List Index) → TermArgsHave Γ es us cs ps → Each (WordScoped S) (each norm_word cs)
args_scoped Γ S k no_terms no_tys [] [] h = tt
args_scoped Γ S k (more_terms e es) (more_tys (Arr at a w) us) (c ∷ cs) (p ∷ ps) h = (word_scoped Γ.sorts S k c h.0.1.1, args_scoped Γ S k es us cs ps h.1)
args_scoped Γ S k (more_terms e es) (more_tys _ us) (c ∷ cs) (p ∷ ps) h = absurd h.0
args_scoped Γ S k _ _ _ _ h = absurd h

given_scoped : (Γ : Context) (S : Scope) → HasScope Γ.sorts S → (g : Ty) (is : List Index) (P : Ty → Type 0) → GivenIndices Γ g is P → Each (IndexScoped S) (each (norm_in Γ.sorts) is)
given_scoped Γ S k (Pi at ss b) is P h = indices_scoped Γ.sorts S k ss is h.0
given_scoped Γ S k _ is P h = absurd h

prim_scoped : (Γ : Context) (S : Scope) → HasScope Γ.sorts S → (g : Ty) (us : Option (List Ty)) (is : Option (List Index)) (t : Ty) → PrimHas Γ g us is t → PrimScoped true S (option_map (λ u. tt) us) (option_map (each (norm_in Γ.sorts)) is)
prim_scoped Γ S k g None None t h = tt
prim_scoped Γ S k g (Some us) None t h = tt
prim_scoped Γ S k g None (Some is) t h = given_scoped Γ S k g is (λ u. Takes Γ u t) h
prim_scoped Γ S k g (Some us) (Some is) t h =
    given_inside Γ g us (λ u. GivenIndices Γ u is (λ w. Takes Γ w t)) (Each (IndexScoped S) (each (norm_in Γ.sorts) is)) (λ u j. given_scoped Γ S k u is (λ w. Takes Γ w t) j) h

box_scoped : (Γ : Context) (S : Scope) → HasScope Γ.sorts S → (u : Ty) (is : List Index) (P : List Sort → Ty → Type 0) → OnSigma u (λ ss b. EachTwo (IsSorted Γ.sorts) ss is × P ss b) → Each (IndexScoped S) (each (norm_in Γ.sorts) is)
box_scoped Γ S k (Sigma at ss b) is P h = indices_scoped Γ.sorts S k ss is h.0
box_scoped Γ S k _ is P h = absurd h

box_inner : (Γ : Context) (u : Ty) (is : List Index) (e : TypedTerm) → OnSigma u (λ ss b. EachTwo (IsSorted Γ.sorts) ss is × HasTerm Γ e (with_indices is b)) → (T : Ty) × HasTerm Γ e T
box_inner Γ (Sigma at ss b) is e h = (with_indices is b, h.1)
box_inner Γ _ is e h = absurd h

-- ---- terms

mutual
  pub typed_scoped : (Γ : Context) (S : Scope) → HasScope Γ.sorts S → (e : TypedTerm) (T : Ty) → HasTerm Γ e T → Scoped true S (er Γ.sorts e)
  typed_scoped Γ S k (TVar j) T h = tt
  typed_scoped Γ S k (TDef j) T h = tt
  typed_scoped Γ S k (TArray dims no_cells) T h = absurd h
  typed_scoped Γ S k (TArray dims (more_cells x xs)) T h = (tt, (typed_cell Γ S k x h.0 h.1, typed_cells Γ S k xs h.0 h.2))
  typed_scoped Γ S k (TNoAtoms dims a) T h = tt
  typed_scoped Γ S k (TFrame dims no_terms n) T h = absurd h
  typed_scoped Γ S k (TFrame dims (more_terms e es) n) T h = (typed_scoped Γ S k e (array_of h.0 h.1) h.2, typed_terms Γ S k es (array_of h.0 h.1) h.3)
  typed_scoped Γ S k (TNoCells w) T h = joined_scoped S (number_letters w.dims) (cell_word w.cell) (numbers_scoped S w.dims) (cell_scoped Γ.sorts S k Γ.types w.cell h.0)
  typed_scoped Γ S k (TApp f es cs n) T h =
      (typed_scoped Γ S k f (array_of (Fun no_span h.0 h.1) h.2) h.3, typed_args Γ S k es h.0 cs h.4.0 h.4.1, args_scoped Γ S k es h.0 cs h.4.0 h.4.1, cell_scoped Γ.sorts S k Γ.types n h.4.2.1)
  typed_scoped Γ S k (TTypeApp e us n) T h = (typed_scoped Γ S k e (array_of (Forall no_span h.0 h.1) h.2) h.3, cell_scoped Γ.sorts S k Γ.types n h.6.1)
  typed_scoped Γ S k (TIndexApp e is n) T h = (typed_scoped Γ S k e (array_of (Pi no_span h.0 h.1) h.2) h.3, indices_scoped Γ.sorts S k h.0 is h.4, cell_scoped Γ.sorts S k Γ.types n h.5.1)
  typed_scoped Γ S k (TUnbox ss e b n) T h = (
    typed_scoped Γ S k e (array_of (Sigma no_span ss h.0) h.1) h.2,
    typed_scoped (under_terms (h.0 ∷ []) (under_sorts ss Γ)) (bound (length ss) S) (scope_bound ss Γ.sorts S k) b (times (length ss) ty_under_index n) h.4,
    cell_scoped Γ.sorts S k Γ.types n h.3,
  )

  typed_terms : (Γ : Context) (S : Scope) → HasScope Γ.sorts S → (es : Terms typed) (T : Ty) → TermsHave Γ es T → TermsScoped true S (er_terms Γ.sorts es)
  typed_terms Γ S k no_terms T h = tt
  typed_terms Γ S k (more_terms e es) T h = (typed_scoped Γ S k e T h.0, typed_terms Γ S k es T h.1)

  typed_args : (Γ : Context) (S : Scope) → HasScope Γ.sorts S → (es : Terms typed) (us : Tys) (cs ps : List Index) → TermArgsHave Γ es us cs ps → TermsScoped true S (er_terms Γ.sorts es)
  typed_args Γ S k no_terms us cs ps h = tt
  typed_args Γ S k (more_terms e es) (more_tys (Arr at a w) us) (c ∷ cs) (p ∷ ps) h = (typed_scoped Γ S k e (array_of a (then_shape p w)) h.0.0, typed_args Γ S k es us cs ps h.1)
  typed_args Γ S k (more_terms e es) (more_tys _ us) (c ∷ cs) (p ∷ ps) h = absurd h.0
  typed_args Γ S k (more_terms e es) no_tys cs ps h = absurd h
  typed_args Γ S k (more_terms e es) (more_tys u us) [] ps h = absurd h
  typed_args Γ S k (more_terms e es) (more_tys u us) (c ∷ cs) [] h = absurd h

  typed_cell : (Γ : Context) (S : Scope) → HasScope Γ.sorts S → (x : Cell typed) (T : Ty) → HasCell Γ x T → CellScoped true S (er_cell Γ.sorts x)
  typed_cell Γ S k (TInt z) T h = tt
  typed_cell Γ S k (TBool z) T h = tt
  typed_cell Γ S k (TChar z) T h = tt
  typed_cell Γ S k (TPrim p us is) T h = prim_scoped Γ S k (prim_type p) us is T h
  typed_cell Γ S k (TFn i e) T h = typed_scoped (under_terms i.inputs Γ) S k e i.result h.2
  typed_cell Γ S k (TTypeFn n e) T h = typed_scoped (under_types n Γ) S k e h.0 h.1
  typed_cell Γ S k (TIndexFn ss e) T h = typed_scoped (under_sorts ss Γ) (bound (length ss) S) (scope_bound ss Γ.sorts S k) e h.0 h.1
  typed_cell Γ S k (TBoxed is e u) T h =
      let inner = box_inner Γ u is e h.1 in
      (box_scoped Γ S k u is (λ ss b. HasTerm Γ e (with_indices is b)) h.1, typed_scoped Γ S k e inner.0 inner.1)

  typed_cells : (Γ : Context) (S : Scope) → HasScope Γ.sorts S → (xs : Cells typed) (T : Ty) → CellsHave Γ xs T → CellsScoped true S (er_cells Γ.sorts xs)
  typed_cells Γ S k no_cells T h = tt
  typed_cells Γ S k (more_cells x xs) T h = (typed_cell Γ S k x T h.0, typed_cells Γ S k xs T h.1)
