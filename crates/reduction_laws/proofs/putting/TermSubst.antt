-- A typed term keeps its types where closed terms of the variables' types are put in their place.
use Rattle.std.proofs.Common.{◌≡◌, refl, sym, ◌∙◌, ap, subst, ℕ, zero, suc, ◌+◌, ◌<◌, arith, List, [], ◌∷◌, length, Option, Some, None}
use Rattle.std.specs.Prelude.{slice_get, option_map}
use Rattle.core_syntax.specs.declared.index.Sort.{Sort}
use Rattle.core_syntax.specs.declared.index.Sort.TheVariants as sort
use Rattle.core_syntax.specs.Syntax.{Index, Num, Var, Sum, Dims, Join, Indices, end, more, Ty, BaseTy, TyVar, Fun, Forall, Pi, Sigma, Arr, Tys, no_tys, more_tys, no_span}
use Rattle.core_syntax.specs.Lists.{onto, each}
use Rattle.core_syntax.specs.Sorts.{IsSorted, AreSorted}
use Rattle.core_syntax.specs.Kinds.{IsWellFormed, AreWellFormed}
use Rattle.core_syntax.specs.Value.{then_shape}
use Rattle.core_syntax.specs.TypeEqual.{Same}
use Rattle.core_syntax.specs.Subst.{Fate, Keep, Put, Fates, kept, under, under_n, moved, in_place, index_renamed, indices_renamed, index_put, indices_put, index_under, past, past_n, same, ty_renamed, tys_renamed, ty_put, tys_put, ty_under_type, ty_under_index, fates_under_index, with_types, with_indices}
use Rattle.core_syntax.specs.Prims.{array_of}
use Rattle.core_syntax.specs.Typing.{Context, times, under_types, under_sorts, under_terms, numbers, OnArr, Takes, defs_only}
use Rattle.core_syntax.specs.Terms.{TVar, TDef, TArray, TNoAtoms, TFrame, TNoCells, TApp, TTypeApp, TIndexApp, TUnbox, Terms, no_terms, more_terms, Cell, TInt, TBool, TChar, TPrim, TFn, TTypeFn, TIndexFn, TBoxed, Cells, no_cells, more_cells}
use Rattle.core_syntax.specs.TermPut.{term_put, terms_put, cell_put, cells_put, terms_under}
use Rattle.core_syntax.specs.Typed.{typed, typed_rules, TypedTerm, TypedPuts, Inputs}
use Rattle.core_syntax.specs.TermTyping.{HasTerm, TermsHave, TermArgsHave, HasCell, CellsHave, cell_count, term_count}
use mathlib.Core.Path.{subst₂}
use Rattle.core_syntax.proofs.Equality.{same_trans}
use Rattle.core_syntax.proofs.Valued.{under_kept_n, types_kept}
use Rattle.reduction_laws.proofs.putting.Wider.{Wider, has_wider, from_each, to_each}

-- ---- what is kept stays

mutual
  pub index_kept : (i : Index) → index_put kept i ≡ i
  index_kept (Num at n) = refl
  index_kept (Var at k) = refl
  index_kept (Sum at is) = ap (Sum at) (indices_kept is)
  index_kept (Dims at is) = ap (Dims at) (indices_kept is)
  index_kept (Join at is) = ap (Join at) (indices_kept is)

  pub indices_kept : (is : Indices) → indices_put kept is ≡ is
  indices_kept end = refl
  indices_kept (more i is) = λ k. more (index_kept i k) (indices_kept is k)

mutual
  pub ty_kept : (t : Ty) → ty_put kept kept t ≡ t
  ty_kept (BaseTy at b) = refl
  ty_kept (TyVar at k) = refl
  ty_kept (Fun at ts r) = λ i. Fun at (tys_kept ts i) (ty_kept r i)
  ty_kept (Forall at n t) = ap (λ τ. Forall at n (ty_put kept τ t)) (under_kept_n n ty_under_type) ∙ ap (Forall at n) (ty_kept t)
  ty_kept (Pi at ss t) =
      ap (λ σ. Pi at ss (ty_put σ (fates_under_index (length ss) kept) t)) (under_kept_n (length ss) index_under)
      ∙ ap (λ τ. Pi at ss (ty_put kept τ t)) (types_kept (length ss)) ∙ ap (Pi at ss) (ty_kept t)
  ty_kept (Sigma at ss t) =
      ap (λ σ. Sigma at ss (ty_put σ (fates_under_index (length ss) kept) t)) (under_kept_n (length ss) index_under)
      ∙ ap (λ τ. Sigma at ss (ty_put kept τ t)) (types_kept (length ss)) ∙ ap (Sigma at ss) (ty_kept t)
  ty_kept (Arr at t i) = λ j. Arr at (ty_kept t j) (index_kept i j)

  pub tys_kept : (ts : Tys) → tys_put kept kept ts ≡ ts
  tys_kept no_tys = refl
  tys_kept (more_tys t ts) = λ i. more_tys (ty_kept t i) (tys_kept ts i)

each_same : {A : Type 0} (f : A → A) → ((a : A) → f a ≡ a) → (xs : List A) → each f xs ≡ xs
each_same f e [] = refl
each_same f e (x ∷ xs) = λ i. e x i ∷ each_same f e xs i

-- nothing is put in the place of index variables and type variables
abbrev none : TypedPuts
none = record { indices = kept; types = kept }

none_under_count : (n : ℕ) (σ : TypedPuts) → σ ≡ none → typed_rules.under_count n σ ≡ none
none_under_count n σ e = ap (typed_rules.under_count n) e ∙ λ i. record { indices = kept; types = under_kept_n n ty_under_type i }

none_under_sorts : (ss : List Sort) (σ : TypedPuts) → σ ≡ none → typed_rules.under_sorts ss σ ≡ none
none_under_sorts ss σ e = ap (typed_rules.under_sorts ss) e ∙ λ i. record { indices = under_kept_n (length ss) index_under i; types = types_kept (length ss) i }

ty_same : (σ : TypedPuts) → σ ≡ none → (t : Ty) → typed_rules.on_result σ t ≡ t
ty_same σ e t = ap (λ σ. typed_rules.on_result σ t) e ∙ ty_kept t

index_same : (σ : TypedPuts) → σ ≡ none → (i : Index) → typed_rules.on_index σ i ≡ i
index_same σ e i = ap (λ σ. typed_rules.on_index σ i) e ∙ index_kept i

-- ---- closed types

abbrev Fixes : (ℕ → ℕ) → ℕ → Type 0
Fixes ρ n = (k : ℕ) → k < n → ρ k ≡ k

fixes_past : (ρ : ℕ → ℕ) (n : ℕ) → Fixes ρ n → Fixes (past ρ) (suc n)
fixes_past ρ n h zero lt = refl
fixes_past ρ n h (suc k) lt = ap suc (h k (omega arith))

fixes_past_n : (m : ℕ) (ρ : ℕ → ℕ) (n : ℕ) → Fixes ρ n → Fixes (past_n m ρ) (m + n)
fixes_past_n zero ρ n h k lt = h k (omega arith)
fixes_past_n (suc m) ρ n h k lt = fixes_past (past_n m ρ) (m + n) (fixes_past_n m ρ n h) k (omega arith)

pub there : {A : Type 0} (xs : List A) (k : ℕ) (a : A) → slice_get xs k ≡ Some a → k < length xs
there [] k a e = absurd (cc)
there (x ∷ xs) zero a e = omega arith
there (x ∷ xs) (suc k) a e = let l = there xs k a e in omega arith

pub length-onto : {A : Type 0} (xs ys : List A) → length (onto xs ys) ≡ length xs + length ys
length-onto [] ys = omega arith
length-onto (x ∷ xs) ys = let e = length-onto xs (x ∷ ys) in omega arith

mutual
  index_fixed : (ρ : ℕ → ℕ) (ss : List Sort) (s : Sort) (i : Index) → Fixes ρ (length ss) → IsSorted ss s i → index_renamed ρ i ≡ i
  index_fixed ρ ss s (Num at n) f h = refl
  index_fixed ρ ss s (Var at k) f h = ap (Var at) (f k (there ss k s h))
  index_fixed ρ ss s (Sum at is) f h = ap (Sum at) (indices_fixed ρ ss sort.Dim is f h.1)
  index_fixed ρ ss s (Dims at is) f h = ap (Dims at) (indices_fixed ρ ss sort.Dim is f h.1)
  index_fixed ρ ss s (Join at is) f h = ap (Join at) (indices_fixed ρ ss sort.Shape is f h.1)

  indices_fixed : (ρ : ℕ → ℕ) (ss : List Sort) (s : Sort) (is : Indices) → Fixes ρ (length ss) → AreSorted ss s is → indices_renamed ρ is ≡ is
  indices_fixed ρ ss s end f h = refl
  indices_fixed ρ ss s (more i is) f h = λ j. more (index_fixed ρ ss s i f h.0 j) (indices_fixed ρ ss s is f h.1 j)

fixes_onto : (qs ss : List Sort) (ρ : ℕ → ℕ) → Fixes ρ (length ss) → Fixes (past_n (length qs) ρ) (length (onto qs ss))
fixes_onto qs ss ρ f k lt = let e = length-onto qs ss in fixes_past_n (length qs) ρ (length ss) f k (omega arith)

mutual
  ty_fixed : (ρ τ : ℕ → ℕ) (m : ℕ) (ss : List Sort) (t : Ty) → Fixes ρ (length ss) → Fixes τ m → IsWellFormed m ss t → ty_renamed ρ τ t ≡ t
  ty_fixed ρ τ m ss (BaseTy at b) f g h = refl
  ty_fixed ρ τ m ss (TyVar at k) f g h = ap (TyVar at) (g k h)
  ty_fixed ρ τ m ss (Fun at ts r) f g h = λ i. Fun at (tys_fixed ρ τ m ss ts f g h.0 i) (ty_fixed ρ τ m ss r f g h.1 i)
  ty_fixed ρ τ m ss (Forall at n t) f g h = ap (Forall at n) (ty_fixed ρ (past_n n τ) (n + m) ss t f (fixes_past_n n τ m g) h)
  ty_fixed ρ τ m ss (Pi at qs t) f g h = ap (Pi at qs) (ty_fixed (past_n (length qs) ρ) τ m (onto qs ss) t (fixes_onto qs ss ρ f) g h)
  ty_fixed ρ τ m ss (Sigma at qs t) f g h = ap (Sigma at qs) (ty_fixed (past_n (length qs) ρ) τ m (onto qs ss) t (fixes_onto qs ss ρ f) g h)
  ty_fixed ρ τ m ss (Arr at t i) f g h = λ j. Arr at (ty_fixed ρ τ m ss t f g h.2 j) (index_fixed ρ ss sort.Shape i f h.1 j)

  tys_fixed : (ρ τ : ℕ → ℕ) (m : ℕ) (ss : List Sort) (ts : Tys) → Fixes ρ (length ss) → Fixes τ m → AreWellFormed m ss ts → tys_renamed ρ τ ts ≡ ts
  tys_fixed ρ τ m ss no_tys f g h = refl
  tys_fixed ρ τ m ss (more_tys t ts) f g h = λ i. more_tys (ty_fixed ρ τ m ss t f g h.0 i) (tys_fixed ρ τ m ss ts f g h.1 i)

none_fixed : (ρ : ℕ → ℕ) → Fixes ρ 0
none_fixed ρ k lt = absurd (omega arith)

-- a closed type under binders is as it is
times_same : {A : Type 0} (n : ℕ) (f : A → A) (a : A) → f a ≡ a → times n f a ≡ a
times_same zero f a e = refl
times_same (suc n) f a e = ap f (times_same n f a e) ∙ e

pub closed_under_index : (n : ℕ) (t : Ty) → IsWellFormed 0 [] t → times n ty_under_index t ≡ t
closed_under_index n t h = times_same n ty_under_index t (ty_fixed suc same 0 [] t (none_fixed suc) (none_fixed same) h)

pub closed_under_type : (n : ℕ) (t : Ty) → IsWellFormed 0 [] t → times n ty_under_type t ≡ t
closed_under_type n t h = times_same n ty_under_type t (ty_fixed same suc 0 [] t (none_fixed same) (none_fixed suc) h)

-- ---- a term that has a type has each well-formed type that equals it

pub takes_same : (Γ : Context) (a t u : Ty) → Takes Γ a t → Same t u → IsWellFormed Γ.types Γ.sorts u → Takes Γ a u
takes_same Γ a t u h e w = (w, same_trans a t u h.1 e)

pub result_same : (Γ : Context) (r : Ty) (p : Index) (t u : Ty) → Same t u → IsWellFormed Γ.types Γ.sorts u
    → OnArr r (λ a c. Takes Γ (array_of a (then_shape p c)) t) → OnArr r (λ a c. Takes Γ (array_of a (then_shape p c)) u)
result_same Γ (Arr at a c) p t u e w h = takes_same Γ (array_of a (then_shape p c)) t u h e w
result_same Γ _ p t u e w h = absurd h

pub term_same : (Γ : Context) (x : TypedTerm) (t u : Ty) → HasTerm Γ x t → Same t u → IsWellFormed Γ.types Γ.sorts u → HasTerm Γ x u
term_same Γ (TVar k) t u h e w = (h.0, h.1, takes_same Γ h.0 t u h.2 e w)
term_same Γ (TDef k) t u h e w = (h.0, h.1, takes_same Γ h.0 t u h.2 e w)
term_same Γ (TArray dims no_cells) t u h e w = h
term_same Γ (TArray dims (more_cells x xs)) t u h e w = (h.0, h.1, h.2, takes_same Γ (array_of h.0 (numbers dims)) t u h.3 e w, h.4)
term_same Γ (TNoAtoms dims a) t u h e w = (h.0, takes_same Γ (array_of a (numbers dims)) t u h.1 e w, h.2)
term_same Γ (TFrame dims no_terms n) t u h e w = h
term_same Γ (TFrame dims (more_terms x xs) n) t u h e w = (h.0, h.1, h.2, h.3, h.4, takes_same Γ (array_of h.0 (then_shape (numbers dims) h.1)) t u h.5 e w, h.6)
term_same Γ (TNoCells c) t u h e w = (h.0, result_same Γ c.cell (numbers c.dims) t u e w h.1, h.2)
term_same Γ (TApp f es cs n) t u h e w = (h.0, h.1, h.2, h.3, (h.4.0, h.4.1, h.4.2, (h.4.3.0, h.4.3.1, result_same Γ h.1 h.4.3.0 t u e w h.4.3.2)))
term_same Γ (TTypeApp f us n) t u h e w = (h.0, h.1, h.2, h.3, h.4, h.5, h.6, result_same Γ (with_types us h.1) h.2 t u e w h.7)
term_same Γ (TIndexApp f is n) t u h e w = (h.0, h.1, h.2, h.3, h.4, h.5, result_same Γ (with_indices is h.1) h.2 t u e w h.6)
term_same Γ (TUnbox n f b s) t u h e w = (h.0, h.1, h.2, h.3, h.4, result_same Γ s h.1 t u e w h.5)

-- ---- the fates of term variables

-- a context with these terms in place of its own
abbrev with_terms : Context → List Ty → Context
with_terms Γ ts = record Γ { terms = ts }

-- the fate of a variable of a type: it is kept as a variable of that type, or a closed term of that type is put in its place
abbrev pub FateHas : List Ty → List Ty → Fate TypedTerm → Ty → Type 0
FateHas defs ts (Keep k) t = slice_get ts k ≡ Some t
FateHas defs ts (Put v) t = IsWellFormed 0 [] t × HasTerm (defs_only defs) v t

abbrev FatesHave : List Ty → Fates TypedTerm → List Ty → List Ty → Type 0
FatesHave defs τ us ts = (k : ℕ) (t : Ty) → slice_get us k ≡ Some t → FateHas defs ts (τ k) t

pub fate_moved : (defs : List Ty) (ts : List Ty) (w t : Ty) (f : Fate TypedTerm) → FateHas defs ts f t → FateHas defs (w ∷ ts) (moved (λ a. a) f) t
fate_moved defs ts w t (Keep k) h = h
fate_moved defs ts w t (Put v) h = h

fates_cons : (defs : List Ty) (τ : Fates TypedTerm) (us ts : List Ty) (w : Ty) → FatesHave defs τ us ts → FatesHave defs (under (λ a. a) τ) (w ∷ us) (w ∷ ts)
fates_cons defs τ us ts w h zero t e = e
fates_cons defs τ us ts w h (suc k) t e = fate_moved defs ts w t (τ k) (h k t e)

pub under_inside : {A : Type 0} (n : ℕ) (f : A → A) (σ : Fates A) → under_n n f (under f σ) ≡ under f (under_n n f σ)
under_inside zero f σ = refl
under_inside (suc n) f σ = ap (under f) (under_inside n f σ)

fates_onto : (defs : List Ty) (ws : List Ty) (τ : Fates TypedTerm) (us ts : List Ty) → FatesHave defs τ us ts → FatesHave defs (terms_under (length ws) τ) (onto ws us) (onto ws ts)
fates_onto defs [] τ us ts h = h
fates_onto defs (w ∷ ws) τ us ts h =
    subst (λ τ. FatesHave defs τ (onto ws (w ∷ us)) (onto ws (w ∷ ts))) (under_inside (length ws) (λ a. a) τ) (fates_onto defs ws (under (λ a. a) τ) (w ∷ us) (w ∷ ts) (fates_cons defs τ us ts w h))

pub fate_each : (defs : List Ty) (ts : List Ty) (f : Ty → Ty) → ((t : Ty) → IsWellFormed 0 [] t → f t ≡ t) → (t : Ty) (x : Fate TypedTerm) → FateHas defs ts x t → FateHas defs (each f ts) x (f t)
fate_each defs ts f c t (Keep k) h = to_each f ts k t h
fate_each defs ts f c t (Put v) h = subst (λ u. FateHas defs (each f ts) (Put v) u) (sym (c t h.0)) h

fates_each : (defs : List Ty) (τ : Fates TypedTerm) (us ts : List Ty) (f : Ty → Ty) → ((t : Ty) → IsWellFormed 0 [] t → f t ≡ t) → FatesHave defs τ us ts → FatesHave defs τ (each f us) (each f ts)
fates_each defs τ us ts f c h k t e =
    let g = from_each f us k t e in
    subst (λ u. FateHas defs (each f ts) (τ k) u) g.2 (fate_each defs ts f c g.0 (τ k) (h k g.0 g.1))

-- a closed context is below each context with its definitions
pub below : (Γ : Context) → Wider (defs_only Γ.defs) Γ
below Γ = record { defs = λ k t e. e; types = omega arith; sorts = λ k s e. absurd (cc); terms = λ k t e. absurd (cc) }

variable_put : (Γ : Context) (ts : List Ty) (u t : Ty) (f : Fate TypedTerm) → FateHas Γ.defs ts f u → Takes Γ u t → HasTerm (with_terms Γ ts) (in_place TVar f) t
variable_put Γ ts u t (Keep k) h e = (u, h, e)
variable_put Γ ts u t (Put v) h e = term_same (with_terms Γ ts) v u t (has_wider (defs_only Γ.defs) (with_terms Γ ts) (below (with_terms Γ ts)) v u h.1) e.1 e.0

option_same : {A : Type 0} (f : A → A) → ((a : A) → f a ≡ a) → (o : Option A) → option_map f o ≡ o
option_same f e None = refl
option_same f e (Some a) = ap Some (e a)

inputs_same : (σ : TypedPuts) → σ ≡ none → (i : Inputs) → typed_rules.on_inputs σ i ≡ i
inputs_same σ e i = λ k. record { inputs = each_same (typed_rules.on_result σ) (ty_same σ e) i.inputs k; result = ty_same σ e i.result k }

-- substitution keeps the counts of items
pub cell_count-put : (σ : TypedPuts) (τ : Fates TypedTerm) (xs : Cells typed) → cell_count (cells_put typed_rules σ τ xs) ≡ cell_count xs
cell_count-put σ τ no_cells = refl
cell_count-put σ τ (more_cells a xs) = ap suc (cell_count-put σ τ xs)

pub term_count-put : (σ : TypedPuts) (τ : Fates TypedTerm) (ts : Terms typed) → term_count (terms_put typed_rules σ τ ts) ≡ term_count ts
term_count-put σ τ no_terms = refl
term_count-put σ τ (more_terms t ts) = ap suc (term_count-put σ τ ts)

-- ---- substitution

mutual
  pub has_put : (Γ : Context) (ts : List Ty) (σ : TypedPuts) (τ : Fates TypedTerm) → σ ≡ none → FatesHave Γ.defs τ Γ.terms ts → (e : TypedTerm) (t : Ty) → HasTerm Γ e t → HasTerm (with_terms Γ ts) (term_put typed_rules σ τ e) t
  has_put Γ ts σ τ s f (TVar k) t h = variable_put Γ ts h.0 t (τ k) (f k h.0 h.1) h.2
  has_put Γ ts σ τ s f (TDef k) t h = h
  has_put Γ ts σ τ s f (TArray dims no_cells) t h = h
  has_put Γ ts σ τ s f (TArray dims (more_cells x xs)) t h = (h.0, cell_has_put Γ ts σ τ s f x h.0 h.1, cells_have_put Γ ts σ τ s f xs h.0 h.2, h.3, ap suc (cell_count-put σ τ xs) ∙ h.4)
  has_put Γ ts σ τ s f (TNoAtoms dims a) t h = subst (λ b. HasTerm (with_terms Γ ts) (TNoAtoms dims b) t) (sym (ty_same σ s a)) h
  has_put Γ ts σ τ s f (TFrame dims no_terms note) t h = h
  has_put Γ ts σ τ s f (TFrame dims (more_terms e es) note) t h =
      subst (λ n. HasTerm (with_terms Γ ts) (TFrame dims (more_terms (term_put typed_rules σ τ e) (terms_put typed_rules σ τ es)) n) t) (sym (ty_same σ s note))
      (h.0, h.1, has_put Γ ts σ τ s f e (array_of h.0 h.1) h.2, all_have_put Γ ts σ τ s f es (array_of h.0 h.1) h.3, h.4, h.5, ap suc (term_count-put σ τ es) ∙ h.6)
  has_put Γ ts σ τ s f (TNoCells c) t h = subst (λ u. HasTerm (with_terms Γ ts) (TNoCells (record { dims = c.dims; cell = u })) t) (sym (ty_same σ s c.cell)) h
  has_put Γ ts σ τ s f (TApp g es cs note) t h =
      subst₂ (λ n c. HasTerm (with_terms Γ ts) (TApp (term_put typed_rules σ τ g) (terms_put typed_rules σ τ es) c n) t) (sym (ty_same σ s note)) (sym (each_same (typed_rules.on_cell σ) (index_same σ s) cs))
      (h.0, h.1, h.2, has_put Γ ts σ τ s f g (array_of (Fun no_span h.0 h.1) h.2) h.3, (h.4.0, args_have_put Γ ts σ τ s f es h.0 cs h.4.0 h.4.1, h.4.2, h.4.3))
  has_put Γ ts σ τ s f (TTypeApp e us note) t h =
      subst₂ (λ n v. HasTerm (with_terms Γ ts) (TTypeApp (term_put typed_rules σ τ e) v n) t) (sym (ty_same σ s note)) (sym (each_same (typed_rules.on_result σ) (ty_same σ s) us))
      (h.0, h.1, h.2, has_put Γ ts σ τ s f e (array_of (Forall no_span h.0 h.1) h.2) h.3, h.4, h.5, h.6, h.7)
  has_put Γ ts σ τ s f (TIndexApp e is note) t h =
      subst₂ (λ n i. HasTerm (with_terms Γ ts) (TIndexApp (term_put typed_rules σ τ e) i n) t) (sym (ty_same σ s note)) (sym (each_same (typed_rules.on_index σ) (index_same σ s) is))
      (h.0, h.1, h.2, has_put Γ ts σ τ s f e (array_of (Pi no_span h.0 h.1) h.2) h.3, h.4, h.5, h.6)
  has_put Γ ts σ τ s f (TUnbox ss e b note) t h =
      subst (λ m. HasTerm (with_terms Γ ts) (TUnbox ss (term_put typed_rules σ τ e) (term_put typed_rules (typed_rules.under_sorts ss σ) (terms_under 1 τ) b) m) t) (sym (ty_same σ s note)) (
        h.0,
        h.1,
        has_put Γ ts σ τ s f e (array_of (Sigma no_span ss h.0) h.1) h.2,
        h.3,
        has_put (under_terms (h.0 ∷ []) (under_sorts ss Γ)) (h.0 ∷ each (times (length ss) ty_under_index) ts) (typed_rules.under_sorts ss σ) (terms_under 1 τ) (none_under_sorts ss σ s)
            (fates_onto Γ.defs (h.0 ∷ []) τ (each (times (length ss) ty_under_index) Γ.terms) (each (times (length ss) ty_under_index) ts)
            (fates_each Γ.defs τ Γ.terms ts (times (length ss) ty_under_index) (closed_under_index (length ss)) f))
            b (times (length ss) ty_under_index note) h.4,
        h.5,
      )

  all_have_put : (Γ : Context) (ts : List Ty) (σ : TypedPuts) (τ : Fates TypedTerm) → σ ≡ none → FatesHave Γ.defs τ Γ.terms ts → (es : Terms typed) (t : Ty) → TermsHave Γ es t → TermsHave (with_terms Γ ts) (terms_put typed_rules σ τ es) t
  all_have_put Γ ts σ τ s f no_terms t h = tt
  all_have_put Γ ts σ τ s f (more_terms e es) t h = (has_put Γ ts σ τ s f e t h.0, all_have_put Γ ts σ τ s f es t h.1)

  args_have_put : (Γ : Context) (ts : List Ty) (σ : TypedPuts) (τ : Fates TypedTerm) → σ ≡ none → FatesHave Γ.defs τ Γ.terms ts → (es : Terms typed) (us : Tys) (cs ps : List Index) → TermArgsHave Γ es us cs ps → TermArgsHave (with_terms Γ ts) (terms_put typed_rules σ τ es) us cs ps
  args_have_put Γ ts σ τ s f no_terms no_tys [] [] h = tt
  args_have_put Γ ts σ τ s f (more_terms e es) (more_tys (Arr at a q) us) (c ∷ cs) (p ∷ ps) h =
      ((has_put Γ ts σ τ s f e (array_of a (then_shape p q)) h.0.0, h.0.1), args_have_put Γ ts σ τ s f es us cs ps h.1)
  args_have_put Γ ts σ τ s f (more_terms e es) (more_tys _ us) (c ∷ cs) (p ∷ ps) h = absurd h.0
  args_have_put Γ ts σ τ s f _ _ _ _ h = absurd h

  cell_has_put : (Γ : Context) (ts : List Ty) (σ : TypedPuts) (τ : Fates TypedTerm) → σ ≡ none → FatesHave Γ.defs τ Γ.terms ts → (a : Cell typed) (t : Ty) → HasCell Γ a t → HasCell (with_terms Γ ts) (cell_put typed_rules σ τ a) t
  cell_has_put Γ ts σ τ s f (TInt z) t h = h
  cell_has_put Γ ts σ τ s f (TBool z) t h = h
  cell_has_put Γ ts σ τ s f (TChar z) t h = h
  cell_has_put Γ ts σ τ s f (TPrim p us is) t h =
      subst₂ (λ v i. HasCell (with_terms Γ ts) (TPrim p v i) t) (sym (option_same (each (typed_rules.on_result σ)) (each_same (typed_rules.on_result σ) (ty_same σ s)) us))
      (sym (option_same (each (typed_rules.on_index σ)) (each_same (typed_rules.on_index σ) (index_same σ s)) is)) h
  cell_has_put Γ ts σ τ s f (TFn i e) t h =
      subst (λ j. HasCell (with_terms Γ ts) (TFn j (term_put typed_rules σ (terms_under (length i.inputs) τ) e)) t) (sym (inputs_same σ s i))
      (h.0, h.1, has_put (under_terms i.inputs Γ) (onto i.inputs ts) σ (terms_under (length i.inputs) τ) s (fates_onto Γ.defs i.inputs τ Γ.terms ts f) e i.result h.2, h.3)
  cell_has_put Γ ts σ τ s f (TTypeFn n e) t h =
      (h.0, has_put (under_types n Γ) (each (times n ty_under_type) ts) (typed_rules.under_count n σ) τ (none_under_count n σ s) (fates_each Γ.defs τ Γ.terms ts (times n ty_under_type) (closed_under_type n) f) e h.0 h.1, h.2)
  cell_has_put Γ ts σ τ s f (TIndexFn ss e) t h =
      (h.0, has_put (under_sorts ss Γ) (each (times (length ss) ty_under_index) ts) (typed_rules.under_sorts ss σ) τ (none_under_sorts ss σ s) (fates_each Γ.defs τ Γ.terms ts (times (length ss) ty_under_index) (closed_under_index (length ss)) f) e h.0 h.1, h.2)
  cell_has_put Γ ts σ τ s f (TBoxed is e (Sigma at ss b)) t h =
      subst₂ (λ i u. HasCell (with_terms Γ ts) (TBoxed i (term_put typed_rules σ τ e) u) t) (sym (each_same (typed_rules.on_index σ) (index_same σ s) is)) (sym (ty_same σ s (Sigma at ss b)))
      (h.0, (h.1.0, has_put Γ ts σ τ s f e (with_indices is b) h.1.1), h.2)
  cell_has_put Γ ts σ τ s f (TBoxed is e _) t h = absurd h.1

  cells_have_put : (Γ : Context) (ts : List Ty) (σ : TypedPuts) (τ : Fates TypedTerm) → σ ≡ none → FatesHave Γ.defs τ Γ.terms ts → (xs : Cells typed) (t : Ty) → CellsHave Γ xs t → CellsHave (with_terms Γ ts) (cells_put typed_rules σ τ xs) t
  cells_have_put Γ ts σ τ s f no_cells t h = tt
  cells_have_put Γ ts σ τ s f (more_cells a xs) t h = (cell_has_put Γ ts σ τ s f a t h.0, cells_have_put Γ ts σ τ s f xs t h.1)
