-- A body in whose variables' places index values are put: where the outcome is in the scope of the values that its binders get, the body is in the scope of all its values.
use Rattle.std.proofs.Common.{◌≡◌, refl, sym, ◌∙◌, subst, ℕ, zero, suc, true, false, List, [], ◌∷◌, ◌++◌, length, Option, Some, None}
use Rattle.std.specs.Prelude.{slice_get}
use Rattle.core_syntax.specs.declared.norm.Coef.{Coef}
use Rattle.core_syntax.specs.declared.norm.Letter.TheVariants as letter
use Rattle.core_syntax.specs.declared.norm.NormIndex.{NormIndex}
use Rattle.core_syntax.specs.declared.norm.NormIndex.TheVariants as norm
use Rattle.core_syntax.specs.Lists.{onto, each, Each}
use Rattle.core_syntax.specs.Linear.{Linear}
use Rattle.core_syntax.specs.Word.{Word}
use Rattle.core_syntax.specs.Norm.{add_coef, constant}
use Rattle.core_syntax.specs.Subst.{Fate, Keep, Put, Fates, put_first, moved, under_n}
use Rattle.core_syntax.specs.Terms.{IndexValue, DimValue, ShapeValue, TVar, TDef, TArray, TNoAtoms, TFrame, TNoCells, TApp, TTypeApp, TIndexApp, TUnbox, Terms, no_terms, more_terms, Cell, TInt, TBool, TChar, TPrim, TFn, TTypeFn, TIndexFn, TBoxed, Cells, no_cells, more_cells}
use Rattle.core_syntax.specs.TermPut.{term_put, terms_put, cell_put, cells_put, terms_under}
use Rattle.core_syntax.proofs.NormLemmas.{add_cases}
use Rattle.core_syntax.specs.NormPut.{add_fate, add_fates, put_in_dim, fate_letters, put_in_word, put_in_norm}
use Rattle.erasure.specs.Erased.{erased, ErasedTerm, erased_rules}
use Rattle.evaluation.specs.Scoped.{Scope, bound, with_values, stands_for_dim, stands_for_shape, CoefsScoped, FormScoped, WordScoped, IndexScoped, PrimScoped, Scoped, TermsScoped, CellScoped, CellsScoped}
use Rattle.evaluation.proofs.environments.Puts.{same_value}
use Rattle.evaluation.proofs.environments.Entered.{length_all}

-- what a variable stands for in R, it stands for in T
abbrev Gains : (R : Scope) (j : ℕ) (T : Scope) (k : ℕ) → Type 0
Gains R j T k = (stands_for_dim (slice_get R j) ≡ true → stands_for_dim (slice_get T k) ≡ true) × (stands_for_shape (slice_get R j) ≡ true → stands_for_shape (slice_get T k) ≡ true)

-- a variable of S with this fate, which leads to R where it is kept, is one of T
abbrev GainsBy : Fate IndexValue → (S R T : Scope) → ℕ → Type 0
GainsBy (Keep j) S R T k = Gains R j T k
GainsBy (Put v) S R T k = Gains S k T k

-- this holds of each variable
abbrev AllGain : Fates IndexValue → (S R T : Scope) → Type 0
AllGain σ S R T = (k : ℕ) → GainsBy (σ k) S R T k

moved_gains : (f : Fate IndexValue) (S R T : Scope) (s r t : Option IndexValue) (k : ℕ) → GainsBy f S R T k → GainsBy (moved same_value f) (s ∷ S) (r ∷ R) (t ∷ T) (suc k)
moved_gains (Keep j) S R T s r t k h = h
moved_gains (Put v) S R T s r t k h = h

gain_under : (n : ℕ) (σ : Fates IndexValue) (S R T : Scope) → AllGain σ S R T → AllGain (under_n n same_value σ) (bound n S) (bound n R) (bound n T)
gain_under zero σ S R T h k = h k
gain_under (suc n) σ S R T h zero = ((λ e. refl), (λ e. refl))
gain_under (suc n) σ S R T h (suc k) = moved_gains (under_n n same_value σ k) (bound n S) (bound n R) (bound n T) None None None k (gain_under n σ S R T h k)

-- ---- the values of an environment, and those of binders in front of them

nothing : (j : ℕ) → stands_for_dim (slice_get (let none : Scope = [] in none) j) ≡ true → ⊥
nothing j e = cc

nothing_either : (j : ℕ) → stands_for_shape (slice_get (let none : Scope = [] in none) j) ≡ true → ⊥
nothing_either j e = cc

gain_first : (is : List IndexValue) → AllGain (put_first is) (with_values is) [] (with_values is)
gain_first [] k = ((λ e. absurd (nothing k e)), (λ e. absurd (nothing_either k e)))
gain_first (i ∷ is) zero = ((λ e. e), (λ e. e))
gain_first (i ∷ is) (suc k) = by (put_first is k) (gain_first is k)
  where
    by : (f : Fate IndexValue) → GainsBy f (with_values is) [] (with_values is) k → GainsBy f (Some i ∷ with_values is) [] (Some i ∷ with_values is) (suc k)
    by (Keep j) h = h
    by (Put v) h = h

gain_onto : (js ys all is : List IndexValue) → AllGain (under_n (length ys) same_value (put_first is)) (bound (length ys) (with_values is)) (with_values ys) (with_values all)
    → AllGain (under_n (length (onto js ys)) same_value (put_first is)) (bound (length (onto js ys)) (with_values is)) (with_values (onto js ys)) (with_values (onto js all))
gain_onto [] ys all is h = h
gain_onto (j ∷ js) ys all is h = gain_onto js (j ∷ ys) (j ∷ all) is by
  where
    by : AllGain (under_n (suc (length ys)) same_value (put_first is)) (bound (suc (length ys)) (with_values is)) (with_values (j ∷ ys)) (with_values (j ∷ all))
    by zero = ((λ e. e), (λ e. e))
    by (suc k) = moved_gains (under_n (length ys) same_value (put_first is) k) (bound (length ys) (with_values is)) (with_values ys) (with_values all) None (Some j) (Some j) k (h k)

-- ---- notes

coef_in : (R : Scope) (k n : ℕ) (cs : List Coef) → CoefsScoped R (add_coef k n cs) → (stands_for_dim (slice_get R k) ≡ true) × CoefsScoped R cs
coef_in R k n [] h = h
coef_in R k n (c ∷ cs) h =
    add_cases (λ ds. CoefsScoped R ds → (stands_for_dim (slice_get R k) ≡ true) × CoefsScoped R (c ∷ cs)) k n c cs (λ lt g. g) (λ e g. (g.0, (subst (λ j. stands_for_dim (slice_get R j) ≡ true) e g.0, g.1)))
    (λ gt g. let i = coef_in R k n cs g.1 in (i.0, (g.0, i.1))) h

coefs_regain : (σ : Fates IndexValue) (S R T : Scope) → AllGain σ S R T → (cs : List Coef) (d : Linear) → CoefsScoped S cs → CoefsScoped R (add_fates σ cs d).coefs → CoefsScoped T cs
coefs_regain σ S R T g [] d s h = tt
coefs_regain σ S R T g (c ∷ cs) d s h = by (σ c.var) (g c.var) h (λ k. coefs_regain σ S R T g cs d s.1 k)
  where
    by : (f : Fate IndexValue) → GainsBy f S R T c.var → CoefsScoped R (add_fate c.times f (add_fates σ cs d)).coefs → (CoefsScoped R (add_fates σ cs d).coefs → CoefsScoped T cs) → CoefsScoped T (c ∷ cs)
    by (Keep j) i k ih = let p = coef_in R j c.times (add_fates σ cs d).coefs k in (i.0 p.0, ih p.1)
    by (Put (DimValue n)) i k ih = (i.0 s.0, ih k)
    by (Put (ShapeValue z)) i k ih = (i.0 s.0, ih k)

word_behind : (R : Scope) (ls ms : Word) → WordScoped R (ls ++ ms) → WordScoped R ms
word_behind R [] ms h = h
word_behind R (letter.Dim d ∷ ls) ms h = word_behind R ls ms h.1
word_behind R (letter.Var k ∷ ls) ms h = word_behind R ls ms h.1

module _ (σ : Fates IndexValue) (S R T : Scope) (g : AllGain σ S R T) where
  form_regain : (d : Linear) → FormScoped S d → FormScoped R (put_in_dim σ d) → FormScoped T d
  form_regain d s h = (s.0, coefs_regain σ S R T g d.coefs (constant d.constant) s.1 h.1)

  word_regain : (w : Word) → WordScoped S w → WordScoped R (put_in_word σ w) → WordScoped T w
  word_regain [] s h = tt
  word_regain (letter.Dim d ∷ ls) s h = (form_regain d s.0 h.0, word_regain ls s.1 h.1)
  word_regain (letter.Var k ∷ ls) s h = (by (σ k) (g k) h, word_regain ls s.1 (word_behind R (fate_letters (σ k)) (put_in_word σ ls) h))
    where
      by : (f : Fate IndexValue) → GainsBy f S R T k → WordScoped R (fate_letters f ++ put_in_word σ ls) → stands_for_shape (slice_get T k) ≡ true
      by (Keep j) i h = i.1 h.0
      by (Put v) i h = i.1 s.0

  words_regain : (ws : List Word) → Each (WordScoped S) ws → Each (WordScoped R) (each (put_in_word σ) ws) → Each (WordScoped T) ws
  words_regain [] s h = tt
  words_regain (w ∷ ws) s h = (word_regain w s.0 h.0, words_regain ws s.1 h.1)

  index_regain : (i : NormIndex) → IndexScoped S i → IndexScoped R (put_in_norm σ i) → IndexScoped T i
  index_regain (norm.Dim d) s h = form_regain d s h
  index_regain (norm.Shape w) s h = word_regain w s h

  indices_regain : (is : List NormIndex) → Each (IndexScoped S) is → Each (IndexScoped R) (each (put_in_norm σ) is) → Each (IndexScoped T) is
  indices_regain [] s h = tt
  indices_regain (i ∷ is) s h = (index_regain i s.0 h.0, indices_regain is s.1 h.1)

-- ---- terms

prim_regain : (S T : Scope) (us : Option (Unit {0})) (is : Option (List NormIndex)) → PrimScoped false S us is → PrimScoped false T us is
prim_regain S T None None s = tt
prim_regain S T None (Some is) s = absurd s
prim_regain S T (Some u) None s = absurd s
prim_regain S T (Some u) (Some is) s = absurd s

mutual
  regain : (σ : Fates IndexValue) (S R T : Scope) → AllGain σ S R T → (θ : Fates ErasedTerm) (t : ErasedTerm) → Scoped false S t → Scoped true R (term_put erased_rules σ θ t) → Scoped false T t
  regain σ S R T g θ (TVar k) s h = tt
  regain σ S R T g θ (TDef k) s h = tt
  regain σ S R T g θ (TArray dims xs) s h = (s.0, cells_regain σ S R T g θ xs s.1 h.1)
  regain σ S R T g θ (TNoAtoms dims a) s h = s
  regain σ S R T g θ (TFrame dims ts a) s h = terms_regain σ S R T g θ ts s h
  regain σ S R T g θ (TNoCells w) s h = word_regain σ S R T g w s h
  regain σ S R T g θ (TApp f ts cs r) s h = (regain σ S R T g θ f s.0 h.0, terms_regain σ S R T g θ ts s.1 h.1, words_regain σ S R T g cs s.2 h.2, word_regain σ S R T g r s.3 h.3)
  regain σ S R T g θ (TTypeApp t us r) s h = (regain σ S R T g θ t s.0 h.0, word_regain σ S R T g r s.1 h.1)
  regain σ S R T g θ (TIndexApp t is r) s h = (regain σ S R T g θ t s.0 h.0, indices_regain σ S R T g is s.1 h.1, word_regain σ S R T g r s.2 h.2)
  regain σ S R T g θ (TUnbox n t b r) s h =
      (regain σ S R T g θ t s.0 h.0, regain (under_n n same_value σ) (bound n S) (bound n R) (bound n T) (gain_under n σ S R T g) (terms_under 1 θ) b s.1 h.1, word_regain σ S R T g r s.2 h.2)

  terms_regain : (σ : Fates IndexValue) (S R T : Scope) → AllGain σ S R T → (θ : Fates ErasedTerm) (ts : Terms erased) → TermsScoped false S ts → TermsScoped true R (terms_put erased_rules σ θ ts) → TermsScoped false T ts
  terms_regain σ S R T g θ no_terms s h = tt
  terms_regain σ S R T g θ (more_terms t ts) s h = (regain σ S R T g θ t s.0 h.0, terms_regain σ S R T g θ ts s.1 h.1)

  cell_regain : (σ : Fates IndexValue) (S R T : Scope) → AllGain σ S R T → (θ : Fates ErasedTerm) (a : Cell erased) → CellScoped false S a → CellScoped true R (cell_put erased_rules σ θ a) → CellScoped false T a
  cell_regain σ S R T g θ (TInt z) s h = tt
  cell_regain σ S R T g θ (TBool b) s h = tt
  cell_regain σ S R T g θ (TChar c) s h = tt
  cell_regain σ S R T g θ (TPrim p us is) s h = prim_regain S T us is s
  cell_regain σ S R T g θ (TFn n t) s h = regain σ S R T g (terms_under n θ) t s h
  cell_regain σ S R T g θ (TTypeFn n t) s h = regain σ S R T g θ t s h
  cell_regain σ S R T g θ (TIndexFn n t) s h = regain (under_n n same_value σ) (bound n S) (bound n R) (bound n T) (gain_under n σ S R T g) θ t s h
  cell_regain σ S R T g θ (TBoxed is t b) s h = (indices_regain σ S R T g is s.0 h.0, regain σ S R T g θ t s.1 h.1)

  cells_regain : (σ : Fates IndexValue) (S R T : Scope) → AllGain σ S R T → (θ : Fates ErasedTerm) (xs : Cells erased) → CellsScoped false S xs → CellsScoped true R (cells_put erased_rules σ θ xs) → CellsScoped false T xs
  cells_regain σ S R T g θ no_cells s h = tt
  cells_regain σ S R T g θ (more_cells a xs) s h = (cell_regain σ S R T g θ a s.0 h.0, cells_regain σ S R T g θ xs s.1 h.1)

-- a body whose binders get these values
pub rescoped : (n : ℕ) (js is : List IndexValue) (θ : Fates ErasedTerm) (t : ErasedTerm) → n ≡ length js → Scoped false (bound n (with_values is)) t
    → Scoped true (with_values (onto js [])) (term_put erased_rules (erased_rules.under_sorts n (put_first is)) θ t) → Scoped false (with_values (onto js is)) t
rescoped n js is θ t e s h =
    regain (under_n n same_value (put_first is)) (bound n (with_values is)) (with_values (onto js [])) (with_values (onto js is))
    (subst (λ m. AllGain (under_n m same_value (put_first is)) (bound m (with_values is)) (with_values (onto js [])) (with_values (onto js is))) (length_all js ∙ sym e) (gain_onto js [] is is (gain_first is)))
    θ t s h
