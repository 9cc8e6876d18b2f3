-- What is put in the place of a term's variables one after the other is put at once; and where every variable is kept nothing changes.
use Rattle.std.proofs.Common.{◌≡◌, refl, sym, ◌∙◌, ap, ℕ, zero, suc, Bool, true, false, List, Option, Some, None}
use Rattle.std.specs.Prelude.{option_map}
use Rattle.core_syntax.specs.declared.norm.NormIndex.{NormIndex}
use Rattle.core_syntax.specs.Lists.{each}
use Rattle.core_syntax.specs.Subst.{Fate, Keep, Put, Fates, moved, under, under_n, in_place}
use Rattle.core_syntax.specs.Terms.{IndexValue, TVar, TDef, TArray, TNoAtoms, TFrame, TNoCells, TApp, TTypeApp, TIndexApp, TUnbox, Terms, no_terms, more_terms, Cell, TInt, TBool, TChar, TPrim, TFn, TTypeFn, TIndexFn, TBoxed, Cells, no_cells, more_cells}
use Rattle.core_syntax.specs.TermPut.{term_put, terms_put, cell_put, cells_put, terms_under}
use Rattle.core_syntax.specs.NormPut.{put_in_norm}
use Rattle.erasure.specs.Erased.{erased, ErasedTerm, erased_rules}
use Rattle.evaluation.specs.Scoped.{Scope, bound, Scoped, TermsScoped, CellScoped, CellsScoped, PrimScoped}
use Rattle.evaluation.specs.Lawful.{IsClosed}
use Rattle.evaluation.proofs.environments.FormPuts.{later, Follow, word_later, words_later, indices_later, Keeps, word_kept, words_kept, indices_kept}

-- ---- under binders

-- closed values stay as they are under binders
abbrev pub same_value : {A : Type 0} → A → A
same_value a = a

moved_later : {A : Type 0} (σ : Fates A) (f : Fate A) → moved same_value (later σ f) ≡ later (under same_value σ) (moved same_value f)
moved_later σ (Keep k) = refl
moved_later σ (Put a) = refl

pub follow_under : {A : Type 0} (n : ℕ) (σ ρ both : Fates A) → Follow σ ρ both → Follow (under_n n same_value σ) (under_n n same_value ρ) (under_n n same_value both)
follow_under zero σ ρ both f k = f k
follow_under (suc n) σ ρ both f zero = refl
follow_under (suc n) σ ρ both f (suc k) = ap (moved same_value) (follow_under n σ ρ both f k) ∙ moved_later (under_n n same_value σ) (under_n n same_value ρ k)

pub keeps_under : {A : Type 0} (n : ℕ) (σ : Fates A) → Keeps σ → Keeps (under_n n same_value σ)
keeps_under zero σ f k = f k
keeps_under (suc n) σ f zero = refl
keeps_under (suc n) σ f (suc k) = ap (moved same_value) (keeps_under n σ f k)

-- what is put is closed
abbrev pub PutsClosed : Fate ErasedTerm → Type 0
PutsClosed (Keep k) = Unit {0}
PutsClosed (Put t) = IsClosed t

-- all terms that are put are closed
abbrev pub AllClosed : Fates ErasedTerm → Type 0
AllClosed θ = (k : ℕ) → PutsClosed (θ k)

moved_closed : (f : Fate ErasedTerm) → PutsClosed f → PutsClosed (moved same_value f)
moved_closed (Keep k) h = tt
moved_closed (Put t) h = h

pub closed_under : (n : ℕ) (θ : Fates ErasedTerm) → AllClosed θ → AllClosed (under_n n same_value θ)
closed_under zero θ h k = h k
closed_under (suc n) θ h zero = tt
closed_under (suc n) θ h (suc k) = moved_closed (under_n n same_value θ k) (closed_under n θ h k)

-- ---- one after the other

var_later : (σ : Fates IndexValue) (θ : Fates ErasedTerm) (f : Fate ErasedTerm) → PutsClosed f → term_put erased_rules σ θ (in_place TVar f) ≡ in_place TVar (later θ f)
var_later σ θ (Keep k) h = refl
var_later σ θ (Put t) h = h σ θ

prim_later : (runs : Bool) (S : Scope) (σ ρ both : Fates IndexValue) → Follow σ ρ both → (us : Option (Unit {0})) (is : Option (List NormIndex)) → PrimScoped runs S us is
    → option_map (each (put_in_norm σ)) (option_map (each (put_in_norm ρ)) is) ≡ option_map (each (put_in_norm both)) is
prim_later runs S σ ρ both f us None h = refl
prim_later true S σ ρ both f None (Some is) h = ap Some (indices_later S σ ρ both f is h)
prim_later true S σ ρ both f (Some u) (Some is) h = ap Some (indices_later S σ ρ both f is h)
prim_later false S σ ρ both f None (Some is) h = absurd h
prim_later false S σ ρ both f (Some u) (Some is) h = absurd h

types_stay : (us : Option (Unit {0})) → option_map (λ u. u) us ≡ us
types_stay None = refl
types_stay (Some u) = refl

types_twice : (us : Option (Unit {0})) → option_map (λ u. u) (option_map (λ u. u) us) ≡ option_map (λ u. u) us
types_twice None = refl
types_twice (Some u) = refl

module _ (runs : Bool) where
  mutual
    pub put_later : (S : Scope) (σ ρ both : Fates IndexValue) (θ υ all : Fates ErasedTerm) → Follow σ ρ both → Follow θ υ all → AllClosed υ → (t : ErasedTerm) → Scoped runs S t
        → term_put erased_rules σ θ (term_put erased_rules ρ υ t) ≡ term_put erased_rules both all t
    put_later S σ ρ both θ υ all f g c (TVar k) h = var_later σ θ (υ k) (c k) ∙ ap (in_place TVar) (sym (g k))
    put_later S σ ρ both θ υ all f g c (TDef k) h = refl
    put_later S σ ρ both θ υ all f g c (TArray dims xs) h = ap (TArray dims) (cells_later S σ ρ both θ υ all f g c xs h.1)
    put_later S σ ρ both θ υ all f g c (TNoAtoms dims a) h = refl
    put_later S σ ρ both θ υ all f g c (TFrame dims ts a) h = ap (λ us. TFrame dims us a) (terms_later S σ ρ both θ υ all f g c ts h)
    put_later S σ ρ both θ υ all f g c (TNoCells w) h = ap TNoCells (word_later S σ ρ both f w h)
    put_later S σ ρ both θ υ all f g c (TApp t ts cs r) h =
        λ i. TApp (put_later S σ ρ both θ υ all f g c t h.0 i) (terms_later S σ ρ both θ υ all f g c ts h.1 i) (words_later S σ ρ both f cs h.2 i) (word_later S σ ρ both f r h.3 i)
    put_later S σ ρ both θ υ all f g c (TTypeApp t us r) h = λ i. TTypeApp (put_later S σ ρ both θ υ all f g c t h.0 i) us (word_later S σ ρ both f r h.1 i)
    put_later S σ ρ both θ υ all f g c (TIndexApp t is r) h =
        λ i. TIndexApp (put_later S σ ρ both θ υ all f g c t h.0 i) (indices_later S σ ρ both f is h.1 i) (word_later S σ ρ both f r h.2 i)
    put_later S σ ρ both θ υ all f g c (TUnbox n t b r) h =
        λ i. TUnbox n (put_later S σ ρ both θ υ all f g c t h.0 i)
        (put_later (bound n S) (under_n n same_value σ) (under_n n same_value ρ) (under_n n same_value both) (terms_under 1 θ) (terms_under 1 υ) (terms_under 1 all)
        (follow_under n σ ρ both f) (follow_under 1 θ υ all g) (closed_under 1 υ c) b h.1 i)
        (word_later S σ ρ both f r h.2 i)

    terms_later : (S : Scope) (σ ρ both : Fates IndexValue) (θ υ all : Fates ErasedTerm) → Follow σ ρ both → Follow θ υ all → AllClosed υ → (ts : Terms erased) → TermsScoped runs S ts
        → terms_put erased_rules σ θ (terms_put erased_rules ρ υ ts) ≡ terms_put erased_rules both all ts
    terms_later S σ ρ both θ υ all f g c no_terms h = refl
    terms_later S σ ρ both θ υ all f g c (more_terms t ts) h = λ i. more_terms (put_later S σ ρ both θ υ all f g c t h.0 i) (terms_later S σ ρ both θ υ all f g c ts h.1 i)

    cell_later : (S : Scope) (σ ρ both : Fates IndexValue) (θ υ all : Fates ErasedTerm) → Follow σ ρ both → Follow θ υ all → AllClosed υ → (a : Cell erased) → CellScoped runs S a
        → cell_put erased_rules σ θ (cell_put erased_rules ρ υ a) ≡ cell_put erased_rules both all a
    cell_later S σ ρ both θ υ all f g c (TInt z) h = refl
    cell_later S σ ρ both θ υ all f g c (TBool z) h = refl
    cell_later S σ ρ both θ υ all f g c (TChar z) h = refl
    cell_later S σ ρ both θ υ all f g c (TPrim p us is) h = λ i. TPrim p (types_twice us i) (prim_later runs S σ ρ both f us is h i)
    cell_later S σ ρ both θ υ all f g c (TFn n t) h =
        ap (TFn n) (put_later S σ ρ both (terms_under n θ) (terms_under n υ) (terms_under n all) f (follow_under n θ υ all g) (closed_under n υ c) t h)
    cell_later S σ ρ both θ υ all f g c (TTypeFn n t) h = ap (TTypeFn n) (put_later S σ ρ both θ υ all f g c t h)
    cell_later S σ ρ both θ υ all f g c (TIndexFn n t) h =
        ap (TIndexFn n) (put_later (bound n S) (under_n n same_value σ) (under_n n same_value ρ) (under_n n same_value both) θ υ all (follow_under n σ ρ both f) g c t h)
    cell_later S σ ρ both θ υ all f g c (TBoxed is t b) h = λ i. TBoxed (indices_later S σ ρ both f is h.0 i) (put_later S σ ρ both θ υ all f g c t h.1 i) b

    cells_later : (S : Scope) (σ ρ both : Fates IndexValue) (θ υ all : Fates ErasedTerm) → Follow σ ρ both → Follow θ υ all → AllClosed υ → (xs : Cells erased) → CellsScoped runs S xs
        → cells_put erased_rules σ θ (cells_put erased_rules ρ υ xs) ≡ cells_put erased_rules both all xs
    cells_later S σ ρ both θ υ all f g c no_cells h = refl
    cells_later S σ ρ both θ υ all f g c (more_cells a xs) h = λ i. more_cells (cell_later S σ ρ both θ υ all f g c a h.0 i) (cells_later S σ ρ both θ υ all f g c xs h.1 i)

  -- ---- every variable is kept

  prim_kept : (b : Bool) (S : Scope) (σ : Fates IndexValue) → Keeps σ → (us : Option (Unit {0})) (is : Option (List NormIndex)) → PrimScoped b S us is → option_map (each (put_in_norm σ)) is ≡ is
  prim_kept b S σ f us None h = refl
  prim_kept true S σ f None (Some is) h = ap Some (indices_kept S σ f is h)
  prim_kept true S σ f (Some u) (Some is) h = ap Some (indices_kept S σ f is h)
  prim_kept false S σ f None (Some is) h = absurd h
  prim_kept false S σ f (Some u) (Some is) h = absurd h

  mutual
    pub put_kept : (S : Scope) (σ : Fates IndexValue) (θ : Fates ErasedTerm) → Keeps σ → Keeps θ → (t : ErasedTerm) → Scoped runs S t → term_put erased_rules σ θ t ≡ t
    put_kept S σ θ f g (TVar k) h = ap (in_place TVar) (g k)
    put_kept S σ θ f g (TDef k) h = refl
    put_kept S σ θ f g (TArray dims xs) h = ap (TArray dims) (cells_kept S σ θ f g xs h.1)
    put_kept S σ θ f g (TNoAtoms dims a) h = refl
    put_kept S σ θ f g (TFrame dims ts a) h = ap (λ us. TFrame dims us a) (terms_kept S σ θ f g ts h)
    put_kept S σ θ f g (TNoCells w) h = ap TNoCells (word_kept S σ f w h)
    put_kept S σ θ f g (TApp t ts cs r) h = λ i. TApp (put_kept S σ θ f g t h.0 i) (terms_kept S σ θ f g ts h.1 i) (words_kept S σ f cs h.2 i) (word_kept S σ f r h.3 i)
    put_kept S σ θ f g (TTypeApp t us r) h = λ i. TTypeApp (put_kept S σ θ f g t h.0 i) us (word_kept S σ f r h.1 i)
    put_kept S σ θ f g (TIndexApp t is r) h = λ i. TIndexApp (put_kept S σ θ f g t h.0 i) (indices_kept S σ f is h.1 i) (word_kept S σ f r h.2 i)
    put_kept S σ θ f g (TUnbox n t b r) h =
        λ i. TUnbox n (put_kept S σ θ f g t h.0 i) (put_kept (bound n S) (under_n n same_value σ) (terms_under 1 θ) (keeps_under n σ f) (keeps_under 1 θ g) b h.1 i) (word_kept S σ f r h.2 i)

    terms_kept : (S : Scope) (σ : Fates IndexValue) (θ : Fates ErasedTerm) → Keeps σ → Keeps θ → (ts : Terms erased) → TermsScoped runs S ts → terms_put erased_rules σ θ ts ≡ ts
    terms_kept S σ θ f g no_terms h = refl
    terms_kept S σ θ f g (more_terms t ts) h = λ i. more_terms (put_kept S σ θ f g t h.0 i) (terms_kept S σ θ f g ts h.1 i)

    cell_kept : (S : Scope) (σ : Fates IndexValue) (θ : Fates ErasedTerm) → Keeps σ → Keeps θ → (a : Cell erased) → CellScoped runs S a → cell_put erased_rules σ θ a ≡ a
    cell_kept S σ θ f g (TInt z) h = refl
    cell_kept S σ θ f g (TBool z) h = refl
    cell_kept S σ θ f g (TChar z) h = refl
    cell_kept S σ θ f g (TPrim p us is) h = λ i. TPrim p (types_stay us i) (prim_kept runs S σ f us is h i)
    cell_kept S σ θ f g (TFn n t) h = ap (TFn n) (put_kept S σ (terms_under n θ) f (keeps_under n θ g) t h)
    cell_kept S σ θ f g (TTypeFn n t) h = ap (TTypeFn n) (put_kept S σ θ f g t h)
    cell_kept S σ θ f g (TIndexFn n t) h = ap (TIndexFn n) (put_kept (bound n S) (under_n n same_value σ) θ (keeps_under n σ f) g t h)
    cell_kept S σ θ f g (TBoxed is t b) h = λ i. TBoxed (indices_kept S σ f is h.0 i) (put_kept S σ θ f g t h.1 i) b

    cells_kept : (S : Scope) (σ : Fates IndexValue) (θ : Fates ErasedTerm) → Keeps σ → Keeps θ → (xs : Cells erased) → CellsScoped runs S xs → cells_put erased_rules σ θ xs ≡ xs
    cells_kept S σ θ f g no_cells h = refl
    cells_kept S σ θ f g (more_cells a xs) h = λ i. more_cells (cell_kept S σ θ f g a h.0 i) (cells_kept S σ θ f g xs h.1 i)
