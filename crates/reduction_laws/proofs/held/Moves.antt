-- Rules of reduction that keep terms held: what goes on from held terms is held.
use Rattle.std.proofs.Common.{◌≡◌, refl, ℕ, List, [], ◌∷◌, ◌++◌, Option, Some, None, Bool, true, false}
use Rattle.std.specs.Prelude.{◌==◌, ⊤}
use Rattle.core_syntax.specs.declared.errors.TrapKind.TheVariants as trap
use Rattle.core_syntax.specs.Syntax.{Index, Ty}
use Rattle.core_syntax.specs.Lists.{each, Each, joined, product}
use Rattle.core_syntax.specs.Fits.{forms, all_fit}
use Rattle.core_syntax.specs.Subst.{kept, put_first}
use Rattle.core_syntax.specs.Terms.{TVar, TDef, TArray, TNoAtoms, TFrame, TNoCells, TApp, TTypeApp, TIndexApp, TUnbox, Terms, no_terms, more_terms, Cell, TPrim, TTypeFn, TIndexFn, TBoxed, Cells, no_cells, more_cells, term_items, term_list, cell_items, cell_list, scalar_of}
use Rattle.core_syntax.specs.Move.{Move, Rests, Trapped, Goes, Lost, first_move}
use Rattle.core_syntax.specs.Rules.{dims_of, atoms_of, array_term_of, goes_empty, over_value, over_atoms, type_beta, index_beta, index_beta_at, unbox_one, collapse}
use Rattle.core_syntax.specs.Typed.{typed, typed_rules, TypedTerm, closed_value}
use Rattle.core_syntax.specs.Held.{HasForm, HeldAt, TermsHeld, ArgumentsHeld, CellHeld, CellsHeld, IsHeld}
use Rattle.reduction_laws.proofs.held.Puts.{held_anywhere, held_put, kept_held, first_held}
use Rattle.reduction_laws.proofs.held.Forms.{each_mapped}
use Rattle.reduction_laws.proofs.steps.Counts.{each_joined}

-- where a move goes, P holds
abbrev pub Kept : {A : Type 0} → (A → Type 0) → Move A → Type 0
Kept P Rests = ⊤
Kept P (Trapped k) = ⊤
Kept P (Goes a) = P a
Kept P Lost = ⊤

pub first_kept : {A B : Type 0} (P : A → Type 0) (Q : B → Type 0) (m : Move A) (f : A → B) (later : Move B)
    → Kept P m → ((a : A) → P a → Q (f a)) → (m ≡ Rests → Kept Q later) → Kept Q (first_move m f later)
first_kept P Q Rests f later h g k = k refl
first_kept P Q (Trapped q) f later h g k = tt
first_kept P Q (Goes a) f later h g k = g a h
first_kept P Q Lost f later h g k = tt

pub kept_either : {A : Type 0} (P : A → Type 0) (b : Bool) (x y : Move A) → (b ≡ true → Kept P x) → (b ≡ false → Kept P y)
    → Kept P (elim b as (λ b. Move A) [ true ↦ x | false ↦ y ])
kept_either P true x y f g = f refl
kept_either P false x y f g = g refl

-- ---- lists of terms and atoms

pub terms_each : (ts : Terms typed) → TermsHeld ts → Each IsHeld (term_items ts)
terms_each no_terms h = tt
terms_each (more_terms t ts) h = (h.0, terms_each ts h.1)

pub each_terms : (ts : List TypedTerm) → Each IsHeld ts → TermsHeld (term_list ts)
each_terms [] h = tt
each_terms (t ∷ ts) h = (h.0, each_terms ts h.1)

pub each_arguments : (cs : List Index) (ts : List TypedTerm) → Each IsHeld ts → ArgumentsHeld cs (term_list ts)
each_arguments cs [] h = tt
each_arguments [] (t ∷ ts) h = (h.0, each_arguments [] ts h.1)
each_arguments (c ∷ cs) (t ∷ ts) h = (held_anywhere (Some c) t h.0, each_arguments cs ts h.1)

pub cells_each : (xs : Cells typed) → CellsHeld xs → Each CellHeld (cell_items xs)
cells_each no_cells h = tt
cells_each (more_cells x xs) h = (h.0, cells_each xs h.1)

pub each_cells : (xs : List (Cell typed)) → Each CellHeld xs → CellsHeld (cell_list xs)
each_cells [] h = tt
each_cells (x ∷ xs) h = (h.0, each_cells xs h.1)

pub atoms_held : (o : Option Index) (t : TypedTerm) → HeldAt o t → Each CellHeld (atoms_of typed_rules t)
atoms_held o (TArray dims xs) h = cells_each xs h.1
atoms_held o (TNoAtoms dims a) h = tt
atoms_held o (TVar k) h = tt
atoms_held o (TDef k) h = tt
atoms_held o (TFrame dims ts n) h = tt
atoms_held o (TNoCells w) h = tt
atoms_held o (TApp f ts cs r) h = tt
atoms_held o (TTypeApp t us r) h = tt
atoms_held o (TIndexApp t is r) h = tt
atoms_held o (TUnbox ss t b r) h = tt

-- the dims of a held term, which are none where it is no array
pub dims_held : (t : TypedTerm) → IsHeld t → HasForm (dims_of typed_rules t)
dims_held (TArray dims xs) h = h.0
dims_held (TNoAtoms dims a) h = h
dims_held (TVar k) h = refl
dims_held (TDef k) h = refl
dims_held (TFrame dims ts n) h = refl
dims_held (TNoCells w) h = refl
dims_held (TApp f ts cs r) h = refl
dims_held (TTypeApp t us r) h = refl
dims_held (TIndexApp t is r) h = refl
dims_held (TUnbox ss t b r) h = refl

pub scalar_held : (o : Option Index) (x : Cell typed) → CellHeld x → HeldAt o (scalar_of x)
scalar_held o x h = held_anywhere o (scalar_of x) (refl, (h, tt))

pub array_held : (n : Ty) (dims : List ℕ) (xs : List (Cell typed)) → HasForm dims → Each CellHeld xs → IsHeld (array_term_of typed_rules n dims xs)
array_held n dims [] f h = f
array_held n dims (x ∷ xs) f h = (f, each_cells (x ∷ xs) h)

-- ---- rules

pub empty_kept : (dims : List ℕ) (n : Ty) → Kept IsHeld (goes_empty typed_rules dims n)
empty_kept dims n = kept_either IsHeld (forms dims) (Goes (TNoAtoms dims n)) (Trapped trap.Size) (λ f. f) (λ f. tt)

pub collapse_held : (F : List ℕ) (t : TypedTerm) (ts : List TypedTerm) (n : Ty) → HasForm (F ++ dims_of typed_rules t) → IsHeld t → Each IsHeld ts → IsHeld (collapse typed_rules F t ts n)
collapse_held F t ts n f h hs =
    array_held (typed_rules.frame_atom n) (F ++ dims_of typed_rules t) (joined (each (atoms_of typed_rules) (t ∷ ts))) f
    (each_joined CellHeld (each (atoms_of typed_rules) (t ∷ ts)) (each_mapped IsHeld (Each CellHeld) (atoms_of typed_rules) (atoms_held None) (t ∷ ts) (h, hs)))

pub over_kept : (t : TypedTerm) (form : TypedTerm → TypedTerm) (act : List (Cell typed) → Move TypedTerm) (r : Ty) → IsHeld t → ((x : Cell typed) → CellHeld x → IsHeld (form (scalar_of x)))
    → ((xs : List (Cell typed)) → Each CellHeld xs → Kept IsHeld (act xs)) → Kept IsHeld (over_value typed_rules t form act r)
over_kept t form act r h formed acted =
    kept_either IsHeld (product (dims_of typed_rules t) == 0) (goes_empty typed_rules (dims_of typed_rules t ++ typed_rules.result_dims r) (typed_rules.result_atom r))
    (over_atoms typed_rules (dims_of typed_rules t) (atoms_of typed_rules t) form act r)
    (λ z. empty_kept (dims_of typed_rules t ++ typed_rules.result_dims r) (typed_rules.result_atom r)) (λ z. over (dims_of typed_rules t) (atoms_of typed_rules t) (atoms_held None t h))
  where
    over : (ds : List ℕ) (xs : List (Cell typed)) → Each CellHeld xs → Kept IsHeld (over_atoms typed_rules ds xs form act r)
    over [] xs h = acted xs h
    over (n ∷ F) xs h = each_terms (each (λ x. form (scalar_of x)) xs) (each_mapped CellHeld IsHeld (λ x. form (scalar_of x)) formed xs h)

pub type_beta_kept : (us : List Ty) (xs : List (Cell typed)) → Each CellHeld xs → Kept IsHeld (type_beta typed_rules us xs)
type_beta_kept us (TTypeFn n t ∷ []) h = held_put None (typed_rules.put_types us) kept kept_held t h.0
type_beta_kept us (TPrim q None None ∷ []) h = (refl, (tt, tt))
type_beta_kept us _ h = tt

index_beta_at_kept : (is : List Index) (xs : List (Cell typed)) → Each CellHeld xs → Kept IsHeld (index_beta_at typed_rules (each closed_value is) xs)
index_beta_at_kept is (TIndexFn ss t ∷ []) h = held_put None (typed_rules.put_indices (each closed_value is)) kept kept_held t h.0
index_beta_at_kept is (TPrim q us None ∷ []) h = (refl, (tt, tt))
index_beta_at_kept is _ h = tt

pub index_beta_kept : (is : List Index) (xs : List (Cell typed)) → Each CellHeld xs → Kept IsHeld (index_beta typed_rules is xs)
index_beta_kept is xs h = kept_either IsHeld (all_fit (each closed_value is)) (index_beta_at typed_rules (each closed_value is) xs) (Trapped trap.Size) (λ f. index_beta_at_kept is xs h) (λ f. tt)

pub unbox_kept : (body : TypedTerm) → IsHeld body → (xs : List (Cell typed)) → Each CellHeld xs → Kept IsHeld (unbox_one typed_rules body xs)
unbox_kept body k (TBoxed is t b ∷ []) h = held_put None (typed_rules.put_indices (each closed_value is)) (put_first (t ∷ [])) (first_held (t ∷ []) (h.0, tt)) body k
unbox_kept body k _ h = tt
