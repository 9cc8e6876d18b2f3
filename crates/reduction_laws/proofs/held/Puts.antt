-- Substitution keeps terms held.
use Rattle.std.proofs.Common.{◌≡◌, sym, ◌∙◌, ap, subst, ℕ, zero, suc, List, [], ◌∷◌, ◌++◌, Option, Some, None, inl, inr}
use Rattle.std.specs.Prelude.{option_map, ⊤}
use Rattle.core_syntax.specs.Syntax.{Index}
use Rattle.core_syntax.specs.Lists.{onto, each, Each}
use Rattle.core_syntax.specs.Value.{shape_val}
use Rattle.core_syntax.specs.Nodes.{vector}
use Rattle.core_syntax.specs.Subst.{Fate, Keep, Put, Fates, kept, put_first, put_all, moved, in_place, under, index_put}
use Rattle.core_syntax.specs.Terms.{TVar, TDef, TArray, TNoAtoms, TFrame, TNoCells, TApp, TTypeApp, TIndexApp, TUnbox, Terms, no_terms, more_terms, Cell, TInt, TBool, TChar, TPrim, TFn, TTypeFn, TIndexFn, TBoxed, Cells, no_cells, more_cells}
use Rattle.core_syntax.specs.TermPut.{term_put, terms_put, cell_put, cells_put, terms_under}
use Rattle.core_syntax.specs.Typed.{typed, typed_rules, TypedTerm, TypedPuts, closed}
use Rattle.core_syntax.proofs.Equality.{valued_by, shape_val-put}
use Rattle.core_syntax.specs.Held.{HasForm, IsFixed, HasRoom, HeldAt, TermsHeld, ArgumentsHeld, CellHeld, CellsHeld, IsHeld}
use Rattle.reduction_laws.proofs.putting.ClosedValues.{each_reversed}

-- an array's dims have room at each place
pub form_has_room : (o : Option Index) (d : List ℕ) → HasForm d → HasRoom o d
form_has_room None d h = h
form_has_room (Some c) d h = inl h

-- a term that is held at one place is held where its dims have room
pub held_wider : (o p : Option Index) → ((d : List ℕ) → HasRoom o d → HasRoom p d) → (t : TypedTerm) → HeldAt o t → HeldAt p t
held_wider o p f (TArray dims xs) h = (f dims h.0, h.1)
held_wider o p f (TNoAtoms dims t) h = f dims h
held_wider o p f (TVar k) h = h
held_wider o p f (TDef k) h = h
held_wider o p f (TFrame dims ts t) h = h
held_wider o p f (TNoCells w) h = h
held_wider o p f (TApp g ts cs r) h = h
held_wider o p f (TTypeApp t us r) h = h
held_wider o p f (TIndexApp t is r) h = h
held_wider o p f (TUnbox ss t b r) h = h

pub held_anywhere : (o : Option Index) (t : TypedTerm) → IsHeld t → HeldAt o t
held_anywhere o t h = held_wider None o (form_has_room o) t h

-- a fixed shape keeps its value where indices are put in place
fixed_value : (σ : Fates Index) (c : Index) → IsFixed c → shape_val closed (index_put σ c) ≡ shape_val closed c
fixed_value σ c h = shape_val-put closed σ c ∙ h (valued_by closed σ)

room_put : (σ : Fates Index) (o : Option Index) (d : List ℕ) → HasRoom o d → HasRoom (option_map (index_put σ) o) d
room_put σ None d h = h
room_put σ (Some c) d (inl h) = inl h
room_put σ (Some c) d (inr h) =
    let e = fixed_value σ c h.0 in
    inr (λ v. shape_val-put v σ c ∙ h.0 (valued_by v σ) ∙ sym e, subst HasForm (sym e) h.1, (h.2.0, h.2.1 ∙ ap (λ w. h.2.0 ++ w) (sym e)))

-- what is put in the place of a variable is held
abbrev pub FateHeld : Fate TypedTerm → Type 0
FateHeld (Keep k) = ⊤
FateHeld (Put v) = IsHeld v

abbrev pub FatesHeld : Fates TypedTerm → Type 0
FatesHeld τ = (k : ℕ) → FateHeld (τ k)

fate_moved : (f : Fate TypedTerm) → FateHeld f → FateHeld (moved (λ a. a) f)
fate_moved (Keep k) h = tt
fate_moved (Put v) h = h

fates_under : (τ : Fates TypedTerm) → FatesHeld τ → FatesHeld (under (λ a. a) τ)
fates_under τ h zero = tt
fates_under τ h (suc k) = fate_moved (τ k) (h k)

fates_under_n : (n : ℕ) (τ : Fates TypedTerm) → FatesHeld τ → FatesHeld (terms_under n τ)
fates_under_n zero τ h = h
fates_under_n (suc n) τ h = fates_under (terms_under n τ) (fates_under_n n τ h)

variable_held : (o : Option Index) (f : Fate TypedTerm) → FateHeld f → HeldAt o (in_place TVar f)
variable_held o (Keep k) h = tt
variable_held o (Put v) h = held_anywhere o v h

mutual
  -- a held term is held where indices, types and held terms are put in place
  pub held_put : (o : Option Index) (σ : TypedPuts) (τ : Fates TypedTerm) → FatesHeld τ → (t : TypedTerm) → HeldAt o t → HeldAt (option_map (index_put σ.indices) o) (term_put typed_rules σ τ t)
  held_put o σ τ g (TVar k) h = variable_held (option_map (index_put σ.indices) o) (τ k) (g k)
  held_put o σ τ g (TDef k) h = tt
  held_put o σ τ g (TArray dims xs) h = (room_put σ.indices o dims h.0, cells_held_put σ τ g xs h.1)
  held_put o σ τ g (TNoAtoms dims a) h = room_put σ.indices o dims h
  held_put o σ τ g (TFrame dims ts n) h = terms_held_put σ τ g ts h
  held_put o σ τ g (TNoCells w) h = tt
  held_put o σ τ g (TApp t ts cs r) h = (held_put (Some (vector [])) σ τ g t h.0, arguments_held_put σ τ g cs ts h.1)
  held_put o σ τ g (TTypeApp t us r) h = held_put None σ τ g t h
  held_put o σ τ g (TIndexApp t is r) h = held_put None σ τ g t h
  held_put o σ τ g (TUnbox ss t b r) h = (held_put None σ τ g t h.0, held_put None (typed_rules.under_sorts ss σ) (terms_under 1 τ) (fates_under_n 1 τ g) b h.1)

  terms_held_put : (σ : TypedPuts) (τ : Fates TypedTerm) → FatesHeld τ → (ts : Terms typed) → TermsHeld ts → TermsHeld (terms_put typed_rules σ τ ts)
  terms_held_put σ τ g no_terms h = tt
  terms_held_put σ τ g (more_terms t ts) h = (held_put None σ τ g t h.0, terms_held_put σ τ g ts h.1)

  arguments_held_put : (σ : TypedPuts) (τ : Fates TypedTerm) → FatesHeld τ → (cs : List Index) (ts : Terms typed) → ArgumentsHeld cs ts → ArgumentsHeld (each (typed_rules.on_cell σ) cs) (terms_put typed_rules σ τ ts)
  arguments_held_put σ τ g cs no_terms h = tt
  arguments_held_put σ τ g [] (more_terms t ts) h = (held_put None σ τ g t h.0, arguments_held_put σ τ g [] ts h.1)
  arguments_held_put σ τ g (c ∷ cs) (more_terms t ts) h = (held_put (Some c) σ τ g t h.0, arguments_held_put σ τ g cs ts h.1)

  cell_held_put : (σ : TypedPuts) (τ : Fates TypedTerm) → FatesHeld τ → (x : Cell typed) → CellHeld x → CellHeld (cell_put typed_rules σ τ x)
  cell_held_put σ τ g (TInt z) h = h
  cell_held_put σ τ g (TBool b) h = tt
  cell_held_put σ τ g (TChar c) h = h
  cell_held_put σ τ g (TPrim p us is) h = tt
  cell_held_put σ τ g (TFn i t) h = held_put None σ (terms_under (typed_rules.arity i) τ) (fates_under_n (typed_rules.arity i) τ g) t h
  cell_held_put σ τ g (TTypeFn n t) h = held_put None (typed_rules.under_count n σ) τ g t h
  cell_held_put σ τ g (TIndexFn ss t) h = held_put None (typed_rules.under_sorts ss σ) τ g t h
  cell_held_put σ τ g (TBoxed is t b) h = held_put None σ τ g t h

  cells_held_put : (σ : TypedPuts) (τ : Fates TypedTerm) → FatesHeld τ → (xs : Cells typed) → CellsHeld xs → CellsHeld (cells_put typed_rules σ τ xs)
  cells_held_put σ τ g no_cells h = tt
  cells_held_put σ τ g (more_cells x xs) h = (cell_held_put σ τ g x h.0, cells_held_put σ τ g xs h.1)

-- ---- the fates of a body's variables

pub kept_held : FatesHeld kept
kept_held k = tt

pub first_held : (vs : List TypedTerm) → Each IsHeld vs → FatesHeld (put_first vs)
first_held [] h k = tt
first_held (v ∷ vs) h zero = h.0
first_held (v ∷ vs) h (suc k) = first_held vs h.1 k

pub all_held : (vs : List TypedTerm) → Each IsHeld vs → FatesHeld (put_all vs)
all_held vs h = first_held (onto vs []) (each_reversed IsHeld vs [] h tt)
