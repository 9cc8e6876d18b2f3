-- What the rules of arrays and frames give.
use Rattle.std.proofs.Common.{◌≡◌, refl, sym, ap, ◌∙◌, subst, ℕ, List, [], ◌∷◌, ◌++◌, Result}
use Rattle.core_syntax.specs.declared.span.Span.{Span}
use Rattle.core_syntax.specs.declared.index.Sort.{Sort}
use Rattle.core_syntax.specs.declared.index.Sort.TheVariants as sort
use Rattle.core_syntax.specs.Syntax.{Index, index_list, no_span, Ty, Arr, Expr, Array, NoAtoms, Frame, NoCells, Exprs, no_exprs, more_exprs, Atom, Atoms, no_atoms, more_atoms}
use Rattle.core_syntax.specs.Lists.{each, Each}
use Rattle.core_syntax.specs.Nodes.{number}
use Rattle.core_syntax.specs.Sorts.{IsSorted, AreSorted}
use Rattle.core_syntax.specs.Kinds.{is_atom_kind, IsWellFormed}
use Rattle.core_syntax.specs.Made.{IsArray}
use Rattle.core_syntax.specs.Value.{SameShape, then_shape}
use Rattle.core_syntax.specs.TypeEqual.{Same}
use Rattle.core_syntax.specs.Norm.{norm_word, word_tree}
use Rattle.core_syntax.specs.NormTypes.{norm_ty}
use Rattle.core_syntax.specs.Prims.{array_of}
use Rattle.core_syntax.specs.Typing.{Context, Has, HasAtom, AtomsHave, ExprsHave, numbers, OnArr, Takes}
use Rattle.core_syntax.specs.Blame.{premises, expr_premises, written, written_atom}
use Rattle.core_syntax.specs.Notes.{NodeNote, NotesAre, no_note, cell_note}
use Rattle.core_syntax.proofs.Equality.{same_refl, same_sym, same_trans}
use Rattle.core_syntax.proofs.NormTyLemmas.{norm_same}
use Rattle.core_syntax.proofs.Unique.{wholes_agree}
use Rattle.core_syntax.proofs.Closed.{has_same}
use Rattle.type_check.specs.Contexts.{IsSound, IsSoundAtom}
use Rattle.type_check.proofs.normal_forms.NormSound.{sound_again, sound_atom_again}
use Rattle.type_check.specs.Found.{Found, FoundAtom}
use Rattle.type_check.specs.declared.concluded.Concluded.{Concluded}
use Rattle.type_check.specs.declared.refusal.TypeRefusal.{TypeRefusal}
use Rattle.type_check.specs.Found.{Concludes}
use Rattle.type_check.specs.Forms.{IsFramed, Follows}
use Rattle.type_check.specs.FoundParts.{FoundAtoms, FoundCells}

listed_numbers : (sorts : List Sort) (dims : List ℕ) → AreSorted sorts sort.Dim (index_list (each (λ n. number n) dims))
listed_numbers sorts [] = tt
listed_numbers sorts (n ∷ ns) = (refl, listed_numbers sorts ns)

-- dims are a shape
pub numbers_sorted : (sorts : List Sort) (dims : List ℕ) → IsSorted sorts sort.Shape (numbers dims)
numbers_sorted sorts dims = (refl, listed_numbers sorts dims)

pub then_sorted : (sorts : List Sort) (p c : Index) → IsSorted sorts sort.Shape p → IsSorted sorts sort.Shape c → IsSorted sorts sort.Shape (then_shape p c)
then_sorted sorts p c h k = (refl, (h, (k, tt)))

-- arrays of a sound atom type, of a well-sorted shape
pub array_sound : (Γ : Context) (a : Ty) (i : Index) → IsSoundAtom Γ a → IsSorted Γ.sorts sort.Shape i → IsSound Γ.types Γ.sorts (array_of a i)
array_sound Γ a i h k = record { formed = (h.top, k, h.formed); top = refl; inside = h.inside }

-- ---- array literals

module _ (Γ : Context) (at : Span) (dims : List ℕ) (x : Atom) (xs : Atoms) (a : Ty) (ns ms : List NodeNote) (f : FoundAtom Γ x a ns) (fs : FoundAtoms Γ a xs ms) where
  pub literal_met : (premises Γ (Array at dims (more_atoms x xs))).met
  literal_met = (f.met, (a, f.has, fs.met))

  pub literal_has : Has Γ (Array at dims (more_atoms x xs)) (array_of a (numbers dims))
  literal_has = (a, f.has, fs.have, ((f.sound.top, numbers_sorted Γ.sorts dims, f.sound.formed), same_refl (array_of a (numbers dims))))

  pub literal_sound : IsSound Γ.types Γ.sorts (array_of a (numbers dims))
  literal_sound = array_sound Γ a (numbers dims) f.sound (numbers_sorted Γ.sorts dims)

  pub literal_notes : (n : NodeNote) → n ≡ no_note → NotesAre Γ (Array at dims (more_atoms x xs)) (n ∷ (ns ++ ms))
  literal_notes n e = (e, (ns, ms, refl, f.notes, fs.notes))

-- ---- empty arrays, of the written atom type a, whose normal form is b

module _ (Γ : Context) (at : Span) (dims : List ℕ) (a b : Ty) (met : (written_atom Γ a).met) (sound : IsSoundAtom Γ a) (is : b ≡ norm_ty a) (normal : IsSoundAtom Γ b) where
  pub none_has : Has Γ (NoAtoms at dims a) (array_of a (numbers dims))
  none_has = ((sound.top, sound.formed), ((sound.top, numbers_sorted Γ.sorts dims, sound.formed), same_refl (array_of a (numbers dims))))

  pub none_same : Same (array_of a (numbers dims)) (array_of b (numbers dims))
  none_same = (subst (Same a) (sym is) (same_sym (norm_ty a) a (norm_same a)), λ v. refl)

  pub none_sound : IsSound Γ.types Γ.sorts (array_of b (numbers dims))
  none_sound = array_sound Γ b (numbers dims) normal (numbers_sorted Γ.sorts dims)

  pub none_notes : (n : NodeNote) → n ≡ no_note → NotesAre Γ (NoAtoms at dims a) (n ∷ [])
  none_notes n e = (e, refl)

-- ---- frames of cells of the type t, arrays of a of shape s

exprs_same : (Γ : Context) (es : Exprs) (t u : Ty) → ExprsHave Γ es t → Same t u → IsWellFormed Γ.types Γ.sorts u → ExprsHave Γ es u
exprs_same Γ no_exprs t u h e w = tt
exprs_same Γ (more_exprs x es) t u h e w = (has_same Γ x t u h.0 e w, exprs_same Γ es t u h.1 e w)

-- the parts of a sound array type
pub element_sound : (Γ : Context) (at : Span) (a : Ty) (s : Index) → IsSound Γ.types Γ.sorts (Arr at a s) → IsSoundAtom Γ a
element_sound Γ at a s h = record { formed = h.formed.2; top = h.formed.0; inside = h.inside }

pub framed_sound : (Γ : Context) (at : Span) (p : Index) (a : Ty) (s : Index) → IsSorted Γ.sorts sort.Shape p → IsSound Γ.types Γ.sorts (Arr at a s) →
    IsSound Γ.types Γ.sorts (array_of a (then_shape p s))
framed_sound Γ at p a s k h = array_sound Γ a (then_shape p s) (element_sound Γ at a s h) (then_sorted Γ.sorts p s k h.formed.1)

module _ (Γ : Context) (at' : Span) (dims : List ℕ) (x : Expr) (xs : Exprs) (at : Span) (a : Ty) (s : Index) (ns ms : List NodeNote) (f : Found Γ x (Arr at a s) ns)
    (fs : FoundCells Γ (Arr at a s) xs ms) where
  formed : IsWellFormed Γ.types Γ.sorts (array_of a s)
  formed = f.sound.formed

  same : Same (Arr at a s) (array_of a s)
  same = (same_refl a, λ v. refl)

  pub frame_met : (premises Γ (Frame at' dims (more_exprs x xs))).met
  frame_met = (f.met, (Arr at a s, f.has, fs.met))

  pub frame_sound : IsSound Γ.types Γ.sorts (array_of a (then_shape (numbers dims) s))
  frame_sound = framed_sound Γ at (numbers dims) a s (numbers_sorted Γ.sorts dims) f.sound

  pub frame_has : Has Γ (Frame at' dims (more_exprs x xs)) (array_of a (then_shape (numbers dims) s))
  frame_has = (
    a,
    s,
    has_same Γ x (Arr at a s) (array_of a s) f.has same formed,
    exprs_same Γ xs (Arr at a s) (array_of a s) fs.have same formed,
    (frame_sound.formed, same_refl (array_of a (then_shape (numbers dims) s))),
  )

  pub frame_notes : (n : NodeNote) → n ≡ cell_note (Arr at a s) → NotesAre Γ (Frame at' dims (more_exprs x xs)) (n ∷ (ns ++ ms))
  frame_notes n e = (Arr at a s, f.has, (e, (ns, ms, refl, f.notes, fs.notes)))

-- ---- empty frames, of cells of the written type u, whose normal form is an array of b of shape j

module _ (Γ : Context) (at' : Span) (dims : List ℕ) (at : Span) (b : Ty) (j : Index) (normal : IsSound Γ.types Γ.sorts (Arr at b j)) where
  pub no_cells_sound : IsSound Γ.types Γ.sorts (array_of b (then_shape (numbers dims) j))
  no_cells_sound = framed_sound Γ at (numbers dims) b j (numbers_sorted Γ.sorts dims) normal

  pub no_cells_has : (u : Ty) → IsSound Γ.types Γ.sorts u → Arr at b j ≡ norm_ty u → Has Γ (NoCells at' dims u) (array_of b (then_shape (numbers dims) j))
  no_cells_has u sound is = (sound.formed, takes u (subst (Same u) (sym is) (same_sym (norm_ty u) u (norm_same u))))
    where
      takes : (u : Ty) → Same u (Arr at b j) → OnArr u (λ a s. Takes Γ (array_of a (then_shape (numbers dims) s)) (array_of b (then_shape (numbers dims) j)))
      takes (Arr at'' a s) h = (no_cells_sound.formed, (h.0, wholes_agree (numbers dims) (numbers dims) s j (λ v. refl) h.1))
      takes _ h = absurd h

  pub no_cells_notes : (u : Ty) (n : NodeNote) → n ≡ no_note → NotesAre Γ (NoCells at' dims u) (n ∷ [])
  no_cells_notes u n e = (e, refl)

-- ---- what follows where a rule's type and note are made

follows : (at : Span) (t u : Ty) (n m : NodeNote) (r : Result Concluded TypeRefusal) → t ≡ u → n ≡ m → Follows at t n r → Follows at u m r
follows at t u n m r e f h = subst (λ n. Follows at u n r) f (subst (λ t. Follows at t n r) e h)

-- a note in another form
pub follows_noted : (at : Span) (t : Ty) (n m : NodeNote) (r : Result Concluded TypeRefusal) → n ≡ m → Follows at t n r → Follows at t m r
follows_noted at t n m r f h = subst (λ n. Follows at t n r) f h

-- types in a frame are one
pub framed_one : (p : Index) (cell t u : Ty) → IsFramed p cell t → IsFramed p cell u → t ≡ u
framed_one p (Arr at a s) t u h k = h ∙ sym k
framed_one p _ t u h k = absurd h

pub literal_follows : (Γ : Context) (at : Span) (dims : List ℕ) (x : Atom) (xs : Atoms) (a : Ty) (ns ms : List NodeNote) → FoundAtom Γ x a ns → FoundAtoms Γ a xs ms →
    (t : Ty) (n : NodeNote) (r : Result Concluded TypeRefusal) → t ≡ array_of a (numbers dims) → n ≡ no_note → Follows at t n r →
    Concludes Γ (Array at dims (more_atoms x xs)) (ns ++ ms) r
literal_follows Γ at dims x xs a ns ms f fs t n r e is h =
    follows at t (array_of a (numbers dims)) n no_note r e is h Γ (Array at dims (more_atoms x xs)) (array_of a (numbers dims)) (ns ++ ms) refl
    (literal_met Γ at dims x xs a ns ms f fs) (literal_has Γ at dims x xs a ns ms f fs) (same_refl (array_of a (numbers dims))) (literal_sound Γ at dims x xs a ns ms f fs)
    (literal_notes Γ at dims x xs a ns ms f fs no_note refl)

pub none_follows : (Γ : Context) (at : Span) (dims : List ℕ) (a b : Ty) → (written_atom Γ a).met → IsSoundAtom Γ a → b ≡ norm_ty a →
    (t : Ty) (n : NodeNote) (r : Result Concluded TypeRefusal) → t ≡ array_of b (numbers dims) → n ≡ no_note → Follows at t n r →
    Concludes Γ (NoAtoms at dims a) [] r
none_follows Γ at dims a b met sound is t n r e noted h =
    let normal : IsSoundAtom Γ b = subst (IsSoundAtom Γ) (sym is) (sound_atom_again Γ a sound) in
    follows at t (array_of b (numbers dims)) n no_note r e noted h Γ (NoAtoms at dims a) (array_of a (numbers dims)) [] refl
    met (none_has Γ at dims a b met sound is normal) (none_same Γ at dims a b met sound is normal) (none_sound Γ at dims a b met sound is normal)
    (none_notes Γ at dims a b met sound is normal no_note refl)

pub frame_follows : (Γ : Context) (at : Span) (dims : List ℕ) (x : Expr) (xs : Exprs) (cell : Ty) (ns ms : List NodeNote) → Found Γ x cell ns → FoundCells Γ cell xs ms →
    (t : Ty) (r : Result Concluded TypeRefusal) → IsFramed (numbers dims) cell t → Follows at t (cell_note cell) r → Concludes Γ (Frame at dims (more_exprs x xs)) (ns ++ ms) r
frame_follows Γ at dims x xs (Arr at' a s) ns ms f fs t r e h =
    follows at t (array_of a (then_shape (numbers dims) s)) (cell_note (Arr at' a s)) (cell_note (Arr at' a s)) r e refl h Γ (Frame at dims (more_exprs x xs))
    (array_of a (then_shape (numbers dims) s)) (ns ++ ms) refl (frame_met Γ at dims x xs at' a s ns ms f fs) (frame_has Γ at dims x xs at' a s ns ms f fs)
    (same_refl (array_of a (then_shape (numbers dims) s))) (frame_sound Γ at dims x xs at' a s ns ms f fs) (frame_notes Γ at dims x xs at' a s ns ms f fs (cell_note (Arr at' a s)) refl)
frame_follows Γ at dims x xs _ ns ms f fs t r e h = absurd e

pub no_cells_follows : (Γ : Context) (at : Span) (dims : List ℕ) (u cell : Ty) → (written Γ u).met → IsSound Γ.types Γ.sorts u → cell ≡ norm_ty u →
    (t : Ty) (n : NodeNote) (r : Result Concluded TypeRefusal) → IsFramed (numbers dims) cell t → n ≡ no_note → Follows at t n r → Concludes Γ (NoCells at dims u) [] r
no_cells_follows Γ at dims u (Arr at' b j) met sound is t n r e noted h =
    let normal : IsSound Γ.types Γ.sorts (Arr at' b j) = subst (IsSound Γ.types Γ.sorts) (sym is) (sound_again Γ.types Γ.sorts u sound) in
    follows at t (array_of b (then_shape (numbers dims) j)) n no_note r e noted h Γ (NoCells at dims u) (array_of b (then_shape (numbers dims) j)) [] refl
    met (no_cells_has Γ at dims at' b j normal u sound is) (same_refl (array_of b (then_shape (numbers dims) j))) (no_cells_sound Γ at dims at' b j normal)
    (no_cells_notes Γ at dims at' b j normal u no_note refl)
no_cells_follows Γ at dims u _ met sound is t n r e noted h = absurd e
