-- The step of a scalar function on cells.
use Rattle.std.proofs.Common.{◌≡◌, refl, ◌∙◌, ap, ℕ, true, false, List, [], ◌∷◌, Option, Some, None}
use Rattle.std.specs.Prelude.{option_map}
use Rattle.core_syntax.specs.Lists.{onto, each, Each, after_prefix}
use Rattle.core_syntax.specs.Word.{Word}
use Rattle.core_syntax.specs.Arrays.{frame_before, greatest, greatest_of, all_prefixes}
use Rattle.core_syntax.specs.Terms.{TApp, term_list, term_items, Cell, scalar_of}
use Rattle.core_syntax.specs.Move.{Rests, first_move, if_there}
use Rattle.core_syntax.specs.Rules.{dims_of, frames_of, and_list, apply, apply_at, apply_atom}
use Rattle.core_syntax.specs.NormPut.{word_value}
use Rattle.erasure.specs.Erased.{erased, ErasedTerm, erased_rules}
use Rattle.evaluation.specs.Typing.{CellsOnly}
use Rattle.evaluation.proofs.steps.Contexts.{one, some}
use Rattle.evaluation.proofs.steps.Rests.{items_back, terms_rest}
use Rattle.evaluation.proofs.forms.Leaves.{same_count}

-- nothing stands behind a whole list
pub after_whole : (xs : List ℕ) → after_prefix xs xs ≡ Some []
after_whole [] = refl
after_whole (x ∷ xs) = ap (λ b. elim b as (λ b. Option (List ℕ)) [ true ↦ after_prefix xs xs | false ↦ None ]) (same_count x x refl) ∙ after_whole xs

-- a cell by itself has the frame ()
pub no_frame : (c : List ℕ) → frame_before c c ≡ Some []
no_frame c = ap (option_map (λ f. onto f [])) (after_whole (onto c []))

-- no frame for each of some arguments
abbrev pub no_frames : {B : Type 0} → List B → List (List ℕ)
no_frames ts = each (λ t. []) ts

frames_are : (ts : List ErasedTerm) (cs : List Word) → CellsOnly ts cs → frames_of erased_rules (each word_value cs) ts ≡ Some (no_frames ts)
frames_are [] [] e = refl
frames_are [] (c ∷ cs) e = absurd (cc)
frames_are (t ∷ ts) [] e = absurd (cc)
frames_are (t ∷ ts) (c ∷ cs) e =
    let here : dims_of erased_rules t ≡ word_value c = cc in
    let rest : CellsOnly ts cs = cc in
    (λ i. and_list ((ap (frame_before (word_value c)) here ∙ no_frame (word_value c)) i) (frames_are ts cs rest i))

-- () is the greatest of frames ()
prefixes_none : {B : Type 0} (ts : List B) → all_prefixes (no_frames ts) [] ≡ true
prefixes_none [] = refl
prefixes_none (t ∷ ts) = prefixes_none ts

pub greatest_none : {B : Type 0} (ts : List B) → greatest ([] ∷ no_frames ts) ≡ Some []
greatest_none ts = ap (λ b. elim b as (λ b. Option (List ℕ)) [ true ↦ Some [] | false ↦ greatest_of ([] ∷ no_frames ts) (no_frames ts) ]) (prefixes_none ts)

-- the step of values applied
pub apply_step : (defs : List ErasedTerm) (f : ErasedTerm) (ts : List ErasedTerm) (cs : List Word) (r : Word) → one defs f ≡ Rests → Each (λ t. one defs t ≡ Rests) ts
    → one defs (TApp f (term_list ts) cs r) ≡ apply erased_rules f ts cs r
apply_step defs f ts cs r h hs =
    ap (λ m. first_move m (λ g. TApp g (term_list ts) cs r) (first_move (some defs (term_list ts)) (λ us. TApp f us cs r) (apply erased_rules f (term_items (term_list ts)) cs r))) h
    ∙ ap (λ m. first_move m (λ us. TApp f us cs r) (apply erased_rules f (term_items (term_list ts)) cs r)) (terms_rest defs ts hs)
    ∙ ap (λ us. apply erased_rules f us cs r) (items_back ts)

-- and of a scalar function on cells
pub scalar_step : (defs : List ErasedTerm) (c : Cell erased) (ts : List ErasedTerm) (cs : List Word) (r : Word) → one defs (scalar_of c) ≡ Rests → Each (λ t. one defs t ≡ Rests) ts → CellsOnly ts cs
    → one defs (TApp (scalar_of c) (term_list ts) cs r) ≡ apply_atom erased_rules (c ∷ []) ts r
scalar_step defs c ts cs r h hs cells =
    apply_step defs (scalar_of c) ts cs r h hs
    ∙ ap (λ o. if_there o (λ frames. if_there (greatest ([] ∷ frames)) (λ F. apply_at erased_rules F frames (scalar_of c) ts cs r))) (frames_are ts cs cells)
    ∙ ap (λ o. if_there o (λ F. apply_at erased_rules F (no_frames ts) (scalar_of c) ts cs r)) (greatest_none ts)
