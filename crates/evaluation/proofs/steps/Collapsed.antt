-- A frame's values as one.
use Rattle.std.proofs.Common.{◌≡◌, refl, sym, ap, ◌∙◌, ℕ, true, List, [], ◌∷◌, ◌++◌}
use Rattle.core_syntax.specs.Lists.{each, Each, joined}
use Rattle.core_syntax.specs.Arrays.{Arrayed}
use Rattle.core_syntax.specs.Fits.{forms}
use Rattle.core_syntax.specs.Terms.{TFrame, more_terms, term_list, term_items}
use Rattle.core_syntax.specs.Move.{Rests, Goes, first_move}
use Rattle.core_syntax.specs.Rules.{atoms_of, array_term_of, collapse}
use Rattle.erasure.specs.Erased.{erased_rules}
use Rattle.machine_table.specs.Values as values
use Rattle.evaluation.specs.Setting.{Setting}
use Rattle.evaluation.proofs.steps.Contexts.{one, frame_step}
use Rattle.evaluation.proofs.steps.Rests.{dims_are, atoms_are, items_back, rests, all_rest, terms_rest}
use Rattle.evaluation.proofs.forms.Comes.{val, vals, Fit}

pub each_join : {A B : Type 0} (f : A → B) (xs ys : List A) → each f (xs ++ ys) ≡ each f xs ++ each f ys
each_join f [] ys = refl
each_join f (x ∷ xs) ys = ap (λ zs. f x ∷ zs) (each_join f xs ys)

module _ {A : Type 0} (W : Setting A) where
  joined_are : (xs : List (Arrayed A)) → joined (each (atoms_of erased_rules) (vals W xs)) ≡ each W.cell (joined (each (λ a. a.atoms) xs))
  joined_are [] = refl
  joined_are (x ∷ xs) = (λ i. atoms_are x.dims (each W.cell x.atoms) i ++ joined_are xs i) ∙ sym (each_join W.cell x.atoms (joined (each (λ a. a.atoms) xs)))

  collapse_is : (F : List ℕ) (a : Arrayed A) (xs : List (Arrayed A)) → collapse erased_rules F (val W a) (term_items (term_list (vals W xs))) tt ≡ val W (values.collapse F a xs)
  collapse_is F a xs =
      ap (λ ts. collapse erased_rules F (val W a) ts tt) (items_back (vals W xs)) ∙ (λ i. array_term_of erased_rules tt (F ++ dims_are a.dims (each W.cell a.atoms) i) (joined_are (a ∷ xs) i))

  pub value_rests : (a : Arrayed A) → Fit W a → one W.defs (val W a) ≡ Rests
  value_rests a h = rests W.defs W.bodies W.rules W.cell W.fits W.reads a h

  pub values_rest : (xs : List (Arrayed A)) → Each (Fit W) xs → Each (λ t. one W.defs t ≡ Rests) (vals W xs)
  values_rest xs h = all_rest W.defs W.bodies W.rules W.cell W.fits W.reads xs h

  -- the step of a frame of values that has room
  pub collapse_goes : (F : List ℕ) (a : Arrayed A) (xs : List (Arrayed A)) → Fit W a → Each (Fit W) xs → forms (F ++ a.dims) ≡ true
      → one W.defs (TFrame F (more_terms (val W a) (term_list (vals W xs))) tt) ≡ Goes (val W (values.collapse F a xs))
  collapse_goes F a xs h hs room =
      frame_step W.defs F (val W a) (term_list (vals W xs)) true (value_rests a h) (ap (λ d. forms (F ++ d)) (dims_are a.dims (each W.cell a.atoms)) ∙ room)
      ∙ ap (λ m. first_move m (λ us. TFrame F (more_terms (val W a) us) tt) (Goes (collapse erased_rules F (val W a) (term_items (term_list (vals W xs))) tt))) (terms_rest W.defs (vals W xs) (values_rest xs hs))
      ∙ ap Goes (collapse_is F a xs)

  fit_join : (xs ys : List A) → Each W.fits xs → Each W.fits ys → Each W.fits (xs ++ ys)
  fit_join [] ys h k = k
  fit_join (x ∷ xs) ys h k = (h.0, fit_join xs ys h.1 k)

  fit_joined : (xs : List (Arrayed A)) → Each (Fit W) xs → Each W.fits (joined (each (λ a. a.atoms) xs))
  fit_joined [] h = tt
  fit_joined (x ∷ xs) h = fit_join x.atoms (joined (each (λ a. a.atoms) xs)) h.0.1 (fit_joined xs h.1)

  pub collapse_fits : (F : List ℕ) (a : Arrayed A) (xs : List (Arrayed A)) → Fit W a → Each (Fit W) xs → forms (F ++ a.dims) ≡ true → Fit W (values.collapse F a xs)
  collapse_fits F a xs h hs room = (room, fit_joined (a ∷ xs) (h, hs))
