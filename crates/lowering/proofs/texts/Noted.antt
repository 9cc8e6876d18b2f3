-- The notes of a checked program are what a code may hold: each is of a type that was measured.
use Rattle.std.proofs.Common.{◌≡◌, refl, sym, ap, ◌∙◌, subst, ℕ, suc, ◌+◌, ◌<◌, ◌^◌, arith, List, [], ◌∷◌, ◌++◌, length, append-nil, Some, None}
use Rattle.core_syntax.specs.declared.span.Span.{Span}
use Rattle.core_syntax.specs.declared.index.Sort.{Sort}
use Rattle.core_syntax.specs.Syntax.{Index, Ty, Fun, Pi, Sigma, Arr, Tys, no_tys, more_tys, ty_items, no_span, Expr, Exprs, expr_items, expr_at, ty_at}
use Rattle.core_syntax.specs.Lists.{onto, each, Each, EachTwo}
use Rattle.core_syntax.specs.Sorts.{IsSorted}
use Rattle.core_syntax.specs.Value.{then_shape}
use Rattle.core_syntax.specs.TypeEqual.{Same, AllSame}
use Rattle.core_syntax.specs.Norm.{norm_word, word_tree}
use Rattle.core_syntax.specs.NormTypes.{norm_ty, measure_ty}
use Rattle.core_syntax.specs.Subst.{ty_under_index, with_indices}
use Rattle.core_syntax.specs.Prims.{array_of}
use Rattle.core_syntax.specs.Typing.{Context, times, under_sorts, under_terms, OnArr, OnSigma, Takes, numbers, Has, ArgsHave, IsPrincipal}
use Rattle.core_syntax.specs.Blame.{Premises, premise, ◌then◌, with_any, measure, written, written_indices, concluding, IsFunction, IsPi, IsSigma, IsSigmaAtom, of_function, of_pi, of_sigma, of_sigma_atom, premises, args_premises, expr_premises}
use Rattle.core_syntax.specs.Notes.{NodeNote, app_note, shape_word}
use Rattle.core_syntax.specs.Annotate.{first_note, noted, cell_noted}
use Rattle.core_syntax.proofs.Alike.{Alike, are_same_refl}
use Rattle.core_syntax.proofs.Carries.{expr_premises_carry}
use Rattle.reduction_laws.proofs.programs.Alikes.{alike_sorts, alike_terms}
use Rattle.erasure.specs.Erasure.{cell_word, norm_in}
use Rattle.core_syntax.specs.NormPut.{number_letters}
use Rattle.machine_table.specs.IndexBounds.{InBlock, IsLetter, IsCell}
use Rattle.machine_table.specs.CodeBounds.{AreCells}
use Rattle.lowering.proofs.texts.Writable.{IsNorm}
use Rattle.lowering.proofs.texts.CodeIndices.{all_of}
use Rattle.lowering.proofs.texts.NoteWords.{joined_fine, concluded_fine, index_fine, no_large, cell_normal, words_normal, numbers_word}

-- ---- lists

pub onto_count : {A : Type 0} (xs ys : List A) → length (onto xs ys) ≡ length xs + length ys
onto_count [] ys = omega arith
onto_count (x ∷ xs) ys = let h : length (onto xs (x ∷ ys)) ≡ length xs + suc (length ys) = onto_count xs (x ∷ ys) in omega (arith, h)

pub same_count : (ts us : Tys) → AllSame ts us → length (ty_items ts) ≡ length (ty_items us)
same_count no_tys no_tys s = refl
same_count (more_tys t ts) (more_tys u us) s = ap suc (same_count ts us s.1)
same_count _ _ s = absurd s

shapes_count : (ts : List Ty) → length (each shape_word ts) ≡ length ts
shapes_count [] = refl
shapes_count (t ∷ ts) = ap suc (shapes_count ts)

alike_self : (Γ : Context) → Alike Γ Γ
alike_self Γ = record { types = refl; sorts = refl; defs = are_same_refl Γ.defs; terms = are_same_refl Γ.terms }

-- ---- what premises say of the type that they read

module _ (Γ : Context) (at : Span) where
  abbrev pub AppRest : Exprs → Tys → Ty → Index → Premises
  AppRest es ts r s =
      premise 20 at (length (ty_items ts) ≡ length (expr_items es))
      then args_premises Γ es ts
      then with_any (ArgsHave Γ es ts) (λ frames. premise 22 at ((p : Index) × IsPrincipal Γ (s ∷ frames) p))

  pub args_met : (es : Exprs) (ts : Tys) (r : Ty) (s : Index) (t : Ty) → IsFunction t → Same t (array_of (Fun no_span ts r) s) → (of_function t (AppRest es)).met
      → (us : Tys) × (length (ty_items us) ≡ length (expr_items es)) × (args_premises Γ es us).met × AllSame us ts
  args_met es ts r s (Arr a (Fun b us q) i) f same h = (us, h.0, h.1.0, same.0.0)
  args_met es ts r s _ f same h = absurd f

  abbrev pub PiRest : List Index → List Sort → Premises
  PiRest is ss = premise 20 at (length is ≡ length ss) then written_indices Γ ss is

  pub pi_met : (is : List Index) (ss : List Sort) (b : Ty) (s : Index) (t : Ty) → IsPi t → Same t (array_of (Pi no_span ss b) s) → (of_pi t (PiRest is)).met → (written_indices Γ ss is).met
  pi_met is ss b s (Arr a (Pi c rs q) i) f same h = subst (λ qs. (written_indices Γ qs is).met) same.0.0 h.1
  pi_met is ss b s _ f same h = absurd f

  abbrev pub SigmaRest : ℕ → Ty → Expr → List Sort → Ty → Premises
  SigmaRest n u b ss c =
      premise 20 at (n ≡ length ss)
      then written Γ u
      then concluding (under_terms (c ∷ []) (under_sorts ss Γ)) b (premises (under_terms (c ∷ []) (under_sorts ss Γ)) b)
      then with_any (Has (under_terms (c ∷ []) (under_sorts ss Γ)) b) (λ w. premise 27 (ty_at u) (Same w (times n ty_under_index u)))

  pub sigma_met : (n : ℕ) (u : Ty) (b : Expr) (ss : List Sort) (c : Ty) (s : Index) (t : Ty) → IsSigma t → Same t (array_of (Sigma no_span ss c) s) → (of_sigma t (SigmaRest n u b)).met
      → (n ≡ length ss) × (measure_ty u ≡ None) × (expr_premises (under_terms (c ∷ []) (under_sorts ss Γ)) b).met
  sigma_met n u b ss c s (Arr a (Sigma d rs q) i) f same h =
      let al = alike_terms (q ∷ []) (c ∷ []) (under_sorts rs Γ) (under_sorts ss Γ) (same.0.1, tt) (alike_sorts rs ss Γ Γ same.0.0 (alike_self Γ)) in
      (h.0 ∙ ap length same.0.0, h.1.0.1, (expr_premises_carry (under_terms (q ∷ []) (under_sorts rs Γ)) (under_terms (c ∷ []) (under_sorts ss Γ)) al b).met h.1.1.0)
  sigma_met n u b ss c s _ f same h = absurd f

  -- ---- indices

  pub indices_fine : (few : length Γ.sorts < 2 ^ 32) (ss : List Sort) (is : List Index) → EachTwo (IsSorted Γ.sorts) ss is → (written_indices Γ ss is).met → Each IsNorm (each (norm_in Γ.sorts) is)
  indices_fine few [] [] h m = tt
  indices_fine few [] (i ∷ is) h m = absurd h
  indices_fine few (s ∷ ss) [] h m = absurd h
  indices_fine few (s ∷ ss) (i ∷ is) h m = (index_fine Γ.sorts few s i h.0 m.0.1, indices_fine few ss is h.1 m.1)

  abbrev pub BoxRest : List Index → Expr → List Sort → Ty → Premises
  BoxRest is e ss b =
      premise 20 at (length is ≡ length ss)
      then written_indices Γ ss is
      then measure (measure_ty (with_indices is b)) at
      then concluding Γ e (premises Γ e)
      then with_any (Has Γ e) (λ u. premise 26 (expr_at e) (Same u (with_indices is b)))

  pub box_met : (few : length Γ.sorts < 2 ^ 32) (is : List Index) (e : Expr) (t : Ty) → IsSigmaAtom t → (of_sigma_atom t (BoxRest is e)).met
      → OnSigma t (λ ss b. EachTwo (IsSorted Γ.sorts) ss is × Has Γ e (with_indices is b)) → Each IsNorm (each (norm_in Γ.sorts) is) × (expr_premises Γ e).met
  box_met few is e (Sigma a ss b) f h k = (indices_fine few ss is k.0 h.1.0, h.1.1.1.0)
  box_met few is e _ f h k = absurd f

-- ---- shapes of results

module _ (Γ : Context) (few : length Γ.sorts < 2 ^ 32) where
  -- the cell of a concluded type
  pub result_fine : (X : Ty) (p : Index) (t : Ty) → OnArr X (λ a c. Takes Γ (array_of a (then_shape p c)) t) → measure_ty t ≡ None → IsCell (shape_word X)
  result_fine (Arr at a c) p t h m =
      all_of (IsLetter InBlock) (norm_word c) (joined_fine Γ.sorts few p c (concluded_fine Γ.sorts few Γ.types a (then_shape p c) t h.0 h.1 (no_large t m))).1
  result_fine _ p t h m = absurd h

  -- the whole shape of a frame without cells
  pub whole_fine : (dims : List ℕ) (u t : Ty) → OnArr u (λ a s. Takes Γ (array_of a (then_shape (numbers dims) s)) t) → measure_ty t ≡ None → IsCell (number_letters dims ++ cell_word u)
  whole_fine dims (Arr at a s) t h m =
      let fine : Each (IsLetter InBlock) (norm_word (numbers dims) ++ (norm_word s ++ [])) = concluded_fine Γ.sorts few Γ.types a (then_shape (numbers dims) s) t h.0 h.1 (no_large t m) in
      let same : norm_word (numbers dims) ++ (norm_word s ++ []) ≡ number_letters dims ++ norm_word s = λ i. numbers_word dims i ++ append-nil (norm_word s) i in
      all_of (IsLetter InBlock) (number_letters dims ++ norm_word s) (subst (Each (IsLetter InBlock)) same fine)
  whole_fine dims _ t h m = absurd h

  -- the shape that a note says
  pub note_fine : (n : NodeNote) (t : Ty) (ns : List NodeNote) → first_note ns ≡ n → n.cell ≡ Some (norm_ty t) → IsCell (shape_word t) → IsCell (cell_word (cell_noted ns))
  note_fine n t ns e is fine =
      subst (λ m. IsCell (cell_word (noted m.cell))) (sym e) (subst (λ c. IsCell (cell_word (noted c))) (sym is) (subst IsCell (sym (cell_normal t)) fine))

  -- the cell shapes that a note says
  pub cells_fine : (ts : Tys) (r : Ty) (ns : List NodeNote) → first_note ns ≡ app_note ts r → 0 < length (ty_items ts) → Each IsCell (each shape_word (ty_items ts))
      → AreCells (each norm_word (each word_tree (first_note ns).cells))
  cells_fine ts r ns e some fine =
      subst (λ m. AreCells (each norm_word (each word_tree m.cells))) (sym e)
      (subst AreCells (sym (words_normal (ty_items ts)))
      (record { some = subst (λ n. 0 < n) (sym (shapes_count (ty_items ts))) some; each = all_of IsCell (each shape_word (ty_items ts)) fine }))
