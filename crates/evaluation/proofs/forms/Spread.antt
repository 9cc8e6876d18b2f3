-- Arguments spread over a frame: lifted terms are the terms of spread arrays, and their application steps to the frame of its places.
use Rattle.std.proofs.Common.{◌≡◌, refl, sym, ap, subst, ◌∙◌, ℕ, ◌*◌, ◌^◌, true, false, List, [], ◌∷◌, ◌++◌, length, Some, append-nil}
use Rattle.std.specs.Prelude.{◌&&◌, ◌==◌, nat_lt}
use Rattle.core_syntax.specs.declared.errors.TrapKind.TheVariants as trap
use Rattle.core_syntax.specs.Lists.{each, Each, EachTwo, product, after_prefix}
use Rattle.core_syntax.specs.Word.{Word}
use Rattle.core_syntax.specs.Fits.{forms}
use Rattle.core_syntax.specs.Arrays.{Arrayed, array, runs, frame_before, cells_over, replicated, greatest, all_frames_are, columns}
use Rattle.core_syntax.specs.Terms.{TArray, TFrame, TApp, term_list, cell_list}
use Rattle.core_syntax.specs.Move.{Move, Rests, Trapped, Goes, if_there}
use Rattle.core_syntax.specs.Rules as rules
use Rattle.core_syntax.specs.Rules.{dims_of, atoms_of, part_of, lifted, lifted_by, all_lifted, cells_of, all_cells, apps, apply, apply_at, goes_empty, and_list}
use Rattle.core_syntax.specs.NormPut.{word_value}
use Rattle.erasure.specs.Erased.{ErasedTerm, erased_rules}
use Rattle.naturality.specs.Respects.{arr}
use Rattle.machine_table.specs.Values.{spread, spread_by, all_cells_at}
use Rattle.evaluation.specs.Typing.{SomeType}
use Rattle.evaluation.specs.Setting.{Setting}
use Rattle.evaluation.proofs.steps.Contexts.{one}
use Rattle.evaluation.proofs.steps.Rests.{dims_are, atoms_are, array_rests, each_rests}
use Rattle.evaluation.proofs.environments.Entered.{length_each}
use Rattle.evaluation.proofs.forms.Comes.{val, vals, Fit}
use Rattle.evaluation.proofs.forms.Leaves.{numbers_same}
use Rattle.evaluation.proofs.steps.ScalarSteps.{apply_step}
use Rattle.reduction_laws.proofs.steps.Frames.{frame_before_cell, after_prefix-append}
use Rattle.reduction_laws.proofs.steps.Counts.{product-append, replicated_ok, run_count}
use Rattle.evaluation.proofs.forms.DeltaFits.{all_runs, all_mapped}
use Rattle.evaluation.proofs.forms.AppLists.{one_frame, greatest_same, frames_same, Framed, AllFramed, replicated_whole, replicated_each, cells_each, replicated_none, cells_none, RowsOf, cell_forms, prefix_some}

module _ {A : Type 0} (W : Setting A) where
  -- an array spread over the frame F, and each of some
  abbrev pub spread_over : List ℕ → List ℕ → List ℕ → Arrayed A → Arrayed A
  spread_over F f c a = array (F ++ c) (spread F f c a.atoms)

  -- each array, with its frame and its cell shape
  abbrev pub all_spread : List ℕ → List (List ℕ) → List (List ℕ) → List (Arrayed A) → List (Arrayed A)
  all_spread F (f ∷ fs) (c ∷ cs) (a ∷ xs) = spread_over F f c a ∷ all_spread F fs cs xs
  all_spread F _ _ _ = []

  -- ---- parts of values

  -- a part of a value, where it is that of a typed term
  part_is : (dims : List ℕ) (xs : List A) (b : Arrayed A) → (xs ≡ [] → b.atoms ≡ []) → SomeType W.good (part_of erased_rules (val W (array dims xs)) (arr W.cell b)) → part_of erased_rules (val W (array dims xs)) (arr W.cell b) ≡ val W b
  part_is dims [] b none g = ap (λ ys. val W (array b.dims ys)) (sym (none refl))
  part_is dims (x ∷ xs) b none g = by b.dims b.atoms g
    where
      by : (ds : List ℕ) (ys : List A) → SomeType W.good (TArray ds (cell_list (each W.cell ys))) → TArray ds (cell_list (each W.cell ys)) ≡ val W (array ds ys)
      by ds [] g = absurd (W.typing.some_atoms g.0 ds g.1)
      by ds (y ∷ ys) g = refl

  -- ---- lifted terms

  lifted_is : (F f c : List ℕ) (a : Arrayed A) → Framed F f c a → SomeType W.good (lifted erased_rules F f c (val W a)) → lifted erased_rules F f c (val W a) ≡ val W (spread_over F f c a)
  lifted_is F f c a h g =
      let rest = h.1.0 in
      let at : after_prefix f F ≡ Some rest = h.1.1 in
      let cut : lifted erased_rules F f c (val W a) ≡ part_of erased_rules (val W a) (arr W.cell (array (F ++ c) (replicated f rest c a.atoms))) =
      ap (λ o. lifted_by erased_rules F f c o (val W a)) at
      ∙ ap (λ xs. part_of erased_rules (val W a) (array (F ++ c) (replicated f rest c xs))) (atoms_are a.dims (each W.cell a.atoms))
      ∙ ap (λ xs. part_of erased_rules (val W a) (array (F ++ c) xs)) (replicated_each W.cell f rest c a.atoms) in
      cut ∙ part_is a.dims a.atoms (array (F ++ c) (replicated f rest c a.atoms)) (λ e. replicated_none f rest c a.atoms e) (subst (SomeType W.good) cut g)
      ∙ ap (λ o. val W (array (F ++ c) (spread_by f c a.atoms o))) (sym at)

  pub function_lifted : (F : List ℕ) (g : Arrayed A) → Framed F g.dims [] g → SomeType W.good (lifted erased_rules F (dims_of erased_rules (val W g)) [] (val W g)) → lifted erased_rules F (dims_of erased_rules (val W g)) [] (val W g) ≡ val W (spread_over F g.dims [] g)
  function_lifted F g h has =
      let d = dims_are g.dims (each W.cell g.atoms) in
      ap (λ f. lifted erased_rules F f [] (val W g)) d ∙ lifted_is F g.dims [] g h (subst (λ f. SomeType W.good (lifted erased_rules F f [] (val W g))) d has)

  pub arguments_lifted : (F : List ℕ) (frames cs : List (List ℕ)) (xs : List (Arrayed A)) → AllFramed F frames cs xs → Each (SomeType W.good) (all_lifted erased_rules F frames cs (vals W xs))
      → all_lifted erased_rules F frames cs (vals W xs) ≡ vals W (all_spread F frames cs xs)
  arguments_lifted F [] [] [] h g = refl
  arguments_lifted F (f ∷ fs) (c ∷ cs) (a ∷ xs) h g = λ i. lifted_is F f c a h.0 g.0 i ∷ arguments_lifted F fs cs xs h.1 g.1 i
  arguments_lifted F [] [] (a ∷ xs) h g = absurd h
  arguments_lifted F [] (c ∷ cs) xs h g = absurd h
  arguments_lifted F (f ∷ fs) [] xs h g = absurd h
  arguments_lifted F (f ∷ fs) (c ∷ cs) [] h g = absurd h

  -- ---- arrays over the whole frame are spread already

  spread_whole : (F c : List ℕ) (a : Arrayed A) → a.dims ≡ F ++ c → length a.atoms ≡ product a.dims → a ≡ spread_over F F c a
  spread_whole F c a e full =
      let count : length a.atoms ≡ product F * product c = full ∙ ap product e ∙ product-append F c in
      let same : spread F F c a.atoms ≡ a.atoms =
      ap (spread_by F c a.atoms) (ap (after_prefix F) (sym (append-nil F)) ∙ after_prefix-append F []) ∙ replicated_whole F c a.atoms count in
      λ i. array (e i) (sym same i)

  pub function_whole : (F : List ℕ) (g : Arrayed A) → F ≡ g.dims → length g.atoms ≡ product g.dims → g ≡ spread_over F g.dims [] g
  function_whole F g e full = spread_whole F [] g (sym e ∙ sym (append-nil F)) full ∙ ap (λ f. spread_over F f [] g) e

  pub arguments_whole : (F : List ℕ) (frames cs : List (List ℕ)) (xs : List (Arrayed A)) → AllFramed F frames cs xs → Each (λ f. F ≡ f) frames → Each (λ a. length a.atoms ≡ product a.dims) xs → xs ≡ all_spread F frames cs xs
  arguments_whole F [] [] [] h e full = refl
  arguments_whole F (f ∷ fs) (c ∷ cs) (a ∷ xs) h e full =
      λ i. (spread_whole F c a (h.0.0 ∙ ap (λ g. g ++ c) (sym e.0)) full.0 ∙ ap (λ f. spread_over F f c a) e.0) i ∷ arguments_whole F fs cs xs h.1 e.1 full.1 i
  arguments_whole F [] [] (a ∷ xs) h e full = absurd h
  arguments_whole F [] (c ∷ cs) xs h e full = absurd h
  arguments_whole F (f ∷ fs) [] xs h e full = absurd h
  arguments_whole F (f ∷ fs) (c ∷ cs) [] h e full = absurd h

  -- ---- atoms of spread arrays fit

  spread_fits : (F f c : List ℕ) (a : Arrayed A) → Framed F f c a → length a.atoms ≡ product a.dims → Each W.fits a.atoms → Each W.fits (spread F f c a.atoms)
  spread_fits F f c a h full fits =
      subst (λ o. Each W.fits (spread_by f c a.atoms o)) (sym h.1.1) (replicated_ok W.fits f h.1.0 c a.atoms (full ∙ ap product h.0) fits).1

  pub function_fits : (F : List ℕ) (g : Arrayed A) → Framed F g.dims [] g → length g.atoms ≡ product g.dims → Fit W g → Each W.fits (spread F g.dims [] g.atoms)
  function_fits F g h full fit = spread_fits F g.dims [] g h full fit.1

  pub arguments_fit : (F : List ℕ) (frames cs : List (List ℕ)) (xs : List (Arrayed A)) → AllFramed F frames cs xs → Each (λ a. length a.atoms ≡ product a.dims) xs → Each (Fit W) xs → Each (λ a. Each W.fits a.atoms) (all_spread F frames cs xs)
  arguments_fit F [] [] [] h full fits = tt
  arguments_fit F (f ∷ fs) (c ∷ cs) (a ∷ xs) h full fits = (spread_fits F f c a h.0 full.0 fits.0.1, arguments_fit F fs cs xs h.1 full.1 fits.1)
  arguments_fit F [] [] (a ∷ xs) h full fits = absurd h
  arguments_fit F [] (c ∷ cs) xs h full fits = absurd h
  arguments_fit F (f ∷ fs) [] xs h full fits = absurd h
  arguments_fit F (f ∷ fs) (c ∷ cs) [] h full fits = absurd h

  -- an array of atoms that fit rests
  pub atoms_rest : (a : Arrayed A) → Each W.fits a.atoms → one W.defs (val W a) ≡ Rests
  atoms_rest a h = array_rests W.defs a.dims (each W.cell a.atoms) (each_rests W.defs W.bodies W.rules W.cell W.fits W.reads a.atoms h)

  pub all_atoms_rest : (xs : List (Arrayed A)) → Each (λ a. Each W.fits a.atoms) xs → Each (λ t. one W.defs t ≡ Rests) (vals W xs)
  all_atoms_rest [] h = tt
  all_atoms_rest (x ∷ xs) h = (atoms_rest x h.0, all_atoms_rest xs h.1)

  -- ---- the rows of cells

  -- a cell that fits, of these dims
  abbrev pub CellOf : Arrayed A → List ℕ → Type 0
  CellOf b c = Fit W b × (b.dims ≡ c)

  pub rows_fit : (F : List ℕ) → (product F ≡ 0 → ⊥) → (frames cs : List (List ℕ)) (xs : List (Arrayed A)) → AllFramed F frames cs xs → Each (λ a. length a.atoms ≡ product a.dims) xs → Each (Fit W) xs
      → RowsOf CellOf (product F) (all_cells_at F frames cs xs) cs
  rows_fit F some [] [] [] h full fits = tt
  rows_fit F some (f ∷ fs) (c ∷ cs) (a ∷ xs) h full fits =
      let all = spread F f c a.atoms in
      let rows = runs (product F) (product c) all in
      let room : forms c ≡ true = cell_forms f c (prefix_some f h.0.1.0 F h.0.1.2 some) (subst (λ ds. forms ds ≡ true) h.0.0 fits.0.0) in (
        (
          length_each (array c) rows ∙ run_count (product F) (product c) all,
          all_mapped (λ b. CellOf b c) (Each W.fits) (array c) (λ r k. ((room, k), refl)) rows (all_runs W.fits (product F) (product c) all (spread_fits F f c a h.0 full.0 fits.0.1)),
        ),
        rows_fit F some fs cs xs h.1 full.1 fits.1,
      )
  rows_fit F some [] [] (a ∷ xs) h full fits = absurd h
  rows_fit F some [] (c ∷ cs) xs h full fits = absurd h
  rows_fit F some (f ∷ fs) [] xs h full fits = absurd h
  rows_fit F some (f ∷ fs) (c ∷ cs) [] h full fits = absurd h

  -- a term of a cell and the cell
  abbrev pub ReadsAs : ErasedTerm → Arrayed A → Type 0
  ReadsAs t b = SomeType W.good t → t ≡ val W b

  row_reads : (dims : List ℕ) (ys : List A) (row : List (Arrayed A)) → (ys ≡ [] → Each (λ b. b.atoms ≡ []) row) → EachTwo ReadsAs (each (part_of erased_rules (val W (array dims ys))) (each (arr W.cell) row)) row
  row_reads dims ys [] none = tt
  row_reads dims ys (b ∷ row) none = ((λ g. part_is dims ys b (λ e. (none e).0) g), row_reads dims ys row (λ e. (none e).1))

  pub rows_read : (F : List ℕ) (frames cs : List (List ℕ)) (xs : List (Arrayed A)) → AllFramed F frames cs xs → EachTwo (EachTwo ReadsAs) (all_cells erased_rules F cs (vals W (all_spread F frames cs xs))) (all_cells_at F frames cs xs)
  rows_read F [] [] [] h = tt
  rows_read F (f ∷ fs) (c ∷ cs) (a ∷ xs) h =
      let ys = spread F f c a.atoms in
      let cut : cells_of erased_rules F c (val W (spread_over F f c a)) ≡ each (part_of erased_rules (val W (array (F ++ c) ys))) (each (arr W.cell) (cells_over F c ys)) =
      ap (λ zs. each (part_of erased_rules (val W (array (F ++ c) ys))) (cells_over F c zs)) (atoms_are (F ++ c) (each W.cell ys)) ∙ ap (each (part_of erased_rules (val W (array (F ++ c) ys)))) (cells_each W.cell F c ys) in
      (subst (λ row. EachTwo ReadsAs row (cells_over F c ys)) (sym cut) (row_reads (F ++ c) ys (cells_over F c ys) (λ e. cells_none F c ys e)), rows_read F fs cs xs h.1)
  rows_read F [] [] (a ∷ xs) h = absurd h
  rows_read F [] (c ∷ cs) xs h = absurd h
  rows_read F (f ∷ fs) [] xs h = absurd h
  rows_read F (f ∷ fs) (c ∷ cs) [] h = absurd h

  -- ---- the step of the application of spread arrays

  frames_found : (F : List ℕ) (frames cs : List (List ℕ)) (xs : List (Arrayed A)) → AllFramed F frames cs xs → rules.frames_of erased_rules cs (vals W (all_spread F frames cs xs)) ≡ Some (one_frame F xs)
  frames_found F [] [] [] h = refl
  frames_found F (f ∷ fs) (c ∷ cs) (a ∷ xs) h =
      let d = dims_are (F ++ c) (each W.cell (spread F f c a.atoms)) in
      λ i. and_list ((ap (frame_before c) d ∙ frame_before_cell F c) i) (frames_found F fs cs xs h.1 i)
  frames_found F [] [] (a ∷ xs) h = absurd h
  frames_found F [] (c ∷ cs) xs h = absurd h
  frames_found F (f ∷ fs) [] xs h = absurd h
  frames_found F (f ∷ fs) (c ∷ cs) [] h = absurd h

  pub spread_goes : (n : ℕ) (F : List ℕ) (frames cs : List (List ℕ)) (g : Arrayed A) (xs : List (Arrayed A)) (ws : List Word) (r : Word) → each word_value ws ≡ cs → AllFramed (n ∷ F) frames cs xs
      → Each W.fits (spread (n ∷ F) g.dims [] g.atoms) → Each (λ a. Each W.fits a.atoms) (all_spread (n ∷ F) frames cs xs) → nat_lt (2 ^ 24) (product (n ∷ F)) ≡ false → (product (n ∷ F) == 0) ≡ false
      → one W.defs (TApp (val W (spread_over (n ∷ F) g.dims [] g)) (term_list (vals W (all_spread (n ∷ F) frames cs xs))) ws r)
      ≡ Goes (TFrame (n ∷ F) (term_list (apps erased_rules (each W.cell (spread (n ∷ F) g.dims [] g.atoms)) (columns (product (n ∷ F)) (all_cells erased_rules (n ∷ F) cs (vals W (all_spread (n ∷ F) frames cs xs)))) ws r)) tt)
  spread_goes n F frames cs g xs ws r dims h gf xf small some =
      let f = val W (spread_over (n ∷ F) g.dims [] g) in
      let ts = vals W (all_spread (n ∷ F) frames cs xs) in
      let fd : dims_of erased_rules f ≡ n ∷ F = dims_are ((n ∷ F) ++ []) (each W.cell (spread (n ∷ F) g.dims [] g.atoms)) ∙ append-nil (n ∷ F) in
      apply_step W.defs f ts ws r (atoms_rest (spread_over (n ∷ F) g.dims [] g) gf) (all_atoms_rest (all_spread (n ∷ F) frames cs xs) xf)
      ∙ ap (λ o. if_there o (λ frames. if_there (greatest (dims_of erased_rules f ∷ frames)) (λ G. apply_at erased_rules G frames f ts ws r))) (ap (λ ds. rules.frames_of erased_rules ds ts) dims ∙ frames_found (n ∷ F) frames cs xs h)
      ∙ ap (λ o. if_there o (λ G. apply_at erased_rules G (one_frame (n ∷ F) xs) f ts ws r)) (ap (λ d. greatest (d ∷ one_frame (n ∷ F) xs)) fd ∙ greatest_same (n ∷ F) xs)
      ∙ (λ i. elim (small i) as (λ b. Move ErasedTerm) [
        | true ↦ Trapped trap.Size
        | false ↦ elim (some i) as (λ b. Move ErasedTerm) [ true ↦ goes_empty erased_rules ((n ∷ F) ++ word_value r) tt | false ↦ rules.apply_over erased_rules (n ∷ F) (one_frame (n ∷ F) xs) f ts ws r ]
      ])
      ∙ ap (λ b. elim b as (λ b. Move ErasedTerm) [
        | true ↦ Goes (TFrame (n ∷ F) (term_list (apps erased_rules (atoms_of erased_rules f) (columns (product (n ∷ F)) (all_cells erased_rules (n ∷ F) (each word_value ws) ts)) ws r)) tt)
        | false ↦ Goes (TApp (lifted erased_rules (n ∷ F) (dims_of erased_rules f) [] f) (term_list (all_lifted erased_rules (n ∷ F) (one_frame (n ∷ F) xs) (each word_value ws) ts)) ws r)
      ]) (ap (λ d. all_frames_are (n ∷ F) (d ∷ one_frame (n ∷ F) xs)) fd ∙ ap (λ b. b && all_frames_are (n ∷ F) (one_frame (n ∷ F) xs)) (numbers_same (n ∷ F) (n ∷ F) refl) ∙ frames_same (n ∷ F) xs)
      ∙ (λ i. Goes (TFrame (n ∷ F) (term_list (apps erased_rules (atoms_are ((n ∷ F) ++ []) (each W.cell (spread (n ∷ F) g.dims [] g.atoms)) i) (columns (product (n ∷ F)) (all_cells erased_rules (n ∷ F) (dims i) ts)) ws r)) tt))
