-- The rule of an application: what it comes to on values is its reduction.
use Rattle.std.proofs.Common.{◌≡◌, refl, sym, ap, subst, ◌∙◌, ℕ, ◌*◌, ◌^◌, arith, true, false, List, [], ◌∷◌, ◌++◌, length, take, append-nil}
use Rattle.std.specs.Prelude.{◌==◌, nat_lt}
use Rattle.core_syntax.specs.Syntax.{Ty}
use Rattle.core_syntax.specs.Lists.{each, Each, EachTwo, product}
use Rattle.core_syntax.specs.Word.{Word}
use Rattle.core_syntax.specs.Arrays.{Arrayed, array, single, firsts, columns}
use Rattle.core_syntax.specs.Terms.{TFrame, TApp, term_list, scalar_of}
use Rattle.core_syntax.specs.Rules.{dims_of, all_cells, apps}
use Rattle.core_syntax.specs.NormPut.{word_value}
use Rattle.erasure.specs.Erased.{ErasedTerm, erased_rules}
use Rattle.machine_table.specs.Values.{Env, spread, cells_at, all_cells_at}
use Rattle.machine_table.specs.Indices.{shape_under}
use Rattle.machine_table.specs.Begins.{Place, Applies, apply_entry}
use Rattle.machine_table.specs.Instructions.{places}
use Rattle.lowering.specs.Runs.{Comp, tick, count}
use Rattle.lowering.specs.Evals.{places_val}
use Rattle.evaluation.specs.Typing.{SomeType, CellsOnly}
use Rattle.evaluation.specs.Setting.{Setting}
use Rattle.evaluation.proofs.steps.Rests.{dims_are, items_back}
use Rattle.evaluation.proofs.environments.Indices.{cells_value}
use Rattle.evaluation.proofs.forms.Comes.{val, vals, Fit, word_in, words_in, Runs, EntersWell}
use Rattle.evaluation.proofs.forms.Leaves.{same_count}
use Rattle.evaluation.proofs.forms.MapRuns.{StepsAs, SomeIn, PlacesStep, map_comes, scalar_comes}
use Rattle.evaluation.proofs.forms.OverRuns.{array_full}
use Rattle.evaluation.proofs.steps.PlaceSteps.{place_steps}
use Rattle.evaluation.proofs.forms.AppLists.{Framed, AllFramed, joined_runs, replicated_whole, columns_two, columns_of}
use Rattle.evaluation.proofs.forms.Spread.{spread_over, all_spread, function_fits, arguments_fit, CellOf, rows_fit, ReadsAs, rows_read, spread_goes}

-- a prefix of () is ()
no_prefix : (f rest : List ℕ) → f ++ rest ≡ [] → f ≡ []
no_prefix [] rest e = refl
no_prefix (n ∷ f) rest e = absurd (cc)

firsts_alone : {B : Type 0} (xs : List B) → firsts (each (λ x. x ∷ []) xs) ≡ xs
firsts_alone [] = refl
firsts_alone (x ∷ xs) = ap (λ ys. x ∷ ys) (firsts_alone xs)

module _ {A : Type 0} (W : Setting A) (enter : Env A → ℕ → Comp (Arrayed A)) (K : ℕ) (enters : EntersWell W K enter) where
  pub all_full : (xs : List (Arrayed A)) → Each (Fit W) xs → Each (SomeType W.good) (vals W xs) → Each (λ a. length a.atoms ≡ product a.dims) xs
  all_full [] h g = tt
  all_full (x ∷ xs) h g = (array_full W enter K x h.0 g.0, all_full xs h.1 g.1)

  -- ---- over a frame with cells

  -- terms that read as cells are these
  read_all : (ts : List ErasedTerm) (bs : List (Arrayed A)) → EachTwo (ReadsAs W) ts bs → Each (SomeType W.good) ts → ts ≡ vals W bs
  read_all [] [] h g = refl
  read_all (t ∷ ts) (b ∷ bs) h g = λ i. h.0 g.0 i ∷ read_all ts bs h.1 g.1 i
  read_all [] (b ∷ bs) h g = absurd h
  read_all (t ∷ ts) [] h g = absurd h

  cells_fit : (bs : List (Arrayed A)) (cs : List (List ℕ)) → EachTwo (CellOf W) bs cs → Each (Fit W) bs
  cells_fit [] [] h = tt
  cells_fit (b ∷ bs) (c ∷ cs) h = (h.0.0, cells_fit bs cs h.1)
  cells_fit [] (c ∷ cs) h = absurd h
  cells_fit (b ∷ bs) [] h = absurd h

  cells_dims : (bs : List (Arrayed A)) (cs : List (List ℕ)) → EachTwo (CellOf W) bs cs → each (dims_of erased_rules) (vals W bs) ≡ cs
  cells_dims [] [] h = refl
  cells_dims (b ∷ bs) (c ∷ cs) h = λ i. (dims_are b.dims (each W.cell b.atoms) ∙ h.0.1) i ∷ cells_dims bs cs h.1 i
  cells_dims [] (c ∷ cs) h = absurd h
  cells_dims (b ∷ bs) [] h = absurd h

  places_step : (U : Ty) (ws : List Word) (r : Word) (cs : List (List ℕ)) → each word_value ws ≡ cs → (fs : List A) (tss : List (List ErasedTerm)) (bss : List (List (Arrayed A))) → Each W.fits fs → EachTwo (EachTwo (ReadsAs W)) tss bss
      → Each (λ col. EachTwo (CellOf W) col cs) bss → Each (W.good U) (apps erased_rules (each W.cell fs) tss ws r) → PlacesStep W enter K U (places fs bss) (term_list (apps erased_rules (each W.cell fs) tss ws r))
  places_step U ws r cs dims [] tss bss h reads cells g = tt
  places_step U ws r cs dims (f ∷ fs) [] [] h reads cells g = tt
  places_step U ws r cs dims (f ∷ fs) [] (bs ∷ bss) h reads cells g = absurd reads
  places_step U ws r cs dims (f ∷ fs) (ts ∷ tss) [] h reads cells g = absurd reads
  places_step U ws r cs dims (f ∷ fs) (ts ∷ tss) (bs ∷ bss) h reads cells g =
      let args = subst (Each (SomeType W.good)) (items_back ts) (W.typing.arguments U (scalar_of (W.cell f)) (term_list ts) ws r g.0) in
      let same : ts ≡ vals W bs = read_all ts bs reads.0 args in
      let only : CellsOnly (vals W bs) ws = cells_dims bs cs cells.0 ∙ sym dims in (
        (
          g.0,
          subst (λ ts. StepsAs W enter K U (TApp (scalar_of (W.cell f)) (term_list ts) ws r) (apply_entry W.rules f bs)) (sym same)
              (place_steps W enter K enters U f bs ws r h.0 (cells_fit bs cs cells.0) only (subst (λ ts. W.good U (TApp (scalar_of (W.cell f)) (term_list ts) ws r)) same g.0)),
        ),
        places_step U ws r cs dims fs tss bss h.1 reads.1 cells.1 g.1,
      )

  some_places : (U : Ty) (ps : List (Place A)) (ts : List ErasedTerm) → (length ts ≡ 0 → ⊥) → PlacesStep W enter K U ps (term_list ts) → SomeIn W enter K (let none : List ℕ = [] in none) ps
  some_places U [] [] some h = some refl
  some_places U [] (t ∷ ts) some h = absurd h
  some_places U (p ∷ ps) ts some h = tt

  module _ (env : Env A) (cs : List Word) (r : Word) (n : ℕ) (F : List ℕ) (fs : List (List ℕ)) (g : Arrayed A) (xs : List (Arrayed A)) where
    -- the dims of cells
    abbrev cell_dims : List (List ℕ)
    cell_dims = each (shape_under env.indices) cs

    abbrev all_places : List (Place A)
    all_places = places (spread (n ∷ F) g.dims [] g.atoms) (columns (product (n ∷ F)) (all_cells_at (n ∷ F) fs cell_dims xs))

    -- the application of spread arrays
    abbrev pub spread_app : ErasedTerm
    spread_app = TApp (val W (spread_over W (n ∷ F) g.dims [] g)) (term_list (vals W (all_spread W (n ∷ F) fs cell_dims xs))) (words_in W env cs) (word_in W env r)

    pub map_runs : (T : Ty) → Fit W g → Each (Fit W) xs → length g.atoms ≡ product g.dims → Each (λ a. length a.atoms ≡ product a.dims) xs → Framed (n ∷ F) g.dims [] g → AllFramed (n ∷ F) fs cell_dims xs
        → nat_lt (2 ^ 24) (product (n ∷ F)) ≡ false → (product (n ∷ F) == 0) ≡ false → W.good T spread_app → Runs W K spread_app (tick (count 1 (places_val W.rules enter (n ∷ F) [] all_places)))
    map_runs T hg hs fg full gfr h small some good =
        let values = cells_value env.indices cs in
        let gf = function_fits W (n ∷ F) g gfr fg hg in
        let step = spread_goes W n F fs cell_dims g xs (words_in W env cs) (word_in W env r) values h gf (arguments_fit W (n ∷ F) fs cell_dims xs h full hs) small some in
        let tss = columns (product (n ∷ F)) (all_cells erased_rules (n ∷ F) cell_dims (vals W (all_spread W (n ∷ F) fs cell_dims xs))) in
        let bss = columns (product (n ∷ F)) (all_cells_at (n ∷ F) fs cell_dims xs) in
        let terms = apps erased_rules (each W.cell (spread (n ∷ F) g.dims [] g.atoms)) tss (words_in W env cs) (word_in W env r) in
        let frame = W.typing.keeps T spread_app (TFrame (n ∷ F) (term_list terms) tt) good step in
        let parts = W.typing.cells T (n ∷ F) (term_list terms) frame in
        let items = items_back terms in
        let steps =
        places_step parts.0 (words_in W env cs) (word_in W env r) cell_dims values (spread (n ∷ F) g.dims [] g.atoms) tss bss gf
        (columns_two (ReadsAs W) (product (n ∷ F)) (all_cells erased_rules (n ∷ F) cell_dims (vals W (all_spread W (n ∷ F) fs cell_dims xs))) (all_cells_at (n ∷ F) fs cell_dims xs) (rows_read W (n ∷ F) fs cell_dims xs h))
        (columns_of (CellOf W) (product (n ∷ F)) (all_cells_at (n ∷ F) fs cell_dims xs) cell_dims (rows_fit W (n ∷ F) (λ z. let t : (product (n ∷ F) == 0) ≡ true = same_count (product (n ∷ F)) 0 z in absurd (cc)) fs cell_dims xs h full hs))
        (subst (Each (W.good parts.0)) items parts.1) in
        let full_frame = W.typing.frame_full T (n ∷ F) (term_list terms) frame in
        map_comes W enter K parts.0 n F spread_app all_places (term_list terms)
        (some_places parts.0 all_places terms (λ z. let t : (product (n ∷ F) == 0) ≡ true = same_count (product (n ∷ F)) 0 (sym full_frame ∙ ap length items ∙ z) in absurd (cc)) steps) step steps

  -- ---- over the frame ()

  one_atom : (xs : List A) → length xs ≡ 1 → (f : A) × (xs ≡ f ∷ [])
  one_atom [] e = absurd (omega arith)
  one_atom (x ∷ []) e = (x, refl)
  one_atom (x ∷ y ∷ xs) e = absurd (omega arith)

  -- a cell by itself
  cell_alone : (f c : List ℕ) (a : Arrayed A) → Framed [] f c a → length a.atoms ≡ product a.dims → cells_at [] f c a ≡ a ∷ []
  cell_alone f c a h full =
      let none : f ≡ [] = no_prefix f h.1.0 h.1.2 in
      let dims : a.dims ≡ c = h.0 ∙ ap (λ f. f ++ c) none in
      let size : length a.atoms ≡ 1 * product c = full ∙ ap product dims ∙ (let t : product c ≡ 1 * product c = omega arith in t) in
      let whole : spread [] [] c a.atoms ≡ a.atoms = replicated_whole [] c a.atoms size in
      let cut : take (product c) a.atoms ≡ a.atoms = sym (append-nil (take (product c) a.atoms)) ∙ joined_runs 1 (product c) a.atoms size in
      ap (λ f. cells_at [] f c a) none ∙ ap (λ ys. array c (take (product c) ys) ∷ []) whole ∙ (λ i. array (sym dims i) (cut i) ∷ [])

  cells_alone : (frames cs : List (List ℕ)) (xs : List (Arrayed A)) → AllFramed [] frames cs xs → Each (λ a. length a.atoms ≡ product a.dims) xs → all_cells_at [] frames cs xs ≡ each (λ a. a ∷ []) xs
  cells_alone [] [] [] h full = refl
  cells_alone (f ∷ fs) (c ∷ cs) (a ∷ xs) h full = λ i. cell_alone f c a h.0 full.0 i ∷ cells_alone fs cs xs h.1 full.1 i
  cells_alone [] [] (a ∷ xs) h full = absurd h
  cells_alone [] (c ∷ cs) xs h full = absurd h
  cells_alone (f ∷ fs) [] xs h full = absurd h
  cells_alone (f ∷ fs) (c ∷ cs) [] h full = absurd h

  dims_alone : (frames cs : List (List ℕ)) (xs : List (Arrayed A)) → AllFramed [] frames cs xs → each (dims_of erased_rules) (vals W xs) ≡ cs
  dims_alone [] [] [] h = refl
  dims_alone (f ∷ fs) (c ∷ cs) (a ∷ xs) h =
      let dims : a.dims ≡ c = h.0.0 ∙ ap (λ f. f ++ c) (no_prefix f h.0.1.0 h.0.1.2) in
      λ i. (dims_are a.dims (each W.cell a.atoms) ∙ dims) i ∷ dims_alone fs cs xs h.1 i
  dims_alone [] [] (a ∷ xs) h = absurd h
  dims_alone [] (c ∷ cs) xs h = absurd h
  dims_alone (f ∷ fs) [] xs h = absurd h
  dims_alone (f ∷ fs) (c ∷ cs) [] h = absurd h

  pub scalar_runs : (T : Ty) (env : Env A) (cs : List Word) (r : Word) (fs : List (List ℕ)) (g : Arrayed A) (xs : List (Arrayed A)) → Fit W g → Each (Fit W) xs → length g.atoms ≡ product g.dims → Each (λ a. length a.atoms ≡ product a.dims) xs
      → Framed [] g.dims [] g → AllFramed [] fs (each (shape_under env.indices) cs) xs → W.good T (TApp (val W g) (term_list (vals W xs)) (words_in W env cs) (word_in W env r))
      → Runs W K (TApp (val W g) (term_list (vals W xs)) (words_in W env cs) (word_in W env r))
      (count 1 (places_val W.rules enter [] [] (places (spread [] g.dims [] g.atoms) (columns 1 (all_cells_at [] fs (each (shape_under env.indices) cs) xs)))))
  scalar_runs T env cs r fs g xs hg hs fg full gfr h good =
      let none : g.dims ≡ [] = no_prefix g.dims gfr.1.0 gfr.1.2 in
      let sole = one_atom g.atoms (fg ∙ ap product none) in
      let same : g ≡ single sole.0 = (λ i. array (none i) (sole.1 i)) in
      let fits : W.fits sole.0 = (subst (Each W.fits) sole.1 hg.1).0 in
      let columns_are : columns 1 (all_cells_at [] fs (each (shape_under env.indices) cs) xs) ≡ xs ∷ [] = ap (columns 1) (cells_alone fs (each (shape_under env.indices) cs) xs h full) ∙ ap (λ ys. ys ∷ []) (firsts_alone xs) in
      let only : CellsOnly (vals W xs) (words_in W env cs) = dims_alone fs (each (shape_under env.indices) cs) xs h ∙ sym (cells_value env.indices cs) in
      let has = subst (λ g. W.good T (TApp (val W g) (term_list (vals W xs)) (words_in W env cs) (word_in W env r))) same good in
      subst (λ cols. Runs W K (TApp (val W g) (term_list (vals W xs)) (words_in W env cs) (word_in W env r)) (count 1 (places_val W.rules enter [] [] (places (spread [] g.dims [] g.atoms) cols)))) (sym columns_are)
      (subst (λ g. Runs W K (TApp (val W g) (term_list (vals W xs)) (words_in W env cs) (word_in W env r)) (count 1 (places_val W.rules enter [] [] (places (spread [] g.dims [] g.atoms) (xs ∷ []))))) (sym same)
      (scalar_comes W enter K T (TApp (scalar_of (W.cell sole.0)) (term_list (vals W xs)) (words_in W env cs) (word_in W env r)) (Applies sole.0 xs) has
      (place_steps W enter K enters T sole.0 xs (words_in W env cs) (word_in W env r) fits hs only has)))
