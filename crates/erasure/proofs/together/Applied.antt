-- Erasure and the rules of an application over a frame that isn't (): lift and map.
use Rattle.std.proofs.Common.{◌≡◌, refl, sym, ◌∙◌, ap, ℕ, ◌+◌, arith, List, [], ◌∷◌, ◌++◌, Option, Some, None, Bool, true, false}
use mathlib.Core.Path.{ap₂}
use Rattle.core_syntax.specs.declared.norm.Coef.{Coef}
use Rattle.core_syntax.specs.declared.norm.Letter.{Letter}
use Rattle.core_syntax.specs.declared.index.Sort.{Sort}
use Rattle.core_syntax.specs.declared.norm.Letter.TheVariants as letter
use Rattle.core_syntax.specs.Arrays.{array, frame_before, replicated, runs, all_frames_are, columns}
use Rattle.core_syntax.specs.Lists.{each, after_prefix, product}
use Rattle.core_syntax.specs.Move.{Move, Rests, Trapped, Goes, Lost}
use Rattle.core_syntax.specs.Norm.{norm_word}
use Rattle.core_syntax.specs.NormValue.{coefs_value, word_value_under}
use Rattle.core_syntax.specs.Rules.{dims_of, atoms_of, part_of, frames_of, and_list, lifted, lifted_by, all_lifted, cells_of, all_cells, apps, apply_over}
use Rattle.core_syntax.specs.Syntax.{Index, Ty}
use Rattle.core_syntax.specs.Terms.{Terms, term_items, no_terms, more_terms, term_list, cell_items, Cell, Cells, no_cells, more_cells, cell_list, TArray, TNoAtoms, TVar, TDef, TFrame, TNoCells, TApp, TTypeApp, TIndexApp, TUnbox, scalar_of}
use Rattle.core_syntax.specs.Typed.{closed, typed, TypedTerm, typed_rules, shape_of}
use Rattle.core_syntax.specs.Value.{shape_val}
use Rattle.core_syntax.proofs.NormValues.{norm_word_value}
use Rattle.erasure.specs.Erased.{erased_rules, ErasedTerm}
use Rattle.erasure.specs.Erasure.{er, er_terms, er_cell, er_cells}
use Rattle.core_syntax.specs.NormPut.{word_value}
use Rattle.naturality.proofs.Eaches.{each_replicated, each_runs, each_columns}

-- a move with f of where it goes
abbrev pub move_map : {A B : Type 0} → (A → B) → Move A → Move B
move_map f Rests = Rests
move_map f (Trapped k) = Trapped k
move_map f (Goes a) = Goes (f a)
move_map f Lost = Lost

-- ---- a cell shape and its normal form have one value

pub no_coefs : (cs : List Coef) → coefs_value closed cs ≡ 0
no_coefs [] = refl
no_coefs (c ∷ cs) = let e = no_coefs cs in omega arith

closed_letters : (ls : List Letter) → word_value ls ≡ word_value_under closed ls
closed_letters [] = refl
closed_letters (letter.Dim d ∷ ls) = let e : d.constant ≡ d.constant + coefs_value closed d.coefs = (let z = no_coefs d.coefs in omega arith) in λ i. e i ∷ closed_letters ls i
closed_letters (letter.Var k ∷ ls) = closed_letters ls

pub erased_dims : (i : Index) → word_value (norm_word i) ≡ shape_val closed i
erased_dims i = closed_letters (norm_word i) ∙ norm_word_value closed i

pub erased_cells : (cs : List Index) → each word_value (each norm_word cs) ≡ each (shape_val closed) cs
erased_cells [] = refl
erased_cells (c ∷ cs) = λ i. erased_dims c i ∷ erased_cells cs i

-- ---- lists of terms and atoms

module _ (ss : List Sort) where
  pub er_items : (ts : Terms typed) → term_items (er_terms ss ts) ≡ each (er ss) (term_items ts)
  er_items no_terms = refl
  er_items (more_terms t ts) = ap (λ us. er ss t ∷ us) (er_items ts)

  pub er_list : (ts : List TypedTerm) → er_terms ss (term_list ts) ≡ term_list (each (er ss) ts)
  er_list [] = refl
  er_list (t ∷ ts) = ap (more_terms (er ss t)) (er_list ts)

  pub er_cell_items : (xs : Cells typed) → cell_items (er_cells ss xs) ≡ each (er_cell ss) (cell_items xs)
  er_cell_items no_cells = refl
  er_cell_items (more_cells a xs) = ap (λ ys. er_cell ss a ∷ ys) (er_cell_items xs)

  pub er_cell_list : (xs : List (Cell typed)) → er_cells ss (cell_list xs) ≡ cell_list (each (er_cell ss) xs)
  er_cell_list [] = refl
  er_cell_list (a ∷ xs) = ap (more_cells (er_cell ss a)) (er_cell_list xs)

  -- the dims and the atoms of a value
  pub er_dims : (t : TypedTerm) → dims_of erased_rules (er ss t) ≡ dims_of typed_rules t
  er_dims (TArray dims xs) = refl
  er_dims (TNoAtoms dims a) = refl
  er_dims _ = refl

  pub er_atoms : (t : TypedTerm) → atoms_of erased_rules (er ss t) ≡ each (er_cell ss) (atoms_of typed_rules t)
  er_atoms (TArray dims xs) = er_cell_items xs
  er_atoms _ = refl

  er_part : (t : TypedTerm) (dims : List ℕ) (xs : List (Cell typed)) → part_of erased_rules (er ss t) (array dims (each (er_cell ss) xs)) ≡ er ss (part_of typed_rules t (array dims xs))
  er_part (TNoAtoms d a) dims xs = refl
  er_part (TArray d ys) dims xs = ap (TArray dims) (sym (er_cell_list xs))
  er_part (TVar k) dims xs = ap (TArray dims) (sym (er_cell_list xs))
  er_part (TDef k) dims xs = ap (TArray dims) (sym (er_cell_list xs))
  er_part (TFrame d ts n) dims xs = ap (TArray dims) (sym (er_cell_list xs))
  er_part (TNoCells w) dims xs = ap (TArray dims) (sym (er_cell_list xs))
  er_part (TApp g ts cs n) dims xs = ap (TArray dims) (sym (er_cell_list xs))
  er_part (TTypeApp t us n) dims xs = ap (TArray dims) (sym (er_cell_list xs))
  er_part (TIndexApp t is n) dims xs = ap (TArray dims) (sym (er_cell_list xs))
  er_part (TUnbox k t b n) dims xs = ap (TArray dims) (sym (er_cell_list xs))

  -- ---- frames

  pub er_frames : (cs : List (List ℕ)) (ts : List TypedTerm) → frames_of erased_rules cs (each (er ss) ts) ≡ frames_of typed_rules cs ts
  er_frames [] [] = refl
  er_frames [] (t ∷ ts) = refl
  er_frames (c ∷ cs) [] = refl
  er_frames (c ∷ cs) (t ∷ ts) = λ i. and_list (frame_before c (er_dims t i)) (er_frames cs ts i)

  -- ---- lift

  er_lifted_by : (F frame cell : List ℕ) (o : Option (List ℕ)) (t : TypedTerm) → lifted_by erased_rules F frame cell o (er ss t) ≡ er ss (lifted_by typed_rules F frame cell o t)
  er_lifted_by F frame cell None t = refl
  er_lifted_by F frame cell (Some rest) t =
      ap (λ xs. part_of erased_rules (er ss t) (array (F ++ cell) (replicated frame rest cell xs))) (er_atoms t)
      ∙ ap (λ xs. part_of erased_rules (er ss t) (array (F ++ cell) xs)) (each_replicated (er_cell ss) frame rest cell (atoms_of typed_rules t))
      ∙ er_part t (F ++ cell) (replicated frame rest cell (atoms_of typed_rules t))

  er_all_lifted : (F : List ℕ) (fs cs : List (List ℕ)) (ts : List TypedTerm) → all_lifted erased_rules F fs cs (each (er ss) ts) ≡ each (er ss) (all_lifted typed_rules F fs cs ts)
  er_all_lifted F (f ∷ fs) (c ∷ cs) (t ∷ ts) = λ i. er_lifted_by F f c (after_prefix f F) t i ∷ er_all_lifted F fs cs ts i
  er_all_lifted F [] cs ts = refl
  er_all_lifted F (f ∷ fs) [] ts = refl
  er_all_lifted F (f ∷ fs) (c ∷ cs) [] = refl

  -- ---- map

  er_parts : (t : TypedTerm) (dims : List ℕ) (xss : List (List (Cell typed))) → each (part_of erased_rules (er ss t)) (each (array dims) (each (each (er_cell ss)) xss)) ≡ each (er ss) (each (part_of typed_rules t) (each (array dims) xss))
  er_parts t dims [] = refl
  er_parts t dims (xs ∷ xss) = λ i. er_part t dims xs i ∷ er_parts t dims xss i

  er_cells_of : (F cell : List ℕ) (t : TypedTerm) → cells_of erased_rules F cell (er ss t) ≡ each (er ss) (cells_of typed_rules F cell t)
  er_cells_of F cell t =
      ap (λ xs. each (part_of erased_rules (er ss t)) (each (array cell) (runs (product F) (product cell) xs))) (er_atoms t)
      ∙ ap (λ xss. each (part_of erased_rules (er ss t)) (each (array cell) xss)) (each_runs (er_cell ss) (product F) (product cell) (atoms_of typed_rules t))
      ∙ er_parts t cell (runs (product F) (product cell) (atoms_of typed_rules t))

  er_all_cells : (F : List ℕ) (cs : List (List ℕ)) (ts : List TypedTerm) → all_cells erased_rules F cs (each (er ss) ts) ≡ each (each (er ss)) (all_cells typed_rules F cs ts)
  er_all_cells F (c ∷ cs) (t ∷ ts) = λ i. er_cells_of F c t i ∷ er_all_cells F cs ts i
  er_all_cells F [] ts = refl
  er_all_cells F (c ∷ cs) [] = refl

  er_apps : (fs : List (Cell typed)) (tss : List (List TypedTerm)) (cs : List Index) (r : Ty) → apps erased_rules (each (er_cell ss) fs) (each (each (er ss)) tss) (each norm_word cs) (norm_word (shape_of r)) ≡ each (er ss) (apps typed_rules fs tss cs r)
  er_apps (f ∷ fs) (ts ∷ tss) cs r = λ i. TApp (scalar_of (er_cell ss f)) (sym (er_list ts) i) (each norm_word cs) (norm_word (shape_of r)) ∷ er_apps fs tss cs r i
  er_apps [] tss cs r = refl
  er_apps (f ∷ fs) [] cs r = refl

  -- ---- the rules

  either_goes : (b : Bool) (x y : ErasedTerm) (t u : TypedTerm) → x ≡ er ss t → y ≡ er ss u → (elim b as (λ b. Move ErasedTerm) [ true ↦ Goes x | false ↦ Goes y ]) ≡ move_map (er ss) (elim b as (λ b. Move TypedTerm) [ true ↦ Goes t | false ↦ Goes u ])
  either_goes true x y t u e f = ap Goes e
  either_goes false x y t u e f = ap Goes f

  -- `map` and `lift` of an erased application are those of the typed one, erased
  pub er_apply_over : (n : ℕ) (F : List ℕ) (frames : List (List ℕ)) (f : TypedTerm) (ts : List TypedTerm) (cs : List Index) (r : Ty)
      → apply_over erased_rules (n ∷ F) frames (er ss f) (each (er ss) ts) (each norm_word cs) (norm_word (shape_of r)) ≡ move_map (er ss) (apply_over typed_rules (n ∷ F) frames f ts cs r)
  er_apply_over n F frames f ts cs r =
      ap (λ d. elim (all_frames_are (n ∷ F) (d ∷ frames)) as (λ b. Move ErasedTerm) [ true ↦ Goes mapped | false ↦ Goes raised ]) (er_dims f)
      ∙ either_goes (all_frames_are (n ∷ F) (dims_of typed_rules f ∷ frames)) mapped raised typed_mapped typed_raised map_same lift_same
    where
      mapped : ErasedTerm
      mapped = TFrame (n ∷ F) (term_list (apps erased_rules (atoms_of erased_rules (er ss f)) (columns (product (n ∷ F)) (all_cells erased_rules (n ∷ F) (each word_value (each norm_word cs)) (each (er ss) ts))) (each norm_word cs) (norm_word (shape_of r)))) tt

      raised : ErasedTerm
      raised = TApp (lifted erased_rules (n ∷ F) (dims_of erased_rules (er ss f)) [] (er ss f)) (term_list (all_lifted erased_rules (n ∷ F) frames (each word_value (each norm_word cs)) (each (er ss) ts))) (each norm_word cs) (norm_word (shape_of r))

      typed_mapped : TypedTerm
      typed_mapped = TFrame (n ∷ F) (term_list (apps typed_rules (atoms_of typed_rules f) (columns (product (n ∷ F)) (all_cells typed_rules (n ∷ F) (each (shape_val closed) cs) ts)) cs r)) r

      typed_raised : TypedTerm
      typed_raised = TApp (lifted typed_rules (n ∷ F) (dims_of typed_rules f) [] f) (term_list (all_lifted typed_rules (n ∷ F) frames (each (shape_val closed) cs) ts)) cs r

      map_same : mapped ≡ er ss typed_mapped
      map_same =
          ap (λ ts. TFrame (n ∷ F) ts tt)
          (ap (λ ds. term_list (apps erased_rules (atoms_of erased_rules (er ss f)) (columns (product (n ∷ F)) (all_cells erased_rules (n ∷ F) ds (each (er ss) ts))) (each norm_word cs) (norm_word (shape_of r)))) (erased_cells cs)
          ∙ ap₂ (λ xs tss. term_list (apps erased_rules xs (columns (product (n ∷ F)) tss) (each norm_word cs) (norm_word (shape_of r)))) (er_atoms f) (er_all_cells (n ∷ F) (each (shape_val closed) cs) ts)
          ∙ ap (λ tss. term_list (apps erased_rules (each (er_cell ss) (atoms_of typed_rules f)) tss (each norm_word cs) (norm_word (shape_of r)))) (each_columns (er ss) (product (n ∷ F)) (all_cells typed_rules (n ∷ F) (each (shape_val closed) cs) ts))
          ∙ ap term_list (er_apps (atoms_of typed_rules f) (columns (product (n ∷ F)) (all_cells typed_rules (n ∷ F) (each (shape_val closed) cs) ts)) cs r)
          ∙ sym (er_list (apps typed_rules (atoms_of typed_rules f) (columns (product (n ∷ F)) (all_cells typed_rules (n ∷ F) (each (shape_val closed) cs) ts)) cs r)))

      lift_same : raised ≡ er ss typed_raised
      lift_same =
          ap₂ (λ g us. TApp g us (each norm_word cs) (norm_word (shape_of r)))
          (ap (λ d. lifted erased_rules (n ∷ F) d [] (er ss f)) (er_dims f) ∙ er_lifted_by (n ∷ F) (dims_of typed_rules f) [] (after_prefix (dims_of typed_rules f) (n ∷ F)) f)
          (ap (λ ds. term_list (all_lifted erased_rules (n ∷ F) frames ds (each (er ss) ts))) (erased_cells cs)
          ∙ ap term_list (er_all_lifted (n ∷ F) frames (each (shape_val closed) cs) ts)
          ∙ sym (er_list (all_lifted typed_rules (n ∷ F) frames (each (shape_val closed) cs) ts)))
