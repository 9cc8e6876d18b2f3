-- The function and the arguments of an application, replicated to its frame or cut into its cells, are held.
use Rattle.std.proofs.Common.{◌≡◌, refl, sym, ◌∙◌, ap, subst, ℕ, List, [], ◌∷◌, ◌++◌, Option, Some, None, inl, inr}
use Rattle.std.specs.Prelude.{⊤}
use Rattle.std.proofs.lemmas.List.{append-nil}
use Rattle.core_syntax.specs.Syntax.{Index, Ty}
use Rattle.core_syntax.specs.Lists.{each, Each, product, after_prefix}
use Rattle.core_syntax.specs.Value.{shape_val}
use Rattle.core_syntax.specs.Nodes.{vector}
use Rattle.core_syntax.specs.Terms.{TArray, TNoAtoms, Terms, no_terms, more_terms, Cell, term_items, term_list}
use Rattle.core_syntax.specs.Arrays.{array, runs, repeated, replicated}
use Rattle.core_syntax.specs.Rules.{dims_of, atoms_of, part_of, lifted, lifted_by, all_lifted, cells_of, all_cells, apps}
use Rattle.core_syntax.specs.Typed.{typed, typed_rules, TypedTerm, closed}
use Rattle.core_syntax.specs.Held.{HasForm, IsFixed, HasCells, HasRoom, HeldAt, ArgumentsHeld, CellHeld, IsHeld}
use Rattle.reduction_laws.proofs.held.Forms.{form_behind, each_runs, each_mapped}
use Rattle.reduction_laws.proofs.held.Moves.{each_cells, atoms_held, scalar_held, each_arguments}
use Rattle.reduction_laws.proofs.held.Answers.{Whole}
use Rattle.reduction_laws.proofs.steps.Counts.{each_joined, each_repeated}
use Rattle.reduction_laws.proofs.steps.Parts.{IsArr}

room_of_cell : (c : Index) (dims F : List ℕ) → HasCells c dims → dims ≡ F ++ shape_val closed c → (product F ≡ 0 → ⊥) → HasForm (shape_val closed c)
room_of_cell c dims F (inl h) e z = form_behind F (shape_val closed c) (subst HasForm e h) z
room_of_cell c dims F (inr h) e z = h.1

-- the cells of a value over a frame with places
pub cell_room : (c : Index) (t : TypedTerm) (F : List ℕ) → IsArr t → HeldAt (Some c) t → dims_of typed_rules t ≡ F ++ shape_val closed c → (product F ≡ 0 → ⊥) → HasForm (shape_val closed c)
cell_room c (TArray dims xs) F v h e z = room_of_cell c dims F h.0 e z
cell_room c (TNoAtoms dims a) F v h e z = room_of_cell c dims F h e z
cell_room c _ F v h e z = absurd v

room_alone : (c : Index) (dims : List ℕ) → HasCells c dims → dims ≡ shape_val closed c → HasForm dims
room_alone c dims (inl h) e = h
room_alone c dims (inr h) e = subst HasForm (sym e) h.1

-- a value over the frame () is held
pub alone_held : (c : Index) (t : TypedTerm) → IsArr t → HeldAt (Some c) t → dims_of typed_rules t ≡ shape_val closed c → IsHeld t
alone_held c (TArray dims xs) v h e = (room_alone c dims h.0 e, h.1)
alone_held c (TNoAtoms dims a) v h e = room_alone c dims h e
alone_held c _ v h e = absurd v

part_held : (o : Option Index) (t : TypedTerm) (dims : List ℕ) (xs : List (Cell typed)) → IsArr t → HasRoom o dims → Each CellHeld xs → HeldAt o (part_of typed_rules t (array dims xs))
part_held o (TNoAtoms d n) dims xs v r h = r
part_held o (TArray d ys) dims xs v r h = (r, each_cells xs h)
part_held o _ dims xs v r h = absurd v

-- `lift` of one value
pub lifted_held : (c : Index) (t : TypedTerm) (F frame : List ℕ) → IsArr t → IsFixed c → HeldAt (Some c) t → dims_of typed_rules t ≡ frame ++ shape_val closed c → (product frame ≡ 0 → ⊥)
    → HeldAt (Some c) (lifted typed_rules F frame (shape_val closed c) t)
lifted_held c t F frame v fixed h e z = by (after_prefix frame F)
  where
    by : (o : Option (List ℕ)) → HeldAt (Some c) (lifted_by typed_rules F frame (shape_val closed c) o t)
    by None = h
    by (Some rest) =
        let rs = runs (product frame) (product (shape_val closed c)) (atoms_of typed_rules t) in
        part_held (Some c) t (F ++ shape_val closed c) (replicated frame rest (shape_val closed c) (atoms_of typed_rules t)) v
        (inr (fixed, cell_room c t frame v h e z, (F, refl)))
        (each_joined CellHeld (repeated (product rest) rs)
        (each_repeated (Each CellHeld) (product rest) rs (each_runs CellHeld (product frame) (product (shape_val closed c)) (atoms_of typed_rules t) (atoms_held (Some c) t h))))

-- and of a function
pub function_lifted : (f : TypedTerm) (F : List ℕ) → IsArr f → HeldAt (Some (vector [])) f → (product (dims_of typed_rules f) ≡ 0 → ⊥) → HeldAt (Some (vector [])) (lifted typed_rules F (dims_of typed_rules f) [] f)
function_lifted f F v h z = lifted_held (vector []) f F (dims_of typed_rules f) v (λ v. refl) h (sym (append-nil (dims_of typed_rules f))) z

-- the cells of a value
pub cut_held : (c : Index) (t : TypedTerm) (F : List ℕ) → IsArr t → HeldAt (Some c) t → HasForm (shape_val closed c) → Each IsHeld (cells_of typed_rules F (shape_val closed c) t)
cut_held c t F v h f =
    let rs = runs (product F) (product (shape_val closed c)) (atoms_of typed_rules t) in
    each_mapped Whole IsHeld (part_of typed_rules t) (λ a k. part_held None t a.dims a.atoms v k.0 k.1) (each (array (shape_val closed c)) rs)
    (each_mapped (Each CellHeld) Whole (array (shape_val closed c)) (λ r k. (f, k)) rs (each_runs CellHeld (product F) (product (shape_val closed c)) (atoms_of typed_rules t) (atoms_held (Some c) t h)))

-- ---- all arguments

-- values over these frames, with these cell shapes
abbrev pub ValuesOver : List (List ℕ) → List Index → Terms typed → Type 0
ValuesOver [] [] no_terms = ⊤
ValuesOver (g ∷ gs) (c ∷ cs) (more_terms t ts) = (IsArr t × IsFixed c × (dims_of typed_rules t ≡ g ++ shape_val closed c)) × ValuesOver gs cs ts
ValuesOver _ _ _ = ⊥

pub all_lifted_held : (F : List ℕ) (gs : List (List ℕ)) (cs : List Index) (ts : Terms typed) → ValuesOver gs cs ts → ArgumentsHeld cs ts → Each (λ g. product g ≡ 0 → ⊥) gs
    → ArgumentsHeld cs (term_list (all_lifted typed_rules F gs (each (shape_val closed) cs) (term_items ts)))
all_lifted_held F [] [] no_terms v h z = tt
all_lifted_held F (g ∷ gs) (c ∷ cs) (more_terms t ts) v h z = (lifted_held c t F g v.0.0 v.0.1 h.0 v.0.2 z.0, all_lifted_held F gs cs ts v.1 h.1 z.1)
all_lifted_held F _ _ _ v h z = absurd v

pub all_cut_held : (F : List ℕ) (gs : List (List ℕ)) (cs : List Index) (ts : Terms typed) → ValuesOver gs cs ts → ArgumentsHeld cs ts → Each (λ g. product g ≡ 0 → ⊥) gs
    → Each (Each IsHeld) (all_cells typed_rules F (each (shape_val closed) cs) (term_items ts))
all_cut_held F [] [] no_terms v h z = tt
all_cut_held F (g ∷ gs) (c ∷ cs) (more_terms t ts) v h z = (cut_held c t F v.0.0 h.0 (cell_room c t g v.0.0 h.0 v.0.2 z.0), all_cut_held F gs cs ts v.1 h.1 z.1)
all_cut_held F _ _ _ v h z = absurd v

pub all_alone_held : (gs : List (List ℕ)) (cs : List Index) (ts : Terms typed) → ValuesOver gs cs ts → ArgumentsHeld cs ts → Each (λ g. g ≡ []) gs → Each IsHeld (term_items ts)
all_alone_held [] [] no_terms v h z = tt
all_alone_held (g ∷ gs) (c ∷ cs) (more_terms t ts) v h z = (alone_held c t v.0.0 h.0 (v.0.2 ∙ ap (λ g. g ++ shape_val closed c) z.0), all_alone_held gs cs ts v.1 h.1 z.1)
all_alone_held _ _ _ v h z = absurd v

-- the applications on the cells at each place
pub apps_held : (fs : List (Cell typed)) (tss : List (List TypedTerm)) (cs : List Index) (r : Ty) → Each CellHeld fs → Each (Each IsHeld) tss → Each IsHeld (apps typed_rules fs tss cs r)
apps_held (f ∷ fs) (ts ∷ tss) cs r h k = ((scalar_held (Some (vector [])) f h.0, each_arguments cs ts k.0), apps_held fs tss cs r h.1 k.1)
apps_held [] tss cs r h k = tt
apps_held (f ∷ fs) [] cs r h k = tt
