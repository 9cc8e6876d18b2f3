-- The arguments of an application, replicated to its frame or cut into its cells, have the types that the application asks for.
use Rattle.std.proofs.Common.{◌≡◌, refl, sym, ◌∙◌, ap, subst, ℕ, zero, suc, ◌*◌, arith, List, [], ◌∷◌, ◌++◌, length, Some, true}
use Rattle.core_syntax.specs.declared.index.Sort.TheVariants as sort
use Rattle.core_syntax.specs.Syntax.{Index, Ty, Arr, Tys, no_tys, more_tys}
use Rattle.core_syntax.specs.Lists.{each, Each, product, after_prefix}
use Rattle.core_syntax.specs.Value.{shape_val, SameShape, IndexEqual, then_shape}
use Rattle.core_syntax.specs.Prims.{array_of}
use Rattle.core_syntax.specs.Typing.{numbers, OnArr, defs_only}
use Rattle.core_syntax.specs.Terms.{Terms, no_terms, more_terms, Cell, term_items, term_list}
use Rattle.core_syntax.specs.Arrays.{array, runs, replicated, firsts, rests, columns, is_prefix}
use Rattle.core_syntax.specs.Rules.{dims_of, atoms_of, part_of, lifted, lifted_by, all_lifted, cells_of, all_cells}
use Rattle.core_syntax.specs.Typed.{typed, typed_rules, TypedTerm, closed}
use Rattle.core_syntax.specs.TermTyping.{HasTerm, TermArgsHave, HasCell}
use Rattle.core_syntax.proofs.Equality.{same_refl}
use Rattle.core_syntax.proofs.Unique.{then_val}
use Rattle.reduction_laws.proofs.steps.Counts.{product-append, factor_zero, zero_times, times_zero, replicated_ok, each_run, run_count}
use Rattle.reduction_laws.proofs.steps.Frames.{prefix_rest}
use Rattle.reduction_laws.proofs.steps.Moves.{length_of_each}
use Rattle.reduction_laws.proofs.steps.Parts.{IsArr, Parts, parts_of, part_has, fits, type_formed, numbers_val, numbers_sorted}
use Rattle.core_syntax.specs.Kinds.{IsWellFormed}

module _ (D : List Ty) where
  -- a value over a frame with the cells of an argument
  cell_dims_of : (t : TypedTerm) (a : Ty) (q w c : Index) → IsArr t → HasTerm (defs_only D) t (array_of a (then_shape q w)) → SameShape w c → dims_of typed_rules t ≡ shape_val closed q ++ shape_val closed c
  cell_dims_of t a q w c v h e = (parts_of D t a (then_shape q w) v h).dims ∙ then_val closed q w ∙ ap (λ z. shape_val closed q ++ z) (e closed)

  -- an array of a value's atoms that has the dims of a frame and a cell
  refitted : (u : TypedTerm) (a : Ty) (q w c : Index) (F : List ℕ) → IsArr u → HasTerm (defs_only D) u (array_of a (then_shape q w)) → IndexEqual [] sort.Shape w c
      → (xs : List (Cell typed)) → length xs ≡ product (F ++ shape_val closed c) → Each (λ x. HasCell (defs_only D) x a) xs
      → (product F ≡ 0 → ⊥) → (product (shape_val closed q) ≡ 0 → ⊥)
      → HasTerm (defs_only D) (part_of typed_rules u (array (F ++ shape_val closed c) xs)) (array_of a (then_shape (numbers F) w))
  refitted u a q w c F v h e xs n g zF zq =
      fits D (part_of typed_rules u (array (F ++ shape_val closed c) xs)) a (numbers (F ++ shape_val closed c)) a (then_shape (numbers F) w) (array_of a (then_shape (numbers F) w))
      (part_has D u a (then_shape q w) (F ++ shape_val closed c) xs v h g n
      (λ z. ap product dims ∙ product-append (shape_val closed q) (shape_val closed c) ∙ times_zero (product (shape_val closed q)) (product (shape_val closed c)) (factor_zero (product F) (product (shape_val closed c)) (sym (product-append F (shape_val closed c)) ∙ z) zF))
      (λ z. product-append F (shape_val closed c) ∙ times_zero (product F) (product (shape_val closed c)) (factor_zero (product (shape_val closed q)) (product (shape_val closed c)) (sym (product-append (shape_val closed q) (shape_val closed c)) ∙ ap product (sym dims) ∙ z) zq)))
      (same_refl a)
      (numbers_val closed (F ++ shape_val closed c) ∙ (λ i. sym (numbers_val closed F) i ++ sym (e.2 closed) i) ∙ sym (then_val closed (numbers F) w))
      ((w'.0, (refl, (numbers_sorted [] F, (e.0, tt))), w'.2), same_refl (array_of a (then_shape (numbers F) w)))
    where
      dims : dims_of typed_rules u ≡ shape_val closed q ++ shape_val closed c
      dims = cell_dims_of u a q w c v h e.2

      w' : IsWellFormed 0 [] (array_of a (then_shape q w))
      w' = type_formed (defs_only D) u (array_of a (then_shape q w)) h

  -- `lift` of one argument
  pub lifted_has : (t : TypedTerm) (a : Ty) (q w c : Index) (F : List ℕ) → IsArr t → HasTerm (defs_only D) t (array_of a (then_shape q w)) → IndexEqual [] sort.Shape w c
      → is_prefix (shape_val closed q) F ≡ true → (product F ≡ 0 → ⊥)
      → HasTerm (defs_only D) (lifted typed_rules F (shape_val closed q) (shape_val closed c) t) (array_of a (then_shape (numbers F) w))
  lifted_has t a q w c F v h e pre z =
      subst (λ o. HasTerm (defs_only D) (lifted_by typed_rules F (shape_val closed q) (shape_val closed c) o t) (array_of a (then_shape (numbers F) w))) (sym rest.1)
      (refitted t a q w c F v h e (replicated (shape_val closed q) rest.0 (shape_val closed c) (atoms_of typed_rules t)) (ok.0 ∙ ap (λ G. product (G ++ shape_val closed c)) rest.2) ok.1 z
      (λ zq. z (ap product (sym rest.2) ∙ product-append (shape_val closed q) rest.0 ∙ zero_times (product (shape_val closed q)) (product rest.0) zq)))
    where
      rest : (r : List ℕ) × (after_prefix (shape_val closed q) F ≡ Some r) × (shape_val closed q ++ r ≡ F)
      rest = prefix_rest (shape_val closed q) F pre

      p : Parts D t a (then_shape q w)
      p = parts_of D t a (then_shape q w) v h

      ok : (length (replicated (shape_val closed q) rest.0 (shape_val closed c) (atoms_of typed_rules t)) ≡ product ((shape_val closed q ++ rest.0) ++ shape_val closed c))
          × Each (λ x. HasCell (defs_only D) x a) (replicated (shape_val closed q) rest.0 (shape_val closed c) (atoms_of typed_rules t))
      ok = replicated_ok (λ x. HasCell (defs_only D) x a) (shape_val closed q) rest.0 (shape_val closed c) (atoms_of typed_rules t) (p.count ∙ ap product (cell_dims_of t a q w c v h e.2)) p.atoms

  -- `lift` of all arguments
  pub all_lifted_have : (F : List ℕ) (es : Terms typed) (us : Tys) (cs ps : List Index) → Each IsArr (term_items es) → TermArgsHave (defs_only D) es us cs ps
      → Each (λ q. is_prefix (shape_val closed q) F ≡ true) ps → (product F ≡ 0 → ⊥)
      → TermArgsHave (defs_only D) (term_list (all_lifted typed_rules F (each (shape_val closed) ps) (each (shape_val closed) cs) (term_items es))) us cs (each (λ q. numbers F) ps)
  all_lifted_have F no_terms no_tys [] [] v h pre z = tt
  all_lifted_have F (more_terms e es) (more_tys (Arr at a w) us) (c ∷ cs) (q ∷ ps) v h pre z =
      ((lifted_has e a q w c F v.0 h.0.0 h.0.1 pre.0 z, h.0.1), all_lifted_have F es us cs ps v.1 h.1 pre.1 z)
  all_lifted_have F (more_terms e es) (more_tys _ us) (c ∷ cs) (q ∷ ps) v h pre z = absurd h.0
  all_lifted_have F _ _ _ _ v h pre z = absurd h

  -- ---- `map`

  -- rows of so many terms, each of which an argument has as a cell
  abbrev RowsHave : ℕ → Tys → List Index → List (List TypedTerm) → Type 0
  RowsHave N no_tys [] [] = Unit {0}
  RowsHave N (more_tys t us) (c ∷ cs) (row ∷ rows) =
      OnArr t (λ a w. Each (λ x. HasTerm (defs_only D) x (array_of a (then_shape (numbers []) w))) row × IndexEqual [] sort.Shape w c) × (length row ≡ N) × RowsHave N us cs rows
  RowsHave N _ _ _ = ⊥

  -- the frames () of arguments
  abbrev pub no_frames : List Index → List Index
  no_frames cs = each (λ c. numbers []) cs

  firsts_have : (N : ℕ) (us : Tys) (cs : List Index) (rows : List (List TypedTerm)) → RowsHave (suc N) us cs rows → TermArgsHave (defs_only D) (term_list (firsts rows)) us cs (no_frames cs)
  firsts_have N no_tys [] [] h = tt
  firsts_have N (more_tys t us) (c ∷ cs) ([] ∷ rows) h = absurd (let e = h.1 in omega arith)
  firsts_have N (more_tys (Arr at a w) us) (c ∷ cs) ((x ∷ row) ∷ rows) h = ((h.0.0.0, h.0.1), firsts_have N us cs rows h.2)
  firsts_have N (more_tys _ us) (c ∷ cs) ((x ∷ row) ∷ rows) h = absurd h.0
  firsts_have N _ _ _ h = absurd h

  rests_have : (N : ℕ) (us : Tys) (cs : List Index) (rows : List (List TypedTerm)) → RowsHave (suc N) us cs rows → RowsHave N us cs (rests rows)
  rests_have N no_tys [] [] h = tt
  rests_have N (more_tys t us) (c ∷ cs) ([] ∷ rows) h = absurd (let e = h.1 in omega arith)
  rests_have N (more_tys (Arr at a w) us) (c ∷ cs) ((x ∷ row) ∷ rows) h = ((h.0.0.1, h.0.1), (let e = h.1 in omega arith), rests_have N us cs rows h.2)
  rests_have N (more_tys _ us) (c ∷ cs) ((x ∷ row) ∷ rows) h = absurd h.0
  rests_have N _ _ _ h = absurd h

  pub columns_have : (N : ℕ) (us : Tys) (cs : List Index) (rows : List (List TypedTerm)) → RowsHave N us cs rows → Each (λ col. TermArgsHave (defs_only D) (term_list col) us cs (no_frames cs)) (columns N rows)
  columns_have zero us cs rows h = tt
  columns_have (suc N) us cs rows h = (firsts_have N us cs rows h, columns_have N us cs (rests rows) (rests_have N us cs rows h))

  pub columns_count : (N : ℕ) (rows : List (List TypedTerm)) → length (columns N rows) ≡ N
  columns_count zero rows = refl
  columns_count (suc N) rows = ap suc (columns_count N (rests rows))

  -- the cells of one argument
  cells_have : (t : TypedTerm) (a : Ty) (q w c : Index) (F : List ℕ) → IsArr t → HasTerm (defs_only D) t (array_of a (then_shape q w)) → IndexEqual [] sort.Shape w c → F ≡ shape_val closed q → (product F ≡ 0 → ⊥)
      → Each (λ x. HasTerm (defs_only D) x (array_of a (then_shape (numbers []) w))) (cells_of typed_rules F (shape_val closed c) t)
  cells_have t a q w c F v h e f z = all (runs (product F) (product (shape_val closed c)) (atoms_of typed_rules t)) (each_run (λ x. HasCell (defs_only D) x a) (product F) (product (shape_val closed c)) (atoms_of typed_rules t) count p.atoms)
    where
      p : Parts D t a (then_shape q w)
      p = parts_of D t a (then_shape q w) v h

      count : length (atoms_of typed_rules t) ≡ product F * product (shape_val closed c)
      count = p.count ∙ ap product (cell_dims_of t a q w c v h e.2) ∙ product-append (shape_val closed q) (shape_val closed c) ∙ ap (λ G. product G * product (shape_val closed c)) (sym f)

      all : (rs : List (List (Cell typed))) → Each (λ r. (length r ≡ product (shape_val closed c)) × Each (λ x. HasCell (defs_only D) x a) r) rs
          → Each (λ x. HasTerm (defs_only D) x (array_of a (then_shape (numbers []) w))) (each (part_of typed_rules t) (each (array (shape_val closed c)) rs))
      all [] g = tt
      all (r ∷ rs) g = (refitted t a q w c [] v h e r g.0.0 g.0.1 (λ y. let one : 1 ≡ 0 = y in omega arith) (λ y. z (ap product f ∙ y)), all rs g.1)

  pub rows_have : (F : List ℕ) (es : Terms typed) (us : Tys) (cs ps : List Index) → Each IsArr (term_items es) → TermArgsHave (defs_only D) es us cs ps → Each (λ g. F ≡ g) (each (shape_val closed) ps) → (product F ≡ 0 → ⊥)
      → RowsHave (product F) us cs (all_cells typed_rules F (each (shape_val closed) cs) (term_items es))
  rows_have F no_terms no_tys [] [] v h f z = tt
  rows_have F (more_terms e es) (more_tys (Arr at a w) us) (c ∷ cs) (q ∷ ps) v h f z = (
    (cells_have e a q w c F v.0 h.0.0 h.0.1 f.0 z, h.0.1),
    length_of_each (part_of typed_rules e) (each (array (shape_val closed c)) (runs (product F) (product (shape_val closed c)) (atoms_of typed_rules e)))
        ∙ length_of_each (array (shape_val closed c)) (runs (product F) (product (shape_val closed c)) (atoms_of typed_rules e))
        ∙ run_count (product F) (product (shape_val closed c)) (atoms_of typed_rules e),
    rows_have F es us cs ps v.1 h.1 f.1 z,
  )
  rows_have F (more_terms e es) (more_tys _ us) (c ∷ cs) (q ∷ ps) v h f z = absurd h.0
  rows_have F _ _ _ _ v h f z = absurd h
