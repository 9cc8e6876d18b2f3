-- reduce, fold and transpose keep types.
use Rattle.std.proofs.Common.{◌≡◌, refl, sym, ◌∙◌, ap, subst, ℕ, zero, suc, ◌+◌, ◌*◌, ◌^◌, arith, List, [], ◌∷◌, ◌++◌, length, Some, None, Bool, true, false}
use Rattle.std.specs.Prelude.{nat_le}
use Rattle.std.proofs.lemmas.List.{append-nil}
use Rattle.core_syntax.specs.declared.primitive.Primitive.TheVariants as p
use Rattle.core_syntax.specs.declared.errors.TrapKind.TheVariants as trap
use Rattle.core_syntax.specs.Syntax.{Index, Num, Ty, Fun, Arr, Tys, no_tys, more_tys, no_span, ty_list}
use Rattle.core_syntax.specs.Lists.{each, Each, joined, product}
use Rattle.core_syntax.specs.Kinds.{IsWellFormed}
use Rattle.core_syntax.specs.Value.{shape_val, dim_val, then_shape}
use Rattle.core_syntax.specs.TypeEqual.{Same, AllSame}
use Rattle.core_syntax.specs.Subst.{kept, put_all, indices_under, ty_put, fates_under_index, with_indices}
use Rattle.core_syntax.specs.Prims.{prim_type, scalar, function, array_of, with_dims, type_var}
use Rattle.core_syntax.specs.Nodes.{vector, total, joined_shape}
use Rattle.core_syntax.specs.Typing.{numbers, defs_only, IsAtomType}
use Rattle.core_syntax.specs.Terms.{TApp, Terms, Cell, term_items, term_list, scalar_of}
use Rattle.core_syntax.specs.Arrays.{Arrayed, array, runs, firsts, rests, columns}
use Rattle.core_syntax.specs.Answer.{AtomRules, Answer, Gives, Traps, Folds}
use Rattle.core_syntax.specs.Delta.{folds, by_leading, transposed, of_array, of_arrays, of_three, delta}
use Rattle.core_syntax.specs.Rules.{atoms_of, atom_rules, array_term, fold_term}
use Rattle.core_syntax.specs.Typed.{typed, typed_rules, TypedTerm, closed, closed_value}
use Rattle.core_syntax.specs.TermTyping.{Notes, PrimHas, HasTerm, HasCell}
use Rattle.core_syntax.proofs.Equality.{same_refl}
use Rattle.core_syntax.proofs.Unique.{then_val}
use Rattle.reduction_laws.proofs.steps.Counts.{each_joined, each_with, each_run, run_count, joined_count}
use Rattle.reduction_laws.proofs.steps.Applied.{cell_app}
use Rattle.reduction_laws.proofs.steps.Scalars.{PairsHave}
use Rattle.reduction_laws.proofs.primitives.Args.{arrayed, fits_arg, with_args, one_atom, Good, gives_good, leading_good}
use Rattle.reduction_laws.proofs.steps.Parts.{IsArr, array_has, numbers_val, numbers_sorted, fits}
use Rattle.reduction_laws.proofs.steps.Moves.{length_of_each}

-- ---- columns of rows

module _ {B : Type 0} (Q : B → Type 0) where
  firsts_ok : (n : ℕ) (rows : List (List B)) → Each (λ r. (length r ≡ suc n) × Each Q r) rows → (length (firsts rows) ≡ length rows) × Each Q (firsts rows)
  firsts_ok n [] h = (refl, tt)
  firsts_ok n ([] ∷ rows) h = absurd (let e = h.0.0 in omega arith)
  firsts_ok n ((x ∷ r) ∷ rows) h = let g = firsts_ok n rows h.1 in (ap suc g.0, (h.0.1.0, g.1))

  rests_ok : (n : ℕ) (rows : List (List B)) → Each (λ r. (length r ≡ suc n) × Each Q r) rows → (length (rests rows) ≡ length rows) × Each (λ r. (length r ≡ n) × Each Q r) (rests rows)
  rests_ok n [] h = (refl, tt)
  rests_ok n ([] ∷ rows) h = absurd (let e = h.0.0 in omega arith)
  rests_ok n ((x ∷ r) ∷ rows) h = let g = rests_ok n rows h.1 in (ap suc g.0, (((let e = h.0.0 in omega arith), h.0.1.1), g.1))

  columns_ok : (n m : ℕ) (rows : List (List B)) → length rows ≡ m → Each (λ r. (length r ≡ n) × Each Q r) rows → (length (columns n rows) ≡ n) × Each (λ c. (length c ≡ m) × Each Q c) (columns n rows)
  columns_ok zero m rows e h = (refl, tt)
  columns_ok (suc n) m rows e h =
      let f = firsts_ok n rows h in
      let r = rests_ok n rows h in
      let g = columns_ok n m (rests rows) (r.0 ∙ e) r.1 in
      (ap suc g.0, ((f.0 ∙ e, f.1), g.1))

each_of : {A B : Type 0} (P : A → Type 0) (Q : B → Type 0) (f : A → B) (xs : List A) → ((a : A) → P a → Q (f a)) → Each P xs → Each Q (each f xs)
each_of P Q f [] g h = tt
each_of P Q f (x ∷ xs) g h = (g x h.0, each_of P Q f xs g h.1)

module _ (D : List Ty) where
  -- an array as an item of a fold
  item_has : (u : Ty) (s : Index) (A : Arrayed (Cell typed)) → IsWellFormed 0 [] (array_of u s) → A.dims ≡ shape_val closed s → length A.atoms ≡ product A.dims → Each (λ x. HasCell (defs_only D) x u) A.atoms
      → HasTerm (defs_only D) (array_term typed_rules u A) (array_of u (then_shape (numbers []) s))
  item_has u s A w d l g =
      fits D (array_term typed_rules u A) u (numbers A.dims) u (then_shape (numbers []) s) (array_of u (then_shape (numbers []) s))
      (array_has D u u A.dims A.atoms (w.0, w.2) (w.0, w.2) (same_refl u) g l) (same_refl u) (numbers_val closed A.dims ∙ d ∙ sym (then_val closed (numbers []) s))
      ((w.0, (refl, (numbers_sorted [] [], (w.1, tt))), w.2), same_refl (array_of u (then_shape (numbers []) s)))

  -- the nested applications of a fold
  fold_has : (f : Cell typed) (u t : Ty) (r s : Index) → HasCell (defs_only D) f (Fun no_span (more_tys (array_of u r) (more_tys (array_of t s) no_tys)) (array_of u r)) → IsWellFormed 0 [] (array_of u r) → IsWellFormed 0 [] (array_of t s)
      → (acc : TypedTerm) (ts : List TypedTerm) → HasTerm (defs_only D) acc (array_of u (then_shape (numbers []) r)) → Each (λ x. HasTerm (defs_only D) x (array_of t (then_shape (numbers []) s))) ts
      → HasTerm (defs_only D) (fold_term typed_rules f (r ∷ s ∷ []) (array_of u r) acc ts) (array_of u (then_shape (numbers []) r))
  fold_has f u t r s hf wu wt acc [] ha h = ha
  fold_has f u t r s hf wu wt acc (x ∷ ts) ha h =
      fold_has f u t r s hf wu wt (TApp (scalar_of f) (term_list (acc ∷ x ∷ [])) (r ∷ s ∷ []) (array_of u r)) ts
      (cell_app D f (term_list (acc ∷ x ∷ [])) (more_tys (array_of u r) (more_tys (array_of t s) no_tys)) u r (r ∷ s ∷ []) (array_of u r) hf ((wu, (wt, tt)), wu)
      ((ha, (wu.1, wu.1, λ v. refl)), ((h.0, (wt.1, wt.1, λ v. refl)), tt)) (wu, wu, same_refl (array_of u r)))
      h.1

  module _ (ws : Tys) (b : Ty) (c : Index) (es : Terms typed) (note : Ty) (w : IsWellFormed 0 [] (Arr no_span b c)) (ve : Each IsArr (term_items es)) (he : PairsHave D es ws) (n : Notes (defs_only D) (Arr no_span b c) note) where
    abbrev R : AtomRules (Cell typed)
    R = atom_rules typed_rules note

    abbrev arrays : List TypedTerm → List (Arrayed (Cell typed))
    arrays es = each (arrayed D) es

    abbrev Fn : Ty
    Fn = Fun no_span ws (Arr no_span b c)

    -- the type that stands for a type variable
    abbrev var_at : List Ty → List Index → ℕ → Ty
    var_at vs is k = with_indices is (ty_put (indices_under (length is) kept) (fates_under_index (length is) (put_all vs)) (type_var k))

    -- a fold's result as the result's cell
    as_result : (t : TypedTerm) (u : Ty) (r : Index) → Same (array_of u r) (Arr no_span b c) → HasTerm (defs_only D) t (array_of u (then_shape (numbers []) r)) → HasTerm (defs_only D) t (Arr no_span b c)
    as_result t u r s h = fits D t u (then_shape (numbers []) r) b c (Arr no_span b c) h s.0 (then_val closed (numbers []) r ∙ s.1 closed) (w, same_refl (Arr no_span b c))

    -- the items of a fold
    items_have : (u : Ty) (k : Index) (m : ℕ) (xs : List (Cell typed)) → IsWellFormed 0 [] (array_of u k) → length xs ≡ m * product (shape_val closed k ++ []) → Each (λ x. HasCell (defs_only D) x u) xs
        → Each (λ A. HasTerm (defs_only D) (array_term typed_rules u A) (array_of u (then_shape (numbers []) k))) (each (array (shape_val closed k ++ [])) (runs m (product (shape_val closed k ++ [])) xs))
    items_have u k m xs wu l g =
        each_of (λ r. (length r ≡ product (shape_val closed k ++ [])) × Each (λ x. HasCell (defs_only D) x u) r) (λ A. HasTerm (defs_only D) (array_term typed_rules u A) (array_of u (then_shape (numbers []) k)))
        (array (shape_val closed k ++ [])) (runs m (product (shape_val closed k ++ [])) xs) (λ r h. item_has u k (array (shape_val closed k ++ []) r) wu (append-nil (shape_val closed k)) h.0 h.1)
        (each_run (λ x. HasCell (defs_only D) x u) m (product (shape_val closed k ++ [])) xs l g)

    -- ---- reduce

    pub rule_reduce : (u : Ty) (i k : Index) → IsAtomType (defs_only D) u → var_at (u ∷ []) (i ∷ k ∷ []) 0 ≡ u → PrimHas (defs_only D) (prim_type p.Reduce) (Some (u ∷ [])) (Some (i ∷ k ∷ [])) Fn
        → Good D note (Some (u ∷ [])) (Some (i ∷ k ∷ [])) b c w n (delta R p.Reduce (each closed_value (i ∷ k ∷ [])) (arrays (term_items es)))
    rule_reduce u i k wu path h =
        with_args D (scalar (function (array_of u k ∷ array_of u k ∷ []) (array_of u k)) ∷ with_dims u (total (Num no_span 1 ∷ i ∷ []) ∷ []) k ∷ []) es ws (λ es. Ok (of_arrays R (λ f items. folds R f.atoms None items) (arrays es)))
        (subst (λ a. AllSame (ty_list (scalar (function (array_of a k ∷ array_of a k ∷ []) (array_of a k)) ∷ with_dims a (total (Num no_span 1 ∷ i ∷ []) ∷ []) k ∷ [])) ws) path h.2.1.1.0) he ve (λ e t v g s e' t' v' g' s'.
        let wk : IsWellFormed 0 [] (array_of u k) = (wu.0, h.2.0.1.0, wu.1) in
        let F = function (array_of u k ∷ array_of u k ∷ []) (array_of u k) in
        let f = fits_arg D e t F (vector []) F v g s (same_refl F) ((wk, (wk, tt)), wk) in
        let f' = fits_arg D e' t' u (joined_shape (vector (total (Num no_span 1 ∷ i ∷ []) ∷ []) ∷ k ∷ [])) u v' g' s' (same_refl u) wu.1 in
        one_atom D (λ x. HasCell (defs_only D) x F) (λ xs. Ok (folds R xs None (arrayed D e'))) (atoms_of typed_rules e) (f.count ∙ ap product f.dims) f.atoms (λ x hx.
        leading_good D note (Some (u ∷ [])) (Some (i ∷ k ∷ [])) b c w n (arrayed D e') m S (λ n s xs. elim (nat_le n (2 ^ 24)) [ true ↦ Folds x None (each (array s) (runs n (product s) xs)) | false ↦ Traps trap.Size ]) f'.dims
        (by x hx wk (atoms_of typed_rules e') (items_have u k m (atoms_of typed_rules e') wk (f'.count ∙ ap product f'.dims) f'.atoms) (nat_le m (2 ^ 24)))))
      where
        Ok : Answer (Cell typed) → Type 0
        Ok a = Good D note (Some (u ∷ [])) (Some (i ∷ k ∷ [])) b c w n a

        S : List ℕ
        S = shape_val closed k ++ []

        m : ℕ
        m = 1 + (dim_val closed i + 0)

        same : Same (array_of u k) (Arr no_span b c)
        same = subst (λ a. Same (array_of a k) (Arr no_span b c)) path h.2.1.1.1

        some_item : (x : Cell typed) → HasCell (defs_only D) x (function (array_of u k ∷ array_of u k ∷ []) (array_of u k)) → IsWellFormed 0 [] (array_of u k) → (As : List (Arrayed (Cell typed))) → (length As ≡ 0 → ⊥)
            → Each (λ A. HasTerm (defs_only D) (array_term typed_rules u A) (array_of u (then_shape (numbers []) k))) As → Ok (Folds x None As)
        some_item x hx wk [] z g = absurd (z refl)
        some_item x hx wk (A ∷ As) z g =
            as_result _ u k same (fold_has x u u k k hx wk wk (array_term typed_rules u A) (each (array_term typed_rules u) As) g.0 (each_of _ (λ x. HasTerm (defs_only D) x (array_of u (then_shape (numbers []) k))) (array_term typed_rules u) As (λ A h. h) g.1))

        by : (x : Cell typed) → HasCell (defs_only D) x (function (array_of u k ∷ array_of u k ∷ []) (array_of u k)) → IsWellFormed 0 [] (array_of u k) → (xs : List (Cell typed))
            → Each (λ A. HasTerm (defs_only D) (array_term typed_rules u A) (array_of u (then_shape (numbers []) k))) (each (array S) (runs m (product S) xs))
            → (t : Bool) → Ok (elim t as (λ t. Answer (Cell typed)) [ true ↦ Folds x None (each (array S) (runs m (product S) xs)) | false ↦ Traps trap.Size ])
        by x hx wk xs g true =
            some_item x hx wk (each (array S) (runs m (product S) xs)) (λ z. let l = length_of_each (array S) (runs m (product S) xs) ∙ run_count m (product S) xs in omega arith) g
        by x hx wk xs g false = tt

    -- ---- fold

    pub rule_fold : (t u : Ty) (i k r : Index) → IsAtomType (defs_only D) t → IsAtomType (defs_only D) u → var_at (t ∷ u ∷ []) (i ∷ k ∷ r ∷ []) 1 ≡ t → var_at (t ∷ u ∷ []) (i ∷ k ∷ r ∷ []) 0 ≡ u
        → PrimHas (defs_only D) (prim_type p.Fold) (Some (t ∷ u ∷ [])) (Some (i ∷ k ∷ r ∷ [])) Fn
        → Good D note (Some (t ∷ u ∷ [])) (Some (i ∷ k ∷ r ∷ [])) b c w n (delta R p.Fold (each closed_value (i ∷ k ∷ r ∷ [])) (arrays (term_items es)))
    rule_fold t u i k r wt wu pt pu h =
        with_args D (scalar (function (array_of u r ∷ array_of t k ∷ []) (array_of u r)) ∷ array_of u r ∷ with_dims t (i ∷ []) k ∷ []) es ws (λ es. Ok (of_three R (λ f z items. folds R f.atoms (Some z) items) (arrays es)))
        (subst (λ a. AllSame (ty_list (scalar (function (array_of u r ∷ array_of a k ∷ []) (array_of u r)) ∷ array_of u r ∷ with_dims a (i ∷ []) k ∷ [])) ws) pt
        (subst (λ a. AllSame (ty_list (scalar (function (array_of a r ∷ array_of (var_at (t ∷ u ∷ []) (i ∷ k ∷ r ∷ []) 1) k ∷ []) (array_of a r)) ∷ array_of a r ∷ with_dims (var_at (t ∷ u ∷ []) (i ∷ k ∷ r ∷ []) 1) (i ∷ []) k ∷ [])) ws) pu h.2.1.1.0))
        he ve (λ e t1 v g s e' t2 v' g' s' e'' t3 v'' g'' s''.
        let wk : IsWellFormed 0 [] (array_of t k) = (wt.0, h.2.0.1.0, wt.1) in
        let wr : IsWellFormed 0 [] (array_of u r) = (wu.0, h.2.0.1.1.0, wu.1) in
        let F = function (array_of u r ∷ array_of t k ∷ []) (array_of u r) in
        let f = fits_arg D e t1 F (vector []) F v g s (same_refl F) ((wr, (wk, tt)), wr) in
        let f' = fits_arg D e' t2 u r u v' g' s' (same_refl u) wu.1 in
        let f'' = fits_arg D e'' t3 t (joined_shape (vector (i ∷ []) ∷ k ∷ [])) t v'' g'' s'' (same_refl t) wt.1 in
        one_atom D (λ x. HasCell (defs_only D) x F) (λ xs. Ok (folds R xs (Some (arrayed D e')) (arrayed D e''))) (atoms_of typed_rules e) (f.count ∙ ap product f.dims) f.atoms (λ x hx.
        leading_good D note (Some (t ∷ u ∷ [])) (Some (i ∷ k ∷ r ∷ [])) b c w n (arrayed D e'') m S (λ n s xs. elim (nat_le n (2 ^ 24)) [ true ↦ Folds x (Some (arrayed D e')) (each (array s) (runs n (product s) xs)) | false ↦ Traps trap.Size ]) f''.dims
        (by x hx wk wr (arrayed D e') (item_has u r (arrayed D e') wr f'.dims f'.count f'.atoms) (atoms_of typed_rules e'') (items_have t k m (atoms_of typed_rules e'') wk (f''.count ∙ ap product f''.dims) f''.atoms) (nat_le m (2 ^ 24)))))
      where
        Ok : Answer (Cell typed) → Type 0
        Ok a = Good D note (Some (t ∷ u ∷ [])) (Some (i ∷ k ∷ r ∷ [])) b c w n a

        S : List ℕ
        S = shape_val closed k ++ []

        m : ℕ
        m = dim_val closed i

        same : Same (array_of u r) (Arr no_span b c)
        same = subst (λ a. Same (array_of a r) (Arr no_span b c)) pu h.2.1.1.1

        by : (x : Cell typed) → HasCell (defs_only D) x (function (array_of u r ∷ array_of t k ∷ []) (array_of u r)) → IsWellFormed 0 [] (array_of t k) → IsWellFormed 0 [] (array_of u r)
            → (z : Arrayed (Cell typed)) → HasTerm (defs_only D) (array_term typed_rules u z) (array_of u (then_shape (numbers []) r)) → (xs : List (Cell typed))
            → Each (λ A. HasTerm (defs_only D) (array_term typed_rules t A) (array_of t (then_shape (numbers []) k))) (each (array S) (runs m (product S) xs))
            → (q : Bool) → Ok (elim q as (λ q. Answer (Cell typed)) [ true ↦ Folds x (Some z) (each (array S) (runs m (product S) xs)) | false ↦ Traps trap.Size ])
        by x hx wk wr z hz xs g true =
            as_result _ u r same
            (fold_has x u t r k hx wr wk (array_term typed_rules u z) (each (array_term typed_rules t) (each (array S) (runs m (product S) xs))) hz
            (each_of _ (λ x. HasTerm (defs_only D) x (array_of t (then_shape (numbers []) k))) (array_term typed_rules t) (each (array S) (runs m (product S) xs)) (λ A h. h) g))
        by x hx wk wr z hz xs g false = tt

    -- ---- transpose

    pub rule_transpose : (vs : List Ty) (i j k : Index) → PrimHas (defs_only D) (prim_type p.Transpose) (Some vs) (Some (i ∷ j ∷ k ∷ [])) Fn
        → Good D note (Some vs) (Some (i ∷ j ∷ k ∷ [])) b c w n (delta R p.Transpose (each closed_value (i ∷ j ∷ k ∷ [])) (arrays (term_items es)))
    rule_transpose vs i j k h =
        with_args D (with_dims (var_at vs (i ∷ j ∷ k ∷ []) 0) (i ∷ j ∷ []) k ∷ []) es ws (λ es. Ok (of_array R (transposed R) (arrays es))) h.2.1.1.0 he ve (λ e u v g s.
        let same = h.2.1.1.1 in
        let f = fits_arg D e u (var_at vs (i ∷ j ∷ k ∷ []) 0) (joined_shape (vector (i ∷ j ∷ []) ∷ k ∷ [])) b v g s same.0 w.2 in
        leading_good D note (Some vs) (Some (i ∷ j ∷ k ∷ [])) b c w n (arrayed D e) m (l ∷ S) (λ m ns xs. by_leading R ns xs (λ n s ys. Gives (array (n ∷ m ∷ s) (joined (each joined (columns n (each (runs n (product s)) (runs m (n * product s) ys)))))))) f.dims
        (at (atoms_of typed_rules e) (f.count ∙ ap product f.dims) f.atoms (same.1 closed)))
      where
        Ok : Answer (Cell typed) → Type 0
        Ok a = Good D note (Some vs) (Some (i ∷ j ∷ k ∷ [])) b c w n a

        S : List ℕ
        S = shape_val closed k ++ []

        m : ℕ
        m = dim_val closed i

        l : ℕ
        l = dim_val closed j

        P : ℕ
        P = product S

        Holds : Cell typed → Type 0
        Holds x = HasCell (defs_only D) x b

        Part : List (Cell typed) → Type 0
        Part r = (length r ≡ P) × Each Holds r

        at : (xs : List (Cell typed)) → length xs ≡ m * (l * P) → Each Holds xs → l ∷ m ∷ S ≡ shape_val closed c → Ok (Gives (array (l ∷ m ∷ S) (joined (each joined (columns l (each (runs l P) (runs m (l * P) xs)))))))
        at xs e g d =
            gives_good D note (Some vs) (Some (i ∷ j ∷ k ∷ [])) b c w n (array (l ∷ m ∷ S) (joined (each joined cols)))
            (record {
              dims = d;
              count = joined_count (m * P) (each joined cols) (each_with (λ r. (length r ≡ m * P) × Each Holds r) (λ r. length r ≡ m * P) (each joined cols) (λ r h. h.0) whole)
                  ∙ ap (λ z. z * (m * P)) (length_of_each joined cols ∙ ok.0);
              atoms = each_joined Holds (each joined cols) (each_with (λ r. (length r ≡ m * P) × Each Holds r) (Each Holds) (each joined cols) (λ r h. h.1) whole);
            })
          where
            rows : List (List (List (Cell typed)))
            rows = each (runs l P) (runs m (l * P) xs)

            cols : List (List (List (Cell typed)))
            cols = columns l rows

            ok : (length cols ≡ l) × Each (λ c. (length c ≡ m) × Each Part c) cols
            ok =
                columns_ok Part l m rows (length_of_each (runs l P) (runs m (l * P) xs) ∙ run_count m (l * P) xs)
                (each_of (λ r. (length r ≡ l * P) × Each Holds r) (λ r. (length r ≡ l) × Each Part r) (runs l P) (runs m (l * P) xs) (λ r h. (run_count l P r, each_run Holds l P r h.0 h.1)) (each_run Holds m (l * P) xs e g))

            whole : Each (λ r. (length r ≡ m * P) × Each Holds r) (each joined cols)
            whole =
                each_of (λ c. (length c ≡ m) × Each Part c) (λ r. (length r ≡ m * P) × Each Holds r) joined cols
                (λ c h. (joined_count P c (each_with Part (λ r. length r ≡ P) c (λ r g. g.0) h.1) ∙ ap (λ z. z * P) h.0, each_joined Holds c (each_with Part (Each Holds) c (λ r g. g.1) h.1))) ok.1
