-- Primitives that give boxes keep types.
use Rattle.std.proofs.Common.{◌≡◌, refl, sym, ◌∙◌, ap, subst, ℕ, zero, suc, ◌*◌, pos, arith, List, [], ◌∷◌, ◌++◌, length, Option, Some, None, Bool, true, false}
use Rattle.std.specs.Prelude.{slice_index_or, ◌%◌}
use Rattle.core_syntax.specs.declared.index.Sort.{Sort}
use Rattle.core_syntax.specs.declared.index.Sort.TheVariants as sort
use Rattle.core_syntax.specs.declared.primitive.Primitive.TheVariants as p
use Rattle.core_syntax.specs.declared.errors.TrapKind.TheVariants as trap
use Rattle.core_syntax.specs.Syntax.{Index, Num, Ty, Fun, Sigma, Arr, Tys, no_span}
use Rattle.core_syntax.specs.Lists.{onto, each, Each, EachTwo, joined, product}
use Rattle.core_syntax.specs.Fits.{forms}
use Rattle.core_syntax.specs.Sorts.{IsSorted}
use Rattle.core_syntax.specs.Kinds.{IsWellFormed}
use Rattle.core_syntax.specs.Value.{shape_val, dim_val}
use Rattle.core_syntax.specs.TypeEqual.{Same}
use Rattle.core_syntax.specs.Subst.{kept, put_first, put_all, same, index_under, index_put, indices_under, ty_put, ty_under_index, fates_under_index, with_indices}
use Rattle.core_syntax.specs.Prims.{prim_type, scalar, sigma, array_of, with_dims, int_ty, bool_ty, type_var}
use Rattle.core_syntax.specs.Nodes.{vector, joined_shape, var}
use Rattle.core_syntax.specs.Typing.{numbers, defs_only, IsAtomType}
use Rattle.core_syntax.specs.Terms.{IndexValue, DimValue, ShapeValue, Terms, Cell, TInt, TBoxed, term_items}
use Rattle.core_syntax.specs.Arrays.{Arrayed, array, single, runs}
use Rattle.core_syntax.specs.Answer.{Look, ABool, AtomRules, Answer, Gives, Traps}
use Rattle.core_syntax.specs.Delta.{counting, asked, gives_box, iota, reshaped, raveled, masked, keep_if, filtered, of_array, of_arrays, of_three, delta}
use Rattle.core_syntax.specs.Rules.{atoms_of, look, atom_rules, array_term}
use Rattle.core_syntax.specs.Typed.{typed, typed_rules, TypedTerm, closed, closed_value, value_index, atom_type}
use Rattle.core_syntax.specs.TermTyping.{Notes, PrimHas, HasTerm, HasCell}
use Rattle.core_syntax.proofs.Equality.{same_refl, same_sym, same_trans, same-put, same_shape-put}
use Rattle.reduction_laws.proofs.putting.TermSubst.{index_kept, ty_kept}
use Rattle.reduction_laws.proofs.steps.Counts.{each_joined, each_with, each_run, joined_count}
use Rattle.reduction_laws.proofs.putting.Indices.{index_put_renamed}
use Rattle.reduction_laws.proofs.putting.Types.{ty_put_renamed, ty_under_index_put}
use Rattle.reduction_laws.proofs.putting.Formed.{kind_put}
use Rattle.reduction_laws.proofs.steps.Bodies.{DefsClosed, with_formed, none_formed}
use Rattle.reduction_laws.proofs.steps.Scalars.{PairsHave}
use Rattle.reduction_laws.proofs.primitives.Args.{arrayed, fits_arg, with_args, one_atom, Good, single_good, leading_good}
use Rattle.reduction_laws.proofs.primitives.Arrays.{counted}
use Rattle.reduction_laws.proofs.steps.Parts.{IsArr, array_has, cell_same, numbers_val, numbers_sorted, fits, type_formed}
use Rattle.reduction_laws.proofs.steps.Moves.{length_of_each}

-- a type moved under one index binder, with an index in its place
pub under_then : (j : Index) (a : Ty) → with_indices (j ∷ []) (ty_under_index a) ≡ a
under_then j a = ty_put_renamed (put_first (j ∷ [])) kept suc same a ∙ ty_kept a

pub index_under_then : (j k : Index) → index_put (put_first (j ∷ [])) (index_under k) ≡ k
index_under_then j k = index_put_renamed (put_first (j ∷ [])) suc k ∙ index_kept k

module _ (D : List Ty) (dc : DefsClosed D) (ws : Tys) (b : Ty) (c : Index) (es : Terms typed) (note : Ty) (us : Option (List Ty)) (ks : List Index) (w : IsWellFormed 0 [] (Arr no_span b c)) (ve : Each IsArr (term_items es)) (he : PairsHave D es ws)
    (n : Notes (defs_only D) (Arr no_span b c) note) where
  abbrev Ok : Answer (Cell typed) → Type 0
  Ok a = Good D note us (Some ks) b c w n a

  abbrev R : AtomRules (Cell typed)
  R = atom_rules typed_rules note

  abbrev arrays : List TypedTerm → List (Arrayed (Cell typed))
  arrays es = each (arrayed D) es

  abbrev Fn : Ty
  Fn = Fun no_span ws (Arr no_span b c)

  -- a scalar box of an array, whose content fits the body of the result's Sigma type with the index in place
  box_good : (q : Sort) (t : Ty) (i : Index) (idx : IndexValue) (A : Arrayed (Cell typed)) (a : Ty) → Same (scalar (sigma (q ∷ []) (array_of t i))) (Arr no_span b c) → IsSorted [] q (value_index idx)
      → A.dims ≡ shape_val closed (index_put (put_all (value_index idx ∷ [])) i) → length A.atoms ≡ product A.dims → Each (λ x. HasCell (defs_only D) x a) A.atoms → Same a (with_indices (value_index idx ∷ []) t)
      → Ok (gives_box R idx A)
  box_good q t i idx A a s so d l g sa = by note n
    where
      js : List Index
      js = value_index idx ∷ []

      by : (note' : Ty) → Notes (defs_only D) (Arr no_span b c) note' → Good D note us (Some ks) b c w n (Gives (single (TBoxed js (array_term typed_rules (typed_rules.box_atom (atom_type note') (idx ∷ [])) A) (atom_type note'))))
      by (Arr at b' c') k = single_good D note us (Some ks) b c w n (TBoxed js (array_term typed_rules (typed_rules.box_atom b' (idx ∷ [])) A) b') (box b' (same_trans (sigma (q ∷ []) (array_of t i)) b b' s.0 k.2.0) (k.1.0, k.1.2) (same_sym b b' k.2.0)) (sym (s.1 closed))
        where
          box : (b' : Ty) → Same (sigma (q ∷ []) (array_of t i)) b' → IsAtomType (defs_only D) b' → Same b' b → HasCell (defs_only D) (TBoxed js (array_term typed_rules (typed_rules.box_atom b' (idx ∷ [])) A) b') b
          box (Sigma at ss (Arr at' t' i')) e ok back =
              let sorts : EachTwo (IsSorted []) ss js = subst (λ ss. EachTwo (IsSorted []) ss js) e.0 (so, tt) in
              let t'_formed = with_formed D dc ss js t' sorts ok.1.2 in
              let kind = kind_put 0 0 (onto ss []) [] (put_all js) kept (none_formed 0 [] kept) t' ok.1.2 ok.1.0 in
              let inner = same_trans a (with_indices js t) (with_indices js t') sa (same-put (put_all js) kept t t' e.1.0) in
              let whole = with_formed D dc ss js (Arr at' t' i') sorts ok.1 in (
                ok,
                (
                  sorts,
                  fits D (array_term typed_rules (with_indices js t') A) (with_indices js t') (numbers A.dims) (with_indices js t') (index_put (put_all js) i') (with_indices js (Arr at' t' i'))
                      (array_has D (with_indices js t') (with_indices js t') A.dims A.atoms (kind, t'_formed) (kind, t'_formed) (same_refl (with_indices js t'))
                      (each_with (λ x. HasCell (defs_only D) x a) (λ x. HasCell (defs_only D) x (with_indices js t')) A.atoms (λ x h. cell_same (defs_only D) x a (with_indices js t') h inner t'_formed) g) l)
                      (same_refl (with_indices js t')) (numbers_val closed A.dims ∙ d ∙ same_shape-put (put_all js) i i' e.1.1 closed) (whole, same_refl (with_indices js (Arr at' t' i'))),
                ),
                (w.2, back),
              )
          box (Sigma at ss _) e ok back = absurd e.1
          box _ e ok back = absurd e
      by _ k = absurd k.2

  ints_have : (ns : List ℕ) → Each (λ x. HasCell (defs_only D) x int_ty) (each (λ k. TInt (pos k)) ns)
  ints_have [] = tt
  ints_have (x ∷ ns) = ((tt, refl), ints_have ns)

  -- ---- iota, whose type has no type variable

  pub rule_iota : (i : Index) → PrimHas (defs_only D) (prim_type p.Iota) None (Some (i ∷ [])) Fn → Ok (delta R p.Iota (each closed_value (i ∷ [])) (arrays (term_items es)))
  rule_iota i h =
      with_args D (array_of int_ty (vector (i ∷ [])) ∷ []) es ws (λ es. Ok (of_array R (λ a. iota R (asked R a.atoms)) (arrays es))) h.1.1.0 he ve (λ e u v g s. at (asked R (atoms_of typed_rules e)))
    where
      at : (q : List ℕ) → Ok (iota R q)
      at q = by (forms q)
        where
          by : (t : Bool) → Ok (elim t as (λ t. Answer (Cell typed)) [ true ↦ gives_box R (ShapeValue q) (array q (each (λ k. TInt (pos k)) (counting 0 (product q)))) | false ↦ Traps trap.Size ])
          by true =
              box_good sort.Shape int_ty (var 0) (ShapeValue q) (array q (each (λ k. TInt (pos k)) (counting 0 (product q)))) int_ty h.1.1.1 (numbers_sorted [] q) (sym (numbers_val closed q))
              (length_of_each (λ k. TInt (pos k)) (counting 0 (product q)) ∙ counted 0 (product q)) (ints_have (counting 0 (product q))) refl
          by false = tt

  -- ---- those with a type variable

  module _ (vs : List Ty) where
    abbrev atom_at : List Index → Ty
    atom_at is = with_indices is (ty_put (indices_under (length is) kept) (fates_under_index (length is) (put_all vs)) (type_var 0))

    -- the same inside a Sigma type of one index
    abbrev inner_at : List Index → Ty
    inner_at is = ty_put (indices_under 1 (put_all is)) (fates_under_index 1 kept) (ty_put (indices_under 1 (indices_under (length is) kept)) (fates_under_index 1 (fates_under_index (length is) (put_all vs))) (type_var 0))

    inner_is : (is : List Index) → inner_at is ≡ ty_under_index (atom_at is)
    inner_is is =
        ap (ty_put (indices_under 1 (put_all is)) (fates_under_index 1 kept)) (ty_under_index_put (indices_under (length is) kept) (fates_under_index (length is) (put_all vs)) (type_var 0))
        ∙ ty_under_index_put (put_all is) kept (ty_put (indices_under (length is) kept) (fates_under_index (length is) (put_all vs)) (type_var 0))

    inner_same : (is : List Index) (j : Index) (a : Ty) → Same (atom_at is) a → Same a (with_indices (j ∷ []) (inner_at is))
    inner_same is j a e = subst (Same a) (sym (ap (with_indices (j ∷ [])) (inner_is is) ∙ under_then j (atom_at is))) (same_sym (atom_at is) a e)

    pub rule_ravel : (k : Index) → PrimHas (defs_only D) (prim_type p.Ravel) (Some vs) (Some (k ∷ [])) Fn → Ok (delta R p.Ravel (each closed_value (k ∷ [])) (arrays (term_items es)))
    rule_ravel k h =
        with_args D (array_of (atom_at (k ∷ [])) k ∷ []) es ws (λ es. Ok (of_array R (raveled R) (arrays es))) h.2.1.1.0 he ve (λ e u v g s. at e u v g s)
      where
        at : (e : TypedTerm) (u : Ty) → IsArr e → HasTerm (defs_only D) e u → Same (array_of (atom_at (k ∷ [])) k) u → Ok (raveled R (arrayed D e))
        at e (Arr at' a' c') v g s =
            let f = fits_arg D e (Arr at' a' c') (atom_at (k ∷ [])) k a' v g s s.0 (type_formed (defs_only D) e (Arr at' a' c') g).2 in
            let l = length (atoms_of typed_rules e) in
            box_good sort.Dim (inner_at (k ∷ [])) (vector (var 0 ∷ [])) (DimValue l) (array (l ∷ []) (atoms_of typed_rules e)) a' h.2.1.1.1 refl refl (let z : l ≡ l * 1 = omega arith in z) f.atoms (inner_same (k ∷ []) (Num no_span l) a' s.0)
        at e _ v g s = absurd s

    each_masked : (P : List (Cell typed) → Type 0) (ms : List (Cell typed)) (bs : List (List (Cell typed))) → Each P bs → Each P (masked R ms bs)
    each_masked P [] bs h = tt
    each_masked P (m ∷ ms) [] h = tt
    each_masked P (m ∷ ms) (x ∷ bs) h = by (look typed_rules m) (masked R ms bs) (each_masked P ms bs h.1)
      where
        by : (l : Look) (rest : List (List (Cell typed))) → Each P rest → Each P (keep_if R l x rest)
        by (ABool true) rest r = (h.0, r)
        by (ABool false) rest r = r
        by _ rest r = r

    pub rule_filter : (i k : Index) → PrimHas (defs_only D) (prim_type p.Filter) (Some vs) (Some (i ∷ k ∷ [])) Fn → Ok (delta R p.Filter (each closed_value (i ∷ k ∷ [])) (arrays (term_items es)))
    rule_filter i k h =
        with_args D (array_of bool_ty (vector (i ∷ [])) ∷ with_dims (atom_at (i ∷ k ∷ [])) (i ∷ []) k ∷ []) es ws (λ es. Ok (of_arrays R (filtered R) (arrays es))) h.2.1.1.0 he ve (λ e u v g s e' u' v' g' s'. at e e' u' v' g' s')
      where
        S : List ℕ
        S = shape_val closed k ++ []

        at : (e e' : TypedTerm) (u : Ty) → IsArr e' → HasTerm (defs_only D) e' u → Same (with_dims (atom_at (i ∷ k ∷ [])) (i ∷ []) k) u → Ok (filtered R (arrayed D e) (arrayed D e'))
        at e e' (Arr at' a' c') v g s =
            let f = fits_arg D e' (Arr at' a' c') (atom_at (i ∷ k ∷ [])) (joined_shape (vector (i ∷ []) ∷ k ∷ [])) a' v g s s.0 (type_formed (defs_only D) e' (Arr at' a' c') g).2 in
            let cells = masked R (atoms_of typed_rules e) (runs (dim_val closed i) (product S) (atoms_of typed_rules e')) in
            let Part : List (Cell typed) → Type 0 = (λ r. (length r ≡ product S) × Each (λ x. HasCell (defs_only D) x a') r) in
            let good : Each Part cells = each_masked Part (atoms_of typed_rules e) (runs (dim_val closed i) (product S) (atoms_of typed_rules e')) (each_run (λ x. HasCell (defs_only D) x a') (dim_val closed i) (product S) (atoms_of typed_rules e') (f.count ∙ ap product f.dims) f.atoms) in
            leading_good D note us (Some ks) b c w n (arrayed D e') (dim_val closed i) S
            (λ m s xs. gives_box R (DimValue (length (masked R (atoms_of typed_rules e) (runs m (product s) xs)))) (array (length (masked R (atoms_of typed_rules e) (runs m (product s) xs)) ∷ s) (joined (masked R (atoms_of typed_rules e) (runs m (product s) xs))))) f.dims
            (box_good sort.Dim (inner_at (i ∷ k ∷ [])) (joined_shape (vector (var 0 ∷ []) ∷ index_under k ∷ [])) (DimValue (length cells)) (array (length cells ∷ S) (joined cells)) a' h.2.1.1.1 refl
            (ap (λ z. length cells ∷ (z ++ [])) (sym (ap (shape_val closed) (index_under_then (Num no_span (length cells)) k))))
            (joined_count (product S) cells (each_with Part (λ r. length r ≡ product S) cells (λ r g. g.0) good))
            (each_joined (λ x. HasCell (defs_only D) x a') cells (each_with Part (Each (λ x. HasCell (defs_only D) x a')) cells (λ r g. g.1) good)) (inner_same (i ∷ k ∷ []) (Num no_span (length cells)) a' s.0))
        at e e' _ v g s = absurd s

    picked : (P : Cell typed → Type 0) (xs : List (Cell typed)) (k : ℕ) (x : Cell typed) → Each P xs → P x → P (slice_index_or xs k x)
    picked P [] k x h hx = hx
    picked P (y ∷ xs) zero x h hx = h.0
    picked P (y ∷ xs) (suc k) x h hx = picked P xs k x h.1 hx

    pub rule_reshape : (i k : Index) → PrimHas (defs_only D) (prim_type p.Reshape) (Some vs) (Some (i ∷ k ∷ [])) Fn → Ok (delta R p.Reshape (each closed_value (i ∷ k ∷ [])) (arrays (term_items es)))
    rule_reshape i k h =
        with_args D (array_of int_ty (vector (i ∷ [])) ∷ array_of (atom_at (i ∷ k ∷ [])) k ∷ scalar (atom_at (i ∷ k ∷ [])) ∷ []) es ws (λ es. Ok (of_three R (λ q a fill. reshaped R (asked R q.atoms) a.atoms fill.atoms) (arrays es))) h.2.1.1.0 he ve
        (λ e u v g s e' u' v' g' s' e'' u'' v'' g'' s''. at e' e'' (asked R (atoms_of typed_rules e)) u' v' g' s' u'' v'' g'' s'')
      where
        at : (e e' : TypedTerm) (q : List ℕ) (u : Ty) → IsArr e → HasTerm (defs_only D) e u → Same (array_of (atom_at (i ∷ k ∷ [])) k) u → (u' : Ty) → IsArr e' → HasTerm (defs_only D) e' u' → Same (scalar (atom_at (i ∷ k ∷ []))) u'
            → Ok (reshaped R q (atoms_of typed_rules e) (atoms_of typed_rules e'))
        at e e' q (Arr at' a' c') v g s u' v' g' s' =
            let wa = (type_formed (defs_only D) e (Arr at' a' c') g).2 in
            let f = fits_arg D e (Arr at' a' c') (atom_at (i ∷ k ∷ [])) k a' v g s s.0 wa in
            let f' = fits_arg D e' u' (atom_at (i ∷ k ∷ [])) (vector []) a' v' g' s' s.0 wa in
            one_atom D (λ x. HasCell (defs_only D) x a') (λ ys. Ok (reshaped R q (atoms_of typed_rules e) ys)) (atoms_of typed_rules e') (f'.count ∙ ap product f'.dims) f'.atoms (λ x hx. by x hx (forms q) f.atoms)
          where
            pick : Cell typed → ℕ → Cell typed
            pick x j = slice_index_or (atoms_of typed_rules e) (j % length (atoms_of typed_rules e)) x

            picks : (x : Cell typed) → HasCell (defs_only D) x a' → Each (λ x. HasCell (defs_only D) x a') (atoms_of typed_rules e) → (ns : List ℕ) → Each (λ x. HasCell (defs_only D) x a') (each (pick x) ns)
            picks x hx ga [] = tt
            picks x hx ga (m ∷ ns) = (picked (λ x. HasCell (defs_only D) x a') (atoms_of typed_rules e) (m % length (atoms_of typed_rules e)) x ga hx, picks x hx ga ns)

            by : (x : Cell typed) → HasCell (defs_only D) x a' → (t : Bool) → Each (λ x. HasCell (defs_only D) x a') (atoms_of typed_rules e)
                → Ok (elim t as (λ t. Answer (Cell typed)) [ true ↦ gives_box R (ShapeValue q) (array q (each (pick x) (counting 0 (product q)))) | false ↦ Traps trap.Size ])
            by x hx true ga =
                box_good sort.Shape (inner_at (i ∷ k ∷ [])) (var 0) (ShapeValue q) (array q (each (pick x) (counting 0 (product q)))) a' h.2.1.1.1 (numbers_sorted [] q) (sym (numbers_val closed q))
                (length_of_each (pick x) (counting 0 (product q)) ∙ counted 0 (product q)) (picks x hx ga (counting 0 (product q))) (inner_same (i ∷ k ∷ []) (numbers q) a' s.0)
            by x hx false ga = tt
        at e e' q _ v g s u' v' g' s' = absurd s
