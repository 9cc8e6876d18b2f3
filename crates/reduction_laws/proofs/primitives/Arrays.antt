-- Primitives that give arrays of their argument's atoms keep types.
use Rattle.std.proofs.Common.{◌≡◌, refl, sym, ◌∙◌, ap, subst, ℕ, zero, suc, ◌+◌, ◌-◌, ◌*◌, ◌<◌, ◌≤◌, ℤ, pos, negsuc, arith, List, [], ◌∷◌, ◌++◌, length, take, drop, replicate, Some, Bool, true, false}
use Rattle.std.specs.Prelude.{nat_lt, if◌then◌else◌}
use Rattle.std.proofs.lemmas.Bool.Decides.{nat_tests}
use Rattle.std.proofs.lemmas.List.{length-append, length-take-le, length-drop, append-nil}
use Rattle.core_syntax.specs.declared.index.Sort.TheVariants as sort
use Rattle.core_syntax.specs.declared.primitive.Primitive.TheVariants as p
use Rattle.core_syntax.specs.declared.errors.TrapKind.TheVariants as trap
use Rattle.core_syntax.specs.Syntax.{Index, Num, Var, Sum, Dims, Join, Ty, Fun, Arr, Tys, no_span}
use Rattle.core_syntax.specs.Lists.{onto, each, Each, joined, product}
use Rattle.core_syntax.specs.Fits.{forms}
use Rattle.core_syntax.specs.Sorts.{IsSorted}
use Rattle.core_syntax.specs.Kinds.{IsWellFormed}
use Rattle.core_syntax.specs.Value.{dim_val, shape_val}
use Rattle.core_syntax.specs.TypeEqual.{Same}
use Rattle.core_syntax.specs.Subst.{kept, put_all, indices_under, ty_put, fates_under_index, with_indices}
use Rattle.core_syntax.specs.Prims.{prim_type, scalar, array_of, with_dims, int_ty, type_var}
use Rattle.core_syntax.specs.Nodes.{vector, total, joined_shape}
use Rattle.core_syntax.specs.Typing.{defs_only}
use Rattle.core_syntax.specs.Terms.{IndexValue, Terms, Cell, TInt, term_items}
use Rattle.core_syntax.specs.Arrays.{Arrayed, array, runs}
use Rattle.core_syntax.specs.Answer.{AtomRules, Answer, Gives, Traps}
use Rattle.core_syntax.specs.Delta.{number_at, counting, gives_formed, leading, appended, reversed, taken, dropped, copied, length_of, positions_of, of_array, of_arrays, of_three, cell_or, cell_or_at, cell_or_by, index_or, delta, gives_int}
use Rattle.core_syntax.specs.Rules.{dims_of, atoms_of, atom_rules}
use Rattle.core_syntax.specs.Typed.{typed, typed_rules, TypedTerm, closed, closed_value}
use Rattle.core_syntax.specs.TermTyping.{Notes, PrimHas, HasCell, HasTerm}
use Rattle.core_syntax.proofs.Equality.{same_refl}
use Rattle.reduction_laws.proofs.steps.Counts.{each_append, each_take, each_drop, each_joined, each_replicate, each_with, each_run, run_count, joined_count, replicate_count}
use Rattle.reduction_laws.proofs.putting.Binders.{length-reversed}
use Rattle.reduction_laws.proofs.putting.ClosedValues.{each_reversed}
use Rattle.reduction_laws.proofs.steps.Scalars.{PairsHave}
use Rattle.reduction_laws.proofs.primitives.Args.{int_look, Fits, arrayed, fits_arg, with_args, one_atom, Good, gives_good, formed_good, int_good, leading_good}
use Rattle.reduction_laws.proofs.steps.Parts.{IsArr, nowhere, type_formed}
use Rattle.reduction_laws.proofs.steps.Moves.{length_of_each}

-- the number of a closed index argument
pub number_of : (i : Index) (vs : List IndexValue) → IsSorted [] sort.Dim i → number_at (closed_value i ∷ vs) 0 ≡ dim_val closed i
number_of (Num at n) vs h = refl
number_of (Var at k) vs h = absurd (nowhere k sort.Dim h)
number_of (Sum at is) vs h = refl
number_of (Dims at is) vs h = absurd (let e = h.0 in cc)
number_of (Join at is) vs h = absurd (let e = h.0 in cc)

pub number_next : (i : Index) (vs : List IndexValue) → number_at (closed_value i ∷ vs) 1 ≡ number_at vs 0
number_next (Num at n) vs = refl
number_next (Var at k) vs = refl
number_next (Sum at is) vs = refl
number_next (Dims at is) vs = refl
number_next (Join at is) vs = refl

room : (k m P : ℕ) → k < m → P ≤ m * P - k * P
room k m P lt =
    let d = m - suc k in
    let e : m * P ≡ (suc k + d) * P = ap (λ z. z * P) (let s : m ≡ suc k + d = omega arith in s) in
    omega arith

pub counted : (k n : ℕ) → length (counting k n) ≡ n
counted k zero = refl
counted k (suc n) = ap suc (counted (suc k) n)

module _ (D : List Ty) (ws : Tys) (b : Ty) (c : Index) (es : Terms typed) (note : Ty) (vs : List Ty) (ks : List Index) (w : IsWellFormed 0 [] (Arr no_span b c)) (ve : Each IsArr (term_items es)) (he : PairsHave D es ws)
    (n : Notes (defs_only D) (Arr no_span b c) note) where
  abbrev Ok : Answer (Cell typed) → Type 0
  Ok a = Good D note (Some vs) (Some ks) b c w n a

  abbrev R : AtomRules (Cell typed)
  R = atom_rules typed_rules note

  abbrev arrays : List TypedTerm → List (Arrayed (Cell typed))
  arrays es = each (arrayed D) es

  abbrev Holds : Cell typed → Type 0
  Holds x = HasCell (defs_only D) x b

  -- the type that stands for the first type variable
  abbrev atom_at : List Index → Ty
  atom_at is = with_indices is (ty_put (indices_under (length is) kept) (fates_under_index (length is) (put_all vs)) (type_var 0))

  -- arrays of the type variable's type with a leading dim
  abbrev led : List Index → Index → Index → Ty
  led is i k = with_dims (atom_at is) (i ∷ []) k

  abbrev Fn : Ty
  Fn = Fun no_span ws (Arr no_span b c)

  pub rule_append : (i j k : Index) → PrimHas (defs_only D) (prim_type p.Append) (Some vs) (Some (i ∷ j ∷ k ∷ [])) Fn → Ok (delta R p.Append (each closed_value (i ∷ j ∷ k ∷ [])) (arrays (term_items es)))
  rule_append i j k h =
      with_args D (led (i ∷ j ∷ k ∷ []) i k ∷ led (i ∷ j ∷ k ∷ []) j k ∷ []) es ws (λ es. Ok (of_arrays R (appended R) (arrays es))) h.2.1.1.0 he ve (λ e u v g s e' u' v' g' s'.
      let a = atom_at (i ∷ j ∷ k ∷ []) in
      let same = h.2.1.1.1 in
      let f = fits_arg D e u a (joined_shape (vector (i ∷ []) ∷ k ∷ [])) b v g s same.0 w.2 in
      let f' = fits_arg D e' u' a (joined_shape (vector (j ∷ []) ∷ k ∷ [])) b v' g' s' same.0 w.2 in
      let S = shape_val closed k ++ [] in
      let P = product S in
      let ex : length (atoms_of typed_rules e) ≡ dim_val closed i * P = f.count ∙ ap product f.dims in
      let ey : length (atoms_of typed_rules e') ≡ dim_val closed j * P = f'.count ∙ ap product f'.dims in
      leading_good D note (Some vs) (Some ks) b c w n (arrayed D e) (dim_val closed i) S (λ m s xs. leading R (arrayed D e') (λ n s' ys. gives_formed R ((m + n) ∷ s) (xs ++ ys))) f.dims
      (leading_good D note (Some vs) (Some ks) b c w n (arrayed D e') (dim_val closed j) S (λ n s' ys. gives_formed R ((dim_val closed i + n) ∷ S) (atoms_of typed_rules e ++ ys)) f'.dims
      (formed_good D note (Some vs) (Some ks) b c w n ((dim_val closed i + dim_val closed j) ∷ S) (atoms_of typed_rules e ++ atoms_of typed_rules e')
      (record {
        dims = ap (λ z. z ∷ S) (let z : dim_val closed i + dim_val closed j ≡ dim_val closed i + (dim_val closed j + 0) = omega arith in z) ∙ same.1 closed;
        count = length-append (atoms_of typed_rules e) (atoms_of typed_rules e') ∙ (let z : length (atoms_of typed_rules e) + length (atoms_of typed_rules e') ≡ (dim_val closed i + dim_val closed j) * P = omega arith in z);
        atoms = each_append Holds (atoms_of typed_rules e) (atoms_of typed_rules e') f.atoms f'.atoms;
      }))))

  pub rule_reverse : (i k : Index) → PrimHas (defs_only D) (prim_type p.Reverse) (Some vs) (Some (i ∷ k ∷ [])) Fn → Ok (delta R p.Reverse (each closed_value (i ∷ k ∷ [])) (arrays (term_items es)))
  rule_reverse i k h =
      with_args D (led (i ∷ k ∷ []) i k ∷ []) es ws (λ es. Ok (of_array R (reversed R) (arrays es))) h.2.1.1.0 he ve (λ e u v g s.
      let same = h.2.1.1.1 in
      let f = fits_arg D e u (atom_at (i ∷ k ∷ [])) (joined_shape (vector (i ∷ []) ∷ k ∷ [])) b v g s same.0 w.2 in
      let S = shape_val closed k ++ [] in
      let P = product S in
      let m = dim_val closed i in
      let xs = atoms_of typed_rules e in
      let Part : List (Cell typed) → Type 0 = (λ r. (length r ≡ P) × Each Holds r) in
      let parts : Each Part (onto (runs m P xs) []) = each_reversed Part (runs m P xs) [] (each_run Holds m P xs (f.count ∙ ap product f.dims) f.atoms) tt in
      leading_good D note (Some vs) (Some ks) b c w n (arrayed D e) m S (λ m s xs. Gives (array (m ∷ s) (joined (onto (runs m (product s) xs) [])))) f.dims
      (gives_good D note (Some vs) (Some ks) b c w n (array (m ∷ S) (joined (onto (runs m P xs) [])))
      (record {
        dims = same.1 closed;
        count = joined_count P (onto (runs m P xs) []) (each_with Part (λ r. length r ≡ P) (onto (runs m P xs) []) (λ r g. g.0) parts) ∙ ap (λ z. z * P) (length-reversed (runs m P xs) ∙ run_count m P xs);
        atoms = each_joined Holds (onto (runs m P xs) []) (each_with Part (Each Holds) (onto (runs m P xs) []) (λ r g. g.1) parts);
      })))

  pub rule_take : (i j k : Index) → PrimHas (defs_only D) (prim_type p.Take) (Some vs) (Some (i ∷ j ∷ k ∷ [])) Fn → Ok (delta R p.Take (each closed_value (i ∷ j ∷ k ∷ [])) (arrays (term_items es)))
  rule_take i j k h =
      with_args D (led (i ∷ j ∷ k ∷ []) (total (i ∷ j ∷ [])) k ∷ []) es ws (λ es. Ok (of_array R (taken R (number_at (each closed_value (i ∷ j ∷ k ∷ [])) 0)) (arrays es))) h.2.1.1.0 he ve (λ e u v g s.
      let same = h.2.1.1.1 in
      let f = fits_arg D e u (atom_at (i ∷ j ∷ k ∷ [])) (joined_shape (vector (total (i ∷ j ∷ []) ∷ []) ∷ k ∷ [])) b v g s same.0 w.2 in
      let S = shape_val closed k ++ [] in
      let P = product S in
      let m = dim_val closed i in
      let xs = atoms_of typed_rules e in
      let whole : length xs ≡ (m + (dim_val closed j + 0)) * P = f.count ∙ ap product f.dims in
      subst (λ N. Ok (of_array R (taken R N) (arrays (e ∷ [])))) (sym (number_of i (each closed_value (j ∷ k ∷ [])) h.2.0.0))
      (leading_good D note (Some vs) (Some ks) b c w n (arrayed D e) (m + (dim_val closed j + 0)) S (λ k s xs. Gives (array (m ∷ s) (take (m * product s) xs))) f.dims
      (gives_good D note (Some vs) (Some ks) b c w n (array (m ∷ S) (take (m * P) xs))
      (record {
        dims = same.1 closed;
        count = length-take-le (m * P) xs (let le : m * P ≤ length xs = omega arith in le);
        atoms = each_take Holds (m * P) xs f.atoms;
      }))))

  pub rule_drop : (i j k : Index) → PrimHas (defs_only D) (prim_type p.Drop) (Some vs) (Some (i ∷ j ∷ k ∷ [])) Fn → Ok (delta R p.Drop (each closed_value (i ∷ j ∷ k ∷ [])) (arrays (term_items es)))
  rule_drop i j k h =
      with_args D (led (i ∷ j ∷ k ∷ []) (total (i ∷ j ∷ [])) k ∷ []) es ws (λ es. Ok (of_array R (dropped R (number_at (each closed_value (i ∷ j ∷ k ∷ [])) 0) (number_at (each closed_value (i ∷ j ∷ k ∷ [])) 1)) (arrays es))) h.2.1.1.0 he ve (λ e u v g s.
      let same = h.2.1.1.1 in
      let f = fits_arg D e u (atom_at (i ∷ j ∷ k ∷ [])) (joined_shape (vector (total (i ∷ j ∷ []) ∷ []) ∷ k ∷ [])) b v g s same.0 w.2 in
      let S = shape_val closed k ++ [] in
      let P = product S in
      let m = dim_val closed i in
      let l = dim_val closed j in
      let xs = atoms_of typed_rules e in
      let whole : length xs ≡ (m + (l + 0)) * P = f.count ∙ ap product f.dims in
      subst (λ N. Ok (of_array R (dropped R N (number_at (each closed_value (i ∷ j ∷ k ∷ [])) 1)) (arrays (e ∷ [])))) (sym (number_of i (each closed_value (j ∷ k ∷ [])) h.2.0.0))
      (subst (λ N. Ok (of_array R (dropped R m N) (arrays (e ∷ [])))) (sym (number_next i (each closed_value (j ∷ k ∷ [])) ∙ number_of j (each closed_value (k ∷ [])) h.2.0.1.0))
      (leading_good D note (Some vs) (Some ks) b c w n (arrayed D e) (m + (l + 0)) S (λ k s xs. Gives (array (l ∷ s) (drop (m * product s) xs))) f.dims
      (gives_good D note (Some vs) (Some ks) b c w n (array (l ∷ S) (drop (m * P) xs))
      (record {
        dims = same.1 closed;
        count = length-drop (m * P) xs ∙ (let z : length xs - m * P ≡ l * P = omega arith in z);
        atoms = each_drop Holds (m * P) xs f.atoms;
      })))))

  pub rule_replicate : (i k : Index) → PrimHas (defs_only D) (prim_type p.Replicate) (Some vs) (Some (i ∷ k ∷ [])) Fn → Ok (delta R p.Replicate (each closed_value (i ∷ k ∷ [])) (arrays (term_items es)))
  rule_replicate i k h =
      with_args D (array_of (atom_at (i ∷ k ∷ [])) k ∷ []) es ws (λ es. Ok (of_array R (copied R (number_at (each closed_value (i ∷ k ∷ [])) 0)) (arrays es))) h.2.1.1.0 he ve (λ e u v g s.
      subst (λ N. Ok (of_array R (copied R N) (arrays (e ∷ [])))) (sym (number_of i (each closed_value (k ∷ [])) h.2.0.0)) (copied_ok e (fits_arg D e u (atom_at (i ∷ k ∷ [])) k b v g s h.2.1.1.1.0 w.2)))
    where
      m : ℕ
      m = dim_val closed i

      copied_ok : (e : TypedTerm) → Fits D b k (arrayed D e) → Ok (copied R m (arrayed D e))
      copied_ok e f = by (forms (m ∷ dims_of typed_rules e))
        where
          by : (t : Bool) → Ok (elim t as (λ t. Answer (Cell typed)) [ true ↦ Gives (array (m ∷ dims_of typed_rules e) (joined (replicate m (atoms_of typed_rules e)))) | false ↦ Traps trap.Size ])
          by true =
              gives_good D note (Some vs) (Some ks) b c w n (array (m ∷ dims_of typed_rules e) (joined (replicate m (atoms_of typed_rules e))))
              (record {
                dims = ap (λ z. m ∷ z) (f.dims ∙ sym (append-nil (shape_val closed k))) ∙ h.2.1.1.1.1 closed;
                count = joined_count (product (dims_of typed_rules e)) (replicate m (atoms_of typed_rules e)) (each_replicate (λ r. length r ≡ product (dims_of typed_rules e)) m (atoms_of typed_rules e) f.count)
                    ∙ ap (λ z. z * product (dims_of typed_rules e)) (replicate_count m (atoms_of typed_rules e));
                atoms = each_joined Holds (replicate m (atoms_of typed_rules e)) (each_replicate (Each Holds) m (atoms_of typed_rules e) f.atoms);
              })
          by false = tt

  -- ---- numbers of an array, whose atoms are not looked at

  pub lead_dims : (is : List Index) (i k : Index) (e : TypedTerm) (u : Ty) → IsArr e → HasTerm (defs_only D) e u → Same (led is i k) u → dims_of typed_rules e ≡ dim_val closed i ∷ (shape_val closed k ++ [])
  lead_dims is i k e (Arr at a' c') v g s =
      let f = type_formed (defs_only D) e (Arr at a' c') g in
      (fits_arg D e (Arr at a' c') (atom_at is) (joined_shape (vector (i ∷ []) ∷ k ∷ [])) a' v g s s.0 f.2).dims
  lead_dims is i k e _ v g s = absurd s

  pub rule_length : (i k : Index) → PrimHas (defs_only D) (prim_type p.Length) (Some vs) (Some (i ∷ k ∷ [])) Fn → Ok (delta R p.Length (each closed_value (i ∷ k ∷ [])) (arrays (term_items es)))
  rule_length i k h =
      with_args D (led (i ∷ k ∷ []) i k ∷ []) es ws (λ es. Ok (of_array R (length_of R) (arrays es))) h.2.1.1.0 he ve (λ e u v g s.
      leading_good D note (Some vs) (Some ks) b c w n (arrayed D e) (dim_val closed i) (shape_val closed k ++ []) (λ m s xs. gives_int R (pos m)) (lead_dims (i ∷ k ∷ []) i k e u v g s)
      (int_good D note (Some vs) (Some ks) b c w n (pos (dim_val closed i)) h.2.1.1.1))

  pub rule_positions : (i k : Index) → PrimHas (defs_only D) (prim_type p.Positions) (Some vs) (Some (i ∷ k ∷ [])) Fn → Ok (delta R p.Positions (each closed_value (i ∷ k ∷ [])) (arrays (term_items es)))
  rule_positions i k h =
      with_args D (led (i ∷ k ∷ []) i k ∷ []) es ws (λ es. Ok (of_array R (positions_of R) (arrays es))) h.2.1.1.0 he ve (λ e u v g s.
      leading_good D note (Some vs) (Some ks) b c w n (arrayed D e) m (shape_val closed k ++ []) (λ m s xs. elim (forms (m ∷ [])) [ true ↦ Gives (array (m ∷ []) (each (λ k. TInt (pos k)) (counting 0 m))) | false ↦ Traps trap.Size ]) (lead_dims (i ∷ k ∷ []) i k e u v g s)
      (by (forms (m ∷ []))))
    where
      m : ℕ
      m = dim_val closed i

      ints_have : (ns : List ℕ) → Each Holds (each (λ k. TInt (pos k)) ns)
      ints_have [] = tt
      ints_have (x ∷ ns) = ((w.2, h.2.1.1.1.0), ints_have ns)

      by : (t : Bool) → Ok (elim t as (λ t. Answer (Cell typed)) [ true ↦ Gives (array (m ∷ []) (each (λ k. TInt (pos k)) (counting 0 m))) | false ↦ Traps trap.Size ])
      by true =
          gives_good D note (Some vs) (Some ks) b c w n (array (m ∷ []) (each (λ k. TInt (pos k)) (counting 0 m)))
          (record {
            dims = h.2.1.1.1.1 closed;
            count = length_of_each (λ k. TInt (pos k)) (counting 0 m) ∙ counted 0 m ∙ (let z : m ≡ m * 1 = omega arith in z);
            atoms = ints_have (counting 0 m);
          })
      by false = tt

  cell_ok : (k : Index) (m : ℕ) (A B : Arrayed (Cell typed)) → Same (array_of b k) (Arr no_span b c) → Fits D b k B → length A.atoms ≡ m * product (shape_val closed k ++ []) → Each Holds A.atoms → (z : ℤ) → Ok (cell_or R m (shape_val closed k ++ []) A.atoms B z)
  cell_ok k m A B same f count good (negsuc z) = gives_good D note (Some vs) (Some ks) b c w n B (record { dims = f.dims ∙ same.1 closed; count = f.count; atoms = f.atoms })
  cell_ok k m A B same f count good (pos z) = by (nat_lt z m) refl
    where
      S : List ℕ
      S = shape_val closed k ++ []

      by : (t : Bool) → nat_lt z m ≡ t → Ok (if t then Gives (array S (take (product S) (drop (z * product S) A.atoms))) else Gives B)
      by true e =
          let lt : z < m = grind (arith, nat_tests) in
          let le = room z m (product S) lt in
          let left : length (drop (z * product S) A.atoms) ≡ length A.atoms - z * product S = length-drop (z * product S) A.atoms in
          gives_good D note (Some vs) (Some ks) b c w n (array S (take (product S) (drop (z * product S) A.atoms)))
          (record {
            dims = append-nil (shape_val closed k) ∙ same.1 closed;
            count = length-take-le (product S) (drop (z * product S) A.atoms) (let l : product S ≤ length (drop (z * product S) A.atoms) = omega arith in l);
            atoms = each_take Holds (product S) (drop (z * product S) A.atoms) (each_drop Holds (z * product S) A.atoms good);
          })
      by false e = gives_good D note (Some vs) (Some ks) b c w n B (record { dims = f.dims ∙ same.1 closed; count = f.count; atoms = f.atoms })

  pub rule_index_or : (i k : Index) → PrimHas (defs_only D) (prim_type p.IndexOr) (Some vs) (Some (i ∷ k ∷ [])) Fn → Ok (delta R p.IndexOr (each closed_value (i ∷ k ∷ [])) (arrays (term_items es)))
  rule_index_or i k h =
      with_args D (led (i ∷ k ∷ []) i k ∷ scalar int_ty ∷ array_of (atom_at (i ∷ k ∷ [])) k ∷ []) es ws (λ es. Ok (of_three R (index_or R) (arrays es))) h.2.1.1.0 he ve (λ e u v g s e' u' v' g' s' e'' u'' v'' g'' s''.
      let a = atom_at (i ∷ k ∷ []) in
      let same = h.2.1.1.1 in
      let f = fits_arg D e u a (joined_shape (vector (i ∷ []) ∷ k ∷ [])) b v g s same.0 w.2 in
      let f' = fits_arg D e' u' int_ty (vector []) int_ty v' g' s' refl tt in
      let f'' = fits_arg D e'' u'' a k b v'' g'' s'' same.0 w.2 in
      let S = shape_val closed k ++ [] in
      let m = dim_val closed i in
      let xs = atoms_of typed_rules e in
      leading_good D note (Some vs) (Some ks) b c w n (arrayed D e) m S (λ m s xs. cell_or_by R m s xs (arrayed D e'') (atoms_of typed_rules e')) f.dims
      (one_atom D (λ x. HasCell (defs_only D) x int_ty) (λ ys. Ok (cell_or_by R m S xs (arrayed D e'') ys)) (atoms_of typed_rules e') (f'.count ∙ ap product f'.dims) f'.atoms
      (λ x hx. int_look D (λ l. Ok (cell_or_at R m S xs (arrayed D e'') l)) x hx (λ z. cell_ok k m (arrayed D e) (arrayed D e'') (same_refl b, same.1) f'' (f.count ∙ ap product f.dims) f.atoms z))))
