-- Bodies that are entered keep their types: `beta`, `t-beta`, `i-beta` and `unbox`.
use Rattle.std.proofs.Common.{◌≡◌, sym, ◌∙◌, ap, subst, ℕ, zero, suc, ◌<◌, arith, List, [], ◌∷◌, ◌++◌, length, Some}
use Rattle.std.specs.Prelude.{slice_get}
use Rattle.core_syntax.specs.declared.index.Sort.{Sort}
use Rattle.core_syntax.specs.Syntax.{Index, Ty, Arr, Tys, no_tys, more_tys, ty_list}
use Rattle.core_syntax.specs.Lists.{onto, Each, EachTwo}
use Rattle.core_syntax.specs.Sorts.{IsSorted}
use Rattle.core_syntax.specs.Kinds.{IsWellFormed}
use Rattle.core_syntax.specs.Value.{shape_val, then_shape}
use Rattle.core_syntax.specs.TypeEqual.{Same, AllSame}
use Rattle.core_syntax.specs.Subst.{Put, Fates, kept, put_first, put_all, ty_under_index, with_types, with_indices}
use Rattle.core_syntax.specs.Prims.{array_of}
use Rattle.core_syntax.specs.Typing.{Context, times, under_types, under_sorts, under_terms, IsAtomType, defs_only}
use Rattle.core_syntax.specs.Terms.{Terms, no_terms, more_terms, term_items}
use Rattle.core_syntax.specs.TermPut.{term_put}
use Rattle.core_syntax.specs.Typed.{typed, typed_rules, TypedTerm, TypedPuts, closed, put_in_ty}
use Rattle.core_syntax.specs.TermTyping.{HasTerm, TermArgsHave}
use Rattle.core_syntax.proofs.Equality.{same_sym, same_trans, same-put}
use Rattle.core_syntax.proofs.Unique.{then_val, some_is}
use Rattle.reduction_laws.proofs.putting.TermSubst.{FateHas, term_same, ty_kept, closed_under_index}
use Rattle.reduction_laws.proofs.putting.Binders.{closed_put, length-reversed}
use Rattle.reduction_laws.proofs.putting.Formed.{FatesSorted, FateFormed, FatesFormed, formed_put}
use Rattle.reduction_laws.proofs.putting.TermPuts.{has_puts}
use Rattle.reduction_laws.proofs.putting.ClosedValues.{each_reversed, values_put, values_sorted, with_values}
use Rattle.reduction_laws.proofs.steps.Parts.{type_formed, closed_shape}

nothing_at : {A : Type 0} (k : ℕ) (a : A) → slice_get (let none : List A = [] in none) k ≡ Some a → ⊥
nothing_at k a e = cc

pub two_onto : {A B : Type 0} (R : A → B → Type 0) (xs : List A) (ys : List B) (xs' : List A) (ys' : List B) → EachTwo R xs ys → EachTwo R xs' ys' → EachTwo R (onto xs xs') (onto ys ys')
two_onto R [] [] xs' ys' h k = k
two_onto R [] (y ∷ ys) xs' ys' h k = absurd h
two_onto R (x ∷ xs) [] xs' ys' h k = absurd h
two_onto R (x ∷ xs) (y ∷ ys) xs' ys' h k = two_onto R xs ys (x ∷ xs') (y ∷ ys') h.1 (h.0, k)

first_sorted : (ss : List Sort) (is : List Index) → EachTwo (IsSorted []) ss is → FatesSorted ss [] (put_first is)
first_sorted [] [] h k s e = absurd (nothing_at k s e)
first_sorted [] (i ∷ is) h k s e = absurd h
first_sorted (q ∷ ss) [] h k s e = absurd h
first_sorted (q ∷ ss) (i ∷ is) h zero s e = subst (λ s. IsSorted [] s i) (some_is q s e) h.0
first_sorted (q ∷ ss) (i ∷ is) h (suc k) s e = first_sorted ss is h.1 k s e

pub all_sorted : (ss : List Sort) (is : List Index) → EachTwo (IsSorted []) ss is → FatesSorted (onto ss []) [] (put_all is)
all_sorted ss is h = first_sorted (onto ss []) (onto is []) (two_onto (IsSorted []) ss is [] [] h tt)

first_formed : (Γ : Context) (us : List Ty) → Each (IsAtomType Γ) us → (k : ℕ) → k < length us → FateFormed Γ.types Γ.sorts (put_first us k)
first_formed Γ [] h k lt = absurd (omega arith)
first_formed Γ (u ∷ us) h zero lt = h.0
first_formed Γ (u ∷ us) h (suc k) lt = first_formed Γ us h.1 k (omega arith)

pub none_formed : (n : ℕ) (rs : List Sort) (τ : Fates Ty) → FatesFormed 0 n rs τ
none_formed n rs τ k lt = absurd (omega arith)

none_sorted : (rs : List Sort) (σ : Fates Index) → FatesSorted [] rs σ
none_sorted rs σ k s e = absurd (nothing_at k s e)

-- the type of a definition is closed
abbrev pub DefsClosed : List Ty → Type 0
DefsClosed D = (k : ℕ) (u : Ty) → slice_get D k ≡ Some u → IsWellFormed 0 [] u

module _ (D : List Ty) (dc : DefsClosed D) where
  -- a value of a closed type
  abbrev pub Filled : Ty → TypedTerm → Type 0
  Filled w v = IsWellFormed 0 [] w × HasTerm (defs_only D) v w

  first_filled : (ws : List Ty) (vs : List TypedTerm) → EachTwo Filled ws vs → (k : ℕ) (t : Ty) → slice_get ws k ≡ Some t → FateHas D [] (put_first vs k) t
  first_filled [] [] h k t e = absurd (nothing_at k t e)
  first_filled [] (v ∷ vs) h k t e = absurd h
  first_filled (w ∷ ws) [] h k t e = absurd h
  first_filled (w ∷ ws) (v ∷ vs) h zero t e = subst (λ t. FateHas D [] (Put v) t) (some_is w t e) h.0
  first_filled (w ∷ ws) (v ∷ vs) h (suc k) t e = first_filled ws vs h.1 k t e

  filled_formed : (ws : List Ty) (vs : List TypedTerm) → EachTwo Filled ws vs → (k : ℕ) (t : Ty) → slice_get ws k ≡ Some t → IsWellFormed 0 [] t
  filled_formed [] vs h k t e = absurd (nothing_at k t e)
  filled_formed (w ∷ ws) [] h k t e = absurd h
  filled_formed (w ∷ ws) (v ∷ vs) h zero t e = subst (IsWellFormed 0 []) (some_is w t e) h.0.0
  filled_formed (w ∷ ws) (v ∷ vs) h (suc k) t e = filled_formed ws vs h.1 k t e

  -- ---- `beta`

  pub body_has : (ws : List Ty) (vs : List TypedTerm) (e : TypedTerm) (r : Ty) → EachTwo Filled ws vs → HasTerm (under_terms ws (defs_only D)) e r
      → HasTerm (defs_only D) (term_put typed_rules typed_rules.put_none (put_all vs) e) r
  body_has ws vs e r h b =
      subst (HasTerm (defs_only D) (term_put typed_rules typed_rules.put_none (put_all vs) e)) (ty_kept r)
      (has_puts (under_terms ws (defs_only D)) (defs_only D) typed_rules.put_none (put_all vs)
      (record {
        defs = λ k u at. (at, dc k u at);
        sorts = none_sorted [] kept;
        types = none_formed 0 [] kept;
        terms = λ k t at. subst (FateHas D [] (put_all vs k)) (sym (ty_kept t)) (first_filled (onto ws []) (onto vs []) all k t at);
      }) e r b)
    where
      all : EachTwo Filled (onto ws []) (onto vs [])
      all = two_onto Filled ws vs [] [] h tt

  -- arguments over the frame () have the types of a function's inputs
  pub args_filled : (ws : List Ty) (es : Terms typed) (us : Tys) (cs ps : List Index) → Each (IsWellFormed 0 []) ws → AllSame (ty_list ws) us → TermArgsHave (defs_only D) es us cs ps
      → Each (λ q. shape_val closed q ≡ []) ps → EachTwo Filled ws (term_items es)
  args_filled [] no_terms no_tys [] [] w e h f = tt
  args_filled ((Arr at' b d) ∷ ws) (more_terms x es) (more_tys (Arr at a c) us) (i ∷ cs) (q ∷ ps) w e h f =
      let formed = type_formed (defs_only D) x (array_of a (then_shape q c)) h.0.0 in (
        (
          w.0,
          term_same (defs_only D) x (array_of a (then_shape q c)) (Arr at' b d) h.0.0
              (same_sym b a e.0.0, λ v. then_val v q c ∙ ap (λ z. z ++ shape_val v c) (closed_shape q formed.1.1.0 v closed ∙ f.0) ∙ sym (e.0.1 v)) w.0,
        ),
        args_filled ws es us cs ps w.1 e.1 h.1 f.1,
      )
  args_filled [] no_terms no_tys [] (q ∷ ps) w e h f = absurd h
  args_filled [] no_terms no_tys (i ∷ cs) ps w e h f = absurd h
  args_filled [] (more_terms x es) no_tys cs ps w e h f = absurd h
  args_filled [] es (more_tys u us) cs ps w e h f = absurd e
  args_filled (t ∷ ws) es no_tys cs ps w e h f = absurd e
  args_filled (t ∷ ws) no_terms (more_tys u us) cs ps w e h f = absurd h
  args_filled (t ∷ ws) (more_terms x es) (more_tys u us) [] ps w e h f = absurd h
  args_filled (t ∷ ws) (more_terms x es) (more_tys u us) (i ∷ cs) [] w e h f = absurd h
  args_filled (t ∷ ws) (more_terms x es) (more_tys (Arr at a c) us) (i ∷ cs) (q ∷ ps) w e h f = absurd e.0
  args_filled (t ∷ ws) (more_terms x es) (more_tys _ us) (i ∷ cs) (q ∷ ps) w e h f = absurd h.0

  -- ---- `t-beta`

  pub types_body : (n : ℕ) (us : List Ty) (e : TypedTerm) (r : Ty) → length us ≡ n → Each (IsAtomType (defs_only D)) us → HasTerm (under_types n (defs_only D)) e r
      → HasTerm (defs_only D) (term_put typed_rules (typed_rules.put_types us) kept e) (with_types us r)
  types_body n us e r l h b =
      has_puts (under_types n (defs_only D)) (defs_only D) (typed_rules.put_types us) kept
      (record {
        defs = λ k u at. (at, dc k u at);
        sorts = none_sorted [] kept;
        types = λ k lt. first_formed (defs_only D) (onto us []) (each_reversed (IsAtomType (defs_only D)) us [] h tt) k (let m = length-reversed us in omega arith);
        terms = λ k t at. absurd (nothing_at k t at);
      }) e r b

  -- ---- `i-beta`

  pub indices_body : (ss : List Sort) (is : List Index) (e : TypedTerm) (r : Ty) → EachTwo (IsSorted []) ss is → HasTerm (under_sorts ss (defs_only D)) e r
      → HasTerm (defs_only D) (term_put typed_rules (record { indices = put_all is; types = kept }) kept e) (with_indices is r)
  indices_body ss is e r h b =
      has_puts (under_sorts ss (defs_only D)) (defs_only D) (record { indices = put_all is; types = kept }) kept
      (record {
        defs = λ k u at. (at, dc k u at);
        sorts = all_sorted ss is h;
        types = none_formed 0 [] kept;
        terms = λ k t at. absurd (nothing_at k t at);
      }) e r b

  pub with_formed : (ss : List Sort) (is : List Index) (t : Ty) → EachTwo (IsSorted []) ss is → IsWellFormed 0 (onto ss []) t → IsWellFormed 0 [] (with_indices is t)
  with_formed ss is t h w = formed_put 0 0 (onto ss []) [] (put_all is) kept (all_sorted ss is h) (none_formed 0 [] kept) t w

  -- ---- `unbox`

  pub unboxed_has : (ss : List Sort) (is : List Index) (x e : TypedTerm) (b c note : Ty) → EachTwo (IsSorted []) ss is → HasTerm (defs_only D) x (with_indices is b) → Same b c → IsWellFormed 0 (onto ss []) c → IsWellFormed 0 [] note
      → HasTerm (under_terms (c ∷ []) (under_sorts ss (defs_only D))) e (times (length ss) ty_under_index note)
      → HasTerm (defs_only D) (term_put typed_rules (record { indices = put_all (values_put is); types = kept }) (put_first (x ∷ [])) e) note
  unboxed_has ss is x e b c note h hx same wc wn he =
      subst (HasTerm (defs_only D) (term_put typed_rules σ (put_first (x ∷ [])) e)) (ap (put_in_ty σ) (closed_under_index (length ss) note wn) ∙ closed_put σ.indices σ.types note wn)
      (has_puts (under_terms (c ∷ []) (under_sorts ss (defs_only D))) (defs_only D) σ (put_first (x ∷ []))
      (record {
        defs = λ k u at. (at, dc k u at);
        sorts = all_sorted ss js hj;
        types = none_formed 0 [] kept;
        terms = content;
      }) e (times (length ss) ty_under_index note) he)
    where
      js : List Index
      js = values_put is

      hj : EachTwo (IsSorted []) ss js
      hj = values_sorted ss is h

      σ : TypedPuts
      σ = record { indices = put_all js; types = kept }

      wj : IsWellFormed 0 [] (with_indices js c)
      wj = with_formed ss js c hj wc

      has : HasTerm (defs_only D) x (with_indices js c)
      has = term_same (defs_only D) x (with_indices is b) (with_indices js c) hx (same_trans (with_indices is b) (with_indices js b) (with_indices js c) (with_values ss is b h) (same-put (put_all js) kept b c same)) wj

      content : (k : ℕ) (t : Ty) → slice_get (c ∷ []) k ≡ Some t → FateHas D [] (put_first (x ∷ []) k) (put_in_ty σ t)
      content zero t at = subst (λ t. FateHas D [] (Put x) (put_in_ty σ t)) (some_is c t at) (wj, has)
      content (suc k) t at = absurd (nothing_at k t at)
