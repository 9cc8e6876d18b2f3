-- The rules of an application of values keep its type: `size`, `empty`, `lift` and `map`, and what is left at a scalar function.
use Rattle.std.proofs.Common.{◌≡◌, refl, sym, ◌∙◌, ap, subst, ℕ, suc, arith, List, [], ◌∷◌, ◌++◌, length, Option, Some, true}
use Rattle.std.specs.Prelude.{◌==◌, ◌^◌, nat_lt}
use Rattle.core_syntax.specs.declared.index.Sort.TheVariants as sort
use Rattle.core_syntax.specs.declared.errors.TrapKind.TheVariants as trap
use Rattle.core_syntax.specs.Syntax.{Index, Ty, Fun, Arr, Tys, no_tys, more_tys, no_span}
use Rattle.core_syntax.specs.Lists.{each, Each, product}
use Rattle.core_syntax.specs.Value.{Valuation, shape_val, SameShape, IsPrefix, then_shape}
use Rattle.core_syntax.specs.Sorts.{IsSorted}
use Rattle.core_syntax.specs.TypeEqual.{Same}
use Rattle.core_syntax.specs.Prims.{array_of}
use Rattle.core_syntax.specs.Typing.{numbers, Takes, IsPrincipal, defs_only}
use Rattle.core_syntax.specs.Terms.{TFrame, TApp, Terms, no_terms, more_terms, Cell, term_items, term_list, scalar_of}
use Rattle.core_syntax.specs.Arrays.{frame_before, is_prefix, greatest, all_frames_are, columns}
use Rattle.core_syntax.specs.Move.{Move, Trapped, Goes, if_there}
use Rattle.core_syntax.specs.Rules.{and_list, dims_of, atoms_of, goes_empty, frames_of, lifted, all_lifted, all_cells, apps, apply_atom, apply_over, apply_at, apply}
use Rattle.core_syntax.specs.Typed.{typed, typed_rules, TypedTerm, closed}
use Rattle.core_syntax.specs.TermTyping.{Notes, HasTerm, TermArgsHave, HasCell}
use Rattle.core_syntax.proofs.Equality.{same_refl, same_sym, same_trans}
use Rattle.core_syntax.proofs.Unique.{then_val, wholes_agree}
use Rattle.reduction_laws.proofs.putting.Wider.{to_each}
use Rattle.reduction_laws.proofs.putting.TermSubst.{term_same}
use Rattle.reduction_laws.proofs.steps.Counts.{product-append, zero_times, each_with}
use Rattle.reduction_laws.proofs.steps.Frames.{frame_before_cell, is_prefix-append, all_prefix, greatest_is, frames_are}
use Rattle.reduction_laws.proofs.steps.Moves.{Fine, fine_either, is_zero, not_zero, empty_fine, frame_has, framed_takes, cell_noted}
use Rattle.reduction_laws.proofs.steps.Lifted.{lifted_has, all_lifted_have, no_frames, columns_have, columns_count, rows_have}
use Rattle.reduction_laws.proofs.steps.Parts.{IsArr, Parts, parts_of, type_formed, closed_shape, numbers_val, numbers_sorted}
use Rattle.std.proofs.lemmas.List.{append-nil}
use Rattle.core_syntax.specs.Kinds.{IsWellFormed}

there_fine : {A B : Type 0} (P : B → Type 0) (V : Type 0) (o : Option A) (a : A) (f : A → Move B) → o ≡ Some a → Fine P V (f a) → Fine P V (if_there o f)
there_fine P V o a f e h = subst (λ o. Fine P V (if_there o f)) (sym e) h

each_of : {A B : Type 0} (P : B → Type 0) (f : A → B) (xs : List A) → Each P (each f xs) → Each (λ a. P (f a)) xs
each_of P f [] h = tt
each_of P f (x ∷ xs) h = (h.0, each_of P f xs h.1)

of_each : {A B : Type 0} (P : A → Type 0) (Q : B → Type 0) (f : A → B) (xs : List A) → ((a : A) → P a → Q (f a)) → Each P xs → Each Q (each f xs)
of_each P Q f [] g h = tt
of_each P Q f (x ∷ xs) g h = (g x h.0, of_each P Q f xs g h.1)

pub prefix_val : (q p : Index) → IsPrefix [] q p → is_prefix (shape_val closed q) (shape_val closed p) ≡ true
prefix_val q p h = subst (λ z. is_prefix (shape_val closed q) z ≡ true) (sym (then_val closed q h.0) ∙ h.1.2 closed) (is_prefix-append (shape_val closed q) (shape_val closed h.0))

module _ (D : List Ty) where
  abbrev Has : Ty → TypedTerm → Type 0
  Has T t = HasTerm (defs_only D) t T

  -- the frames of arguments
  pub frames_found : (es : Terms typed) (us : Tys) (cs ps : List Index) → Each IsArr (term_items es) → TermArgsHave (defs_only D) es us cs ps
      → frames_of typed_rules (each (shape_val closed) cs) (term_items es) ≡ Some (each (shape_val closed) ps)
  frames_found no_terms no_tys [] [] v h = refl
  frames_found (more_terms e es) (more_tys (Arr at a w) us) (c ∷ cs) (p ∷ ps) v h =
      λ i. and_list ((ap (frame_before (shape_val closed c)) ((parts_of D e a (then_shape p w) v.0 h.0.0).dims ∙ then_val closed p w ∙ ap (λ z. shape_val closed p ++ z) (h.0.1.2 closed)) ∙ frame_before_cell (shape_val closed p) (shape_val closed c)) i)
      (frames_found es us cs ps v.1 h.1 i)
  frames_found (more_terms e es) (more_tys _ us) (c ∷ cs) (p ∷ ps) v h = absurd h.0
  frames_found _ _ _ _ v h = absurd h

  -- the principal frame
  pub greatest_found : (ps : List Index) (p : Index) → IsPrincipal (defs_only D) ps p → greatest (each (shape_val closed) ps) ≡ Some (shape_val closed p)
  greatest_found ps p h =
      greatest_is (each (shape_val closed) ps) h.0 (shape_val closed p) (to_each (shape_val closed) ps h.0 p h.1)
      (all_prefix (each (shape_val closed) ps) (shape_val closed p) (of_each (λ q. IsPrefix [] q p) (λ g. is_prefix g (shape_val closed p) ≡ true) (shape_val closed) ps (λ q. prefix_val q p) h.2))

  principal_frame : (cs : List Index) (s : Index) → SameShape (then_shape s (numbers [])) s → IsSorted [] sort.Shape s → Each (λ q. IsPrefix [] q s) (each (λ c. numbers []) cs) → IsPrincipal (defs_only D) (s ∷ no_frames D cs) s
  principal_frame cs s e w h = (0, refl, ((numbers [], ((refl, (w, (numbers_sorted [] [], tt))), w, e)), h))

  -- an application of one atom to cells
  pub cell_app : (x : Cell typed) (es : Terms typed) (us : Tys) (b : Ty) (c : Index) (cs : List Index) (note : Ty) → HasCell (defs_only D) x (Fun no_span us (Arr no_span b c)) → IsWellFormed 0 [] (Fun no_span us (Arr no_span b c))
      → TermArgsHave (defs_only D) es us cs (no_frames D cs) → Notes (defs_only D) (Arr no_span b c) note → Has (array_of b (then_shape (numbers []) c)) (TApp (scalar_of x) es cs note)
  cell_app x es us b c cs note h w a n =
      let R : Ty = array_of b (then_shape (numbers []) c) in (
        us,
        Arr no_span b c,
        numbers [],
        (Fun no_span us (Arr no_span b c), h, tt, ((refl, numbers_sorted [] [], w), same_refl (array_of (Fun no_span us (Arr no_span b c)) (numbers []))), refl),
        (
          no_frames D cs,
          a,
          n,
          (
            numbers [],
            principal_frame cs (numbers []) (λ v. refl) (numbers_sorted [] []) (all cs),
            ((n.0.0, (refl, (numbers_sorted [] [], (n.0.1, tt))), n.0.2), same_refl R),
          ),
        ),
      )
    where
      all : (cs : List Index) → Each (λ q. IsPrefix [] q (numbers [])) (each (λ c. numbers []) cs)
      all [] = tt
      all (c ∷ cs) = ((numbers [], ((refl, (numbers_sorted [] [], (numbers_sorted [] [], tt))), numbers_sorted [] [], λ v. refl)), all cs)

  cell_apps : (fs : List (Cell typed)) (tss : List (List TypedTerm)) (us : Tys) (b : Ty) (c : Index) (cs : List Index) (note : Ty) → Each (λ x. HasCell (defs_only D) x (Fun no_span us (Arr no_span b c))) fs → IsWellFormed 0 [] (Fun no_span us (Arr no_span b c))
      → Each (λ ts. TermArgsHave (defs_only D) (term_list ts) us cs (no_frames D cs)) tss → Notes (defs_only D) (Arr no_span b c) note → Each (Has (array_of b (then_shape (numbers []) c))) (apps typed_rules fs tss cs note)
  cell_apps (f ∷ fs) (ts ∷ tss) us b c cs note h w a n = (cell_app f (term_list ts) us b c cs note h.0 w a.0 n, cell_apps fs tss us b c cs note h.1 w a.1 n)
  cell_apps [] tss us b c cs note h w a n = tt
  cell_apps (f ∷ fs) [] us b c cs note h w a n = tt

  apps_count : (fs : List (Cell typed)) (tss : List (List TypedTerm)) (cs : List Index) (note : Ty) → length fs ≡ length tss → length (apps typed_rules fs tss cs note) ≡ length fs
  apps_count (f ∷ fs) (ts ∷ tss) cs note e = ap suc (apps_count fs tss cs note (let s : length fs ≡ length tss = omega arith in s))
  apps_count [] tss cs note e = refl
  apps_count (f ∷ fs) [] cs note e = absurd (omega arith)

  -- an application of values that has a type
  module _ (f : TypedTerm) (es : Terms typed) (us : Tys) (b : Ty) (c s : Index) (cs ps : List Index) (p : Index) (note T : Ty)
      (vf : IsArr f) (hf : HasTerm (defs_only D) f (array_of (Fun no_span us (Arr no_span b c)) s)) (ve : Each IsArr (term_items es)) (he : TermArgsHave (defs_only D) es us cs ps)
      (n : Notes (defs_only D) (Arr no_span b c) note) (pr : IsPrincipal (defs_only D) (s ∷ ps) p) (k : Takes (defs_only D) (array_of b (then_shape p c)) T) where
    pub principal_sorted : IsSorted [] sort.Shape p
    principal_sorted = pr.2.0.1.1

    pf : Parts D f (Fun no_span us (Arr no_span b c)) s
    pf = parts_of D f (Fun no_span us (Arr no_span b c)) s vf hf

    fun_formed : IsWellFormed 0 [] (array_of (Fun no_span us (Arr no_span b c)) s)
    fun_formed = type_formed (defs_only D) f (array_of (Fun no_span us (Arr no_span b c)) s) hf

    map_has : (F : List ℕ) → F ≡ shape_val closed p → (product F ≡ 0 → ⊥) → Each (λ g. F ≡ g) (dims_of typed_rules f ∷ each (shape_val closed) ps)
        → Has T (TFrame F (term_list (apps typed_rules (atoms_of typed_rules f) (columns (product F) (all_cells typed_rules F (each (shape_val closed) cs) (term_items es))) cs note)) note)
    map_has F e z fr =
        frame_has D F (apps typed_rules (atoms_of typed_rules f) cols cs note) b (then_shape (numbers []) c) note T z
        (apps_count (atoms_of typed_rules f) cols cs note (fcount ∙ sym (columns_count D (product F) rows)) ∙ fcount)
        (cell_apps (atoms_of typed_rules f) cols us b c cs note pf.atoms fun_formed.2 (columns_have D (product F) us cs rows (rows_have D F es us cs ps ve he fr.1 z)) n)
        (cell_noted D b c note n) (framed_takes D p F b c T principal_sorted e k)
      where
        rows : List (List TypedTerm)
        rows = all_cells typed_rules F (each (shape_val closed) cs) (term_items es)

        cols : List (List TypedTerm)
        cols = columns (product F) rows

        fcount : length (atoms_of typed_rules f) ≡ product F
        fcount = pf.count ∙ ap product (sym fr.0)

    lift_has : (F : List ℕ) → F ≡ shape_val closed p → (product F ≡ 0 → ⊥)
        → Has T (TApp (lifted typed_rules F (dims_of typed_rules f) [] f) (term_list (all_lifted typed_rules F (each (shape_val closed) ps) (each (shape_val closed) cs) (term_items es))) cs note)
    lift_has F e z = (
      us,
      Arr no_span b c,
      S,
      subst (λ d. Has (array_of (Fun no_span us (Arr no_span b c)) S) (lifted typed_rules F d [] f)) (sym pf.dims)
          (lifted_has D f (Fun no_span us (Arr no_span b c)) s (numbers []) (numbers []) F vf
          (term_same (defs_only D) f (array_of (Fun no_span us (Arr no_span b c)) s) (array_of (Fun no_span us (Arr no_span b c)) (then_shape s (numbers []))) hf
          (same_refl (Fun no_span us (Arr no_span b c)), λ v. sym (then_val v s (numbers []) ∙ append-nil (shape_val v s)))
          (refl, (refl, (fun_formed.1, (numbers_sorted [] [], tt))), fun_formed.2))
          (numbers_sorted [] [], numbers_sorted [] [], λ v. refl) pres.0 z),
      (
        each (λ q. numbers F) ps,
        all_lifted_have D F es us cs ps ve he pres.1 z,
        n,
        (S, (0, refl, ((numbers [], ((refl, (S_sorted, (numbers_sorted [] [], tt))), S_sorted, λ v. nothing_more v)), all ps)), over),
      ),
    )
      where
        S : Index
        S = then_shape (numbers F) (numbers [])

        S_sorted : IsSorted [] sort.Shape S
        S_sorted = (refl, (numbers_sorted [] F, (numbers_sorted [] [], tt)))

        nothing_more : (v : Valuation) → shape_val v (then_shape S (numbers [])) ≡ shape_val v S
        nothing_more v = then_val v S (numbers []) ∙ append-nil (shape_val v S)

        S_val : (v : Valuation) → shape_val v S ≡ F
        S_val v = then_val v (numbers F) (numbers []) ∙ append-nil (shape_val v (numbers F)) ∙ numbers_val v F

        pres : Each (λ q. is_prefix (shape_val closed q) F ≡ true) (s ∷ ps)
        pres = each_with (λ q. IsPrefix [] q p) (λ q. is_prefix (shape_val closed q) F ≡ true) (s ∷ ps) (λ q h. subst (λ G. is_prefix (shape_val closed q) G ≡ true) (sym e) (prefix_val q p h)) pr.2

        all : (ps : List Index) → Each (λ q. IsPrefix [] q S) (each (λ q. numbers F) ps)
        all [] = tt
        all (q ∷ ps) = ((numbers [], (S_sorted, S_sorted, λ v. refl)), all ps)

        over : Takes (defs_only D) (array_of b (then_shape S c)) T
        over = (k.0, same_trans (array_of b (then_shape S c)) (array_of b (then_shape p c)) T (same_refl b, wholes_agree S p c c (λ v. S_val v ∙ e ∙ closed_shape p principal_sorted closed v) (λ v. refl)) k.1)

    -- the rules over a frame, with what is left where the frame is ()
    pub apply_fine : (W : Type 0) → (dims_of typed_rules f ≡ [] → shape_val closed p ≡ [] → Fine (Has T) W (apply_atom typed_rules (atoms_of typed_rules f) (term_items es) note)) → Fine (Has T) W (apply typed_rules f (term_items es) cs note)
    apply_fine W at_scalar =
        there_fine (Has T) W (frames_of typed_rules (each (shape_val closed) cs) (term_items es)) (each (shape_val closed) ps) _ (frames_found es us cs ps ve he)
        (there_fine (Has T) W (greatest (dims_of typed_rules f ∷ each (shape_val closed) ps)) (shape_val closed p) _ (ap (λ d. greatest (d ∷ each (shape_val closed) ps)) pf.dims ∙ greatest_found (s ∷ ps) p pr)
        (at_frame (shape_val closed p) refl))
      where
        same_shape : (b' : Ty) (c' : Index) → Same (Arr no_span b c) (Arr no_span b' c') → (F : List ℕ) → F ≡ shape_val closed p → F ++ shape_val closed c' ≡ shape_val closed (then_shape p c)
        same_shape b' c' e F g = (λ i. g i ++ sym (e.1 closed) i) ∙ sym (then_val closed p c)

        empty : (note : Ty) → Notes (defs_only D) (Arr no_span b c) note → (F : List ℕ) → F ≡ shape_val closed p → product F ≡ 0 → Fine (Has T) W (goes_empty typed_rules (F ++ typed_rules.result_dims note) (typed_rules.result_atom note))
        empty (Arr at b' c') n F g z =
            empty_fine D W (F ++ shape_val closed c') b' b (then_shape p c) T (product-append F (shape_val closed c') ∙ zero_times (product F) (product (shape_val closed c')) z) (n.1.0, n.1.2) (same_sym b b' n.2.0)
            (same_shape b' c' n.2 F g) k
        empty _ n F g z = absurd n.2

        over : (F : List ℕ) → F ≡ shape_val closed p → (product F ≡ 0 → ⊥) → Fine (Has T) W (apply_over typed_rules F (each (shape_val closed) ps) f (term_items es) cs note)
        over [] g z = at_scalar (nil_prefix (dims_of typed_rules f) (subst (λ G. is_prefix (dims_of typed_rules f) G ≡ true) (sym g) (subst (λ d. is_prefix d (shape_val closed p) ≡ true) (sym pf.dims) (prefix_val s p pr.2.0)))) (sym g)
          where
            nil_prefix : (d : List ℕ) → is_prefix d [] ≡ true → d ≡ []
            nil_prefix [] e = refl
            nil_prefix (x ∷ d) e = absurd (cc)
        over (m ∷ F) g z =
            fine_either (Has T) W (all_frames_are (m ∷ F) (dims_of typed_rules f ∷ each (shape_val closed) ps)) (Goes _) (Goes _)
            (λ t. map_has (m ∷ F) g z (frames_are (m ∷ F) (dims_of typed_rules f ∷ each (shape_val closed) ps) t)) (λ t. lift_has (m ∷ F) g z)

        at_frame : (F : List ℕ) → F ≡ shape_val closed p → Fine (Has T) W (apply_at typed_rules F (each (shape_val closed) ps) f (term_items es) cs note)
        at_frame F g =
            fine_either (Has T) W (nat_lt (2 ^ 24) (product F)) (Trapped trap.Size) _ (λ t. tt)
            (λ t.
            fine_either (Has T) W (product F == 0) (goes_empty typed_rules (F ++ typed_rules.result_dims note) (typed_rules.result_atom note)) (apply_over typed_rules F (each (shape_val closed) ps) f (term_items es) cs note)
            (λ z. empty note n F g (is_zero (product F) z)) (λ z. over F g (not_zero (product F) z)))
