-- A fold's function is never `reduce` itself: its type would be a part of itself.
use Rattle.std.proofs.Common.{◌≡◌, refl, sym, ap, subst, ◌∙◌, ℕ, suc, ◌+◌, arith, List, [], ◌∷◌, length, Option, Some, None, inl, inr}
use Rattle.std.specs.Prelude.{⊤, ◌⊎◌}
use Rattle.core_syntax.specs.declared.span.Span.{Span}
use Rattle.core_syntax.specs.declared.index.Sort.{Sort}
use Rattle.core_syntax.specs.declared.index.Sort.TheVariants as sort
use Rattle.core_syntax.specs.declared.primitive.Primitive.{Primitive}
use Rattle.core_syntax.specs.declared.primitive.Primitive.TheVariants as p
use Rattle.core_syntax.specs.declared.norm.NormIndex.{NormIndex}
use Rattle.core_syntax.specs.Syntax.{Index, Ty, BaseTy, TyVar, Fun, Forall, Pi, Sigma, Arr, Tys, no_tys, more_tys, no_span}
use Rattle.core_syntax.specs.Word.{Word}
use Rattle.core_syntax.specs.Value.{then_shape}
use Rattle.core_syntax.specs.TypeEqual.{Same, AllSame}
use Rattle.core_syntax.specs.Subst.{kept, put_all, index_put, indices_under, ty_put, fates_under_index}
use Rattle.core_syntax.specs.Nodes.{number, var, vector, joined_shape, total}
use Rattle.core_syntax.specs.Prims.{prim_type, array_of, type_var}
use Rattle.core_syntax.specs.Typing.{defs_only}
use Rattle.core_syntax.specs.Terms.{TArray, TApp, Terms, no_terms, more_terms, term_list, Cell, TPrim, no_cells, more_cells, cell_items, scalar_of}
use Rattle.core_syntax.specs.Rules.{atoms_of}
use Rattle.core_syntax.specs.Typed.{typed, TypedTerm}
use Rattle.core_syntax.specs.TermTyping.{PrimHas, HasTerm, HasCell, TermArgsHave}
use Rattle.reduction_laws.proofs.steps.Parts.{cell_same}
use Rattle.erasure.specs.Erased.{ErasedTerm, erased_rules}
use Rattle.erasure.specs.Erasure.{er, er_terms, er_cell, er_cells}
use Rattle.evaluation.specs.Typing.{IsReduce}
use Rattle.evaluation.specs.Witnessed.{Witnessed}
use Rattle.evaluation.proofs.witnesses.PrimWitness.{scalar_cell, prim_cell}

-- ---- how many nodes a type has, indices aside

abbrev mutual
  weight : Ty → ℕ
  weight (BaseTy at b) = 0
  weight (TyVar at k) = 0
  weight (Fun at ts r) = suc (weights ts + weight r)
  weight (Forall at n t) = suc (weight t)
  weight (Pi at ss t) = suc (weight t)
  weight (Sigma at ss t) = suc (weight t)
  weight (Arr at t i) = suc (weight t)

  weights : Tys → ℕ
  weights no_tys = 0
  weights (more_tys t ts) = weight t + weights ts

mutual
  -- equal types have as many
  same_weight : (t u : Ty) → Same t u → weight t ≡ weight u
  same_weight (BaseTy at b) (BaseTy at' c) h = refl
  same_weight (TyVar at k) (TyVar at' l) h = refl
  same_weight (Fun at ts r) (Fun at' us s) h = let a = same_weights ts us h.0 in let b = same_weight r s h.1 in omega arith
  same_weight (Forall at n t) (Forall at' m u) h = ap suc (same_weight t u h.1)
  same_weight (Pi at ss t) (Pi at' rs u) h = ap suc (same_weight t u h.1)
  same_weight (Sigma at ss t) (Sigma at' rs u) h = ap suc (same_weight t u h.1)
  same_weight (Arr at t i) (Arr at' u j) h = ap suc (same_weight t u h.0)
  same_weight _ _ h = absurd h

  same_weights : (ts us : Tys) → AllSame ts us → weights ts ≡ weights us
  same_weights no_tys no_tys h = refl
  same_weights (more_tys t ts) (more_tys u us) h = let a = same_weight t u h.0 in let b = same_weights ts us h.1 in omega arith
  same_weights _ _ h = absurd h

-- a function of two arrays, the first and the second, or the first and the result, of equal weights
abbrev EqualTwo : Ty → Type 0
EqualTwo (Fun at (more_tys (Arr a t i) (more_tys (Arr b u j) no_tys)) (Arr c r k)) = weight t ≡ weight u
EqualTwo _ = ⊥

-- the same of the first and the result
abbrev EqualEnds : Ty → Type 0
EqualEnds (Fun at (more_tys (Arr a t i) (more_tys (Arr b u j) no_tys)) (Arr c r k)) = weight t ≡ weight r
EqualEnds _ = ⊥

-- one whose first is heavier than the others
abbrev FirstHeavy : Ty → Type 0
FirstHeavy (Fun at (more_tys (Arr a t i) (more_tys (Arr b u j) no_tys)) (Arr c r k)) =
    (x : ℕ) × (weight t ≡ suc ((suc x + (suc x + 0)) + suc x)) × (x ≡ weight u) × (x ≡ weight r)
FirstHeavy _ = ⊥

not_two : (t : Ty) → EqualTwo t → FirstHeavy t → ⊥
not_two (Fun at (more_tys (Arr a t i) (more_tys (Arr b u j) no_tys)) (Arr c r k)) e f = let x = f.0 in let g = f.1 in let h = f.2 in omega arith
not_two _ e f = absurd e

not_ends : (t : Ty) → EqualEnds t → FirstHeavy t → ⊥
not_ends (Fun at (more_tys (Arr a t i) (more_tys (Arr b u j) no_tys)) (Arr c r k)) e f = let x = f.0 in let g = f.1 in let h = f.3 in omega arith
not_ends _ e f = absurd e

-- the parts of a type that equals a function of two arrays
abbrev PartsOf : (X Y Z : Ty) → Ty → Type 0
PartsOf X Y Z (Fun at (more_tys (Arr a t i) (more_tys (Arr b u j) no_tys)) (Arr c r k)) = (weight X ≡ weight t) × (weight Y ≡ weight u) × (weight Z ≡ weight r)
PartsOf X Y Z _ = ⊥

arr_weight : (X : Ty) (i : Index) (t : Ty) → Same (Arr no_span X i) t → (at : _) × (u : Ty) × (j : Index) × (t ≡ Arr at u j) × (weight X ≡ weight u)
arr_weight X i (Arr at u j) s = (at, u, j, refl, same_weight X u s.0)
arr_weight X i (BaseTy at b) s = absurd s
arr_weight X i (TyVar at k) s = absurd s
arr_weight X i (Fun at ts r) s = absurd s
arr_weight X i (Forall at n u) s = absurd s
arr_weight X i (Pi at ss u) s = absurd s
arr_weight X i (Sigma at ss u) s = absurd s

parts_of_two : (X Y Z : Ty) (i j k : Index) (t : Ty) → Same (Fun no_span (more_tys (Arr no_span X i) (more_tys (Arr no_span Y j) no_tys)) (Arr no_span Z k)) t → PartsOf X Y Z t
parts_of_two X Y Z i j k (Fun at (more_tys t (more_tys u no_tys)) r) s =
    let a = arr_weight X i t s.0.0 in
    let b = arr_weight Y j u s.0.1.0 in
    let c = arr_weight Z k r s.1 in
    subst (λ t. PartsOf X Y Z (Fun at (more_tys t (more_tys u no_tys)) r)) (sym a.3)
    (subst (λ u. PartsOf X Y Z (Fun at (more_tys (Arr a.0 a.1 a.2) (more_tys u no_tys)) r)) (sym b.3)
    (subst (λ r. PartsOf X Y Z (Fun at (more_tys (Arr a.0 a.1 a.2) (more_tys (Arr b.0 b.1 b.2) no_tys)) r)) (sym c.3) (a.4, b.4, c.4)))
parts_of_two X Y Z i j k (Fun at no_tys r) s = absurd s.0
parts_of_two X Y Z i j k (Fun at (more_tys t no_tys) r) s = absurd s.0.1
parts_of_two X Y Z i j k (Fun at (more_tys t (more_tys u (more_tys v ts))) r) s = absurd s.0.1.1
parts_of_two X Y Z i j k _ s = absurd s

-- what follows of the parts
two_of : (X Z : Ty) (t : Ty) → PartsOf X X Z t → EqualTwo t
two_of X Z (Fun at (more_tys (Arr a t i) (more_tys (Arr b u j) no_tys)) (Arr c r k)) h = sym h.0 ∙ h.1
two_of X Z _ h = absurd h

ends_of : (X Y : Ty) (t : Ty) → PartsOf X Y X t → EqualEnds t
ends_of X Y (Fun at (more_tys (Arr a t i) (more_tys (Arr b u j) no_tys)) (Arr c r k)) h = sym h.0 ∙ h.2
ends_of X Y _ h = absurd h

heavy_of : (X : Ty) (i j k : Index) (t : Ty) → PartsOf (Fun no_span (more_tys (Arr no_span X i) (more_tys (Arr no_span X j) no_tys)) (Arr no_span X k)) X X t → FirstHeavy t
heavy_of X i j k (Fun at (more_tys (Arr a t i') (more_tys (Arr b u j') no_tys)) (Arr c r k')) h = (weight X, sym h.0, h.1, h.2)
heavy_of X i j k _ h = absurd h

-- a type and an index of a primitive's row, with its type arguments and index arguments in place
abbrev inst : List Sort → List Ty → List Index → Ty → Ty
inst ss ts is t = ty_put (put_all is) kept (ty_put (indices_under (length ss) kept) (fates_under_index (length ss) (put_all ts)) t)

-- an index of the row
abbrev inst_index : List Sort → List Index → Index → Index
inst_index ss is i = index_put (put_all is) (index_put (indices_under (length ss) kept) i)

-- the sorts of `reduce`'s index variables, and of `fold`'s
abbrev reduce_sorts : List Sort
reduce_sorts = sort.Dim ∷ sort.Shape ∷ []

-- those of `fold`'s
abbrev fold_sorts : List Sort
fold_sorts = sort.Dim ∷ sort.Shape ∷ sort.Shape ∷ []

module _ (D : List Ty) where
  -- P of the atom type of the first input
  abbrev FirstIs : (Ty → Type 0) → Tys → Type 0
  FirstIs P (more_tys (Arr at a w) us) = P a
  FirstIs P _ = ⊤

  -- the function of a `reduce` takes two arrays of one type
  reduce_first : (vs : Option (List Ty)) (js : Option (List Index)) (us : Tys) (r : Ty) → PrimHas (defs_only D) (prim_type p.Reduce) vs js (Fun no_span us r) → FirstIs EqualTwo us
  reduce_first (Some ts) (Some is) (more_tys (Arr at a w) us) r h =
      let X = inst reduce_sorts ts is (type_var 0) in
      let s = inst_index reduce_sorts is (var 0) in
      two_of X X a (parts_of_two X X X s s s a h.2.1.1.0.0.0)
  reduce_first (Some ts) (Some is) (more_tys _ us) r h = tt
  reduce_first (Some ts) (Some is) no_tys r h = tt
  reduce_first (Some ts) None us r h = absurd h.2.1
  reduce_first None (Some is) us r h = absurd h
  reduce_first None None us r h = absurd h.1

  -- that of a `fold` gives what it takes first
  fold_first : (vs : Option (List Ty)) (js : Option (List Index)) (us : Tys) (r : Ty) → PrimHas (defs_only D) (prim_type p.Fold) vs js (Fun no_span us r) → FirstIs EqualEnds us
  fold_first (Some ts) (Some is) (more_tys (Arr at a w) us) r h =
      let X = inst fold_sorts ts is (type_var 0) in
      let Y = inst fold_sorts ts is (type_var 1) in
      let s = inst_index fold_sorts is (var 1) in
      let z = inst_index fold_sorts is (var 0) in
      ends_of X Y a (parts_of_two X Y X z s z a h.2.1.1.0.0.0)
  fold_first (Some ts) (Some is) (more_tys _ us) r h = tt
  fold_first (Some ts) (Some is) no_tys r h = tt
  fold_first (Some ts) None us r h = absurd h.2.1
  fold_first None (Some is) us r h = absurd h
  fold_first None None us r h = absurd h.1

  -- of a type that `reduce` has the first input is the heaviest
  reduce_heavy : (vs : Option (List Ty)) (js : Option (List Index)) (at : Span) (us : Tys) (r : Ty) → PrimHas (defs_only D) (prim_type p.Reduce) vs js (Fun at us r) → FirstHeavy (Fun at us r)
  reduce_heavy (Some ts) (Some is) at us r h =
      let X = inst reduce_sorts ts is (type_var 0) in
      let s = inst_index reduce_sorts is (var 0) in
      let l = inst_index reduce_sorts is (vector []) in
      let m = inst_index reduce_sorts is (joined_shape (vector (total (number 1 ∷ var 1 ∷ []) ∷ []) ∷ var 0 ∷ [])) in
      heavy_of X s s s (Fun at us r) (parts_of_two (Fun no_span (more_tys (Arr no_span X s) (more_tys (Arr no_span X s) no_tys)) (Arr no_span X s)) X X l m s (Fun at us r) h.2.1.1)
  reduce_heavy (Some ts) None at us r h = absurd h.2.1
  reduce_heavy None (Some is) at us r h = absurd h
  reduce_heavy None None at us r h = absurd h.1

  -- so a fold's function isn't `reduce`
  reduce_not : (vs : Option (List Ty)) (js : Option (List Index)) (a : Ty) → PrimHas (defs_only D) (prim_type p.Reduce) vs js a → EqualTwo a ⊎ EqualEnds a → ⊥
  reduce_not vs js (Fun at us r) h (inl e) = not_two (Fun at us r) e (reduce_heavy vs js at us r h)
  reduce_not vs js (Fun at us r) h (inr e) = not_ends (Fun at us r) e (reduce_heavy vs js at us r h)
  reduce_not vs js _ h (inl e) = absurd e
  reduce_not vs js _ h (inr e) = absurd e

  -- an array of the one atom `reduce`
  reduce_atom : (e : TypedTerm) (a : Ty) (s : Index) → HasTerm (defs_only D) e (array_of a s) → IsReduce (atoms_of erased_rules (er [] e)) → (vs : Option (List Ty)) × (js : Option (List Index)) × PrimHas (defs_only D) (prim_type p.Reduce) vs js a
  reduce_atom (TArray dims no_cells) a s h e = absurd h
  reduce_atom (TArray dims (more_cells x no_cells)) a s h e = by x (cell_same (defs_only D) x h.0 a h.1 h.3.1.0 h.3.0.2) e
    where
      by : (x : Cell typed) → HasCell (defs_only D) x a → IsReduce (er_cell [] x ∷ []) → (vs : Option (List Ty)) × (js : Option (List Index)) × PrimHas (defs_only D) (prim_type p.Reduce) vs js a
      by (TPrim p.Reduce vs js) h e = (vs, js, h)
      by _ h e = absurd e
  reduce_atom (TArray dims (more_cells x (more_cells y xs))) a s h e = absurd (two x e)
    where
      two : (x : Cell typed) → IsReduce (er_cell [] x ∷ er_cell [] y ∷ cell_items (er_cells [] xs)) → ⊥
      two (TPrim p.Reduce vs js) e = e
      two _ e = e
  reduce_atom _ a s h e = absurd e

  pub no_inner_fold : (T : Ty) (q : Primitive) (us : Option (Unit {0})) (is : Option (List NormIndex)) (f : ErasedTerm) (ts : List ErasedTerm) (cs : List Word) (r : Word)
      → Witnessed D T (TApp (scalar_of (TPrim q us is)) (term_list (f ∷ ts)) cs r) → IsReduce (atoms_of erased_rules f) → (q ≡ p.Reduce → ⊥) × (q ≡ p.Fold → ⊥)
  no_inner_fold T q us is f ts cs r g e = (
    (λ same. by g.0 g.1 g.2 (λ vs js ws r h. inl_first ws (reduce_first vs js ws r (subst (λ q. PrimHas (defs_only D) (prim_type q) vs js (Fun no_span ws r)) same h)))),
    (λ same. by g.0 g.1 g.2 (λ vs js ws r h. inr_first ws (fold_first vs js ws r (subst (λ q. PrimHas (defs_only D) (prim_type q) vs js (Fun no_span ws r)) same h)))),
  )
    where
      inl_first : (ws : Tys) → FirstIs EqualTwo ws → FirstIs (λ a. EqualTwo a ⊎ EqualEnds a) ws
      inl_first (more_tys (Arr at a w) ws) h = inl h
      inl_first (more_tys _ ws) h = tt
      inl_first no_tys h = tt

      inr_first : (ws : Tys) → FirstIs EqualEnds ws → FirstIs (λ a. EqualTwo a ⊎ EqualEnds a) ws
      inr_first (more_tys (Arr at a w) ws) h = inr h
      inr_first (more_tys _ ws) h = tt
      inr_first no_tys h = tt

      -- the first argument is an array of the first input's atom type
      first : (es : Terms typed) (ws : Tys) (ds ps : List Index) → TermArgsHave (defs_only D) es ws ds ps → er_terms [] es ≡ term_list (f ∷ ts) → FirstIs (λ a. EqualTwo a ⊎ EqualEnds a) ws → ⊥
      first no_terms ws ds ps h k i = cc
      first (more_terms t es) (more_tys (Arr at a w) ws) (d ∷ ds) (q ∷ ps) h k i =
          let one : er [] t ≡ f = cc in
          let x = reduce_atom t a (then_shape q w) h.0.0 (subst (λ u. IsReduce (atoms_of erased_rules u)) (sym one) e) in
          reduce_not x.0 x.1 a x.2 i
      first (more_terms t es) (more_tys _ ws) (d ∷ ds) (q ∷ ps) h k i = absurd h.0
      first (more_terms t es) no_tys ds ps h k i = absurd h
      first (more_terms t es) (more_tys u ws) [] ps h k i = absurd h
      first (more_terms t es) (more_tys u ws) (d ∷ ds) [] h k i = absurd h

      by : (w : TypedTerm) → HasTerm (defs_only D) w T → er [] w ≡ TApp (scalar_of (TPrim q us is)) (term_list (f ∷ ts)) cs r
          → ((vs : Option (List Ty)) (js : Option (List Index)) (ws : Tys) (r : Ty) → PrimHas (defs_only D) (prim_type q) vs js (Fun no_span ws r) → FirstIs (λ a. EqualTwo a ⊎ EqualEnds a) ws) → ⊥
      by (TApp v es ds n) h k first_is =
          let one : er [] v ≡ scalar_of (TPrim q us is) = cc in
          let two : er_terms [] es ≡ term_list (f ∷ ts) = cc in
          let c = scalar_cell D (TPrim q us is) v (Fun no_span h.0 h.1) h.2 h.3 one in
          let x = prim_cell D q us is c.0 (Fun no_span h.0 h.1) c.1 c.2 in
          first es h.0 ds h.4.0 h.4.1 two (first_is x.0 x.1 h.0 h.1 x.2)
      by _ h k first_is = cc
