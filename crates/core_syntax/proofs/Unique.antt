-- The types of an expression are equal, and so are the frames of an application.
use Rattle.std.proofs.Common.{◌≡◌, refl, subst, sym, ◌∙◌, ap, ℕ, zero, suc, List, [], ◌∷◌, ◌++◌, Option, Some}
use Rattle.std.proofs.lemmas.List.{append_cancel_left, append_cancel_right, append-nil, append_assoc}
use Rattle.std.specs.Prelude.{slice_get}
use Rattle.core_syntax.specs.Syntax.{Index, Ty, Fun, Forall, Pi, Sigma, Arr, Tys, no_tys, more_tys, no_span, Expr, TermVar, DefVar, Array, NoAtoms, Frame, NoCells, App, TypeApp, IndexApp, Unbox, Exprs, no_exprs, more_exprs, Atom, IntAtom, BoolAtom, CharAtom, PrimAtom, Fn, TypeFn, IndexFn, Boxed, no_atoms, more_atoms}
use Rattle.core_syntax.specs.Lists.{Each, EachTwo}
use Rattle.core_syntax.specs.Value.{Valuation, shape_val, SameShape, then_shape, IsPrefix}
use Rattle.core_syntax.specs.TypeEqual.{Same, AllSame}
use Rattle.core_syntax.specs.Subst.{kept, put_all, with_types, with_indices}
use Rattle.core_syntax.specs.Prims.{array_of, prim_type, int_ty, bool_ty, char_ty}
use Rattle.core_syntax.specs.Typing.{Context, under_types, under_sorts, numbers, OnArr, Takes, IsPrincipal, Has, HasAtom, ArgsHave}
use Rattle.core_syntax.proofs.Equality.{same_refl, same_sym, same_trans, same-put}

-- ---- lists

pub some_is : {A : Type 0} (a b : A) → Some a ≡ Some b → a ≡ b
some_is a b e = cc

-- two answers of one lookup
one_found : {A : Type 0} (o : Option A) (a b : A) → o ≡ Some a → o ≡ Some b → a ≡ b
one_found o a b e f = some_is a b (sym e ∙ f)

nil_from_append : {A : Type 0} (xs ys : List A) → xs ++ ys ≡ [] → xs ≡ []
nil_from_append [] ys e = refl
nil_from_append (x ∷ xs) ys e = absurd (cc)

-- two lists that are prefixes of one another
pub prefixes_agree : (xs ys r q : List ℕ) → xs ++ r ≡ ys → ys ++ q ≡ xs → xs ≡ ys
prefixes_agree xs ys r q e f = sym (append-nil xs) ∙ sym (ap (λ r. xs ++ r) none) ∙ e
  where
    whole : xs ++ (r ++ q) ≡ xs ++ []
    whole = sym (append_assoc xs r q) ∙ ap (λ z. z ++ q) e ∙ f ∙ sym (append-nil xs)

    none : r ≡ []
    none = nil_from_append r q (append_cancel_left xs (r ++ q) [] whole)

pub each_at : {A : Type 0} (P : A → Type 0) (xs : List A) (k : ℕ) (a : A) → slice_get xs k ≡ Some a → Each P xs → P a
each_at P [] k a e h = absurd (cc)
each_at P (x ∷ xs) zero a e h = subst P (some_is x a e) h.0
each_at P (x ∷ xs) (suc k) a e h = each_at P xs k a e h.1

-- the item of the other list at the same place
pub beside : {A B : Type 0} (R : A → B → Type 0) (xs : List A) (ys : List B) (k : ℕ) (a : A) → EachTwo R xs ys → slice_get xs k ≡ Some a → (b : B) × (slice_get ys k ≡ Some b) × R a b
beside R [] [] k a h e = absurd (cc)
beside R [] (y ∷ ys) k a h e = absurd h
beside R (x ∷ xs) [] k a h e = absurd h
beside R (x ∷ xs) (y ∷ ys) zero a h e = (y, refl, subst (λ x. R x y) (some_is x a e) h.0)
beside R (x ∷ xs) (y ∷ ys) (suc k) a h e = beside R xs ys k a h.1 e

pub shapes_sym : (ps qs : List Index) → EachTwo SameShape ps qs → EachTwo SameShape qs ps
shapes_sym [] [] h = tt
shapes_sym [] (q ∷ qs) h = absurd h
shapes_sym (p ∷ ps) [] h = absurd h
shapes_sym (p ∷ ps) (q ∷ qs) h = (λ v. sym (h.0 v), shapes_sym ps qs h.1)

-- ---- shapes

pub then_val : (v : Valuation) (p c : Index) → shape_val v (then_shape p c) ≡ shape_val v p ++ shape_val v c
then_val v p c = ap (λ z. shape_val v p ++ z) (append-nil (shape_val v c))

-- equal wholes with equal cells have equal frames
frames_agree : (p q c d : Index) → SameShape (then_shape p c) (then_shape q d) → SameShape c d → SameShape p q
frames_agree p q c d h k v = append_cancel_right (shape_val v p) (shape_val v q) (shape_val v c) (sym (then_val v p c) ∙ h v ∙ then_val v q d ∙ ap (λ z. shape_val v q ++ z) (sym (k v)))

-- equal frames before equal cells are equal wholes
pub wholes_agree : (p q c d : Index) → SameShape p q → SameShape c d → SameShape (then_shape p c) (then_shape q d)
wholes_agree p q c d h k v = then_val v p c ∙ ap (λ z. z ++ shape_val v c) (h v) ∙ ap (λ z. shape_val v q ++ z) (k v) ∙ sym (then_val v q d)

-- the principal frames of equal frames are equal
principals_agree : (Γ : Context) (ps qs : List Index) (p q : Index) → EachTwo SameShape ps qs → IsPrincipal Γ ps p → IsPrincipal Γ qs q → SameShape p q
principals_agree Γ ps qs p q h a b v = prefixes_agree (shape_val v p) (shape_val v q) (shape_val v p_rest) (shape_val v q_rest) p_before q_before
  where
    p' : (p' : Index) × (slice_get qs a.0 ≡ Some p') × SameShape p p'
    p' = beside SameShape ps qs a.0 p h a.1

    q' : (q' : Index) × (slice_get ps b.0 ≡ Some q') × SameShape q q'
    q' = beside SameShape qs ps b.0 q (shapes_sym ps qs h) b.1

    p_is : IsPrefix Γ.sorts p'.0 q
    p_is = each_at (λ r. IsPrefix Γ.sorts r q) qs a.0 p'.0 p'.1 b.2

    q_is : IsPrefix Γ.sorts q'.0 p
    q_is = each_at (λ r. IsPrefix Γ.sorts r p) ps b.0 q'.0 q'.1 a.2

    p_rest : Index
    p_rest = p_is.0

    q_rest : Index
    q_rest = q_is.0

    p_before : shape_val v p ++ shape_val v p_rest ≡ shape_val v q
    p_before = ap (λ z. z ++ shape_val v p_rest) (p'.2 v) ∙ sym (then_val v p'.0 p_rest) ∙ p_is.1.2 v

    q_before : shape_val v q ++ shape_val v q_rest ≡ shape_val v p
    q_before = ap (λ z. z ++ shape_val v q_rest) (q'.2 v) ∙ sym (then_val v q'.0 q_rest) ∙ q_is.1.2 v

-- ---- what rules conclude

-- types that equal what two equal rules give
meet : (a b t u : Ty) → Same a t → Same b u → Same a b → Same t u
meet a b t u h k e = same_trans t a u (same_sym a t h) (same_trans a b u e k)

-- the types of results whose cells' types and frames are equal
results_agree : (Γ : Context) (r r' : Ty) (p q : Index) (t u : Ty) → Same r r' → SameShape p q
    → OnArr r (λ a c. Takes Γ (array_of a (then_shape p c)) t) → OnArr r' (λ a c. Takes Γ (array_of a (then_shape q c)) u) → Same t u
results_agree Γ (Arr at a c) (Arr at' b d) p q t u e s h k = meet (array_of a (then_shape p c)) (array_of b (then_shape q d)) t u h.1 k.1 (e.0, wholes_agree p q c d s e.1)
results_agree Γ (Arr at a c) _ p q t u e s h k = absurd e
results_agree Γ _ _ p q t u e s h k = absurd h

mutual
  -- all types of an expression are equal
  pub unique : (Γ : Context) (e : Expr) (t u : Ty) → Has Γ e t → Has Γ e u → Same t u
  unique Γ (TermVar at k) t u h j = meet h.0 j.0 t u h.2.1 j.2.1 (subst (λ z. Same h.0 z) (one_found (slice_get Γ.terms k) h.0 j.0 h.1 j.1) (same_refl h.0))
  unique Γ (DefVar at k) t u h j = meet h.0 j.0 t u h.2.1 j.2.1 (subst (λ z. Same h.0 z) (one_found (slice_get Γ.defs k) h.0 j.0 h.1 j.1) (same_refl h.0))
  unique Γ (Array at dims no_atoms) t u h j = absurd h
  unique Γ (Array at dims (more_atoms x xs)) t u h j = meet (array_of h.0 (numbers dims)) (array_of j.0 (numbers dims)) t u h.3.1 j.3.1 (unique_atom Γ x h.0 j.0 h.1 j.1, λ v. refl)
  unique Γ (NoAtoms at dims a) t u h j = meet (array_of a (numbers dims)) (array_of a (numbers dims)) t u h.1.1 j.1.1 (same_refl (array_of a (numbers dims)))
  unique Γ (Frame at dims no_exprs) t u h j = absurd h
  unique Γ (Frame at dims (more_exprs e es)) t u h j =
      let same : Same (array_of h.0 h.1) (array_of j.0 j.1) = unique Γ e (array_of h.0 h.1) (array_of j.0 j.1) h.2 j.2 in
      meet (array_of h.0 (then_shape (numbers dims) h.1)) (array_of j.0 (then_shape (numbers dims) j.1)) t u h.4.1 j.4.1 (same.0, wholes_agree (numbers dims) (numbers dims) h.1 j.1 (λ v. refl) same.1)
  unique Γ (NoCells at dims c) t u h j = results_agree Γ c c (numbers dims) (numbers dims) t u (same_refl c) (λ v. refl) h.1 j.1
  unique Γ (App at f es) t u h j =
      let same : Same (array_of (Fun no_span h.0 h.1) h.2) (array_of (Fun no_span j.0 j.1) j.2) = unique Γ f (array_of (Fun no_span h.0 h.1) h.2) (array_of (Fun no_span j.0 j.1) j.2) h.3 j.3 in
      results_agree Γ h.1 j.1 h.4.2.0 j.4.2.0 t u same.0.1
      (principals_agree Γ (h.2 ∷ h.4.0) (j.2 ∷ j.4.0) h.4.2.0 j.4.2.0 (same.1, args_unique Γ es h.0 j.0 h.4.0 j.4.0 h.4.1 j.4.1 same.0.0) h.4.2.1 j.4.2.1)
      h.4.2.2 j.4.2.2
  unique Γ (TypeApp at e us) t u h j =
      let same : Same (array_of (Forall no_span h.0 h.1) h.2) (array_of (Forall no_span j.0 j.1) j.2) = unique Γ e (array_of (Forall no_span h.0 h.1) h.2) (array_of (Forall no_span j.0 j.1) j.2) h.3 j.3 in
      results_agree Γ (with_types us h.1) (with_types us j.1) h.2 j.2 t u (same-put kept (put_all us) h.1 j.1 same.0.1) same.1 h.6 j.6
  unique Γ (IndexApp at e is) t u h j =
      let same : Same (array_of (Pi no_span h.0 h.1) h.2) (array_of (Pi no_span j.0 j.1) j.2) = unique Γ e (array_of (Pi no_span h.0 h.1) h.2) (array_of (Pi no_span j.0 j.1) j.2) h.3 j.3 in
      results_agree Γ (with_indices is h.1) (with_indices is j.1) h.2 j.2 t u (same-put (put_all is) kept h.1 j.1 same.0.1) same.1 h.5 j.5
  unique Γ (Unbox at n e w b) t u h j =
      let same : Same (array_of (Sigma no_span h.0 h.1) h.2) (array_of (Sigma no_span j.0 j.1) j.2) = unique Γ e (array_of (Sigma no_span h.0 h.1) h.2) (array_of (Sigma no_span j.0 j.1) j.2) h.3 j.3 in
      results_agree Γ w w h.2 j.2 t u (same_refl w) same.1 h.7 j.7

  pub args_unique : (Γ : Context) (es : Exprs) (ts us : Tys) (ps qs : List Index) → ArgsHave Γ es ts ps → ArgsHave Γ es us qs → AllSame ts us → EachTwo SameShape ps qs
  args_unique Γ no_exprs no_tys no_tys [] [] h j e = tt
  args_unique Γ (more_exprs x es) (more_tys (Arr at a c) ts) (more_tys (Arr at' b d) us) (p ∷ ps) (q ∷ qs) h j e =
      let same : Same (array_of a (then_shape p c)) (array_of b (then_shape q d)) = unique Γ x (array_of a (then_shape p c)) (array_of b (then_shape q d)) h.0 j.0 in
      (frames_agree p q c d same.1 e.0.1, args_unique Γ es ts us ps qs h.1 j.1 e.1)
  args_unique Γ no_exprs no_tys no_tys [] _ h j e = absurd j
  args_unique Γ no_exprs no_tys no_tys _ qs h j e = absurd h
  args_unique Γ no_exprs no_tys _ ps qs h j e = absurd e
  args_unique Γ no_exprs _ us ps qs h j e = absurd h
  args_unique Γ (more_exprs x es) no_tys us ps qs h j e = absurd h
  args_unique Γ (more_exprs x es) (more_tys t ts) no_tys ps qs h j e = absurd e
  args_unique Γ (more_exprs x es) (more_tys t ts) (more_tys u us) [] qs h j e = absurd h
  args_unique Γ (more_exprs x es) (more_tys t ts) (more_tys u us) (p ∷ ps) [] h j e = absurd j
  args_unique Γ (more_exprs x es) (more_tys (Arr at a c) ts) (more_tys _ us) (p ∷ ps) (q ∷ qs) h j e = absurd e.0
  args_unique Γ (more_exprs x es) (more_tys _ ts) (more_tys u us) (p ∷ ps) (q ∷ qs) h j e = absurd h.0

  pub unique_atom : (Γ : Context) (a : Atom) (t u : Ty) → HasAtom Γ a t → HasAtom Γ a u → Same t u
  unique_atom Γ (IntAtom at z) t u h j = meet int_ty int_ty t u h.1 j.1 refl
  unique_atom Γ (BoolAtom at z) t u h j = meet bool_ty bool_ty t u h.1 j.1 refl
  unique_atom Γ (CharAtom at z) t u h j = meet char_ty char_ty t u h.1 j.1 refl
  unique_atom Γ (PrimAtom at p) t u h j = meet (prim_type p) (prim_type p) t u h.1 j.1 (same_refl (prim_type p))
  unique_atom Γ (Fn at ts r e) t u h j = meet (Fun no_span ts r) (Fun no_span ts r) t u h.3.1 j.3.1 (same_refl (Fun no_span ts r))
  unique_atom Γ (TypeFn at n e) t u h j = meet (Forall no_span n h.0) (Forall no_span n j.0) t u h.2.1 j.2.1 (refl, unique (under_types n Γ) e h.0 j.0 h.1 j.1)
  unique_atom Γ (IndexFn at ss e) t u h j = meet (Pi no_span ss h.0) (Pi no_span ss j.0) t u h.2.1 j.2.1 (refl, unique (under_sorts ss Γ) e h.0 j.0 h.1 j.1)
  unique_atom Γ (Boxed at is e w) t u h j = meet w w t u h.2.1 j.2.1 (same_refl w)
