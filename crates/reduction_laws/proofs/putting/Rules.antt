-- What the rules of typed terms ask for is kept by substitution of index values and types.
use Rattle.std.proofs.Common.{◌≡◌, refl, ◌∙◌, ap, subst, ℕ, suc, List, [], ◌∷◌, length, Option, Some, None}
use Rattle.std.specs.Prelude.{option_map}
use Rattle.core_syntax.specs.declared.index.Sort.{Sort}
use Rattle.core_syntax.specs.declared.index.Sort.TheVariants as sort
use Rattle.core_syntax.specs.declared.primitive.Primitive.{Primitive}
use Rattle.core_syntax.specs.declared.primitive.Primitive.TheVariants as p
use Rattle.core_syntax.specs.Syntax.{Index, Num, more, Ty, Forall, Pi, Arr, more_tys, no_span, index_list, ty_list, Dims}
use Rattle.core_syntax.specs.Lists.{each, Each, EachTwo}
use Rattle.core_syntax.specs.Sorts.{IsSorted}
use Rattle.core_syntax.specs.Kinds.{IsWellFormed}
use Rattle.core_syntax.specs.Value.{IndexEqual, IsPrefix, then_shape}
use Rattle.core_syntax.specs.Subst.{Fates, under_n, index_put, indices_put, indices_under, ty_put, tys_put, ty_under_type, fates_under_index, with_types, with_indices}
use Rattle.core_syntax.specs.Prims.{prim_type, array_of}
use Rattle.core_syntax.specs.Typing.{Context, numbers, OnArr, Takes, IsAtomType, IsPrincipal}
use Rattle.core_syntax.specs.Typed.{TypedPuts, put_in_index, put_in_ty}
use Rattle.core_syntax.specs.TermTyping.{Notes, GivenTypes, GivenIndices, PrimHas}
use Rattle.core_syntax.proofs.Equality.{same-put, same_shape-put}
use Rattle.reduction_laws.proofs.putting.Wider.{to_each}
use Rattle.reduction_laws.proofs.putting.Binders.{length-each, put_with_types, put_with_indices}
use Rattle.reduction_laws.proofs.putting.Formed.{FatesSorted, FatesFormed, sorted_put, kind_put, formed_put}

-- ---- lists

numerals_put : (σ : Fates Index) (ns : List ℕ) → indices_put σ (index_list (each (λ n. Num no_span n) ns)) ≡ index_list (each (λ n. Num no_span n) ns)
numerals_put σ [] = refl
numerals_put σ (n ∷ ns) = ap (more (Num no_span n)) (numerals_put σ ns)

pub numbers_put : (σ : Fates Index) (ns : List ℕ) → index_put σ (numbers ns) ≡ numbers ns
numbers_put σ ns = ap (Dims no_span) (numerals_put σ ns)

pub ty_list_put : (σ : Fates Index) (τ : Fates Ty) (ts : List Ty) → tys_put σ τ (ty_list ts) ≡ ty_list (each (ty_put σ τ) ts)
ty_list_put σ τ [] = refl
ty_list_put σ τ (t ∷ ts) = ap (more_tys (ty_put σ τ t)) (ty_list_put σ τ ts)

pub two_length : {A B : Type 0} (R : A → B → Type 0) (xs : List A) (ys : List B) → EachTwo R xs ys → length ys ≡ length xs
two_length R [] [] h = refl
two_length R [] (y ∷ ys) h = absurd h
two_length R (x ∷ xs) [] h = absurd h
two_length R (x ∷ xs) (y ∷ ys) h = ap suc (two_length R xs ys h.1)

-- facts of items, and of the items that f gives
pub each_map : {A B : Type 0} (P : A → Type 0) (Q : B → Type 0) (f : A → B) (xs : List A) → ((a : A) → P a → Q (f a)) → Each P xs → Each Q (each f xs)
each_map P Q f [] g h = tt
each_map P Q f (x ∷ xs) g h = (g x h.0, each_map P Q f xs g h.1)

pub two_map : {A B C : Type 0} (P : A → B → Type 0) (Q : A → C → Type 0) (f : B → C) (xs : List A) (ys : List B) → ((a : A) (b : B) → P a b → Q a (f b)) → EachTwo P xs ys → EachTwo Q xs (each f ys)
two_map P Q f [] [] g h = tt
two_map P Q f [] (y ∷ ys) g h = absurd h
two_map P Q f (x ∷ xs) [] g h = absurd h
two_map P Q f (x ∷ xs) (y ∷ ys) g h = (g x y h.0, two_map P Q f xs ys g h.1)

-- ---- the parts of the rules

module _ (Γ Δ : Context) (σ : TypedPuts) (s : FatesSorted Γ.sorts Δ.sorts σ.indices) (f : FatesFormed Γ.types Δ.types Δ.sorts σ.types) where
  pub put_wf : (t : Ty) → IsWellFormed Γ.types Γ.sorts t → IsWellFormed Δ.types Δ.sorts (put_in_ty σ t)
  put_wf t h = formed_put Γ.types Δ.types Γ.sorts Δ.sorts σ.indices σ.types s f t h

  pub put_srt : (q : Sort) (i : Index) → IsSorted Γ.sorts q i → IsSorted Δ.sorts q (put_in_index σ i)
  put_srt q i h = sorted_put Γ.sorts Δ.sorts σ.indices s q i h

  pub put_takes : (a t : Ty) → Takes Γ a t → Takes Δ (put_in_ty σ a) (put_in_ty σ t)
  put_takes a t h = (put_wf t h.0, same-put σ.indices σ.types a t h.1)

  pub put_noted : (a t : Ty) → Notes Γ a t → Notes Δ (put_in_ty σ a) (put_in_ty σ t)
  put_noted a t h = (put_wf a h.0, put_wf t h.1, same-put σ.indices σ.types a t h.2)

  pub put_atomic : (t : Ty) → IsAtomType Γ t → IsAtomType Δ (put_in_ty σ t)
  put_atomic t h = (kind_put Γ.types Δ.types Γ.sorts Δ.sorts σ.indices σ.types f t h.1 h.0, put_wf t h.1)

  pub put_equal : (i j : Index) → IndexEqual Γ.sorts sort.Shape i j → IndexEqual Δ.sorts sort.Shape (put_in_index σ i) (put_in_index σ j)
  put_equal i j h = (put_srt sort.Shape i h.0, put_srt sort.Shape j h.1, same_shape-put σ.indices i j h.2)

  put_prefix : (p q : Index) → IsPrefix Γ.sorts p q → IsPrefix Δ.sorts (put_in_index σ p) (put_in_index σ q)
  put_prefix p q h = (put_in_index σ h.0, put_equal (then_shape p h.0) q h.1)

  pub put_principal : (ps : List Index) (p : Index) → IsPrincipal Γ ps p → IsPrincipal Δ (each (put_in_index σ) ps) (put_in_index σ p)
  put_principal ps p h = (h.0, to_each (put_in_index σ) ps h.0 p h.1, each_map (λ q. IsPrefix Γ.sorts q p) (λ q. IsPrefix Δ.sorts q (put_in_index σ p)) (put_in_index σ) ps (λ q. put_prefix q p) h.2)

  pub put_concluded : (r : Ty) (p : Index) (t : Ty) → OnArr r (λ a c. Takes Γ (array_of a (then_shape p c)) t) → OnArr (put_in_ty σ r) (λ a c. Takes Δ (array_of a (then_shape (put_in_index σ p) c)) (put_in_ty σ t))
  put_concluded (Arr at a c) p t h = put_takes (array_of a (then_shape p c)) t h
  put_concluded _ p t h = absurd h

  pub put_sorted_all : (ss : List Sort) (is : List Index) → EachTwo (IsSorted Γ.sorts) ss is → EachTwo (IsSorted Δ.sorts) ss (each (put_in_index σ) is)
  put_sorted_all ss is h = two_map (IsSorted Γ.sorts) (IsSorted Δ.sorts) (put_in_index σ) ss is put_srt h

  pub put_atomic_all : (us : List Ty) → Each (IsAtomType Γ) us → Each (IsAtomType Δ) (each (put_in_ty σ) us)
  put_atomic_all us h = each_map (IsAtomType Γ) (IsAtomType Δ) (put_in_ty σ) us put_atomic h

  pub takes_numbers : (a : Ty) (ns : List ℕ) (t : Ty) → Takes Γ (array_of a (numbers ns)) t → Takes Δ (array_of (put_in_ty σ a) (numbers ns)) (put_in_ty σ t)
  takes_numbers a ns t h = subst (λ i. Takes Δ (array_of (put_in_ty σ a) i) (put_in_ty σ t)) (numbers_put σ.indices ns) (put_takes (array_of a (numbers ns)) t h)

  pub takes_framed : (a : Ty) (ns : List ℕ) (i : Index) (t : Ty) → Takes Γ (array_of a (then_shape (numbers ns) i)) t → Takes Δ (array_of (put_in_ty σ a) (then_shape (numbers ns) (put_in_index σ i))) (put_in_ty σ t)
  takes_framed a ns i t h = subst (λ j. Takes Δ (array_of (put_in_ty σ a) (then_shape j (put_in_index σ i))) (put_in_ty σ t)) (numbers_put σ.indices ns) (put_takes (array_of a (then_shape (numbers ns) i)) t h)

  pub concluded_framed : (r : Ty) (ns : List ℕ) (t : Ty) → OnArr r (λ a c. Takes Γ (array_of a (then_shape (numbers ns) c)) t) → OnArr (put_in_ty σ r) (λ a c. Takes Δ (array_of a (then_shape (numbers ns) c)) (put_in_ty σ t))
  concluded_framed r ns t h = subst (λ j. OnArr (put_in_ty σ r) (λ a c. Takes Δ (array_of a (then_shape j c)) (put_in_ty σ t))) (numbers_put σ.indices ns) (put_concluded r (numbers ns) t h)

-- the body of a Forall type with types in place, substituted, and that of a Pi or Sigma type with indices
pub types_placed : (σ : TypedPuts) (us : List Ty) (n : ℕ) (b : Ty) → length us ≡ n → put_in_ty σ (with_types us b) ≡ with_types (each (put_in_ty σ) us) (ty_put σ.indices (under_n n ty_under_type σ.types) b)
types_placed σ us n b e = put_with_types σ.indices σ.types us b ∙ ap (λ m. with_types (each (put_in_ty σ) us) (ty_put σ.indices (under_n m ty_under_type σ.types) b)) e

pub indices_placed : (σ : TypedPuts) (is : List Index) (n : ℕ) (b : Ty) → length is ≡ n → put_in_ty σ (with_indices is b) ≡ with_indices (each (put_in_index σ) is) (ty_put (indices_under n σ.indices) (fates_under_index n σ.types) b)
indices_placed σ is n b e = put_with_indices σ.indices σ.types is b ∙ ap (λ m. with_indices (each (put_in_index σ) is) (ty_put (indices_under m σ.indices) (fates_under_index m σ.types) b)) e

module _ (Γ Δ : Context) (σ : TypedPuts) (s : FatesSorted Γ.sorts Δ.sorts σ.indices) (f : FatesFormed Γ.types Δ.types Δ.sorts σ.types) where
  on_put : (r : Ty) (P Q : Ty → Type 0) → ((u : Ty) → P u → Q (put_in_ty σ u)) → OnArr r (λ t i. P t) → OnArr (put_in_ty σ r) (λ t i. Q t)
  on_put (Arr at a c) P Q g h = g a h
  on_put _ P Q g h = absurd h

  given_indices : (g : Ty) (is : List Index) (P Q : Ty → Type 0) → ((u : Ty) → P u → Q (put_in_ty σ u)) → GivenIndices Γ g is P → GivenIndices Δ (put_in_ty σ g) (each (put_in_index σ) is) Q
  given_indices (Pi at ss b) is P Q g h =
      (put_sorted_all Γ Δ σ s f ss is h.0, subst (λ w. OnArr w (λ t i. Q t)) (indices_placed σ is (length ss) b (two_length (IsSorted Γ.sorts) ss is h.0)) (on_put (with_indices is b) P Q g h.1))
  given_indices _ is P Q g h = absurd h

  given_types : (g : Ty) (us : List Ty) (P Q : Ty → Type 0) → ((u : Ty) → P u → Q (put_in_ty σ u)) → GivenTypes Γ g us P → GivenTypes Δ (put_in_ty σ g) (each (put_in_ty σ) us) Q
  given_types (Forall at n b) us P Q g h =
      (length-each (put_in_ty σ) us ∙ h.0, put_atomic_all Γ Δ σ s f us h.1, subst (λ w. OnArr w (λ t i. Q t)) (types_placed σ us n b h.0) (on_put (with_types us b) P Q g h.2))
  given_types _ us P Q g h = absurd h

  pub prim_put : (g : Ty) (us : Option (List Ty)) (is : Option (List Index)) (t : Ty) → PrimHas Γ g us is t
      → PrimHas Δ (put_in_ty σ g) (option_map (each (put_in_ty σ)) us) (option_map (each (put_in_index σ)) is) (put_in_ty σ t)
  prim_put g None None t h = put_takes Γ Δ σ s f g t h
  prim_put g (Some us) None t h = given_types g us (λ u. Takes Γ u t) (λ u. Takes Δ u (put_in_ty σ t)) (λ u. put_takes Γ Δ σ s f u t) h
  prim_put g None (Some is) t h = given_indices g is (λ u. Takes Γ u t) (λ u. Takes Δ u (put_in_ty σ t)) (λ u. put_takes Γ Δ σ s f u t) h
  prim_put g (Some us) (Some is) t h =
      given_types g us (λ u. GivenIndices Γ u is (λ w. Takes Γ w t)) (λ u. GivenIndices Δ u (each (put_in_index σ) is) (λ w. Takes Δ w (put_in_ty σ t)))
      (λ u. given_indices u is (λ w. Takes Γ w t) (λ w. Takes Δ w (put_in_ty σ t)) (λ w. put_takes Γ Δ σ s f w t)) h

-- ---- the types of primitives are closed

pub prim_type_put : (σ : Fates Index) (τ : Fates Ty) (q : Primitive) → ty_put σ τ (prim_type q) ≡ prim_type q
prim_type_put σ τ p.Add = refl
prim_type_put σ τ p.Sub = refl
prim_type_put σ τ p.Mul = refl
prim_type_put σ τ p.Div = refl
prim_type_put σ τ p.Mod = refl
prim_type_put σ τ p.Min = refl
prim_type_put σ τ p.Max = refl
prim_type_put σ τ p.Equal = refl
prim_type_put σ τ p.Less = refl
prim_type_put σ τ p.AtMost = refl
prim_type_put σ τ p.CharEqual = refl
prim_type_put σ τ p.CharLess = refl
prim_type_put σ τ p.CharToInt = refl
prim_type_put σ τ p.BoolToInt = refl
prim_type_put σ τ p.And = refl
prim_type_put σ τ p.Or = refl
prim_type_put σ τ p.Not = refl
prim_type_put σ τ p.Select = refl
prim_type_put σ τ p.Append = refl
prim_type_put σ τ p.Reverse = refl
prim_type_put σ τ p.Take = refl
prim_type_put σ τ p.Drop = refl
prim_type_put σ τ p.Transpose = refl
prim_type_put σ τ p.Replicate = refl
prim_type_put σ τ p.Length = refl
prim_type_put σ τ p.Positions = refl
prim_type_put σ τ p.IndexOr = refl
prim_type_put σ τ p.Reduce = refl
prim_type_put σ τ p.Fold = refl
prim_type_put σ τ p.Iota = refl
prim_type_put σ τ p.Reshape = refl
prim_type_put σ τ p.Ravel = refl
prim_type_put σ τ p.Filter = refl
