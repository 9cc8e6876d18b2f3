-- A typed term keeps its types in a context that has more outer variables.
use Rattle.std.proofs.Common.{◌≡◌, refl, ◌∙◌, ap, ℕ, zero, suc, ◌+◌, ◌≤◌, arith, List, [], ◌∷◌, length, Option, Some, None}
use Rattle.std.specs.Prelude.{slice_get}
use Rattle.core_syntax.specs.declared.index.Sort.{Sort}
use Rattle.core_syntax.specs.declared.index.Sort.TheVariants as sort
use Rattle.core_syntax.specs.Syntax.{Index, Num, Var, Sum, Dims, Join, Indices, end, more, Ty, BaseTy, TyVar, Fun, Forall, Pi, Sigma, Arr, Tys, no_tys, more_tys, no_span, ty_list}
use Rattle.core_syntax.specs.Lists.{onto, each, Each, EachTwo}
use Rattle.core_syntax.specs.Sorts.{IsSorted, AreSorted}
use Rattle.core_syntax.specs.Kinds.{IsWellFormed, AreWellFormed}
use Rattle.core_syntax.specs.Value.{IndexEqual, IsPrefix, then_shape}
use Rattle.core_syntax.specs.Subst.{with_types, with_indices, ty_under_index, ty_under_type}
use Rattle.core_syntax.specs.Prims.{prim_type, array_of, int_ty, bool_ty, char_ty}
use Rattle.core_syntax.specs.Typing.{Context, times, under_types, under_sorts, under_terms, numbers, OnArr, Takes, IsAtomType, IsPrincipal}
use Rattle.core_syntax.specs.Terms.{TVar, TDef, TArray, TNoAtoms, TFrame, TNoCells, TApp, TTypeApp, TIndexApp, TUnbox, Terms, no_terms, more_terms, Cell, TInt, TBool, TChar, TPrim, TFn, TTypeFn, TIndexFn, TBoxed, Cells, no_cells, more_cells}
use Rattle.core_syntax.specs.Typed.{typed, TypedTerm}
use Rattle.core_syntax.specs.TermTyping.{Notes, GivenTypes, GivenIndices, PrimHas, HasTerm, TermsHave, TermArgsHave, HasCell, CellsHave}

-- what stands in a list at a place stands there in the other list too
abbrev pub Extends : {A : Type 0} → List A → List A → Type 0
Extends {A} xs ys = (k : ℕ) (a : A) → slice_get xs k ≡ Some a → slice_get ys k ≡ Some a

-- a context has what another has, and perhaps more outside
pub record Wider (Γ Δ : Context) : Type 0 where
  pub defs : Extends Γ.defs Δ.defs
  pub types : Γ.types ≤ Δ.types
  pub sorts : Extends Γ.sorts Δ.sorts
  pub terms : Extends Γ.terms Δ.terms

extends_cons : {A : Type 0} (x : A) (xs ys : List A) → Extends xs ys → Extends (x ∷ xs) (x ∷ ys)
extends_cons x xs ys h zero a e = e
extends_cons x xs ys h (suc k) a e = h k a e

pub extends_onto : {A : Type 0} (zs xs ys : List A) → Extends xs ys → Extends (onto zs xs) (onto zs ys)
extends_onto [] xs ys h = h
extends_onto (z ∷ zs) xs ys h = extends_onto zs (z ∷ xs) (z ∷ ys) (extends_cons z xs ys h)

-- an item of `each f` comes from an item
pub from_each : {A B : Type 0} (f : A → B) (xs : List A) (k : ℕ) (b : B) → slice_get (each f xs) k ≡ Some b → (a : A) × (slice_get xs k ≡ Some a) × (f a ≡ b)
from_each f [] k b e = absurd (cc)
from_each f (x ∷ xs) zero b e = (x, refl, cc)
from_each f (x ∷ xs) (suc k) b e = from_each f xs k b e

pub to_each : {A B : Type 0} (f : A → B) (xs : List A) (k : ℕ) (a : A) → slice_get xs k ≡ Some a → slice_get (each f xs) k ≡ Some (f a)
to_each f [] k a e = absurd (cc)
to_each f (x ∷ xs) zero a e = let same : x ≡ a = cc in ap (λ a. Some (f a)) same
to_each f (x ∷ xs) (suc k) a e = to_each f xs k a e

extends_each : {A B : Type 0} (f : A → B) (xs ys : List A) → Extends xs ys → Extends (each f xs) (each f ys)
extends_each f xs ys h k b e =
    let g = from_each f xs k b e in
    to_each f ys k g.0 (h k g.0 g.1) ∙ ap Some g.2

wider_types : (n : ℕ) (Γ Δ : Context) → Wider Γ Δ → Wider (under_types n Γ) (under_types n Δ)
wider_types n Γ Δ w = record { defs = w.defs; types = let t = w.types in omega arith; sorts = w.sorts; terms = extends_each (times n ty_under_type) Γ.terms Δ.terms w.terms }

wider_sorts : (ss : List Sort) (Γ Δ : Context) → Wider Γ Δ → Wider (under_sorts ss Γ) (under_sorts ss Δ)
wider_sorts ss Γ Δ w = record { defs = w.defs; types = w.types; sorts = extends_onto ss Γ.sorts Δ.sorts w.sorts; terms = extends_each (times (length ss) ty_under_index) Γ.terms Δ.terms w.terms }

wider_terms : (ts : List Ty) (Γ Δ : Context) → Wider Γ Δ → Wider (under_terms ts Γ) (under_terms ts Δ)
wider_terms ts Γ Δ w = record { defs = w.defs; types = w.types; sorts = w.sorts; terms = extends_onto ts Γ.terms Δ.terms w.terms }

-- ---- sorts, types and premises

mutual
  sorted : (ss rs : List Sort) → Extends ss rs → (s : Sort) (i : Index) → IsSorted ss s i → IsSorted rs s i
  sorted ss rs w s (Num at n) h = h
  sorted ss rs w s (Var at k) h = w k s h
  sorted ss rs w s (Sum at is) h = (h.0, all_sorted ss rs w sort.Dim is h.1)
  sorted ss rs w s (Dims at is) h = (h.0, all_sorted ss rs w sort.Dim is h.1)
  sorted ss rs w s (Join at is) h = (h.0, all_sorted ss rs w sort.Shape is h.1)

  all_sorted : (ss rs : List Sort) → Extends ss rs → (s : Sort) (is : Indices) → AreSorted ss s is → AreSorted rs s is
  all_sorted ss rs w s end h = tt
  all_sorted ss rs w s (more i is) h = (sorted ss rs w s i h.0, all_sorted ss rs w s is h.1)

mutual
  formed : (m n : ℕ) (ss rs : List Sort) → m ≤ n → Extends ss rs → (t : Ty) → IsWellFormed m ss t → IsWellFormed n rs t
  formed m n ss rs le w (BaseTy at b) h = tt
  formed m n ss rs le w (TyVar at k) h = omega arith
  formed m n ss rs le w (Fun at ts r) h = (all_formed m n ss rs le w ts h.0, formed m n ss rs le w r h.1)
  formed m n ss rs le w (Forall at k t) h = formed (k + m) (k + n) ss rs (omega arith) w t h
  formed m n ss rs le w (Pi at qs t) h = formed m n (onto qs ss) (onto qs rs) le (extends_onto qs ss rs w) t h
  formed m n ss rs le w (Sigma at qs t) h = formed m n (onto qs ss) (onto qs rs) le (extends_onto qs ss rs w) t h
  formed m n ss rs le w (Arr at t i) h = (h.0, sorted ss rs w sort.Shape i h.1, formed m n ss rs le w t h.2)

  all_formed : (m n : ℕ) (ss rs : List Sort) → m ≤ n → Extends ss rs → (ts : Tys) → AreWellFormed m ss ts → AreWellFormed n rs ts
  all_formed m n ss rs le w no_tys h = tt
  all_formed m n ss rs le w (more_tys t ts) h = (formed m n ss rs le w t h.0, all_formed m n ss rs le w ts h.1)

pub each_to : {A : Type 0} (P Q : A → Type 0) (xs : List A) → ((a : A) → P a → Q a) → Each P xs → Each Q xs
each_to P Q [] f h = tt
each_to P Q (x ∷ xs) f h = (f x h.0, each_to P Q xs f h.1)

pub two_to : {A B : Type 0} (P Q : A → B → Type 0) (xs : List A) (ys : List B) → ((a : A) (b : B) → P a b → Q a b) → EachTwo P xs ys → EachTwo Q xs ys
two_to P Q [] [] f h = tt
two_to P Q (x ∷ xs) (y ∷ ys) f h = (f x y h.0, two_to P Q xs ys f h.1)
two_to P Q _ _ f h = absurd h

module _ (Γ Δ : Context) (w : Wider Γ Δ) where
  wf : (t : Ty) → IsWellFormed Γ.types Γ.sorts t → IsWellFormed Δ.types Δ.sorts t
  wf t h = formed Γ.types Δ.types Γ.sorts Δ.sorts w.types w.sorts t h

  srt : (s : Sort) (i : Index) → IsSorted Γ.sorts s i → IsSorted Δ.sorts s i
  srt s i h = sorted Γ.sorts Δ.sorts w.sorts s i h

  takes : (a t : Ty) → Takes Γ a t → Takes Δ a t
  takes a t h = (wf t h.0, h.1)

  noted : (a t : Ty) → Notes Γ a t → Notes Δ a t
  noted a t h = (wf a h.0, wf t h.1, h.2)

  atomic : (t : Ty) → IsAtomType Γ t → IsAtomType Δ t
  atomic t h = (h.0, wf t h.1)

  equal : (s : Sort) (i j : Index) → IndexEqual Γ.sorts s i j → IndexEqual Δ.sorts s i j
  equal s i j h = (srt s i h.0, srt s j h.1, h.2)

  prefix : (p q : Index) → IsPrefix Γ.sorts p q → IsPrefix Δ.sorts p q
  prefix p q h = (h.0, equal sort.Shape (then_shape p h.0) q h.1)

  principal : (ps : List Index) (p : Index) → IsPrincipal Γ ps p → IsPrincipal Δ ps p
  principal ps p h = (h.0, h.1, each_to (λ q. IsPrefix Γ.sorts q p) (λ q. IsPrefix Δ.sorts q p) ps (λ q. prefix q p) h.2)

  concluded : (r : Ty) (p : Index) (t : Ty) → OnArr r (λ a c. Takes Γ (array_of a (then_shape p c)) t) → OnArr r (λ a c. Takes Δ (array_of a (then_shape p c)) t)
  concluded (Arr at a c) p t h = takes (array_of a (then_shape p c)) t h
  concluded _ p t h = absurd h

  sorted_all : (ss : List Sort) (is : List Index) → EachTwo (IsSorted Γ.sorts) ss is → EachTwo (IsSorted Δ.sorts) ss is
  sorted_all ss is h = two_to (IsSorted Γ.sorts) (IsSorted Δ.sorts) ss is srt h

  atomic_all : (us : List Ty) → Each (IsAtomType Γ) us → Each (IsAtomType Δ) us
  atomic_all us h = each_to (IsAtomType Γ) (IsAtomType Δ) us atomic h

  given_indices : (g : Ty) (is : List Index) (P Q : Ty → Type 0) → ((u : Ty) → P u → Q u) → GivenIndices Γ g is P → GivenIndices Δ g is Q
  given_indices (Pi at ss b) is P Q f h = (sorted_all ss is h.0, on (with_indices is b) h.1)
    where
      on : (r : Ty) → OnArr r (λ t s. P t) → OnArr r (λ t s. Q t)
      on (Arr at a c) h = f a h
      on _ h = absurd h
  given_indices _ is P Q f h = absurd h

  given_types : (g : Ty) (us : List Ty) (P Q : Ty → Type 0) → ((u : Ty) → P u → Q u) → GivenTypes Γ g us P → GivenTypes Δ g us Q
  given_types (Forall at n b) us P Q f h = (h.0, atomic_all us h.1, on (with_types us b) h.2)
    where
      on : (r : Ty) → OnArr r (λ t s. P t) → OnArr r (λ t s. Q t)
      on (Arr at a c) h = f a h
      on _ h = absurd h
  given_types _ us P Q f h = absurd h

  prim_wider : (g : Ty) (us : Option (List Ty)) (is : Option (List Index)) (t : Ty) → PrimHas Γ g us is t → PrimHas Δ g us is t
  prim_wider g None None t h = takes g t h
  prim_wider g (Some us) None t h = given_types g us (λ u. Takes Γ u t) (λ u. Takes Δ u t) (λ u. takes u t) h
  prim_wider g None (Some is) t h = given_indices g is (λ u. Takes Γ u t) (λ u. Takes Δ u t) (λ u. takes u t) h
  prim_wider g (Some us) (Some is) t h =
      given_types g us (λ u. GivenIndices Γ u is (λ q. Takes Γ q t)) (λ u. GivenIndices Δ u is (λ q. Takes Δ q t))
      (λ u. given_indices u is (λ q. Takes Γ q t) (λ q. Takes Δ q t) (λ q. takes q t)) h

-- ---- terms

mutual
  pub has_wider : (Γ Δ : Context) → Wider Γ Δ → (e : TypedTerm) (t : Ty) → HasTerm Γ e t → HasTerm Δ e t
  has_wider Γ Δ w (TVar k) t h = (h.0, w.terms k h.0 h.1, takes Γ Δ w h.0 t h.2)
  has_wider Γ Δ w (TDef k) t h = (h.0, w.defs k h.0 h.1, takes Γ Δ w h.0 t h.2)
  has_wider Γ Δ w (TArray dims no_cells) t h = h
  has_wider Γ Δ w (TArray dims (more_cells x xs)) t h =
      (h.0, cell_wider Γ Δ w x h.0 h.1, cells_wider Γ Δ w xs h.0 h.2, takes Γ Δ w (array_of h.0 (numbers dims)) t h.3, h.4)
  has_wider Γ Δ w (TNoAtoms dims a) t h = (atomic Γ Δ w a h.0, takes Γ Δ w (array_of a (numbers dims)) t h.1, h.2)
  has_wider Γ Δ w (TFrame dims no_terms note) t h = h
  has_wider Γ Δ w (TFrame dims (more_terms e es) note) t h = (
    h.0,
    h.1,
    has_wider Γ Δ w e (array_of h.0 h.1) h.2,
    all_wider Γ Δ w es (array_of h.0 h.1) h.3,
    noted Γ Δ w (array_of h.0 h.1) note h.4,
    takes Γ Δ w (array_of h.0 (then_shape (numbers dims) h.1)) t h.5,
    h.6,
  )
  has_wider Γ Δ w (TNoCells c) t h = (wf Γ Δ w c.cell h.0, concluded Γ Δ w c.cell (numbers c.dims) t h.1, h.2)
  has_wider Γ Δ w (TApp f es cs note) t h = (
    h.0,
    h.1,
    h.2,
    has_wider Γ Δ w f (array_of (Fun no_span h.0 h.1) h.2) h.3,
    (
      h.4.0,
      args_wider Γ Δ w es h.0 cs h.4.0 h.4.1,
      noted Γ Δ w h.1 note h.4.2,
      (h.4.3.0, principal Γ Δ w (h.2 ∷ h.4.0) h.4.3.0 h.4.3.1, concluded Γ Δ w h.1 h.4.3.0 t h.4.3.2),
    ),
  )
  has_wider Γ Δ w (TTypeApp e us note) t h = (
    h.0,
    h.1,
    h.2,
    has_wider Γ Δ w e (array_of (Forall no_span h.0 h.1) h.2) h.3,
    h.4,
    atomic_all Γ Δ w us h.5,
    noted Γ Δ w (with_types us h.1) note h.6,
    concluded Γ Δ w (with_types us h.1) h.2 t h.7,
  )
  has_wider Γ Δ w (TIndexApp e is note) t h = (
    h.0,
    h.1,
    h.2,
    has_wider Γ Δ w e (array_of (Pi no_span h.0 h.1) h.2) h.3,
    sorted_all Γ Δ w h.0 is h.4,
    noted Γ Δ w (with_indices is h.1) note h.5,
    concluded Γ Δ w (with_indices is h.1) h.2 t h.6,
  )
  has_wider Γ Δ w (TUnbox ss e b note) t h = (
    h.0,
    h.1,
    has_wider Γ Δ w e (array_of (Sigma no_span ss h.0) h.1) h.2,
    wf Γ Δ w note h.3,
    has_wider (under_terms (h.0 ∷ []) (under_sorts ss Γ)) (under_terms (h.0 ∷ []) (under_sorts ss Δ))
        (wider_terms (h.0 ∷ []) (under_sorts ss Γ) (under_sorts ss Δ) (wider_sorts ss Γ Δ w)) b (times (length ss) ty_under_index note) h.4,
    concluded Γ Δ w note h.1 t h.5,
  )

  all_wider : (Γ Δ : Context) → Wider Γ Δ → (es : Terms typed) (t : Ty) → TermsHave Γ es t → TermsHave Δ es t
  all_wider Γ Δ w no_terms t h = tt
  all_wider Γ Δ w (more_terms e es) t h = (has_wider Γ Δ w e t h.0, all_wider Γ Δ w es t h.1)

  args_wider : (Γ Δ : Context) → Wider Γ Δ → (es : Terms typed) (ts : Tys) (cs ps : List Index) → TermArgsHave Γ es ts cs ps → TermArgsHave Δ es ts cs ps
  args_wider Γ Δ w no_terms no_tys [] [] h = tt
  args_wider Γ Δ w (more_terms e es) (more_tys (Arr at a q) ts) (c ∷ cs) (p ∷ ps) h =
      ((has_wider Γ Δ w e (array_of a (then_shape p q)) h.0.0, equal Γ Δ w sort.Shape q c h.0.1), args_wider Γ Δ w es ts cs ps h.1)
  args_wider Γ Δ w (more_terms e es) (more_tys _ ts) (c ∷ cs) (p ∷ ps) h = absurd h.0
  args_wider Γ Δ w _ _ _ _ h = absurd h

  cell_wider : (Γ Δ : Context) → Wider Γ Δ → (a : Cell typed) (t : Ty) → HasCell Γ a t → HasCell Δ a t
  cell_wider Γ Δ w (TInt z) t h = takes Γ Δ w int_ty t h
  cell_wider Γ Δ w (TBool z) t h = takes Γ Δ w bool_ty t h
  cell_wider Γ Δ w (TChar z) t h = takes Γ Δ w char_ty t h
  cell_wider Γ Δ w (TPrim p us is) t h = prim_wider Γ Δ w (prim_type p) us is t h
  cell_wider Γ Δ w (TFn i e) t h = (
    each_to (IsWellFormed Γ.types Γ.sorts) (IsWellFormed Δ.types Δ.sorts) i.inputs (wf Γ Δ w) h.0,
    wf Γ Δ w i.result h.1,
    has_wider (under_terms i.inputs Γ) (under_terms i.inputs Δ) (wider_terms i.inputs Γ Δ w) e i.result h.2,
    takes Γ Δ w (Fun no_span (ty_list i.inputs) i.result) t h.3,
  )
  cell_wider Γ Δ w (TTypeFn n e) t h = (h.0, has_wider (under_types n Γ) (under_types n Δ) (wider_types n Γ Δ w) e h.0 h.1, takes Γ Δ w (Forall no_span n h.0) t h.2)
  cell_wider Γ Δ w (TIndexFn ss e) t h = (h.0, has_wider (under_sorts ss Γ) (under_sorts ss Δ) (wider_sorts ss Γ Δ w) e h.0 h.1, takes Γ Δ w (Pi no_span ss h.0) t h.2)
  cell_wider Γ Δ w (TBoxed is e (Sigma at ss b)) t h =
      (atomic Γ Δ w (Sigma at ss b) h.0, (sorted_all Γ Δ w ss is h.1.0, has_wider Γ Δ w e (with_indices is b) h.1.1), takes Γ Δ w (Sigma at ss b) t h.2)
  cell_wider Γ Δ w (TBoxed is e _) t h = absurd h.1

  cells_wider : (Γ Δ : Context) → Wider Γ Δ → (xs : Cells typed) (t : Ty) → CellsHave Γ xs t → CellsHave Δ xs t
  cells_wider Γ Δ w no_cells t h = tt
  cells_wider Γ Δ w (more_cells a xs) t h = (cell_wider Γ Δ w a t h.0, cells_wider Γ Δ w xs t h.1)
