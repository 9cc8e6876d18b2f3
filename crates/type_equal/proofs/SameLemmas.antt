-- Trees that are the same but for their places, read part by part, and what they are equal to.
use Rattle.std.proofs.Common.{◌≡◌, ◌↔◌, ◌∙◌, refl, sym, ap, subst, ℕ, zero, suc, ◌+◌, ◌<◌, arith, length, drop, slice_index_or, List, [], ◌∷◌, Bool, true, false, true≢false, IsTrue, ◌&&◌, ◌==◌}
use Rattle.std.proofs.lemmas.Bool.Decides.{nat_tests}
use Rattle.core_syntax.specs.declared.index.Sort.{Sort}
use Rattle.core_syntax.specs.declared.index.Sort.TheVariants as sort
use Rattle.core_syntax.specs.declared.index.Index.{Index as IndexTree}
use Rattle.core_syntax.specs.declared.ty.Ty.{Ty as TyTree}
use Rattle.core_syntax.specs.declared.ty.Base.{Base}
use Rattle.core_syntax.specs.declared.ty.Base.TheVariants as base
use Rattle.core_syntax.specs.Refine.{index_of, indices_of, ty_of, tys_of}
use Rattle.core_syntax.specs.Syntax.{Index, Num, Var, Sum, Dims, Join, Indices, end, more, Ty, BaseTy, TyVar, Fun, Forall, Pi, Sigma, Arr, Tys, no_tys, more_tys}
use Rattle.core_syntax.specs.Value.{Valuation, dim_val, dim_sum, dim_vals, shape_val, shape_join}
use Rattle.core_syntax.specs.TypeEqual.{Same, AllSame, TypeEqual}
use Rattle.core_syntax.specs.Kinds.{IsWellFormed}
use Rattle.core_syntax.specs.NormTypes.{norm_ty}
use Rattle.core_syntax.proofs.NormTyLemmas.{same_normal, normal_same}
use Rattle.type_equal.specs.SameTree.{same_index, same_indices, base_number, same_sort, same_sorts, same_ty, same_tys}

pub both : (a b : Bool) → (a && b) ≡ true → (a ≡ true) × (b ≡ true)
both true b e = (refl, e)
both false b e = absurd (true≢false (sym e))

pub of_both : (a b : Bool) → a ≡ true → b ≡ true → (a && b) ≡ true
of_both true b p q = q
of_both false b p q = absurd (true≢false (sym p))

equal : (m n : ℕ) → (m == n) ≡ true → m ≡ n
equal m n e = grind (arith, nat_tests)

equal_self : (n : ℕ) → (n == n) ≡ true
equal_self n = grind (arith, nat_tests)

-- ---- a tree is the same as itself

mutual
  index_self : (i : Index) → same_index i i ≡ true
  index_self (Num at n) = equal_self n
  index_self (Var at k) = equal_self k
  index_self (Sum at is) = indices_self is
  index_self (Dims at is) = indices_self is
  index_self (Join at is) = indices_self is

  indices_self : (is : Indices) → same_indices is is ≡ true
  indices_self end = refl
  indices_self (more i is) = of_both (same_index i i) (same_indices is is) (index_self i) (indices_self is)

sort_self : (s : Sort) → same_sort s s ≡ true
sort_self sort.Dim = refl
sort_self sort.Shape = refl

sorts_self : (ss : List Sort) → same_sorts ss ss ≡ true
sorts_self [] = refl
sorts_self (s ∷ ss) = of_both (same_sort s s) (same_sorts ss ss) (sort_self s) (sorts_self ss)

mutual
  ty_self : (t : Ty) → same_ty t t ≡ true
  ty_self (BaseTy at b) = equal_self (base_number b)
  ty_self (TyVar at k) = equal_self k
  ty_self (Fun at ts r) = of_both (same_tys ts ts) (same_ty r r) (tys_self ts) (ty_self r)
  ty_self (Forall at n t) = of_both (n == n) (same_ty t t) (equal_self n) (ty_self t)
  ty_self (Pi at ss t) = of_both (same_sorts ss ss) (same_ty t t) (sorts_self ss) (ty_self t)
  ty_self (Sigma at ss t) = of_both (same_sorts ss ss) (same_ty t t) (sorts_self ss) (ty_self t)
  ty_self (Arr at t i) = of_both (same_index i i) (same_ty t t) (index_self i) (ty_self t)

  tys_self : (ts : Tys) → same_tys ts ts ≡ true
  tys_self no_tys = refl
  tys_self (more_tys t ts) = of_both (same_ty t t) (same_tys ts ts) (ty_self t) (tys_self ts)

-- ---- trees that are the same have the same values

mutual
  dim_same : (v : Valuation) (i j : Index) → same_index i j ≡ true → dim_val v i ≡ dim_val v j
  dim_same v (Num at n) (Num at' m) e = sym (equal m n e)
  dim_same v (Var at k) (Var at' l) e = ap v.dim (sym (equal l k e))
  dim_same v (Sum at is) (Sum at' js) e = dim_sums_same v is js e
  dim_same v (Dims at is) (Dims at' js) e = refl
  dim_same v (Join at is) (Join at' js) e = refl
  dim_same v _ _ e = absurd (true≢false (sym e))

  dim_sums_same : (v : Valuation) (is js : Indices) → same_indices is js ≡ true → dim_sum v is ≡ dim_sum v js
  dim_sums_same v end end e = refl
  dim_sums_same v (more i is) (more j js) e =
      let h = both (same_index i j) (same_indices is js) e in
      λ k. dim_same v i j h.0 k + dim_sums_same v is js h.1 k
  dim_sums_same v _ _ e = absurd (true≢false (sym e))

dims_same : (v : Valuation) (is js : Indices) → same_indices is js ≡ true → dim_vals v is ≡ dim_vals v js
dims_same v end end e = refl
dims_same v (more i is) (more j js) e =
    let h = both (same_index i j) (same_indices is js) e in
    λ k. dim_same v i j h.0 k ∷ dims_same v is js h.1 k
dims_same v _ _ e = absurd (true≢false (sym e))

mutual
  shape_same : (v : Valuation) (i j : Index) → same_index i j ≡ true → shape_val v i ≡ shape_val v j
  shape_same v (Num at n) (Num at' m) e = refl
  shape_same v (Var at k) (Var at' l) e = ap v.shape (sym (equal l k e))
  shape_same v (Sum at is) (Sum at' js) e = refl
  shape_same v (Dims at is) (Dims at' js) e = dims_same v is js e
  shape_same v (Join at is) (Join at' js) e = joins_same v is js e
  shape_same v _ _ e = absurd (true≢false (sym e))

  joins_same : (v : Valuation) (is js : Indices) → same_indices is js ≡ true → shape_join v is ≡ shape_join v js
  joins_same v end end e = refl
  joins_same v (more i is) (more j js) e =
      let h = both (same_index i j) (same_indices is js) e in
      let first = shape_same v i j h.0 in
      let others = joins_same v is js h.1 in
      cc
  joins_same v _ _ e = absurd (true≢false (sym e))

base_same : (b c : Base) → (base_number c == base_number b) ≡ true → b ≡ c
base_same base.Int base.Int e = refl
base_same base.Bool base.Bool e = refl
base_same base.Char base.Char e = refl
base_same _ _ e = absurd (true≢false (sym e))

sort_same : (s r : Sort) → same_sort s r ≡ true → s ≡ r
sort_same sort.Dim sort.Dim e = refl
sort_same sort.Shape sort.Shape e = refl
sort_same _ _ e = absurd (true≢false (sym e))

sorts_same : (ss rs : List Sort) → same_sorts ss rs ≡ true → ss ≡ rs
sorts_same [] [] e = refl
sorts_same (s ∷ ss) (r ∷ rs) e =
    let h = both (same_sort s r) (same_sorts ss rs) e in
    λ k. sort_same s r h.0 k ∷ sorts_same ss rs h.1 k
sorts_same _ _ e = absurd (true≢false (sym e))

mutual
  ty_same : (t u : Ty) → same_ty t u ≡ true → Same t u
  ty_same (BaseTy at b) (BaseTy at' c) e = base_same b c e
  ty_same (TyVar at k) (TyVar at' l) e = sym (equal l k e)
  ty_same (Fun at ts r) (Fun at' us s) e = let h = both (same_tys ts us) (same_ty r s) e in (tys_same ts us h.0, ty_same r s h.1)
  ty_same (Forall at n t) (Forall at' m u) e = let h = both (m == n) (same_ty t u) e in (sym (equal m n h.0), ty_same t u h.1)
  ty_same (Pi at ss t) (Pi at' rs u) e = let h = both (same_sorts ss rs) (same_ty t u) e in (sorts_same ss rs h.0, ty_same t u h.1)
  ty_same (Sigma at ss t) (Sigma at' rs u) e = let h = both (same_sorts ss rs) (same_ty t u) e in (sorts_same ss rs h.0, ty_same t u h.1)
  ty_same (Arr at t i) (Arr at' u j) e = let h = both (same_index i j) (same_ty t u) e in (ty_same t u h.1, λ v. shape_same v i j h.0)
  ty_same _ _ e = absurd (true≢false (sym e))

  tys_same : (ts us : Tys) → same_tys ts us ≡ true → AllSame ts us
  tys_same no_tys no_tys e = tt
  tys_same (more_tys t ts) (more_tys u us) e = let h = both (same_ty t u) (same_tys ts us) e in (ty_same t u h.0, tys_same ts us h.1)
  tys_same _ _ e = absurd (true≢false (sym e))

-- ---- normal types

-- normal types that are the same but for their places are one
pub normal_one : (r : Bool) (a b : Ty) → norm_ty a ≡ a → norm_ty b ≡ b → r ≡ same_ty a b → IsTrue r ↔ (a ≡ b)
normal_one r a b p q e = (
  λ (t : IsTrue r). sym p ∙ same_normal a b (ty_same a b (sym e ∙ t)) ∙ q,
  λ (h : a ≡ b). e ∙ ap (same_ty a) (sym h) ∙ ty_self a,
)

pub types_equal : (r : Bool) (a b : Ty) → IsTrue r ↔ (a ≡ b) → (types : ℕ) (sorts : List Sort) (t u : Ty) → IsWellFormed types sorts t →
    IsWellFormed types sorts u → norm_ty t ≡ a → norm_ty u ≡ b → IsTrue r ↔ TypeEqual types sorts t u
types_equal r a b is types sorts t u wt wu p q = (
  λ (h : IsTrue r). (wt, wu, normal_same t u (p ∙ is.0 h ∙ sym q)),
  λ (h : TypeEqual types sorts t u). is.1 (sym p ∙ same_normal t u h.2 ∙ q),
)

-- ---- lists, read part by part

pub sorts_front : (k : ℕ) (xs : List Sort) (d : Sort) → k < length xs → drop k xs ≡ slice_index_or xs k d ∷ drop (k + 1) xs
sorts_front k [] d h = absurd (omega arith)
sorts_front zero (x ∷ xs) d h = refl
sorts_front (suc k) (x ∷ xs) d h =
    let at : suc k + 1 ≡ suc (k + 1) = omega arith in
    sorts_front k xs d (omega arith) ∙ ap (λ n. slice_index_or xs k d ∷ drop n (x ∷ xs)) (sym at)

-- ---- the tests in their order

pub and_true : (x y : Bool) → x ≡ true → (x && y) ≡ y
and_true true y e = refl
and_true false y e = absurd (true≢false (sym e))

pub and_first : (x y : Bool) → x ≡ false → false ≡ (x && y)
and_first false y e = refl
and_first true y e = absurd (true≢false e)

and_second : (x y : Bool) → false ≡ y → false ≡ (x && y)
and_second true y e = e
and_second false y e = refl

pub tested : (m n : ℕ) → m ≡ n → (m == n) ≡ true
tested m n e = grind (arith, nat_tests)

pub untested : (m n : ℕ) → (m ≡ n → ⊥) → (m == n) ≡ false
untested m n e = grind (arith, nat_tests)

pub parts_differ : (xs ys : List IndexTree) → (length xs ≡ length ys → ⊥) → false ≡ same_indices (indices_of xs) (indices_of ys)
parts_differ [] [] h = absurd (h refl)
parts_differ [] (y ∷ ys) h = refl
parts_differ (x ∷ xs) [] h = refl
parts_differ (x ∷ xs) (y ∷ ys) h = and_second (same_index (index_of x) (index_of y)) (same_indices (indices_of xs) (indices_of ys)) (parts_differ xs ys (λ e. h (omega (arith, e))))

pub types_differ : (xs ys : List TyTree) → (length xs ≡ length ys → ⊥) → false ≡ same_tys (tys_of xs) (tys_of ys)
types_differ [] [] h = absurd (h refl)
types_differ [] (y ∷ ys) h = refl
types_differ (x ∷ xs) [] h = refl
types_differ (x ∷ xs) (y ∷ ys) h = and_second (same_ty (ty_of x) (ty_of y)) (same_tys (tys_of xs) (tys_of ys)) (types_differ xs ys (λ e. h (omega (arith, e))))

pub sorts_differ : (xs ys : List Sort) → (length xs ≡ length ys → ⊥) → false ≡ same_sorts xs ys
sorts_differ [] [] h = absurd (h refl)
sorts_differ [] (y ∷ ys) h = refl
sorts_differ (x ∷ xs) [] h = refl
sorts_differ (x ∷ xs) (y ∷ ys) h = and_second (same_sort x y) (same_sorts xs ys) (sorts_differ xs ys (λ e. h (omega (arith, e))))

pub three_true : (x y z r : Bool) → x ≡ true → y ≡ true → r ≡ z → r ≡ (x && y && z)
three_true true true z r p q e = e
three_true true false z r p q e = absurd (true≢false (sym q))
three_true false y z r p q e = absurd (true≢false (sym p))

pub three_second : (x y z : Bool) → y ≡ false → false ≡ (x && y && z)
three_second true true z q = absurd (true≢false q)
three_second true false z q = refl
three_second false y z q = refl

pub moved : (r : Bool) (a b a' b' : TyTree) → a ≡ a' → b ≡ b' → IsTrue r ↔ (ty_of a ≡ ty_of b) → IsTrue r ↔ (ty_of a' ≡ ty_of b')
moved r a b a' b' p q h = subst (λ x. IsTrue r ↔ (ty_of a' ≡ ty_of x)) q (subst (λ x. IsTrue r ↔ (ty_of x ≡ ty_of b)) p h)
