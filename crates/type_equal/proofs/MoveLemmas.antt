-- Moved variables, and the parts of what is moved.
use Rattle.std.proofs.Common.{◌≡◌, ◌∙◌, refl, sym, ap, subst, ℕ, zero, suc, ◌+◌, ◌-◌, ◌<◌, ◌≤◌, arith, ◌⊎◌, inl, inr, List, [], ◌∷◌, length, get_or}
use Rattle.std.proofs.lemmas.Bool.{cases_lt}
use Rattle.core_syntax.specs.declared.index.Index.{Index as IndexTree}
use Rattle.core_syntax.specs.declared.ty.Ty.{Ty as Tree}
use Rattle.core_syntax.specs.Refine.{index_of, indices_of, ty_of, tys_of}
use Rattle.core_syntax.specs.Syntax.{Index, Num, Var, Sum, Dims, Join, Indices, end, more, Ty, BaseTy, TyVar, Fun, Forall, Pi, Sigma, Arr, Tys, no_tys, more_tys}
use Rattle.core_syntax.specs.Made.{IndexMade, IndicesMade}
use Rattle.core_syntax.specs.NormTypes.{ty_size, tys_size}
use Rattle.core_syntax.specs.Subst.{past, past_n}
use Rattle.type_equal.specs.Moved.{up, moved_from, IsFreeBelow, AreFreeBelow, IndexMoves, IndicesMove, TyMoves, TysMove}

-- a bound variable stays, and a free one is moved
pub past_bound : (ρ : ℕ → ℕ) (n k : ℕ) → k < n → past_n n ρ k ≡ k
past_bound ρ zero k lt = absurd (omega arith)
past_bound ρ (suc n) zero lt = refl
past_bound ρ (suc n) (suc k) lt = ap suc (past_bound ρ n k (omega arith))

pub moved_free : (by n k : ℕ) → n ≤ k → moved_from by n k ≡ by + k
moved_free by zero k le = refl
moved_free by (suc n) zero le = absurd (omega arith)
moved_free by (suc n) (suc k) le = let e : suc (by + k) ≡ by + suc k = omega arith in ap suc (moved_free by n k (omega arith)) ∙ e

-- binders under binders
pub past_more : (ρ : ℕ → ℕ) (n m : ℕ) → past_n n (past_n m ρ) ≡ past_n (m + n) ρ
past_more ρ zero m = let e : m ≡ m + 0 = omega arith in ap (λ k. past_n k ρ) e
past_more ρ (suc n) m = let e : suc (m + n) ≡ m + suc n = omega arith in ap past (past_more ρ n m) ∙ ap (λ k. past_n k ρ) e

pub index_moves : (by from : ℕ) (xs : List IndexTree) (k : ℕ) (x : IndexTree) → IndicesMove by from (indices_of xs) → k < length xs → x ≡ get_or xs k x → IndexMoves by from (index_of x)
index_moves by from [] k x h lt is = absurd (omega arith)
index_moves by from (y ∷ xs) zero x h lt is = subst (λ z. IndexMoves by from (index_of z)) (sym is) h.0
index_moves by from (y ∷ xs) (suc k) x h lt is = index_moves by from xs k x h.1 (omega arith) is

pub ty_moves : (n from m below : ℕ) (xs : List Tree) (k : ℕ) (x : Tree) → TysMove n from m below (tys_of xs) → k < length xs → x ≡ get_or xs k x → TyMoves n from m below (ty_of x)
ty_moves n from m below [] k x h lt is = absurd (omega arith)
ty_moves n from m below (y ∷ xs) zero x h lt is = subst (λ z. TyMoves n from m below (ty_of z)) (sym is) h.0
ty_moves n from m below (y ∷ xs) (suc k) x h lt is = ty_moves n from m below xs k x h.1 (omega arith) is

-- ---- free variables that are small enough move

at_move : (n x from k : ℕ) → ((j : ℕ) → j < x → n + j < 4294934528) → from ≤ 32768 → k < from + x → moved_from n from k < 4294967296
at_move n x from k h le lt = by (cases_lt k from)
  where
    by : (k < from) ⊎ (from ≤ k) → moved_from n from k < 4294967296
    by (inl small) = let e : moved_from n from k ≡ k = past_bound (up n) from k small in omega (arith, e)
    by (inr free) =
        let e : moved_from n from k ≡ n + k = moved_free n from k free in
        let b : n + (k - from) < 4294934528 = h (k - from) (omega arith) in
        omega (arith, e, b)

module _ (m y below : ℕ) (h : (j : ℕ) → j < y → m + j < 4294934528) (le : below ≤ 32768) where
  mutual
    pub made_moves : (i : Index) → IndexMade (below + y) i → IndexMoves m below i
    made_moves (Num at k) p = tt
    made_moves (Var at k) p = at_move m y below k h le p
    made_moves (Sum at is) p = all_made_move is p
    made_moves (Dims at is) p = all_made_move is p
    made_moves (Join at is) p = all_made_move is p

    all_made_move : (is : Indices) → IndicesMade (below + y) is → IndicesMove m below is
    all_made_move end p = tt
    all_made_move (more i is) p = (made_moves i p.0, all_made_move is p.1)

module _ (n x m y : ℕ) (h : (j : ℕ) → j < x → n + j < 4294934528) (g : (j : ℕ) → j < y → m + j < 4294934528) where
  mutual
    pub free_moves : (from below : ℕ) (t : Ty) → IsFreeBelow (from + x) (below + y) t → from + ty_size t ≤ 32768 → below + ty_size t ≤ 32768 → TyMoves n from m below t
    free_moves from below (BaseTy at b) p le le' = tt
    free_moves from below (TyVar at k) p le le' = at_move n x from k h (omega arith) p
    free_moves from below (Fun at ts r) p le le' =
        (all_free_move from below ts p.0 (omega arith) (omega arith), free_moves from below r p.1 (omega arith) (omega arith))
    free_moves from below (Forall at k t) p le le' =
        let e : k + (from + x) ≡ (from + k) + x = omega arith in
        (omega arith, free_moves (from + k) below t (subst (λ z. IsFreeBelow z (below + y) t) e p) (omega arith) (omega arith))
    free_moves from below (Pi at ss t) p le le' =
        let e : length ss + (below + y) ≡ (below + length ss) + y = omega arith in
        (omega arith, free_moves from (below + length ss) t (subst (λ z. IsFreeBelow (from + x) z t) e p) (omega arith) (omega arith))
    free_moves from below (Sigma at ss t) p le le' =
        let e : length ss + (below + y) ≡ (below + length ss) + y = omega arith in
        (omega arith, free_moves from (below + length ss) t (subst (λ z. IsFreeBelow (from + x) z t) e p) (omega arith) (omega arith))
    free_moves from below (Arr at t i) p le le' =
        (free_moves from below t p.0 (omega arith) (omega arith), made_moves m y below g (omega arith) i p.1)

    all_free_move : (from below : ℕ) (ts : Tys) → AreFreeBelow (from + x) (below + y) ts → from + tys_size ts ≤ 32768 → below + tys_size ts ≤ 32768 → TysMove n from m below ts
    all_free_move from below no_tys p le le' = tt
    all_free_move from below (more_tys t ts) p le le' =
        (free_moves from below t p.0 (omega arith) (omega arith), all_free_move from below ts p.1 (omega arith) (omega arith))

small_enough : (n : ℕ) (j : ℕ) → j < 3221225472 - n → n + j < 4294934528
small_enough n j lt = omega arith

none_bound : (x y : ℕ) (t : Ty) → IsFreeBelow x y t → IsFreeBelow (0 + x) (0 + y) t
none_bound x y t p =
    let e : x ≡ 0 + x = omega arith in
    let f : y ≡ 0 + y = omega arith in
    subst (λ z. IsFreeBelow (0 + x) z t) f (subst (λ z. IsFreeBelow z y t) e p)

pub moves_within : (n m : ℕ) (t : Ty) → IsFreeBelow (3221225472 - n) (3221225472 - m) t → ty_size t ≤ 16384 → TyMoves n 0 m 0 t
moves_within n m t p le =
    free_moves n (3221225472 - n) m (3221225472 - m) (small_enough n) (small_enough m) 0 0 t (none_bound (3221225472 - n) (3221225472 - m) t p) (omega arith) (omega arith)

inside_enough : (n : ℕ) → n ≤ 16384 → (j : ℕ) → j < 3221225472 → n + j < 4294934528
inside_enough n le j lt = omega arith

pub moves_inside : (n m : ℕ) → n ≤ 16384 → m ≤ 16384 → (t : Ty) → IsFreeBelow 3221225472 3221225472 t → ty_size t ≤ 16384 → TyMoves n 0 m 0 t
moves_inside n m p q t h le = free_moves n 3221225472 m 3221225472 (inside_enough n p) (inside_enough m q) 0 0 t (none_bound 3221225472 3221225472 t h) (omega arith) (omega arith)

pub index_moves_inside : (m : ℕ) → m ≤ 16384 → (i : Index) → IndexMade 3221225472 i → IndexMoves m 0 i
index_moves_inside m q i h = made_moves m 3221225472 0 (inside_enough m q) (omega arith) i h
