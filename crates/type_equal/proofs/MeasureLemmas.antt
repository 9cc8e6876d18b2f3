-- The measure of a type, read part by part.
use Rattle.std.proofs.Common.{◌≡◌, ◌∙◌, refl, sym, ap, ℕ, ◌+◌, ◌<◌, ◌≤◌, max, arith, length, drop, slice_index_or, get_or, zero, suc, List, [], ◌∷◌, Bool, true, false, true≢false, ◌||◌, Option, Some, None, ◌⊎◌, inl, inr}
use Rattle.std.proofs.lemmas.Bool.{lt-ltb, le-ltb, cases_lt}
use Rattle.core_syntax.specs.declared.ty.Ty.{Ty as Tree}
use Rattle.core_syntax.specs.Refine.{ty_of, tys_of}
use Rattle.core_syntax.specs.Syntax.{more_tys}
use Rattle.core_syntax.specs.Norm.{measured}
use Rattle.core_syntax.specs.NormTypes.{ty_size, tys_size, ty_depth, tys_depth}
use Rattle.core_syntax.proofs.TyRows.{tys_behind}

pub behind : (k : ℕ) (xs : List Tree) (d : Tree) → k < length xs → tys_of (drop k xs) ≡ more_tys (ty_of (slice_index_or xs k d)) (tys_of (drop (k + 1) xs))
behind k xs d lt = tys_behind k xs d lt

pub sizes_behind : (k : ℕ) (xs : List Tree) (x : Tree) → k < length xs → x ≡ slice_index_or xs k x → tys_size (tys_of (drop k xs)) ≡ ty_size (ty_of x) + tys_size (tys_of (drop (k + 1) xs))
sizes_behind k xs x lt e = ap tys_size (tys_behind k xs x lt) ∙ ap (λ y. ty_size (ty_of y) + tys_size (tys_of (drop (k + 1) xs))) (sym e)

pub depths_behind : (k : ℕ) (xs : List Tree) (x : Tree) → k < length xs → x ≡ slice_index_or xs k x → tys_depth (tys_of (drop k xs)) ≡ max (ty_depth (ty_of x)) (tys_depth (tys_of (drop (k + 1) xs)))
depths_behind k xs x lt e = ap tys_depth (tys_behind k xs x lt) ∙ ap (λ y. max (ty_depth (ty_of y)) (tys_depth (tys_of (drop (k + 1) xs)))) (sym e)

pub or_true : (x y : Bool) → x ≡ true → true ≡ (x || y)
or_true true y e = refl
or_true false y e = absurd (true≢false (sym e))

pub or_false : (x y : Bool) → x ≡ false → y ≡ (x || y)
or_false false y e = refl
or_false true y e = absurd (true≢false e)

-- the tests of a measure in their order
pub measured_large : (large : Bool) (size depth : ℕ) → large ≡ true → Some 13 ≡ measured large size depth
measured_large true size depth e = refl
measured_large false size depth e = absurd (true≢false (sym e))

pub measured_size : (large : Bool) (size depth : ℕ) → large ≡ false → 16384 < size → Some 16 ≡ measured large size depth
measured_size false size depth e lt = rw (lt-ltb 16384 size lt) refl
measured_size true size depth e lt = absurd (true≢false e)

pub measured_depth : (large : Bool) (size depth : ℕ) → large ≡ false → size ≤ 16384 → 512 < depth → Some 16 ≡ measured large size depth
measured_depth false size depth e le lt = rw (le-ltb 16384 size le, lt-ltb 512 depth lt) refl
measured_depth true size depth e le lt = absurd (true≢false e)

pub measured_none : (large : Bool) (size depth : ℕ) → large ≡ false → size ≤ 16384 → depth ≤ 512 → None ≡ measured large size depth
measured_none false size depth e p q = rw (le-ltb 16384 size p, le-ltb 512 depth q) refl
measured_none true size depth e p q = absurd (true≢false e)

-- ---- what is measured and fits

abbrev is_some : Option ℕ → Bool
is_some None = false
is_some (Some n) = true

nothing : (n : ℕ) → Some n ≡ None → ⊥
nothing n e = true≢false (ap is_some e)

pub none_large : (large : Bool) (size depth : ℕ) → measured large size depth ≡ None → large ≡ false
none_large false size depth e = refl
none_large true size depth e = absurd (nothing 13 e)

pub none_wide : (large : Bool) (size depth : ℕ) → measured large size depth ≡ None → size ≤ 16384
none_wide large size depth e = by (cases_lt 16384 size)
  where
    by : (16384 < size) ⊎ (size ≤ 16384) → size ≤ 16384
    by (inl lt) = absurd (nothing 16 (measured_size large size depth (none_large large size depth e) lt ∙ e))
    by (inr le) = le

-- a type of a list is no larger than the list
pub size_among : (xs : List Tree) (k : ℕ) (x : Tree) → k < length xs → x ≡ get_or xs k x → ty_size (ty_of x) ≤ tys_size (tys_of xs)
size_among [] k x lt is = absurd (omega arith)
size_among (y ∷ xs) zero x lt is = let e : ty_size (ty_of x) ≡ ty_size (ty_of y) = ap (λ z. ty_size (ty_of z)) is in omega (arith, e)
size_among (y ∷ xs) (suc k) x lt is = let e : ty_size (ty_of x) ≤ tys_size (tys_of xs) = size_among xs k x (omega arith) is in omega (arith, e)
