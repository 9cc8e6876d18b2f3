-- Arguments that are popped one after another, the last first.
use Rattle.std.proofs.Common.{◌≡◌, ℕ, zero, suc, ◌+◌, ◌-◌, ◌≤◌, refl, ap, sym, subst, ◌∙◌, arith, List, [], ◌∷◌, ◌++◌, length, get_or, take, drop, reverse, Option, Some, None, length-append, append_assoc}
use Rattle.std.specs.Option.{option_map, IfSome}
use Rattle.std.proofs.lemmas.List.{reverse-append, drop_all, take_all, take_more, append-nil}
use Rattle.std.proofs.lemmas.List.Elements.{All-nil}
use Rattle.core_syntax.specs.Lists.{each}
use Rattle.array_values.specs.Values.{Array}
use Rattle.machine_table.specs.Machine.{pop}
use Rattle.machine.specs.Applied.{array_of, taken_of, both_fit, FitsCell, Fitting, IsCelled, AreCelled}
use Rattle.array_values.specs.Arrays.{IsArray}
use Rattle.machine.specs.declared.applied.Fit.{Fit}
use Rattle.machine.specs.declared.applied.Taken.{Taken}
use Rattle.machine.proofs.Celled.{fitting_more}
use Rattle.machine.specs.declared.state.Argument.{Argument}

-- ---- the cells that are left

drop_front : {A : Type 0} (xs ys : List A) → drop (length xs) (xs ++ ys) ≡ ys
drop_front [] ys = refl
drop_front (x ∷ xs) ys = drop_front xs ys

each_joined : {A B : Type 0} (f : A → B) (xs ys : List A) → each f (xs ++ ys) ≡ each f xs ++ each f ys
each_joined f [] ys = refl
each_joined f (x ∷ xs) ys = ap (λ l. f x ∷ l) (each_joined f xs ys)

length_each : {A B : Type 0} (f : A → B) (xs : List A) → length (each f xs) ≡ length xs
length_each f [] = refl
length_each f (x ∷ xs) = ap suc (length_each f xs)

module _ {A B : Type 0} (f : A → B) (all rest before : List A) (x : A) (split : rest ≡ before ++ x ∷ []) (front : rest ++ drop (length rest) all ≡ all) where
  abbrev behind : List A
  behind = drop (length rest) all

  whole : before ++ x ∷ behind ≡ all
  whole = sym (append_assoc before (x ∷ []) behind) ∙ ap (λ l. l ++ behind) (sym split) ∙ front

  -- one cell more is behind them
  more_behind : drop (length before) all ≡ x ∷ behind
  more_behind = ap (drop (length before)) (sym whole) ∙ drop_front before (x ∷ behind)

  pub front_more : before ++ drop (length before) all ≡ all
  front_more = ap (λ l. before ++ l) more_behind ∙ whole

  each_behind : (xs : List A) (n : ℕ) → drop n (each f xs) ≡ each f (drop n xs)
  each_behind xs zero = refl
  each_behind [] (suc n) = refl
  each_behind (y ∷ xs) (suc n) = each_behind xs n

  pub values_more : f x ∷ drop (length rest) (each f all) ≡ drop (length before) (each f all)
  values_more = ap (λ l. f x ∷ l) (each_behind all (length rest)) ∙ ap (each f) (sym more_behind) ∙ sym (each_behind all (length before))

  pub count_more : length rest ≡ suc (length before)
  count_more = omega (arith, ap (λ (l : List A). length l) split, length-append before (x ∷ []))

-- ---- the operands

-- the last operand is the last argument of those that are left
pub pop_more : (n m : ℕ) (args next : List Argument) (a : Argument) (ops left : List Array) → n ≡ suc m → ops ≡ left ++ a.array ∷ [] → next ≡ args ++ a ∷ []
    → pop m (each array_of (reverse next)) (reverse left) ≡ pop n (each array_of (reverse args)) (reverse ops)
pop_more n m args next a ops left at popped pushed =
    ap (λ l. pop m (each array_of l) (reverse left)) (ap reverse pushed ∙ reverse-append args (a ∷ []))
    ∙ sym (ap (λ (k : ℕ). pop k (each array_of (reverse args)) (reverse ops)) at ∙ ap (pop (suc m) (each array_of (reverse args))) (ap reverse popped ∙ reverse-append left (a.array ∷ [])))

-- without an operand nothing is popped
pub pop_none : (n m : ℕ) (popped ops : List Array) → n ≡ suc m → ops ≡ [] → pop n popped (reverse ops) ≡ None
pop_none n m popped ops at none = ap (λ (k : ℕ). pop k popped (reverse ops)) at ∙ ap (λ l. pop (suc m) popped (reverse l)) none

-- all are popped
pub pop_done : (n : ℕ) (popped left : List Array) → n ≡ 0 → pop n popped left ≡ Some (popped, left)
pop_done n popped left at = ap (λ (k : ℕ). pop k popped left) at

-- ---- the loop

-- no array has been popped
pub none_taken : {X : Type 0} (f : X → List ℕ) (all : List X) (as' : List Argument) → as' ≡ [] → AreCelled (drop (length all) (each f all)) (reverse as')
none_taken f all as' none =
    subst (λ vs. AreCelled vs (reverse as')) (sym (drop_all (length all) (each f all) (omega (arith, length_each f all))))
    (subst (λ (l : List Argument). AreCelled [] (reverse l)) (sym none) (record { ranks = refl; frames = refl; cells = refl; each = All-nil IsCelled }))

-- all cells are left
pub front_whole : {X : Type 0} (all : List X) → all ++ drop (length all) all ≡ all
front_whole all = ap (λ l. all ++ l) (drop_all (length all) all (omega arith)) ∙ append-nil all

pub last_split : {X : Type 0} (xs : List X) (x : X) → 1 ≤ length xs → x ≡ get_or xs (length xs - 1) x → xs ≡ take (length xs - 1) xs ++ x ∷ []
last_split xs x some at =
    let k : length xs - 1 + 1 ≡ length xs = omega (arith, some) in
    sym (take_all (length xs - 1 + 1) xs (omega (arith, k))) ∙ take_more xs (length xs - 1) x (omega (arith, some)) ∙ ap (λ y. take (length xs - 1) xs ++ y ∷ []) (sym at)

-- what was popped
pub taken_popped : (o : Option Taken) (t : Taken) (q : Option (List Array × List Array)) → o ≡ Some t → option_map taken_of o ≡ q → Some (taken_of t) ≡ q
taken_popped o t q at e = sym (ap (option_map taken_of) at) ∙ e

-- the argument that was found, and how it fits
module _ (o : Option (Argument × Fit)) (a : Argument) (own : Fit) (at : o ≡ Some (a, own)) where
  pub found_popped : (ops left : List Array) → IfSome o (λ p. ops ≡ left ++ p.0.array ∷ []) → ops ≡ left ++ a.array ∷ []
  found_popped ops left e = subst (λ (o : Option (Argument × Fit)). IfSome o (λ p. ops ≡ left ++ p.0.array ∷ [])) at e

  found_array : IfSome o (λ p. IsArray p.0.array) → IsArray a.array
  found_array e = subst (λ (o : Option (Argument × Fit)). IfSome o (λ p. IsArray p.0.array)) at e

  found_fit : (v : List ℕ) → IfSome o (λ p. FitsCell p.1 p.0.rank v p.0.array.dims) → FitsCell own a.rank v a.array.dims
  found_fit v e = subst (λ (o : Option (Argument × Fit)). IfSome o (λ p. FitsCell p.1 p.0.rank v p.0.array.dims)) at e

  module _ {X : Type 0} (f : X → List ℕ) (all rest before : List X) (x : X) (split : rest ≡ before ++ x ∷ []) (front : rest ++ drop (length rest) all ≡ all) where
    -- one array more fits or doesn't fit its cell
    pub fits_more : (args next : List Argument) (others both : Fit) → IfSome o (λ p. IsArray p.0.array) → IfSome o (λ p. FitsCell p.1 p.0.rank (f x) p.0.array.dims)
        → next ≡ args ++ a ∷ [] → both ≡ both_fit own others → Fitting others (drop (length rest) (each f all)) (reverse args) → Fitting both (drop (length before) (each f all)) (reverse next)
    fits_more args next others both whole fits pushed is so =
        subst (λ (g : Fit). Fitting g (drop (length before) (each f all)) (reverse next)) (sym is)
        (subst (λ vs. Fitting (both_fit own others) vs (reverse next)) (values_more f all rest before x split front)
        (subst (λ (l : List Argument). Fitting (both_fit own others) (f x ∷ drop (length rest) (each f all)) l) (sym (ap reverse pushed ∙ reverse-append args (a ∷ [])))
        (fitting_more (f x) (drop (length rest) (each f all)) a (reverse args) own others (found_array whole) (found_fit (f x) fits) so)))

-- all are popped
pub all_taken : (n m : ℕ) (args back : List Argument) (left ops : List Array) → n ≡ 0 → back ≡ reverse args → pop n (each array_of (reverse args)) (reverse left) ≡ pop m [] (reverse ops)
    → Some (each array_of back, reverse left) ≡ pop m [] (reverse ops)
all_taken n m args back left ops none at e =
    ap (λ (l : List Argument). Some (each array_of l, reverse left)) at ∙ sym (pop_done n (each array_of (reverse args)) (reverse left) none) ∙ e
