-- What stands in front of a cell's dims.
use Rattle.std.proofs.Common.{◌≡◌, refl, sym, ap, ◌∙◌, ℕ, ◌-◌, ◌==◌, Bool, true, false, List, [], ◌∷◌, ◌++◌, length, take, drop, Option, Some, None, option_map, arith}
use Rattle.std.proofs.lemmas.List.{append-nil, take-append-drop, length-append}
use Rattle.std.proofs.lemmas.Bool.Decides.{nat_tests}
use Rattle.core_syntax.specs.Arrays.{frame_before}
use Rattle.core_syntax.specs.Lists.{onto, after_prefix}

equal_test : (m n : ℕ) → (m == n) ≡ true → m ≡ n
equal_test m n e = grind (arith, nat_tests)

test_equal : (m : ℕ) → (m == m) ≡ true
test_equal m = grind (arith, nat_tests)

-- ---- reversal

onto_onto : {A : Type 0} (xs ys zs : List A) → onto (onto xs ys) zs ≡ onto ys (xs ++ zs)
onto_onto [] ys zs = refl
onto_onto (x ∷ xs) ys zs = onto_onto xs (x ∷ ys) zs

onto-append : {A : Type 0} (xs ys zs : List A) → onto (xs ++ ys) zs ≡ onto ys (onto xs zs)
onto-append [] ys zs = refl
onto-append (x ∷ xs) ys zs = onto-append xs ys (x ∷ zs)

onto_split : {A : Type 0} (xs ys zs : List A) → onto xs (ys ++ zs) ≡ onto xs ys ++ zs
onto_split [] ys zs = refl
onto_split (x ∷ xs) ys zs = onto_split xs (x ∷ ys) zs

-- ---- prefixes

after_prefix-append : (xs ys : List ℕ) → after_prefix xs (xs ++ ys) ≡ Some ys
after_prefix-append [] ys = refl
after_prefix-append (x ∷ xs) ys = by (x == x) (test_equal x) (after_prefix-append xs ys)
  where
    by : (b : Bool) → b ≡ true → after_prefix xs (xs ++ ys) ≡ Some ys → (elim b as (λ b. Option (List ℕ)) [ true ↦ after_prefix xs (xs ++ ys) | false ↦ None ]) ≡ Some ys
    by true e h = h
    by false e h = absurd (cc)

after_is : (xs ys r : List ℕ) → after_prefix xs ys ≡ Some r → ys ≡ xs ++ r
after_is [] ys r e = let same : ys ≡ r = cc in same
after_is (x ∷ xs) [] r e = absurd (cc)
after_is (x ∷ xs) (y ∷ ys) r e = by (x == y) refl e (after_is xs ys r)
  where
    by : (b : Bool) → (x == y) ≡ b → elim b as (λ b. Option (List ℕ)) [ true ↦ after_prefix xs ys | false ↦ None ] ≡ Some r → (after_prefix xs ys ≡ Some r → ys ≡ xs ++ r) → y ∷ ys ≡ x ∷ (xs ++ r)
    by true t e ih = λ i. sym (equal_test x y t) i ∷ ih e i
    by false t e ih = absurd (cc)

before_cell : (p c : List ℕ) → frame_before c (p ++ c) ≡ Some p
before_cell p c =
    ap (λ xs. option_map (λ f. onto f []) (after_prefix (onto c []) xs)) (onto-append p c [] ∙ onto_split c [] (onto p []))
    ∙ ap (option_map (λ f. onto f [])) (after_prefix-append (onto c []) (onto p []))
    ∙ ap Some (onto_onto p [] [] ∙ append-nil p)

-- ---- fronts

-- dims that end in those of a cell have a frame in front of it
pub front_is : (cell dims : List ℕ) (k : ℕ) → drop k dims ≡ cell → frame_before cell dims ≡ Some (take k dims)
front_is cell dims k e =
    ap (λ (c : List ℕ). frame_before c dims) (sym e) ∙ ap (frame_before (drop k dims)) (sym (take-append-drop k dims)) ∙ before_cell (take k dims) (drop k dims)

-- others have none
pub no_front : (cell dims : List ℕ) → ((f : List ℕ) → dims ≡ f ++ cell → ⊥) → frame_before cell dims ≡ None
no_front cell dims other = by (after_prefix (onto cell []) (onto dims [])) refl
  where
    by : (o : Option (List ℕ)) → after_prefix (onto cell []) (onto dims []) ≡ o → option_map (λ f. onto f []) o ≡ None
    by None e = refl
    by (Some zs) e =
        let turned : onto dims [] ≡ onto cell [] ++ zs = after_is (onto cell []) (onto dims []) zs e in
        let back : dims ≡ onto zs [] ++ cell =
        sym (onto_onto dims [] [] ∙ append-nil dims) ∙ ap (λ l. onto l []) turned ∙ onto-append (onto cell []) zs []
        ∙ ap (λ l. onto zs l) (onto_onto cell [] [] ∙ append-nil cell) ∙ onto_split zs [] cell in
        absurd (other (onto zs []) back)

drop_front : (f cell : List ℕ) → drop (length f) (f ++ cell) ≡ cell
drop_front [] cell = refl
drop_front (x ∷ f) cell = drop_front f cell

pub other_front : (cell dims : List ℕ) → (drop (length dims - length cell) dims ≡ cell → ⊥) → frame_before cell dims ≡ None
other_front cell dims other =
    no_front cell dims
    (λ f e.
    let long : length dims - length cell ≡ length f = omega (arith, ap length e, length-append f cell) in
    other (ap (λ k. drop k dims) long ∙ ap (drop (length f)) e ∙ drop_front f cell))
