-- Closed indices as their values, where a run can keep them.
use Rattle.std.proofs.Common.{◌≡◌, refl, sym, ap, ◌∙◌, ℕ, ◌+◌, ◌-◌, ◌^◌, ◌<◌, ◌≤◌, min, Bool, true, false, ◌&&◌, nat_le, List, [], ◌∷◌, ◌++◌, All, length, take, drop, slice_index_or, Option, Some, None, is_some, append_assoc, append-nil, arith, true≢false, ⊎_elim}
use Rattle.std.proofs.lemmas.Bool.{false≢true, cases_lt, le-ltb, le-leb}
use Rattle.std.proofs.lemmas.List.{drop_all, drop_more, take_all}
use Rattle.core_syntax.specs.declared.index.Index.{Index as Tree}
use Rattle.core_syntax.specs.Fits.{value_fits, all_fit}
use Rattle.core_syntax.specs.Lists.{each}
use Rattle.core_syntax.specs.Nodes.{number}
use Rattle.core_syntax.specs.Refine.{index_of, indices_of}
use Rattle.core_syntax.specs.Syntax.{Index, Num, Dims, more, index_list, no_span}
use Rattle.core_syntax.specs.Terms.{DimValue, ShapeValue}
use Rattle.core_syntax.specs.Typed.{closed, closed_value, value_index}
use Rattle.core_syntax.specs.Typing.{numbers}
use Rattle.core_syntax.specs.Value.{dim_val, shape_val}
use Rattle.term_values.specs.Indices.{kept_value, kept_values}
use Rattle.term_values.proofs.Products.{all_below_is}

listed : (xs : List Tree) → indices_of xs ≡ index_list (each index_of xs)
listed [] = refl
listed (x ∷ xs) = ap (more (index_of x)) (listed xs)

-- numbers, one after another
pub numbered : (dims : List ℕ) (xs : List Tree) (k : ℕ) → length dims ≤ k → each index_of xs ≡ each (λ n. number n) (take k dims) → Dims no_span (indices_of xs) ≡ numbers dims
numbered dims xs k le e =
    ap (Dims no_span) (listed xs ∙ ap index_list e) ∙ ap (λ ds. numbers ds) (take_all k dims le)

abbrev kept_if : Bool → Index → Option Index
kept_if b i = elim b [ true ↦ Some i | false ↦ None ]

-- not too many small dims are kept
pub kept_shape : (dims : List ℕ) (i : Index) → All (λ d. d < 2 ^ 32) dims → length dims ≤ 64 → i ≡ numbers dims → Some i ≡ kept_value (ShapeValue dims)
kept_shape dims i small few e =
    ap (λ (j : Index). Some j) e
    ∙ sym
    (ap (λ (b : Bool). kept_if (b && nat_le (length dims) 64) (numbers dims)) (all_below_is dims (2 ^ 32) small)
    ∙ ap (λ (b : Bool). kept_if b (numbers dims)) (le-leb (length dims) 64 few))

large : (n : ℕ) → 2 ^ 32 ≤ n → kept_value (DimValue n) ≡ None
large n le = ap (λ (b : Bool). kept_if b (Num no_span n)) (le-ltb n (2 ^ 32) le)

-- a number above what a machine counts is no more kept than the largest
kept_capped : (d : ℕ) → kept_value (DimValue (min d (2 ^ 64 - 1))) ≡ kept_value (DimValue d)
kept_capped d =
    ⊎_elim
    (λ lt. let high : 2 ^ 32 ≤ min d (2 ^ 64 - 1) = omega arith in large (min d (2 ^ 64 - 1)) high ∙ sym (large d (omega (arith, lt))))
    (λ le. let same : min d (2 ^ 64 - 1) ≡ d = omega arith in ap (λ n. kept_value (DimValue n)) same)
    (cases_lt (2 ^ 64 - 1) d)

-- an index that is its number's
abbrev pub IsNumber : Index → Type 0
IsNumber i = closed_value i ≡ DimValue (dim_val closed i)

-- and one that is its list's
abbrev pub IsList : Index → Type 0
IsList i = closed_value i ≡ ShapeValue (shape_val closed i)

pub kept_number_is : (i : Index) (n : ℕ) (r : Option Index) → IsNumber i → n ≡ min (dim_val closed i) (2 ^ 64 - 1) → r ≡ kept_value (DimValue n) → r ≡ kept_value (closed_value i)
kept_number_is i n r is e k = k ∙ ap (λ m. kept_value (DimValue m)) e ∙ kept_capped (dim_val closed i) ∙ sym (ap kept_value is)

-- what is kept
abbrev else_ : Index → Option Index → Index
else_ i None = i
else_ i (Some j) = j

some_kept : (b : Bool) (x y : Index) → Some x ≡ kept_if b y → (b ≡ true) × (x ≡ y)
some_kept true x y e = (refl, ap (else_ x) e)
some_kept false x y e = absurd (true≢false (ap (λ (o : Option Index). is_some o) e))

none_kept : (b : Bool) (y : Index) → None ≡ kept_if b y → b ≡ false
none_kept true y e = absurd (false≢true (ap (λ (o : Option Index). is_some o) e))
none_kept false y e = refl

abbrev all_of : List Tree → List Index
all_of xs = each value_index (each closed_value (each index_of xs))

abbrev fit_of : List Tree → Bool
fit_of xs = all_fit (each closed_value (each index_of xs))

-- what is kept, with the values of what is still behind, is the whole, which fits where that does
abbrev pub Keeping : List Tree → List Tree → ℕ → Type 0
Keeping now xs k = (all_of xs ≡ each index_of now ++ all_of (drop k xs)) × (fit_of xs ≡ fit_of (drop k xs))

each_push : (xs : List Tree) (y : Tree) → each index_of (xs ++ y ∷ []) ≡ each index_of xs ++ index_of y ∷ []
each_push [] y = refl
each_push (x ∷ xs) y = ap (λ zs. index_of x ∷ zs) (each_push xs y)

here : (xs : List Tree) (k : ℕ) (d : Tree) → k < length xs → d ≡ slice_index_or xs k d → drop k xs ≡ d ∷ drop (k + 1) xs
here xs k d lt at = drop_more xs k d lt ∙ ap (λ x. x ∷ drop (k + 1) xs) (sym at)

pub keeping_more : (now next xs : List Tree) (k : ℕ) (d v : Tree) → k < length xs → d ≡ slice_index_or xs k d → next ≡ now ++ v ∷ [] → Some (index_of v) ≡ kept_value (closed_value (index_of d))
    → Keeping now xs k → Keeping next xs (k + 1)
keeping_more now next xs k d v lt at e kept p =
    let one = some_kept (value_fits (closed_value (index_of d))) (index_of v) (value_index (closed_value (index_of d))) kept in (
      p.0 ∙ ap (λ ys. each index_of now ++ all_of ys) (here xs k d lt at)
          ∙ ap (λ i. each index_of now ++ i ∷ all_of (drop (k + 1) xs)) (sym one.1)
          ∙ sym (append_assoc (each index_of now) (index_of v ∷ []) (all_of (drop (k + 1) xs)))
          ∙ ap (λ ys. ys ++ all_of (drop (k + 1) xs)) (sym (ap (each index_of) e ∙ each_push now v)),
      p.1 ∙ ap fit_of (here xs k d lt at) ∙ ap (λ (b : Bool). b && fit_of (drop (k + 1) xs)) one.0,
    )

abbrev all_kept_if : Bool → List Index → Option (List Index)
all_kept_if b is = elim b [ true ↦ Some is | false ↦ None ]

pub keeping_stops : (now xs : List Tree) (k : ℕ) (d : Tree) → k < length xs → d ≡ slice_index_or xs k d → None ≡ kept_value (closed_value (index_of d)) → Keeping now xs k → None ≡ kept_values (each index_of xs)
keeping_stops now xs k d lt at none p =
    let off = none_kept (value_fits (closed_value (index_of d))) (value_index (closed_value (index_of d))) none in
    sym (ap (λ (b : Bool). all_kept_if b (all_of xs)) (p.1 ∙ ap fit_of (here xs k d lt at) ∙ ap (λ (b : Bool). b && fit_of (drop (k + 1) xs)) off))

pub keeping_ends : (now xs : List Tree) (k : ℕ) → length xs ≤ k → Keeping now xs k → Some (each index_of now) ≡ kept_values (each index_of xs)
keeping_ends now xs k le p =
    let over = drop_all k xs le in
    let whole : all_of xs ≡ each index_of now = p.0 ∙ ap (λ ys. each index_of now ++ all_of ys) over ∙ append-nil (each index_of now) in
    sym (ap (λ (b : Bool). all_kept_if b (all_of xs)) (p.1 ∙ ap fit_of over) ∙ ap (λ (is : List Index). Some is) whole)

-- all fit where they are kept
pub fits_where_kept : (b : Bool) (is : List Index) (o : Option (List Index)) → o ≡ all_kept_if b is → is_some o ≡ b
fits_where_kept true is o e = ap (λ (p : Option (List Index)). is_some p) e
fits_where_kept false is o e = ap (λ (p : Option (List Index)). is_some p) e
