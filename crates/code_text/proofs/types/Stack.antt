-- Binders on a stack: what is counted of them, what is put on and taken off, and their variables by number.
use Rattle.std.proofs.Common.{◌≡◌, ℕ, zero, suc, ◌+◌, ◌-◌, ◌^◌, ◌≤◌, ◌<◌, cond, eqb, eq-eqb, max, nat_le, nat_lt, Bool, true, false, ◌&&◌, List, [], ◌∷◌, ◌++◌, length, drop, reverse, Ok, ap, sym, ◌∙◌, refl, arith, add-one, Some}
use Rattle.std.specs.List.{slice_get}
use Rattle.std.specs.Fmt.{decimal}
use Rattle.std.proofs.Math.Seq.{drop-append_seam}
use Rattle.std.proofs.lemmas.Bool.{ltb-true, lt-ltb, le-leb, lt-leb, ltb_from_iff, ne_eqb}
use Rattle.std.proofs.lemmas.List.{length-reverse, drop-drop}
use Rattle.std.proofs.lemmas.Option.{slice_get_within, get_or_from_slice_get}
use Rattle.core_syntax.specs.declared.index.Sort.{Sort}
use Rattle.core_syntax.specs.declared.index.Sort.TheVariants as sort
use Rattle.machine_table.specs.IndexBounds.{under, Binds}
use Rattle.code_text.specs.Reading.{common, digit_first, number_at}
use Rattle.code_text.specs.IndexReading.{largest, same_sort, candidates, furthest, spelled_by, among_at, has, dims_among}
use Rattle.code_text.proofs.goes.Spelled.{Ended, number_takes}
use Rattle.code_text.proofs.goes.Pick.{drop_next}
use Rattle.code_text.proofs.types.Scopes.{sort_is, under_scope}

-- ---- how many have the sort Dim

pub dims_few : (bs : List Sort) → dims_among bs ≤ length bs
dims_few [] = omega arith
dims_few (sort.Dim ∷ bs) = omega (arith, dims_few bs)
dims_few (sort.Shape ∷ bs) = omega (arith, dims_few bs)

pub has_dim : (bs : List Sort) → has sort.Dim bs ≡ nat_lt 0 (dims_among bs)
has_dim [] = refl
has_dim (sort.Dim ∷ bs) = sym (lt-ltb 0 (suc (dims_among bs)) (omega arith))
has_dim (sort.Shape ∷ bs) = has_dim bs

pub has_shape : (bs : List Sort) → has sort.Shape bs ≡ nat_lt (dims_among bs) (length bs)
has_shape [] = refl
has_shape (sort.Dim ∷ bs) = has_shape bs ∙ both_more (dims_among bs) (length bs)
  where
    both_more : (m n : ℕ) → nat_lt m n ≡ nat_lt (suc m) (suc n)
    both_more m n = ltb_from_iff ((λ e. omega (arith, ltb-true m n e)), (λ (lt : suc m < suc n). lt-ltb m n (omega (arith, lt))))
has_shape (sort.Shape ∷ bs) = sym (lt-ltb (dims_among bs) (suc (length bs)) (omega (arith, dims_few bs)))

-- ---- what is put on and taken off

pub one_dropped : (n : ℕ) (bs : List Sort) → drop 1 (drop n bs) ≡ drop (n + 1) bs
one_dropped n bs = drop-drop 1 n bs

pub left_again : (ss bs : List Sort) → drop (length ss) (under ss bs) ≡ bs
left_again ss bs = ap (λ (n : ℕ). drop n (reverse ss ++ bs)) (sym (length-reverse ss)) ∙ drop-append_seam (reverse ss) bs

-- ---- variables by number

pub place_dropped : (bs : List Sort) (i : ℕ) (b : Sort) → slice_get bs i ≡ Some b → drop i bs ≡ b ∷ drop (i + 1) bs
place_dropped bs i b e = drop_next bs i b (slice_get_within bs i b e) ∙ ap (λ x. x ∷ drop (i + 1) bs) (get_or_from_slice_get bs i b b e)

module _ (s : Sort) (top : ℕ) (bs : List Sort) (i : ℕ) (b : Sort) (here : slice_get bs i ≡ Some b) where
  from_here : (fits : Bool) → (same_sort b s && nat_le i top) ≡ fits → candidates s top i (drop i bs) ≡ cond fits (i ∷ candidates s top (i + 1) (drop (i + 1) bs)) (candidates s top (i + 1) (drop (i + 1) bs))
  from_here fits e =
      ap (candidates s top i) (place_dropped bs i b here)
      ∙ ap (λ (m : ℕ). cond (same_sort b s && nat_le i top) (i ∷ candidates s top m (drop (i + 1) bs)) (candidates s top m (drop (i + 1) bs))) (sym (add-one i))
      ∙ ap (λ (c : Bool). cond c (i ∷ candidates s top (i + 1) (drop (i + 1) bs)) (candidates s top (i + 1) (drop (i + 1) bs))) e

  -- the binder in this place is one of them
  pub candidate : same_sort b s ≡ true → i ≤ top → candidates s top i (drop i bs) ≡ i ∷ candidates s top (i + 1) (drop (i + 1) bs)
  candidate same le = from_here true (ap (λ (c : Bool). c && nat_le i top) same ∙ le-leb i top le)

  -- it has another sort
  pub other_sort : same_sort b s ≡ false → candidates s top i (drop i bs) ≡ candidates s top (i + 1) (drop (i + 1) bs)
  other_sort other = from_here false (ap (λ (c : Bool). c && nat_le i top) other)

  -- its number is too large
  pub too_large : same_sort b s ≡ true → top < i → candidates s top i (drop i bs) ≡ candidates s top (i + 1) (drop (i + 1) bs)
  too_large same lt = from_here false (ap (λ (c : Bool). c && nat_le i top) same ∙ lt-leb i top lt)

-- ---- a whole number

binds_at : (s : Sort) (bs : List Sort) (k : ℕ) (b : Sort) → slice_get bs k ≡ Some b → b ≡ s → Binds s bs k
binds_at s bs k b e same = go bs k (slice_get_within bs k b e) e
  where
    some_is : (x y : Sort) → Some x ≡ Some y → x ≡ y
    some_is x y e = cc

    go : (bs : List Sort) (k : ℕ) → k < length bs → slice_get bs k ≡ Some b → Binds s bs k
    go [] k lt e = absurd (omega (arith, lt))
    go (c ∷ bs) zero lt e = some_is c b e ∙ same
    go (c ∷ bs) (suc k) lt e = go bs k (omega (arith, lt)) e

ended : (s : List ℕ) → digit_first s ≡ false → Ended s
ended [] e = tt
ended (c ∷ s) e = e

-- the binder whose number is the whole number at the front is read
pub whole_name : (s : Sort) (top : ℕ) (bs : List Sort) (n place : ℕ) (b : Sort) (bytes rest : List ℕ) → 0 < length bs → length bs ≤ 2 ^ 32 → top ≤ largest → number_at true (length bs - 1) bytes ≡ Ok (n, rest) → place ≡ length bs - 1 - n → place ≤ top → slice_get bs place ≡ Some b → same_sort b s ≡ true → digit_first rest ≡ false
    → among_at (length bs) (candidates s top 0 bs) bytes ≡ Ok (place, rest)
whole_name s top bs n place b bytes rest some few low read is le here same end =
    let t = number_takes true (length bs - 1) bytes (n, rest) (omega (arith, few)) read in
    let binds : Binds s bs place = binds_at s bs place b here (sort_is b s same) in
    let codec = (under_scope bs few).var s top low (place, (binds, le)) in
    let number : n ≡ length bs - suc place = omega (arith, is, t.within, some) in
    ap (among_at (length bs) (candidates s top 0 bs)) (t.whole ∙ ap (λ (m : ℕ). decimal m ++ rest) number) ∙ codec.again (length (decimal (length bs - suc place))) place rest (binds, le) (ended rest end) (omega arith)

-- ---- a walk over the binders

less : (total i : ℕ) → total - 1 - i ≡ total - suc i
less total i = omega arith

stepped : (best best' count all rest whole : ℕ) → best' ≡ max best count → all ≡ max count rest → max best all ≡ whole → max best' rest ≡ whole
stepped best best' count all rest whole more is so_far = omega (arith, more, is, so_far)

module _ (s : Sort) (top : ℕ) (bs : List Sort) (i : ℕ) (b : Sort) (total : ℕ) (bytes : List ℕ) where
  -- the binder in this place may go further than those before it
  pub further : (best best' count whole : ℕ) → slice_get bs i ≡ Some b → same_sort b s ≡ true → i ≤ top → count ≡ common (decimal (total - 1 - i)) bytes → best' ≡ max best count → max best (furthest total (candidates s top i (drop i bs)) bytes) ≡ whole
      → max best' (furthest total (candidates s top (i + 1) (drop (i + 1) bs)) bytes) ≡ whole
  further best best' count whole here same le is more so_far =
      let rest = furthest total (candidates s top (i + 1) (drop (i + 1) bs)) bytes in
      stepped best best' count (furthest total (candidates s top i (drop i bs)) bytes) rest whole more
      (ap (λ (ks : List ℕ). furthest total ks bytes) (candidate s top bs i b here same le) ∙ ap (λ (n : ℕ). max n rest) (ap (λ (m : ℕ). common (decimal m) bytes) (sym (less total i)) ∙ sym is))
      so_far

  -- whether this is the name of the binder in this place
  tested : (size : ℕ) (text : List ℕ) → slice_get bs i ≡ Some b → same_sort b s ≡ true → i ≤ top → text ≡ decimal (total - 1 - i)
      → spelled_by size total (candidates s top i (drop i bs)) bytes ≡ cond (eqb (length text) size && eqb (common text bytes) size) (Some i) (spelled_by size total (candidates s top (i + 1) (drop (i + 1) bs)) bytes)
  tested size text here same le is =
      let rest = spelled_by size total (candidates s top (i + 1) (drop (i + 1) bs)) bytes in
      ap (λ (ks : List ℕ). spelled_by size total ks bytes) (candidate s top bs i b here same le)
      ∙ ap (λ (t : List ℕ). cond (eqb (length t) size && eqb (common t bytes) size) (Some i) rest) (ap (λ (m : ℕ). decimal m) (sym (less total i)) ∙ sym is)

  -- it is the one
  pub named_here : (size : ℕ) (text : List ℕ) → slice_get bs i ≡ Some b → same_sort b s ≡ true → i ≤ top → text ≡ decimal (total - 1 - i) → length text ≡ size → common text bytes ≡ size
      → spelled_by size total (candidates s top i (drop i bs)) bytes ≡ Some i
  named_here size text here same le is long all =
      let rest = spelled_by size total (candidates s top (i + 1) (drop (i + 1) bs)) bytes in
      tested size text here same le is
      ∙ ap (λ (x : Bool). cond (x && eqb (common text bytes) size) (Some i) rest) (eq-eqb (length text) size long)
      ∙ ap (λ (x : Bool). cond x (Some i) rest) (eq-eqb (common text bytes) size all)

  -- its name has another length
  pub other_length : (size : ℕ) (text : List ℕ) → slice_get bs i ≡ Some b → same_sort b s ≡ true → i ≤ top → text ≡ decimal (total - 1 - i) → (length text ≡ size → ⊥)
      → spelled_by size total (candidates s top i (drop i bs)) bytes ≡ spelled_by size total (candidates s top (i + 1) (drop (i + 1) bs)) bytes
  other_length size text here same le is not =
      let rest = spelled_by size total (candidates s top (i + 1) (drop (i + 1) bs)) bytes in
      tested size text here same le is ∙ ap (λ (x : Bool). cond (x && eqb (common text bytes) size) (Some i) rest) (ne_eqb (length text) size not)

  -- the bytes begin with another name
  pub other_name : (size : ℕ) (text : List ℕ) → slice_get bs i ≡ Some b → same_sort b s ≡ true → i ≤ top → text ≡ decimal (total - 1 - i) → length text ≡ size → (common text bytes ≡ size → ⊥)
      → spelled_by size total (candidates s top i (drop i bs)) bytes ≡ spelled_by size total (candidates s top (i + 1) (drop (i + 1) bs)) bytes
  other_name size text here same le is long not =
      let rest = spelled_by size total (candidates s top (i + 1) (drop (i + 1) bs)) bytes in
      tested size text here same le is
      ∙ ap (λ (x : Bool). cond (x && eqb (common text bytes) size) (Some i) rest) (eq-eqb (length text) size long)
      ∙ ap (λ (x : Bool). cond x (Some i) rest) (ne_eqb (common text bytes) size not)
