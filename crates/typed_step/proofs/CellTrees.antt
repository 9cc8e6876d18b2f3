-- Trees of the cells of values, and of an application on the cells at each place.
use Rattle.std.proofs.Common.{◌≡◌, refl, sym, ap, ◌∙◌, ℕ, zero, suc, ◌+◌, ◌*◌, ◌<◌, ◌≤◌, min, List, [], ◌∷◌, ◌++◌, length, take, drop, get_or, ⊎_elim, arith}
use Rattle.std.proofs.lemmas.Bool.{cases_lt}
use Rattle.std.proofs.lemmas.List.{take_all, drop_all}
use Rattle.std.proofs.lemmas.List.FromFn.{length-range_with_len, get_or-range_with_len}
use Rattle.std.proofs.lemmas.Slice.Zip.{length-zip, get_or-zip}
use Rattle.std.specs.List.{range_with_len, zip}
use Rattle.core_syntax.specs.declared.index.Index.{Index}
use Rattle.core_syntax.specs.declared.ty.Ty.{Ty}
use Rattle.core_syntax.specs.declared.term.TermAtom.{TermAtom}
use Rattle.core_syntax.specs.declared.term.TermExpr.{TermExpr, NoAtoms}
use Rattle.core_syntax.specs.Arrays.{Arrayed, array}
use Rattle.core_syntax.specs.Lists.{each, product}
use Rattle.core_syntax.specs.Refine.{index_of, ty_of}
use Rattle.core_syntax.specs.RefineTerms.{term_of, cell_of, terms_of, cells_of, TypedCell}
use Rattle.core_syntax.specs.Rules.{dims_of, atoms_of, part_of, apps}
use Rattle.core_syntax.specs.Syntax as syntax
use Rattle.core_syntax.specs.Terms.{TArray, TFrame, TApp, more_terms, more_cells, term_list, cell_list, scalar_of}
use Rattle.core_syntax.specs.Typed.{typed_rules, TypedTerm}
use Rattle.typed_step.specs.Frames.{one_at, cells_at, columns_at}
use Rattle.term_values.proofs.TermLists.{terms_are, atoms_are}
use Rattle.naturality.proofs.Eaches.{each_append, each_take, each_drop}

-- a part of a term that is no empty array
pub part_is : (t : TermExpr) (a : Arrayed TypedCell) → ((dims : List ℕ) (n : Ty) → t ≡ NoAtoms dims n → ⊥) → part_of typed_rules (term_of t) a ≡ TArray a.dims (cell_list a.atoms)
part_is (NoAtoms dims n) a other = absurd (other dims n refl)
part_is _ a other = refl

module _ {A : Type 0} where
  nothing : (n k : ℕ) (xs : List A) → length xs ≤ k → take n (drop k xs) ≡ []
  nothing n k xs le = ap (take n) (drop_all k xs le) ∙ take_all n [] (omega arith)

  -- where no list is longer than a size, the runs of that size are those of the largest number
  over : (xs : List A) (place n most : ℕ) → length xs ≤ n → length xs ≤ most → take most (drop (place * most) xs) ≡ take n (drop (place * n) xs)
  over xs zero n most le few = first most few ∙ sym (first n le)
    where
      first : (n : ℕ) → length xs ≤ n → take n (drop (zero * n) xs) ≡ xs
      first n le = let e : zero * n ≡ 0 = omega arith in ap (λ k. take n (drop k xs)) e ∙ take_all n xs le
  over xs (suc p) n most le few = nothing most (suc p * most) xs (omega (arith, few)) ∙ sym (nothing n (suc p * n) xs (omega (arith, le)))

  pub run_is : (xs : List A) (place size most : ℕ) → length xs ≤ most → take (min size most) (drop (place * min size most) xs) ≡ take size (drop (place * size) xs)
  run_is xs place size most few =
      ⊎_elim
      (λ lt. let e : min size most ≡ most = omega (arith, lt) in ap (λ n. take n (drop (place * n) xs)) e ∙ over xs place size most (omega (arith, lt, few)) few)
      (λ le. let e : min size most ≡ size = omega (arith, le) in ap (λ n. take n (drop (place * n) xs)) e)
      (cases_lt most size)

-- the tree of the cell of a value at a place
pub cell_is : (t u : TermExpr) (place rank size most : ℕ) (dims cell : List ℕ) (xs run copies : List TermAtom) → ((ds : List ℕ) (n : Ty) → t ≡ NoAtoms ds n → ⊥)
    → dims ≡ dims_of typed_rules (term_of t) → cell ≡ drop rank dims → each cell_of xs ≡ atoms_of typed_rules (term_of t) → length xs ≤ most → size ≡ min (product cell) most
    → run ≡ take size (drop (place * size) xs) → copies ≡ run → term_of u ≡ TArray cell (cells_of copies) → term_of u ≡ one_at place rank (term_of t)
cell_is t u place rank size most dims cell xs run copies other ds ce at few sz rn cp is =
    let n = product cell in
    let c : cell ≡ drop rank (dims_of typed_rules (term_of t)) = ce ∙ ap (drop rank) ds in
    let cut : copies ≡ take n (drop (place * n) xs) = cp ∙ rn ∙ ap (λ n. take n (drop (place * n) xs)) sz ∙ run_is xs place n most few in
    let seen : each cell_of copies ≡ take n (drop (place * n) (atoms_of typed_rules (term_of t))) =
    ap (each cell_of) cut ∙ sym (ap (λ ys. take n (drop (place * n) ys)) (sym at) ∙ ap (take n) (each_drop cell_of (place * n) xs) ∙ each_take cell_of n (drop (place * n) xs)) in
    is ∙ ap (λ ys. TArray cell ys) (atoms_are copies ∙ ap cell_list seen)
    ∙ ap (λ c. TArray c (cell_list (take (product c) (drop (place * product c) (atoms_of typed_rules (term_of t)))))) c
    ∙ sym (part_is t (array (drop rank (dims_of typed_rules (term_of t))) (take (product (drop rank (dims_of typed_rules (term_of t)))) (drop (place * product (drop rank (dims_of typed_rules (term_of t)))) (atoms_of typed_rules (term_of t))))) other)

-- the tree of an application on cells
pub app_is : (t f : TypedTerm) (ts : List TermExpr) (us : List TypedTerm) (ds cs : List Index) (b a : Ty) (g : TypedTerm) → t ≡ TApp g (terms_of ts) (each index_of ds) (ty_of b)
    → g ≡ f → each term_of ts ≡ us → ds ≡ cs → b ≡ a → t ≡ TApp f (term_list us) (each index_of cs) (ty_of a)
app_is t f ts us ds cs b a g is ge tse dse be = is ∙ (λ i. TApp (ge i) ((terms_are ts ∙ ap term_list tse) i) (each index_of (dse i)) (ty_of (be i)))

module _ (ks : List ℕ) (ts : List TypedTerm) (cs : List syntax.Index) (r : syntax.Ty) where
  -- the application at a place
  abbrev app_at : ℕ → TypedCell → TypedTerm
  app_at place f = TApp (scalar_of f) (term_list (cells_at place ks ts)) cs r

  -- the applications at so many places from a first one
  abbrev apps_from : ℕ → ℕ → List TermAtom → List TypedTerm
  apps_from from n fs = apps typed_rules (each cell_of fs) (columns_at from n ks ts) cs r

  apps_more : (fs : List TermAtom) (from n k : ℕ) (f : TermAtom) → k < length fs → k < n → f ≡ get_or fs k f
      → take (k + 1) (apps_from from n fs) ≡ take k (apps_from from n fs) ++ app_at (from + k) (cell_of f) ∷ []
  apps_more [] from n k f lt low at = absurd (omega (arith, lt))
  apps_more (g ∷ fs) from zero k f lt low at = absurd (omega (arith, low))
  apps_more (g ∷ fs) from (suc n) zero f lt low at =
      let e : from ≡ from + 0 = omega arith in
      ap (λ m. app_at m (cell_of g) ∷ []) e ∙ ap (λ h. app_at (from + 0) (cell_of h) ∷ []) (sym at)
  apps_more (g ∷ fs) from (suc n) (suc k) f lt low at =
      let next : suc k + 1 ≡ suc (k + 1) = omega arith in
      let here : suc from + k ≡ from + suc k = omega arith in
      let all = apps_from from (suc n) (g ∷ fs) in
      ap (λ m. take m all) next
      ∙ ap (λ l. app_at from (cell_of g) ∷ l) (apps_more fs (suc from) n k f (omega (arith, lt)) (omega (arith, low)) at ∙ ap (λ m. take k (apps_from (suc from) n fs) ++ app_at m (cell_of f) ∷ []) here)

  apps_length : (fs : List TermAtom) (from n : ℕ) → length (apps_from from n fs) ≡ min n (length fs)
  apps_length [] from n = omega arith
  apps_length (f ∷ fs) from zero = omega arith
  apps_length (f ∷ fs) from (suc n) = let h = apps_length fs (suc from) n in omega (arith, h)

-- a place and the item there, of so many places beside items
module _ {A : Type 0} (n : ℕ) (xs : List A) where
  pub place_turn : (k place : ℕ) (x : A) → (k < length (zip (range_with_len 0 n) xs)) × ((place, x) ≡ get_or (zip (range_with_len 0 n) xs) k (place, x)) → (k < length xs) × (k < n) × (place ≡ k) × (x ≡ get_or xs k x)
  place_turn k place x h =
      let long = length-zip (range_with_len 0 n) xs in
      let all = length-range_with_len 0 n in
      let few : k < length xs = omega (arith, long, h.0) in
      let low : k < n = omega (arith, long, all, h.0) in
      let here : k < length (range_with_len 0 n) = omega (arith, low, all) in
      let at = h.1 ∙ get_or-zip (range_with_len 0 n) xs k (place, x) here few in
      let first : 0 + k ≡ k = omega arith in
      (few, low, ap (λ (p : ℕ × A). p.0) at ∙ get_or-range_with_len 0 n k place low ∙ first, ap (λ (p : ℕ × A). p.1) at)

  pub place_end : (k : ℕ) → k ≡ length (zip (range_with_len 0 n) xs) → k ≡ min n (length xs)
  place_end k e = e ∙ length-zip (range_with_len 0 n) xs ∙ ap (λ m. min m (length xs)) (length-range_with_len 0 n)

-- what is made of the applications so far
abbrev pub Mapped : List TermExpr → ℕ → ℕ → List TypedCell → List ℕ → List TermExpr → List Index → Ty → Type 0
Mapped made k n fs ks ts cs a = each term_of made ≡ take k (apps typed_rules fs (columns_at 0 n ks (each term_of ts)) (each index_of cs) (ty_of a))

module _ (n : ℕ) (fs : List TermAtom) (gs : List TypedCell) (ks : List ℕ) (ts : List TermExpr) (cs : List Index) (a : Ty) (seen : each cell_of fs ≡ gs) where
  pub mapped_more : (made next : List TermExpr) (k place : ℕ) (f : TermAtom) (u : TermExpr) → k < length fs → k < n → place ≡ k → f ≡ get_or fs k f → next ≡ made ++ u ∷ []
      → term_of u ≡ TApp (scalar_of (cell_of f)) (term_list (cells_at place ks (each term_of ts))) (each index_of cs) (ty_of a) → Mapped made k n gs ks ts cs a → Mapped next (k + 1) n gs ks ts cs a
  mapped_more made next k place f u lt low is at e one before =
      let all = λ (gs : List TypedCell). apps typed_rules gs (columns_at 0 n ks (each term_of ts)) (each index_of cs) (ty_of a) in
      let here : place ≡ 0 + k = omega (arith, is) in
      ap (each term_of) e ∙ sym (each_append term_of made (u ∷ []))
      ∙ (λ i. before i ++ (one ∙ ap (λ m. TApp (scalar_of (cell_of f)) (term_list (cells_at m ks (each term_of ts))) (each index_of cs) (ty_of a)) here) i ∷ [])
      ∙ ap (λ gs. take k (all gs) ++ TApp (scalar_of (cell_of f)) (term_list (cells_at (0 + k) ks (each term_of ts))) (each index_of cs) (ty_of a) ∷ []) (sym seen)
      ∙ sym (apps_more ks (each term_of ts) (each index_of cs) (ty_of a) fs 0 n k f lt low at) ∙ ap (λ gs. take (k + 1) (all gs)) seen

  -- and all of them
  pub mapped_end : (made : List TermExpr) (k : ℕ) → k ≡ min n (length fs) → Mapped made k n gs ks ts cs a → each term_of made ≡ apps typed_rules gs (columns_at 0 n ks (each term_of ts)) (each index_of cs) (ty_of a)
  mapped_end made k is before =
      let long = apps_length ks (each term_of ts) (each index_of cs) (ty_of a) fs 0 n in
      let all = λ (gs : List TypedCell). apps typed_rules gs (columns_at 0 n ks (each term_of ts)) (each index_of cs) (ty_of a) in
      let le : length (all (each cell_of fs)) ≤ k = omega (arith, long, is) in
      before ∙ ap (λ gs. take k (all gs)) (sym seen) ∙ take_all k (all (each cell_of fs)) le ∙ ap all seen

-- the tree of a frame of cells
pub frame_is : (t : TypedTerm) (dims F : List ℕ) (ts : List TermExpr) (us : List TypedTerm) (b a : Ty) → t ≡ TFrame dims (terms_of ts) (ty_of b) → dims ≡ F → each term_of ts ≡ us → b ≡ a
    → t ≡ TFrame F (term_list us) (ty_of a)
frame_is t dims F ts us b a is de tse be = is ∙ (λ i. TFrame (de i) ((terms_are ts ∙ ap term_list tse) i) (ty_of (be i)))
