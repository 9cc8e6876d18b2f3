-- Arrays over frames as lists: where their dims come from, replication, and the rows and columns of their cells.
use Rattle.std.proofs.Common.{◌≡◌, refl, sym, ◌∙◌, ap, subst, ℕ, zero, suc, ◌+◌, ◌-◌, ◌*◌, ◌≤◌, arith, Bool, true, false, List, [], ◌∷◌, ◌++◌, length, take, drop, replicate, Option, Some, None, append-nil}
use Rattle.std.specs.Prelude.{⊤, ◌&&◌, ◌==◌, not, nat_lt, option_map}
use Rattle.std.proofs.lemmas.Bool.Decides.{nat_tests}
use Rattle.std.proofs.lemmas.List.{length-append}
use Rattle.core_syntax.specs.Lists.{onto, each, Each, EachTwo, joined, product, after_prefix}
use Rattle.core_syntax.specs.Fits.{forms}
use Rattle.core_syntax.specs.Arrays.{Arrayed, array, runs, frame_before, cells_over, repeated, replicated, is_prefix, all_prefixes, greatest, greatest_of, all_frames_are, firsts, rests, columns}
use Rattle.core_syntax.specs.Rules.{and_list}
use Rattle.machine_table.specs.Values.{frames_of}
use Rattle.machine_table.specs.Instructions.{ranks_fit}
use Rattle.naturality.specs.Respects.{arr}
use Rattle.naturality.proofs.Eaches.{each_append, each_replicate, each_joined, each_runs, each_square}
use Rattle.naturality.proofs.Counts.{form_cell}
use Rattle.reduction_laws.proofs.steps.Frames.{both, onto_onto, onto-append, onto_split, equal_test, prefix_rest, all_prefix, is_prefix-append, greatest_is}
use Rattle.reduction_laws.proofs.steps.Counts.{product-append}
use Rattle.evaluation.proofs.forms.Leaves.{numbers_same}

-- ---- frames

-- what stands behind a list is what it is joined with
after_is : (xs ys r : List ℕ) → after_prefix xs ys ≡ Some r → ys ≡ xs ++ r
after_is [] ys r e = let same : ys ≡ r = cc in same
after_is (x ∷ xs) [] r e = absurd (cc)
after_is (x ∷ xs) (y ∷ ys) r e = by (x == y) refl e (after_is xs ys r)
  where
    by : (b : Bool) → (x == y) ≡ b → elim b as (λ b. Option (List ℕ)) [ true ↦ after_prefix xs ys | false ↦ None ] ≡ Some r → (after_prefix xs ys ≡ Some r → ys ≡ xs ++ r) → y ∷ ys ≡ x ∷ (xs ++ r)
    by true t e ih = λ i. sym (equal_test x y t) i ∷ ih e i
    by false t e ih = absurd (cc)

-- dims are those of the frame and those of the cell
pub frame_inverse : (c d f : List ℕ) → frame_before c d ≡ Some f → d ≡ f ++ c
frame_inverse c d f e = by (after_prefix (onto c []) (onto d [])) refl e
  where
    by : (o : Option (List ℕ)) → after_prefix (onto c []) (onto d []) ≡ o → option_map (λ f. onto f []) o ≡ Some f → d ≡ f ++ c
    by None p e = absurd (cc)
    by (Some r) p e =
        let back : onto r [] ≡ f = cc in
        let whole : onto d [] ≡ onto c [] ++ r = after_is (onto c []) (onto d []) r p in
        sym (onto_onto d [] [] ∙ append-nil d) ∙ ap (λ xs. onto xs []) whole ∙ onto-append (onto c []) r [] ∙ ap (onto r) (onto_onto c [] [] ∙ append-nil c) ∙ onto_split r [] c ∙ ap (λ f. f ++ c) back

-- the greatest frame has all frames as prefixes
greatest_has : (all fs : List (List ℕ)) (F : List ℕ) → greatest_of all fs ≡ Some F → all_prefixes all F ≡ true
greatest_has all [] F e = absurd (cc)
greatest_has all (f ∷ fs) F e = by (all_prefixes all f) refl e (greatest_has all fs F)
  where
    by : (b : Bool) → all_prefixes all f ≡ b → elim b as (λ b. Option (List ℕ)) [ true ↦ Some f | false ↦ greatest_of all fs ] ≡ Some F → (greatest_of all fs ≡ Some F → all_prefixes all F ≡ true) → all_prefixes all F ≡ true
    by true t e ih = let same : f ≡ F = cc in ap (all_prefixes all) (sym same) ∙ t
    by false t e ih = ih e

prefix_each : (fs : List (List ℕ)) (F : List ℕ) → all_prefixes fs F ≡ true → Each (λ f. is_prefix f F ≡ true) fs
prefix_each [] F e = tt
prefix_each (f ∷ fs) F e = let t = both (is_prefix f F) (all_prefixes fs F) e in (t.0, prefix_each fs F t.1)

pub prefixes_of : (fs : List (List ℕ)) (F : List ℕ) → greatest fs ≡ Some F → Each (λ f. is_prefix f F ≡ true) fs
prefixes_of fs F e = prefix_each fs F (greatest_has fs fs F e)

-- one frame is the greatest of itself as often as there are items
abbrev pub one_frame : {B : Type 0} → List ℕ → List B → List (List ℕ)
one_frame F xs = each (λ x. F) xs

prefix_self : (F : List ℕ) → is_prefix F F ≡ true
prefix_self F = ap (is_prefix F) (sym (append-nil F)) ∙ is_prefix-append F []

prefix_all : {B : Type 0} (F : List ℕ) (xs : List B) → Each (λ f. is_prefix f F ≡ true) (one_frame F xs)
prefix_all F [] = tt
prefix_all F (x ∷ xs) = (prefix_self F, prefix_all F xs)

pub greatest_same : {B : Type 0} (F : List ℕ) (xs : List B) → greatest (F ∷ one_frame F xs) ≡ Some F
greatest_same F xs = greatest_is (F ∷ one_frame F xs) 0 F refl (all_prefix (F ∷ one_frame F xs) F (prefix_self F, prefix_all F xs))

pub frames_same : {B : Type 0} (F : List ℕ) (xs : List B) → all_frames_are F (one_frame F xs) ≡ true
frames_same F [] = refl
frames_same F (x ∷ xs) = ap (λ b. b && all_frames_are F (one_frame F xs)) (numbers_same F F refl) ∙ frames_same F xs

-- ---- arguments over frames

-- an array over a frame that is a prefix of F, with the rest of F
abbrev pub Framed : {A : Type 0} → List ℕ → List ℕ → List ℕ → Arrayed A → Type 0
Framed F f c a = (a.dims ≡ f ++ c) × ((rest : List ℕ) × (after_prefix f F ≡ Some rest) × (f ++ rest ≡ F))

-- each of some arrays
abbrev pub AllFramed : {A : Type 0} → List ℕ → List (List ℕ) → List (List ℕ) → List (Arrayed A) → Type 0
AllFramed F [] [] [] = ⊤
AllFramed F (f ∷ fs) (c ∷ cs) (a ∷ xs) = Framed F f c a × AllFramed F fs cs xs
AllFramed F _ _ _ = ⊥

and_list_is : {B : Type 0} (o : Option B) (p : Option (List B)) (zs : List B) → and_list o p ≡ Some zs → (z : B) × (ws : List B) × (o ≡ Some z) × (p ≡ Some ws) × (zs ≡ z ∷ ws)
and_list_is None p zs e = absurd (cc)
and_list_is (Some z) None zs e = absurd (cc)
and_list_is (Some z) (Some ws) zs e = (z, ws, refl, refl, let same : z ∷ ws ≡ zs = cc in sym same)

pub framed : {A : Type 0} (F : List ℕ) (cs : List (List ℕ)) (xs : List (Arrayed A)) (frames : List (List ℕ)) → frames_of cs xs ≡ Some frames → Each (λ f. is_prefix f F ≡ true) frames → AllFramed F frames cs xs
framed {A} F [] [] frames e h = by frames (let same : (let none : List (List ℕ) = [] in none) ≡ frames = cc in same)
  where
    by : (frames : List (List ℕ)) → (let none : List (List ℕ) = [] in none) ≡ frames → AllFramed {A = A} F frames [] []
    by [] e = tt
    by (f ∷ fs) e = absurd (cc)
framed F [] (a ∷ xs) frames e h = absurd (cc)
framed F (c ∷ cs) [] frames e h = absurd (cc)
framed F (c ∷ cs) (a ∷ xs) frames e h =
    let p = and_list_is (frame_before c a.dims) (frames_of cs xs) frames e in
    let hs = subst (Each (λ f. is_prefix f F ≡ true)) p.4 h in
    let rest = prefix_rest p.0 F hs.0 in
    subst (λ fs. AllFramed F fs (c ∷ cs) (a ∷ xs)) (sym p.4) ((frame_inverse c a.dims p.0 p.2, (rest.0, rest.1, rest.2)), framed F cs xs p.1 p.3 hs.1)

pub framed_count : {A : Type 0} (F : List ℕ) (frames cs : List (List ℕ)) (xs : List (Arrayed A)) → AllFramed F frames cs xs → length cs ≡ length xs
framed_count F [] [] [] h = refl
framed_count F (f ∷ fs) (c ∷ cs) (a ∷ xs) h = ap suc (framed_count F fs cs xs h.1)
framed_count F [] [] (a ∷ xs) h = absurd h
framed_count F [] (c ∷ cs) xs h = absurd h
framed_count F (f ∷ fs) [] xs h = absurd h
framed_count F (f ∷ fs) (c ∷ cs) [] h = absurd h

pub framed_ranks : {A : Type 0} (F : List ℕ) (frames cs : List (List ℕ)) (xs : List (Arrayed A)) → AllFramed F frames cs xs → ranks_fit cs xs ≡ true
framed_ranks F [] [] [] h = refl
framed_ranks F (f ∷ fs) (c ∷ cs) (a ∷ xs) h =
    let count : length a.dims ≡ length f + length c = ap length h.0.0 ∙ length-append f c in
    let fits : nat_lt (length a.dims) (length c) ≡ false = grind (arith, nat_tests) in
    ap (λ b. not b && ranks_fit cs xs) fits ∙ framed_ranks F fs cs xs h.1
framed_ranks F [] [] (a ∷ xs) h = absurd h
framed_ranks F [] (c ∷ cs) xs h = absurd h
framed_ranks F (f ∷ fs) [] xs h = absurd h
framed_ranks F (f ∷ fs) (c ∷ cs) [] h = absurd h

-- ---- replication

take_drop : {A : Type 0} (n : ℕ) (xs : List A) → take n xs ++ drop n xs ≡ xs
take_drop zero xs = refl
take_drop (suc n) [] = refl
take_drop (suc n) (x ∷ xs) = ap (λ ys. x ∷ ys) (take_drop n xs)

no_items : {A : Type 0} (xs : List A) → length xs ≡ 0 → xs ≡ []
no_items [] e = refl
no_items (x ∷ xs) e = absurd (omega arith)

drop_count : {A : Type 0} (n : ℕ) (xs : List A) → length (drop n xs) ≡ length xs - n
drop_count zero xs = let e : length xs ≡ length xs - 0 = omega arith in e
drop_count (suc n) [] = let e : 0 ≡ 0 - suc n = omega arith in e
drop_count (suc n) (x ∷ xs) = drop_count n xs ∙ (let e : length xs - n ≡ suc (length xs) - suc n = omega arith in e)

-- runs of a whole list, joined
pub joined_runs : {A : Type 0} (n size : ℕ) (xs : List A) → length xs ≡ n * size → joined (runs n size xs) ≡ xs
joined_runs zero size xs e = sym (no_items xs (e ∙ (let z : 0 * size ≡ 0 = omega arith in z)))
joined_runs (suc n) size xs e =
    let rest = drop_count size xs in
    let more : suc n * size ≡ size + n * size = omega arith in
    let left : length (drop size xs) ≡ n * size = omega arith in
    ap (λ ys. take size xs ++ ys) (joined_runs n size (drop size xs) left) ∙ take_drop size xs

once : {A : Type 0} (xs : List A) → repeated 1 xs ≡ xs
once [] = refl
once (x ∷ xs) = ap (λ ys. x ∷ ys) (once xs)

-- an array over the whole of F is replicated to itself
pub replicated_whole : {A : Type 0} (F c : List ℕ) (xs : List A) → length xs ≡ product F * product c → replicated F [] c xs ≡ xs
replicated_whole F c xs e = ap joined (once (runs (product F) (product c) xs)) ∙ joined_runs (product F) (product c) xs e

-- replication of f's items
repeated_each : {A B : Type 0} (f : A → B) (n : ℕ) (xs : List A) → repeated n (each f xs) ≡ each f (repeated n xs)
repeated_each f n [] = refl
repeated_each f n (x ∷ xs) = (λ i. each_replicate f n x i ++ repeated_each f n xs i) ∙ each_append f (replicate n x) (repeated n xs)

pub replicated_each : {A B : Type 0} (f : A → B) (frame rest cell : List ℕ) (xs : List A) → replicated frame rest cell (each f xs) ≡ each f (replicated frame rest cell xs)
replicated_each f frame rest cell xs =
    ap (λ rs. joined (repeated (product rest) rs)) (each_runs f (product frame) (product cell) xs) ∙ ap joined (repeated_each (each f) (product rest) (runs (product frame) (product cell) xs))
    ∙ each_joined f (repeated (product rest) (runs (product frame) (product cell) xs))

-- cells of f's items
pub cells_each : {A B : Type 0} (f : A → B) (F c : List ℕ) (xs : List A) → cells_over F c (each f xs) ≡ each (arr f) (cells_over F c xs)
cells_each f F c xs = ap (each (array c)) (each_runs f (product F) (product c) xs) ∙ each_square (each f) (array c) (array c) (arr f) (λ r. refl) (runs (product F) (product c) xs)

-- nothing is cut from nothing
take_none : {A : Type 0} (n : ℕ) → take n (let none : List A = [] in none) ≡ []
take_none zero = refl
take_none (suc n) = refl

drop_none : {A : Type 0} (n : ℕ) → drop n (let none : List A = [] in none) ≡ []
drop_none zero = refl
drop_none (suc n) = refl

runs_none : {A : Type 0} (n size : ℕ) (xs : List A) → xs ≡ [] → Each (λ r. r ≡ []) (runs n size xs)
runs_none zero size xs e = tt
runs_none (suc n) size xs e = (ap (take size) e ∙ take_none size, runs_none n size (drop size xs) (ap (drop size) e ∙ drop_none size))

joined_none : {A : Type 0} (xss : List (List A)) → Each (λ r. r ≡ []) xss → joined xss ≡ []
joined_none [] h = refl
joined_none (xs ∷ xss) h = (λ i. h.0 i ++ joined_none xss h.1 i)

copies_none : {A : Type 0} (n : ℕ) (x : List A) → x ≡ [] → Each (λ r. r ≡ []) (replicate n x)
copies_none zero x e = tt
copies_none (suc n) x e = (e, copies_none n x e)

joined_each : {B : Type 0} (P : B → Type 0) (xs ys : List B) → Each P xs → Each P ys → Each P (xs ++ ys)
joined_each P [] ys h k = k
joined_each P (x ∷ xs) ys h k = (h.0, joined_each P xs ys h.1 k)

repeated_none : {A : Type 0} (n : ℕ) (xss : List (List A)) → Each (λ r. r ≡ []) xss → Each (λ r. r ≡ []) (repeated n xss)
repeated_none n [] h = tt
repeated_none n (x ∷ xss) h = joined_each (λ r. r ≡ []) (replicate n x) (repeated n xss) (copies_none n x h.0) (repeated_none n xss h.1)

pub replicated_none : {A : Type 0} (frame rest cell : List ℕ) (xs : List A) → xs ≡ [] → replicated frame rest cell xs ≡ []
replicated_none frame rest cell xs e = joined_none (repeated (product rest) (runs (product frame) (product cell) xs)) (repeated_none (product rest) (runs (product frame) (product cell) xs) (runs_none (product frame) (product cell) xs e))

to_arrays : {A : Type 0} (c : List ℕ) (rs : List (List A)) → Each (λ r. r ≡ []) rs → Each (λ b. b.atoms ≡ []) (each (array c) rs)
to_arrays c [] h = tt
to_arrays c (r ∷ rs) h = (h.0, to_arrays c rs h.1)

pub cells_none : {A : Type 0} (F c : List ℕ) (xs : List A) → xs ≡ [] → Each (λ b. b.atoms ≡ []) (cells_over F c xs)
cells_none F c xs e = to_arrays c (runs (product F) (product c) xs) (runs_none (product F) (product c) xs e)

-- ---- rows and columns

module _ {A B : Type 0} (R : A → B → Type 0) where
  firsts_two : (xss : List (List A)) (yss : List (List B)) → EachTwo (EachTwo R) xss yss → EachTwo R (firsts xss) (firsts yss)
  firsts_two [] [] h = tt
  firsts_two [] (ys ∷ yss) h = absurd h
  firsts_two (xs ∷ xss) [] h = absurd h
  firsts_two ([] ∷ xss) ([] ∷ yss) h = firsts_two xss yss h.1
  firsts_two ([] ∷ xss) ((y ∷ ys) ∷ yss) h = absurd h.0
  firsts_two ((x ∷ xs) ∷ xss) ([] ∷ yss) h = absurd h.0
  firsts_two ((x ∷ xs) ∷ xss) ((y ∷ ys) ∷ yss) h = (h.0.0, firsts_two xss yss h.1)

  rests_two : (xss : List (List A)) (yss : List (List B)) → EachTwo (EachTwo R) xss yss → EachTwo (EachTwo R) (rests xss) (rests yss)
  rests_two [] [] h = tt
  rests_two [] (ys ∷ yss) h = absurd h
  rests_two (xs ∷ xss) [] h = absurd h
  rests_two ([] ∷ xss) ([] ∷ yss) h = rests_two xss yss h.1
  rests_two ([] ∷ xss) ((y ∷ ys) ∷ yss) h = absurd h.0
  rests_two ((x ∷ xs) ∷ xss) ([] ∷ yss) h = absurd h.0
  rests_two ((x ∷ xs) ∷ xss) ((y ∷ ys) ∷ yss) h = (h.0.1, rests_two xss yss h.1)

  -- what holds of the items of two rows holds of those of two columns
  pub columns_two : (n : ℕ) (xss : List (List A)) (yss : List (List B)) → EachTwo (EachTwo R) xss yss → EachTwo (EachTwo R) (columns n xss) (columns n yss)
  columns_two zero xss yss h = tt
  columns_two (suc n) xss yss h = (firsts_two xss yss h, columns_two n (rests xss) (rests yss) (rests_two xss yss h))

module _ {B C : Type 0} (P : B → C → Type 0) where
  -- rows of n items, of which P holds with what stands beside the row
  abbrev pub RowsOf : ℕ → List (List B) → List C → Type 0
  RowsOf n [] [] = ⊤
  RowsOf n (row ∷ rows) (c ∷ cs) = ((length row ≡ n) × Each (λ b. P b c) row) × RowsOf n rows cs
  RowsOf n _ _ = ⊥

  first_column : (n : ℕ) (rows : List (List B)) (cs : List C) → RowsOf (suc n) rows cs → EachTwo P (firsts rows) cs
  first_column n [] [] h = tt
  first_column n [] (c ∷ cs) h = absurd h
  first_column n (row ∷ rows) [] h = absurd h
  first_column n ([] ∷ rows) (c ∷ cs) h = absurd (let e = h.0.0 in omega arith)
  first_column n ((b ∷ row) ∷ rows) (c ∷ cs) h = (h.0.1.0, first_column n rows cs h.1)

  other_columns : (n : ℕ) (rows : List (List B)) (cs : List C) → RowsOf (suc n) rows cs → RowsOf n (rests rows) cs
  other_columns n [] [] h = tt
  other_columns n [] (c ∷ cs) h = absurd h
  other_columns n (row ∷ rows) [] h = absurd h
  other_columns n ([] ∷ rows) (c ∷ cs) h = absurd (let e = h.0.0 in omega arith)
  other_columns n ((b ∷ row) ∷ rows) (c ∷ cs) h = ((let e = h.0.0 in omega arith, h.0.1.1), other_columns n rows cs h.1)

  pub columns_of : (n : ℕ) (rows : List (List B)) (cs : List C) → RowsOf n rows cs → Each (λ col. EachTwo P col cs) (columns n rows)
  columns_of zero rows cs h = tt
  columns_of (suc n) rows cs h = (first_column n rows cs h, columns_of n (rests rows) cs (other_columns n rows cs h))

-- ---- dims that a run can hold

not_zero : (m n : ℕ) → (m * n ≡ 0 → ⊥) → (m ≡ 0 → ⊥) × (n ≡ 0 → ⊥)
not_zero m n h = ((λ e. h (ap (λ k. k * n) e ∙ (let z : 0 * n ≡ 0 = omega arith in z))), (λ e. h (ap (λ k. m * k) e ∙ (let z : m * 0 ≡ 0 = omega arith in z))))

-- a cell's, where there is one
pub cell_forms : (f c : List ℕ) → (product f ≡ 0 → ⊥) → forms (f ++ c) ≡ true → forms c ≡ true
cell_forms [] c h e = e
cell_forms (n ∷ f) c h e =
    let parts = not_zero n (product f) h in
    cell_forms f c parts.1 (form_cell n (f ++ c) (positive n parts.0) e)
  where
    positive : (n : ℕ) → (n ≡ 0 → ⊥) → suc 0 ≤ n
    positive zero h = absurd (h refl)
    positive (suc n) h = omega arith

-- a frame that is a prefix has a cell where the whole has
pub prefix_some : (f rest F : List ℕ) → f ++ rest ≡ F → (product F ≡ 0 → ⊥) → product f ≡ 0 → ⊥
prefix_some f rest F e h z = h (ap product (sym e) ∙ none f z)
  where
    none : (f : List ℕ) → product f ≡ 0 → product (f ++ rest) ≡ 0
    none f z = product-append f rest ∙ ap (λ k. k * product rest) z ∙ (let t : 0 * product rest ≡ 0 = omega arith in t)
