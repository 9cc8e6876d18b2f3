-- Values replicated to a frame, and frames that are one.
use Rattle.std.proofs.Common.{◌≡◌, refl, sym, ap, ◌∙◌, ℕ, zero, suc, ◌+◌, ◌*◌, ◌-◌, ◌^◌, ◌<◌, ◌≤◌, min, Bool, true, false, not, eqb, ◌&&◌, List, [], ◌∷◌, ◌++◌, length, take, drop, replicate, append_assoc, append-nil, arith, ⊎_elim, Option, Some, None, Result, IfOk}
use Rattle.std.proofs.lemmas.Bool.{cases_lt}
use Rattle.std.proofs.Math.Seq.{drop-append_seam}
use Rattle.std.proofs.lemmas.Result.{IfOk-weaker}
use Rattle.std.proofs.lemmas.List.{take_all, drop_all, take_min, drop_min}
use Rattle.std.specs.Cmp.Lexicographic.{pointwise}
use Rattle.core_syntax.specs.declared.term.TermAtom.{TermAtom}
use Rattle.core_syntax.specs.declared.term.TermExpr.{TermExpr, NoAtoms}
use Rattle.core_syntax.specs.declared.term.TermExpr.TheVariants as term
use Rattle.core_syntax.specs.declared.ty.Ty.{Ty}
use Rattle.core_syntax.specs.declared.errors.Memory.{Memory}
use Rattle.core_syntax.specs.Lists.{each, joined, product, same_numbers, after_prefix}
use Rattle.core_syntax.specs.Arrays.{array, runs, repeated, replicated, is_prefix}
use Rattle.core_syntax.specs.Refine.{ty_of}
use Rattle.core_syntax.specs.RefineTerms.{TypedCell, term_of, terms_of, cell_of, cells_of}
use Rattle.core_syntax.specs.Rules.{atoms_of, part_of, lifted, lifted_by}
use Rattle.core_syntax.specs.Syntax.{Index, Ty as SyntaxTy}
use Rattle.core_syntax.specs.Terms.{TArray, TNoAtoms, TApp, more_terms, term_list, more_cells, cell_list}
use Rattle.core_syntax.specs.Typed.{typed_rules, TypedTerm}
use Rattle.prim_kernels.proofs.ArrayCuts.{joined_append}
use Rattle.reduction_laws.proofs.steps.Frames.{prefix_rest}
use Rattle.term_values.proofs.Products.{product_joined}
use Rattle.naturality.proofs.Eaches.{each_append, each_take, each_drop}

-- ---- frames that are one

same_pointwise : (f g : List ℕ) → same_numbers f g ≡ pointwise eqb f g
same_pointwise [] [] = refl
same_pointwise [] (y ∷ ys) = refl
same_pointwise (x ∷ xs) [] = refl
same_pointwise (x ∷ xs) (y ∷ ys) = ap (λ (b : Bool). eqb x y && b) (same_pointwise xs ys)

not_not : (b : Bool) → b ≡ not (not b)
not_not true = refl
not_not false = refl

-- a test whether two slices differ
pub is_same : (r : Bool) (f g d : List ℕ) → r ≡ not (pointwise eqb f g) → g ≡ d → same_numbers f d ≡ not r
is_same r f g d e s = ap (same_numbers f) (sym s) ∙ same_pointwise f g ∙ not_not (pointwise eqb f g) ∙ ap not (sym e)

-- ---- runs, one after another

-- what is pushed, with what is left, is the whole
abbrev pub Replicating : {A B : Type 0} → (A → B) → ℕ → ℕ → ℕ → List A → List A → List A → ℕ → Type 0
Replicating f runs_all times size atoms now rest k =
    joined (repeated times (runs runs_all size (each f atoms))) ≡ each f now ++ joined (repeated times (runs (runs_all - k) size (each f rest)))

-- a cut within a list is the cut
cut_take : {A : Type 0} (n m : ℕ) (xs : List A) → m ≡ min n (length xs) → take m xs ≡ take n xs
cut_take n m xs e = ap (λ k. take k xs) e ∙ take_min n xs

cut_drop : {A : Type 0} (n m : ℕ) (xs : List A) → m ≡ min n (length xs) → drop m xs ≡ drop n xs
cut_drop n m xs e = ap (λ k. drop k xs) e ∙ drop_min n xs

each-copies : {A B : Type 0} (f : A → B) (k : ℕ) (xs : List A) → each f (joined (replicate k xs)) ≡ joined (replicate k (each f xs))
each-copies f zero xs = refl
each-copies f (suc k) xs = sym (each_append f xs (joined (replicate k xs))) ∙ ap (λ ys. each f xs ++ ys) (each-copies f k xs)

-- one more run is pushed
pub replicating_more : {A B : Type 0} (f : A → B) (n times size m k : ℕ) (atoms now next rest run behind : List A) → k < n → m ≡ min size (length rest) → run ≡ take m rest → behind ≡ drop m rest
    → next ≡ now ++ joined (replicate times run) → Replicating f n times size atoms now rest k → Replicating f n times size atoms next behind (k + 1)
replicating_more f n times size m k atoms now next rest run behind lt cut r b e p =
    let ys = each f rest in
    let left = n - (k + 1) in
    let count : n - k ≡ suc left = omega (arith, lt) in
    let later = λ (zs : List _). joined (repeated times (runs left size zs)) in
    let same = each_take f size rest ∙ ap (each f) (sym (r ∙ cut_take size m rest cut)) in
    let back = each_drop f size rest ∙ ap (each f) (sym (b ∙ cut_drop size m rest cut)) in
    let front = ap (λ l. each f now ++ joined (replicate times l)) same ∙ sym (ap (each f) e ∙ sym (each_append f now (joined (replicate times run))) ∙ ap (λ l. each f now ++ l) (each-copies f times run)) in
    p ∙ ap (λ j. each f now ++ joined (repeated times (runs j size ys))) count
    ∙ ap (λ l. each f now ++ l) (joined_append (replicate times (take size ys)) (repeated times (runs left size (drop size ys))))
    ∙ sym (append_assoc (each f now) (joined (replicate times (take size ys))) (later (drop size ys)))
    ∙ (λ i. front i ++ later (back i))

pub replicating_ends : {A B : Type 0} (f : A → B) (n times size k : ℕ) (atoms now rest : List A) → n ≤ k → Replicating f n times size atoms now rest k
    → each f now ≡ joined (repeated times (runs n size (each f atoms)))
replicating_ends f n times size k atoms now rest le p =
    let none : n - k ≡ 0 = omega (arith, le) in
    sym (p ∙ ap (λ j. each f now ++ joined (repeated times (runs j size (each f rest)))) none ∙ append-nil (each f now))

-- ---- counts and sizes that are kept below a cap

length-each : {A B : Type 0} (f : A → B) (xs : List A) → length (each f xs) ≡ length xs
length-each f [] = refl
length-each f (x ∷ xs) = ap (λ n. suc n) (length-each f xs)

-- runs of a size that no list reaches are those of any such size
runs_over : {A : Type 0} (n s t : ℕ) (xs : List A) → length xs ≤ s → length xs ≤ t → runs n s xs ≡ runs n t xs
runs_over zero s t xs p q = refl
runs_over (suc n) s t xs p q =
    let whole = take_all s xs p ∙ sym (take_all t xs q) in
    let none = drop_all s xs p ∙ sym (drop_all t xs q) in
    let short : length (drop t xs) ≤ 0 = omega (arith, ap length (drop_all t xs q)) in
    (λ i. whole i ∷ runs n s (none i)) ∙ ap (λ rs. take t xs ∷ rs) (runs_over n s t (drop t xs) (omega (arith, short)) (omega (arith, short)))

runs_capped : {A : Type 0} (n s p top : ℕ) (xs : List A) → s ≡ min p top → length xs ≤ top → runs n s xs ≡ runs n p xs
runs_capped n s p top xs e short =
    ⊎_elim
    (λ (lt : p < top). ap (λ k. runs n k xs) (omega (arith, e, lt)))
    (λ (le : top ≤ p). runs_over n s p xs (omega (arith, e, le, short)) (omega (arith, le, short)))
    (cases_lt p top)

never : {A : Type 0} (xs : List (List A)) → joined (repeated 0 xs) ≡ []
never [] = refl
never (x ∷ xs) = never xs

few : (a b : ℕ) → 0 < b → a ≤ a * b
few a (suc b) p = omega arith
few a zero p = absurd (omega arith)

-- so many runs, each so many times, where both counts are kept below a cap that their product doesn't reach
counts_capped : {A : Type 0} (a b n t s top : ℕ) (xs : List A) → a * b ≤ top → n ≡ min a (top + 1) → t ≡ min b (top + 1) → joined (repeated t (runs n s xs)) ≡ joined (repeated b (runs a s xs))
counts_capped zero b n t s top xs low en et =
    let none : n ≡ 0 = omega (arith, en) in
    ap (λ k. joined (repeated t (runs k s xs))) none
counts_capped (suc a) zero n t s top xs low en et =
    let none : t ≡ 0 = omega (arith, et) in
    ap (λ k. joined (repeated k (runs n s xs))) none ∙ never (runs n s xs) ∙ sym (never (runs (suc a) s xs))
counts_capped (suc a) (suc b) n t s top xs low en et =
    let left = few (suc a) (suc b) (omega arith) in
    let right : suc b ≤ suc a * suc b = omega arith in
    let all : n ≡ suc a = omega (arith, en, left, low) in
    let often : t ≡ suc b = omega (arith, et, right, low) in
    (λ i. joined (repeated (often i) (runs (all i) s xs)))

pub over_counted : {A B : Type 0} (f : A → B) (own rest cell : List ℕ) (n t s : ℕ) (xs : List A) → product own * product rest ≤ 2 ^ 24 → n ≡ min (product own) (2 ^ 24 + 1) → t ≡ min (product rest) (2 ^ 24 + 1)
    → s ≡ min (product cell) (2 ^ 64 - 1) → length xs < 2 ^ 64 → joined (repeated t (runs n s (each f xs))) ≡ replicated own rest cell (each f xs)
over_counted f own rest cell n t s xs low en et es short =
    ap (λ rs. joined (repeated t rs)) (runs_capped n s (product cell) (2 ^ 64 - 1) (each f xs) es (omega (arith, length-each f xs, short)))
    ∙ counts_capped (product own) (product rest) n t (product cell) (2 ^ 24) (each f xs) low en et

-- ---- a value over a front of a frame

behind_front : (f g : List ℕ) → is_prefix f g ≡ true → (after_prefix f g ≡ Some (drop (length f) g)) × (f ++ drop (length f) g ≡ g)
behind_front f g e =
    let r = prefix_rest f g e in
    let rest = sym (drop-append_seam f r.0) ∙ ap (drop (length f)) r.2 in
    (r.1 ∙ ap (λ (l : List ℕ). Some l) rest, ap (λ l. f ++ l) (sym rest) ∙ r.2)

behind_other : (f g : List ℕ) → is_prefix f g ≡ false → after_prefix f g ≡ None
behind_other [] g e = absurd (cc)
behind_other (x ∷ xs) [] e = refl
behind_other (x ∷ xs) (y ∷ ys) e = by (eqb x y) e (λ h. behind_other xs ys h)
  where
    by : (b : Bool) → (b && is_prefix xs ys) ≡ false → (is_prefix xs ys ≡ false → after_prefix xs ys ≡ None) → (elim b as (λ b. Option (List ℕ)) [ true ↦ after_prefix xs ys | false ↦ None ]) ≡ None
    by true e h = h e
    by false e h = refl

-- a frame in front and what is behind have the frame's product
pub front_product : (f g rest : List ℕ) → is_prefix f g ≡ true → rest ≡ drop (length f) g → product g ≤ 2 ^ 24 → product f * product rest ≤ 2 ^ 24
front_product f g rest e r low =
    let whole = sym (product_joined f rest) ∙ ap (λ l. product (f ++ l)) r ∙ ap product (behind_front f g e).1 in
    omega (arith, whole, low)

cells_listed : (xs : List TermAtom) → cells_of xs ≡ cell_list (each cell_of xs)
cells_listed [] = refl
cells_listed (x ∷ xs) = ap (λ ys. more_cells (cell_of x) ys) (cells_listed xs)

-- a value whose frame is no front of the frame stays
pub stays : (r : Result TermExpr Memory) (F own cell : List ℕ) (t : TermExpr) → is_prefix own F ≡ false → IfOk r (λ x. x ≡ t) → IfOk r (λ x. term_of x ≡ lifted typed_rules F own cell (term_of t))
stays r F own cell t e =
    IfOk-weaker r (λ x. x ≡ t) (λ x. term_of x ≡ lifted typed_rules F own cell (term_of t))
    (λ x h. ap term_of h ∙ sym (ap (λ o. lifted_by typed_rules F own cell o (term_of t)) (behind_other own F e)))

-- an empty one
pub lifts_empty : (t : TermExpr) (F own cell d dims : List ℕ) (ty copy : Ty) → t ≡ NoAtoms d ty → is_prefix own F ≡ true → dims ≡ F ++ cell → copy ≡ ty
    → TNoAtoms dims (ty_of copy) ≡ lifted typed_rules F own cell (term_of t)
lifts_empty t F own cell d dims ty copy is e ed et =
    (λ i. TNoAtoms (ed i) (ty_of (et i)))
    ∙ sym
    (ap (λ u. lifted typed_rules F own cell (term_of u)) is
    ∙ ap (λ o. lifted_by typed_rules F own cell o (TNoAtoms d (ty_of ty))) (behind_front own F e).0)

-- what is made of the atoms of any other tree
not_empty : (t : TermExpr) (dims : List ℕ) (xs : List TypedCell) → ((d : List ℕ) (ty : Ty) → t ≡ NoAtoms d ty → ⊥) → part_of typed_rules (term_of t) (array dims xs) ≡ TArray dims (cell_list xs)
not_empty (term.Var k) dims xs other = refl
not_empty (term.Def k) dims xs other = refl
not_empty (term.Array' ds s row) dims xs other = refl
not_empty (term.NoAtoms ds ty) dims xs other = absurd (other ds ty refl)
not_empty (term.Frame' ds s row ty) dims xs other = refl
not_empty (term.NoCells ds ty) dims xs other = refl
not_empty (term.App' s f s' row cs ty) dims xs other = refl
not_empty (term.TypeApp' s f us ty) dims xs other = refl
not_empty (term.IndexApp' s f is ty) dims xs other = refl
not_empty (term.Unbox' ss s e s' b ty) dims xs other = refl

-- an array
pub lifts_array : (t u : TermExpr) (F own rest cell own' cell' dims : List ℕ) (before all : List TermAtom) → ((d : List ℕ) (ty : Ty) → t ≡ NoAtoms d ty → ⊥) → is_prefix own' F ≡ true
    → own ≡ own' → cell ≡ cell' → rest ≡ drop (length own) F → dims ≡ F ++ cell → each cell_of before ≡ atoms_of typed_rules (term_of t) → each cell_of all ≡ replicated own rest cell (each cell_of before)
    → term_of u ≡ TArray dims (cells_of all) → term_of u ≡ lifted typed_rules F own' cell' (term_of t)
lifts_array t u F own rest cell own' cell' dims before all other e eo ec er ed ea el eu =
    let behind = er ∙ ap (λ o. drop (length o) F) eo in
    let goes = behind_front own' F e in
    let atoms = replicated own' (drop (length own') F) cell' (atoms_of typed_rules (term_of t)) in
    let same = el ∙ (λ i. replicated (eo i) (behind i) (ec i) (ea i)) in
    let ds = ed ∙ ap (λ l. F ++ l) ec in
    eu ∙ (λ i. TArray (ds i) (cells_listed all i)) ∙ ap (λ xs. TArray (F ++ cell') (cell_list xs)) same
    ∙ sym (ap (λ o. lifted_by typed_rules F own' cell' o (term_of t)) goes.0 ∙ not_empty t (F ++ cell') atoms other)

-- ---- a lifted application

pub terms_listed : (xs : List TermExpr) → terms_of xs ≡ term_list (each term_of xs)
terms_listed [] = refl
terms_listed (x ∷ xs) = ap (λ ys. more_terms (term_of x) ys) (terms_listed xs)

-- a function's frame is all of its dims
pub whole_frame : (r : Result TermExpr Memory) (u : TermExpr) (F d : List ℕ) (k : ℕ) (t : TypedTerm) → k ≡ length d → term_of u ≡ lifted typed_rules F (take k d) (drop k d) t
    → IfOk r (λ x. x ≡ u) → IfOk r (λ x. term_of x ≡ lifted typed_rules F d [] t)
whole_frame r u F d k t e h =
    let le : length d ≤ k = omega (arith, e) in
    IfOk-weaker r (λ x. x ≡ u) (λ x. term_of x ≡ lifted typed_rules F d [] t) (λ x same. ap term_of same ∙ h ∙ (λ i. lifted typed_rules F (take_all k d le i) (drop_all k d le i) t))

pub application_of : (r : Result TermExpr Memory) (f g : TypedTerm) (ts us : List TypedTerm) (cs : List Index) (a : SyntaxTy) → f ≡ g → ts ≡ us
    → IfOk r (λ x. term_of x ≡ TApp f (term_list ts) cs a) → IfOk r (λ x. term_of x ≡ TApp g (term_list us) cs a)
application_of r f g ts us cs a ef et =
    IfOk-weaker r (λ x. term_of x ≡ TApp f (term_list ts) cs a) (λ x. term_of x ≡ TApp g (term_list us) cs a) (λ x h. h ∙ (λ i. TApp (ef i) (term_list (et i)) cs a))
