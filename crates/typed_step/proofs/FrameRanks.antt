-- The ranks of frames: how many dims stand in front of a cell's.
use Rattle.std.proofs.Common.{◌≡◌, refl, sym, ap, ◌∙◌, ℕ, zero, suc, ◌+◌, ◌-◌, ◌<◌, ◌≤◌, ◌^◌, ◌==◌, ◌&&◌, nat_lt, All, Bool, true, false, List, [], ◌∷◌, ◌++◌, length, take, drop, eqb, slice_index_or, Option, Some, None, is_some, option_map, append_assoc, arith}
use Rattle.std.proofs.lemmas.Bool.{false≢true}
use Rattle.std.proofs.lemmas.List.{append-nil, drop_all, drop_more, take_all, take_more, take-append-drop, length-append, length-drop}
use Rattle.std.proofs.lemmas.Bool.Decides.{Decides-eqb}
use Rattle.std.proofs.lemmas.Slice.Eq.{slice_eq-Decides}
use Rattle.std.specs.Cmp.Lexicographic.{pointwise}
use Rattle.core_syntax.specs.declared.index.Index.{Index}
use Rattle.core_syntax.specs.declared.term.TermExpr.{TermExpr}
use Rattle.core_syntax.specs.Arrays.{frame_before}
use Rattle.core_syntax.specs.Fits.{all_below}
use Rattle.core_syntax.specs.Lists.{each, onto, after_prefix}
use Rattle.core_syntax.specs.Refine.{index_of}
use Rattle.core_syntax.specs.RefineTerms.{term_of}
use Rattle.core_syntax.specs.Rules.{dims_of, frames_of, and_list}
use Rattle.core_syntax.specs.Typed.{closed, typed_rules}
use Rattle.core_syntax.specs.Value.{shape_val}
use Rattle.typed_step.specs.Frames.{backs}
use Rattle.term_values.specs.Indices.{small}
use Rattle.term_values.proofs.Products.{all_below_is}
use Rattle.reduction_laws.proofs.steps.Frames.{equal_test, onto_onto, onto-append, onto_split, frame_before_cell}
use Rattle.typed_step.proofs.FrontLists.{fronts_of}
use Rattle.naturality.proofs.Eaches.{each_append}

abbrev or_these : List ℕ → Option (List ℕ) → List ℕ
or_these xs None = xs
or_these xs (Some ys) = ys

after_is : (xs ys zs : List ℕ) → after_prefix xs ys ≡ Some zs → ys ≡ xs ++ zs
after_is [] ys zs e = ap (or_these ys) e
after_is (x ∷ xs) [] zs e = absurd (false≢true (ap (λ (o : Option (List ℕ)). is_some o) e))
after_is (x ∷ xs) (y ∷ ys) zs e = by (x == y) refl (after_is xs ys zs) e
  where
    by : (b : Bool) → (x == y) ≡ b → (after_prefix xs ys ≡ Some zs → ys ≡ xs ++ zs) → (elim b as (λ b. Option (List ℕ)) [ true ↦ after_prefix xs ys | false ↦ None ]) ≡ Some zs → y ∷ ys ≡ x ∷ (xs ++ zs)
    by true h more f = λ i. sym (equal_test x y h) i ∷ more f i
    by false h more f = absurd (false≢true (ap (λ (o : Option (List ℕ)). is_some o) f))

-- a frame is in front of a cell where what is behind it is the cell
pub front_is : (cell dims : List ℕ) (rank : ℕ) → drop rank dims ≡ cell → Some (take rank dims) ≡ frame_before cell dims
front_is cell dims rank e =
    sym
    (ap (λ (c : List ℕ). frame_before c dims) (sym e) ∙ ap (frame_before (drop rank dims)) (sym (take-append-drop rank dims))
    ∙ frame_before_cell (take rank dims) (drop rank dims))

onto_front : (zs ys : List ℕ) → onto zs ys ≡ onto zs [] ++ ys
onto_front zs ys = onto_split zs [] ys

no_front : (cell dims : List ℕ) → ((f : List ℕ) → dims ≡ f ++ cell → ⊥) → None ≡ frame_before cell dims
no_front cell dims other = by (after_prefix (onto cell []) (onto dims [])) refl
  where
    by : (o : Option (List ℕ)) → after_prefix (onto cell []) (onto dims []) ≡ o → None ≡ option_map (λ f. onto f []) o
    by None e = refl
    by (Some zs) e =
        let turned = after_is (onto cell []) (onto dims []) zs e in
        let back : dims ≡ onto zs [] ++ cell =
        sym (onto_onto dims [] [] ∙ append-nil dims) ∙ ap (λ l. onto l []) turned ∙ onto-append (onto cell []) zs []
        ∙ ap (λ l. onto zs l) (onto_onto cell [] [] ∙ append-nil cell) ∙ onto_front zs cell in
        absurd (other (onto zs []) back)

pub front_short : (cell dims : List ℕ) → length dims < length cell → None ≡ frame_before cell dims
front_short cell dims lt = no_front cell dims (λ f e. omega (arith, ap length e, length-append f cell, lt))

pub front_other : (cell dims : List ℕ) (rank : ℕ) → rank ≡ length dims - length cell → (drop rank dims ≡ cell → ⊥) → None ≡ frame_before cell dims
front_other cell dims rank is other =
    no_front cell dims
    (λ f e.
    let long : rank ≡ length f = omega (arith, ap length e, length-append f cell, is) in
    other (ap (λ k. drop k dims) long ∙ ap (drop (length f)) e ∙ drop_front f cell))
  where
    drop_front : (f cell : List ℕ) → drop (length f) (f ++ cell) ≡ cell
    drop_front [] cell = refl
    drop_front (x ∷ f) cell = drop_front f cell

abbrev D : TermExpr → List ℕ
D t = dims_of typed_rules (term_of t)

abbrev S : Index → List ℕ
S c = shape_val closed (index_of c)

abbrev pub backs_of : List ℕ → List TermExpr → List (List ℕ)
backs_of ks ts = backs ks (each (λ a. dims_of typed_rules (term_of a)) ts)

fronts_push : (ks : List ℕ) (ts : List TermExpr) (k r : ℕ) (t : TermExpr) → length ks ≡ k → k < length ts → t ≡ slice_index_or ts k t → fronts_of (ks ++ r ∷ []) ts ≡ fronts_of ks ts ++ take r (D t) ∷ []
fronts_push ks [] k r t long lt at = absurd (omega (arith, lt))
fronts_push [] (u ∷ ts) zero r t long lt at = ap (λ v. take r (D v) ∷ []) (sym at)
fronts_push [] (u ∷ ts) (suc k) r t long lt at = absurd (omega (arith, long))
fronts_push (x ∷ ks) (u ∷ ts) zero r t long lt at = absurd (omega (arith, long))
fronts_push (x ∷ ks) (u ∷ ts) (suc k) r t long lt at = ap (λ l. take x (D u) ∷ l) (fronts_push ks ts k r t (omega (arith, long)) (omega (arith, lt)) at)

backs_push : (ks : List ℕ) (ts : List TermExpr) (k r : ℕ) (t : TermExpr) → length ks ≡ k → k < length ts → t ≡ slice_index_or ts k t → backs_of (ks ++ r ∷ []) ts ≡ backs_of ks ts ++ drop r (D t) ∷ []
backs_push ks [] k r t long lt at = absurd (omega (arith, lt))
backs_push [] (u ∷ ts) zero r t long lt at = ap (λ v. drop r (D v) ∷ []) (sym at)
backs_push [] (u ∷ ts) (suc k) r t long lt at = absurd (omega (arith, long))
backs_push (x ∷ ks) (u ∷ ts) zero r t long lt at = absurd (omega (arith, long))
backs_push (x ∷ ks) (u ∷ ts) (suc k) r t long lt at = ap (λ l. drop x (D u) ∷ l) (backs_push ks ts k r t (omega (arith, long)) (omega (arith, lt)) at)

-- the frames of what is still behind
abbrev later : List Index → List TermExpr → ℕ → Option (List (List ℕ))
later cs ts k = frames_of typed_rules (each (λ c. shape_val closed (index_of c)) (drop k cs)) (each term_of (drop k ts))

-- the ranks of the first arguments, and the frames and cells that they stand for
abbrev pub Ranked : List ℕ → List Index → List TermExpr → ℕ → Type 0
Ranked ks cs ts k =
    (length ks ≡ k) × (frames_of typed_rules (each (λ c. shape_val closed (index_of c)) cs) (each term_of ts) ≡ option_map (λ fs. fronts_of ks ts ++ fs) (later cs ts k))
    × (backs_of ks ts ≡ each (λ c. shape_val closed (index_of c)) (take k cs))

and_more : (F : List (List ℕ)) (f : List ℕ) (o : Option (List (List ℕ))) → option_map (λ fs. F ++ fs) (and_list (Some f) o) ≡ option_map (λ fs. (F ++ f ∷ []) ++ fs) o
and_more F f None = refl
and_more F f (Some fs) = ap (λ (l : List (List ℕ)). Some l) (sym (append_assoc F (f ∷ []) fs))

later_is : (cs : List Index) (ts : List TermExpr) (k : ℕ) (c : Index) (t : TermExpr) → k < length cs → k < length ts → c ≡ slice_index_or cs k c → t ≡ slice_index_or ts k t
    → later cs ts k ≡ and_list (frame_before (S c) (D t)) (later cs ts (k + 1))
later_is cs ts k c t low lt here at =
    let one = drop_more cs k c low ∙ ap (λ x. x ∷ drop (k + 1) cs) (sym here) in
    let two = drop_more ts k t lt ∙ ap (λ x. x ∷ drop (k + 1) ts) (sym at) in
    (λ i. frames_of typed_rules (each (λ c. shape_val closed (index_of c)) (one i)) (each term_of (two i)))

pub ranked_more : (ks next : List ℕ) (cs : List Index) (ts : List TermExpr) (k r : ℕ) (c : Index) (t : TermExpr) → length cs ≡ length ts → k < length ts → c ≡ slice_index_or cs k c → t ≡ slice_index_or ts k t
    → next ≡ ks ++ r ∷ [] → Some (take r (D t)) ≡ frame_before (S c) (D t) → drop r (D t) ≡ S c → Ranked ks cs ts k → Ranked next cs ts (k + 1)
ranked_more ks next cs ts k r c t same lt here at e front back p =
    let low : k < length cs = omega (arith, same, lt) in (
      ap length e ∙ length-append ks (r ∷ []) ∙ ap (λ n. n + 1) p.0,
      p.1 ∙ ap (option_map (λ fs. fronts_of ks ts ++ fs)) (later_is cs ts k c t low lt here at ∙ ap (λ o. and_list o (later cs ts (k + 1))) (sym front))
          ∙ and_more (fronts_of ks ts) (take r (D t)) (later cs ts (k + 1))
          ∙ ap (λ l. option_map (λ fs. l ++ fs) (later cs ts (k + 1))) (sym (ap (λ l. fronts_of l ts) e ∙ fronts_push ks ts k r t p.0 lt at)),
      ap (λ l. backs_of l ts) e ∙ backs_push ks ts k r t p.0 lt at ∙ (λ i. p.2 i ++ (back ∙ ap S here) i ∷ [])
          ∙ sym (ap (each (λ c. shape_val closed (index_of c))) (take_more cs k c low) ∙ sym (each_append (λ c. shape_val closed (index_of c)) (take k cs) (slice_index_or cs k c ∷ []))),
    )

pub ranked_none : (ks : List ℕ) (cs : List Index) (ts : List TermExpr) (k : ℕ) (c : Index) (t : TermExpr) → length cs ≡ length ts → k < length ts → c ≡ slice_index_or cs k c → t ≡ slice_index_or ts k t
    → None ≡ frame_before (S c) (D t) → Ranked ks cs ts k → None ≡ frames_of typed_rules (each (λ c. shape_val closed (index_of c)) cs) (each term_of ts)
ranked_none ks cs ts k c t same lt here at none p =
    let low : k < length cs = omega (arith, same, lt) in
    sym (p.1 ∙ ap (option_map (λ fs. fronts_of ks ts ++ fs)) (later_is cs ts k c t low lt here at ∙ ap (λ o. and_list o (later cs ts (k + 1))) (sym none)))

pub ranked_ends : (ks : List ℕ) (cs : List Index) (ts : List TermExpr) (k : ℕ) → length cs ≡ length ts → length ts ≤ k → Ranked ks cs ts k
    → Some (fronts_of ks ts) ≡ frames_of typed_rules (each (λ c. shape_val closed (index_of c)) cs) (each term_of ts)
ranked_ends ks cs ts k same le p =
    let none = drop_all k cs (omega (arith, same, le)) in
    let over = drop_all k ts le in
    sym
    (p.1 ∙ (λ i. option_map (λ fs. fronts_of ks ts ++ fs) (frames_of typed_rules (each (λ c. shape_val closed (index_of c)) (none i)) (each term_of (over i))))
    ∙ ap (λ (l : List (List ℕ)). Some l) (append-nil (fronts_of ks ts)))

pub ranked_cells : (ks : List ℕ) (cs : List Index) (ts : List TermExpr) (k : ℕ) → length cs ≡ length ts → length ts ≤ k → Ranked ks cs ts k → backs_of ks ts ≡ each (λ c. shape_val closed (index_of c)) cs
ranked_cells ks cs ts k same le p = p.2 ∙ ap (each (λ c. shape_val closed (index_of c))) (take_all k cs (omega (arith, same, le)))

and_none : (o : Option (List ℕ)) → None ≡ and_list o None
and_none None = refl
and_none (Some f) = refl

pub frames_other : (cs : List Index) (ts : List TermExpr) → (length cs ≡ length ts → ⊥) → None ≡ frames_of typed_rules (each (λ c. shape_val closed (index_of c)) cs) (each term_of ts)
frames_other [] [] other = absurd (other refl)
frames_other [] (t ∷ ts) other = refl
frames_other (c ∷ cs) [] other = refl
frames_other (c ∷ cs) (t ∷ ts) other =
    and_none (frame_before (S c) (D t)) ∙ ap (λ o. and_list (frame_before (S c) (D t)) o) (frames_other cs ts (λ e. other (ap (λ n. suc n) e)))

-- a test whether the dims behind a frame are the cell's
pub behind_is : (r : Bool) (dims cell : List ℕ) (rank : ℕ) → r ≡ pointwise eqb (take (length dims - rank) (drop rank dims)) cell → (r ≡ true → drop rank dims ≡ cell) × (drop rank dims ≡ cell → r ≡ true)
behind_is r dims cell rank e =
    let whole = take_all (length dims - rank) (drop rank dims) (omega (arith, length-drop rank dims)) in
    slice_eq-Decides Decides-eqb (drop rank dims) cell r (e ∙ ap (λ l. pointwise eqb l cell) whole)

above_back : (n : ℕ) (f cell : List ℕ) → all_below n cell ≡ false → all_below n (f ++ cell) ≡ false
above_back n [] cell e = e
above_back n (x ∷ f) cell e = by (nat_lt x n) (above_back n f cell e)
  where
    by : (b : Bool) → all_below n (f ++ cell) ≡ false → (b && all_below n (f ++ cell)) ≡ false
    by true e = e
    by false e = refl

small_off : (b : Bool) (ns : List ℕ) → None ≡ (elim b as (λ b. Option (List ℕ)) [ true ↦ Some ns | false ↦ None ]) → b ≡ false
small_off true ns e = absurd (false≢true (ap (λ (o : Option (List ℕ)). is_some o) e))
small_off false ns e = refl

-- small dims don't end in those of a cell that has a large one
pub front_large : (cell dims : List ℕ) → All (λ d. d < 2 ^ 32) dims → None ≡ small cell → None ≡ frame_before cell dims
front_large cell dims low none =
    no_front cell dims
    (λ f e. false≢true (sym (above_back (2 ^ 32) f cell (small_off (all_below (2 ^ 32) cell) cell none)) ∙ sym (ap (all_below (2 ^ 32)) e) ∙ all_below_is dims (2 ^ 32) low))
