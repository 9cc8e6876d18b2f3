-- Reading the parts of indices, as the code does.
use Rattle.std.proofs.Common.{◌≡◌, ℕ, zero, suc, ◌+◌, ◌-◌, ◌<◌, ◌≤◌, cond, Bool, List, [], ◌∷◌, ◌++◌, length, take, get_or, Ok, ap, sym, subst, ◌∙◌, refl, arith, append_assoc, Option, None, add-one, eq-eqb}
use Rattle.std.proofs.lemmas.Bool.{ne_eqb}
use Rattle.std.proofs.Math.Seq.{take-length}
use Rattle.core_syntax.specs.declared.norm.Coef.{Coef}
use Rattle.core_syntax.specs.Linear.{Linear}
use Rattle.machine_table.specs.IndexBounds.{Scope}
use Rattle.code_text.specs.IndexText.{SumPart}
use Rattle.code_text.specs.Reading.{Read, ◌>>=◌, Reader, word_at, behind, with_front, items_from, some_items}
use Rattle.code_text.specs.IndexReading.{sum_room, sum_item, sum_next, sum_others, add_var, add_part, add_parts, linear_of}
use Rattle.code_text.specs.declared.reading.TextError.{TextError}
use Rattle.code_text.specs.Gives.{Fails}
use Rattle.code_text.proofs.goes.Words.{Fails-bind}
use Rattle.code_text.proofs.codecs.Many.{front_twice}

pub others_at : (scope : Scope) (first second : SumPart) (most : ℕ) (bytes rest after : List ℕ) (top next : Option ℕ) (items : List SumPart) → word_at (32 ∷ []) bytes ≡ Ok (tt, rest) → top ≡ sum_next None first → sum_item scope top most rest ≡ Ok (second, after) → next ≡ sum_next top second → items ≡ first ∷ (second ∷ [])
    → with_front (first ∷ []) (sum_others scope first most bytes) ≡ with_front items (items_from 41 sum_room (sum_item scope) sum_next next most most after)
others_at scope first second most bytes rest after top next items h t i n l =
    let tail : Option ℕ → Read (List SumPart) = λ state. items_from 41 sum_room (sum_item scope) sum_next state most most after in
    ap (λ (r : Read (Unit {0})). with_front (first ∷ []) (r >>= λ x. sum_item scope (sum_next None first) most x.1 >>= λ y. with_front (y.0 ∷ []) (items_from 41 sum_room (sum_item scope) sum_next (sum_next (sum_next None first) y.0) most most y.1))) h
    ∙ ap (λ (o : Option ℕ). with_front (first ∷ []) (sum_item scope o most rest >>= λ y. with_front (y.0 ∷ []) (items_from 41 sum_room (sum_item scope) sum_next (sum_next o y.0) most most y.1))) (sym t)
    ∙ ap (λ (r : Read SumPart). with_front (first ∷ []) (r >>= λ y. with_front (y.0 ∷ []) (items_from 41 sum_room (sum_item scope) sum_next (sum_next top y.0) most most y.1))) i
    ∙ front_twice first second (tail (sum_next top second))
    ∙ ap (λ (o : Option ℕ). with_front (first ∷ (second ∷ [])) (tail o)) (sym n)
    ∙ ap (λ (xs : List SumPart). with_front xs (tail next)) (sym l)

-- a variable more, by the last of those that are there
pub add_to_last : (k : ℕ) (front : List Coef) (c : Coef) → add_var k (front ++ c ∷ []) ≡ front ++ add_var k (c ∷ [])
add_to_last k [] c = refl
add_to_last k (d ∷ []) c = refl
add_to_last k (d ∷ (e ∷ front)) c = ap (λ cs. d ∷ cs) (add_to_last k (e ∷ front) c)

pub others_fail : (scope : Scope) (e : TextError) (first : SumPart) (most : ℕ) (bytes rest : List ℕ) (top : Option ℕ) → word_at (32 ∷ []) bytes ≡ Ok (tt, rest) → top ≡ sum_next None first → Fails e (sum_item scope top most rest) → Fails e (with_front (first ∷ []) (sum_others scope first most bytes))
others_fail scope e first most bytes rest top h t f =
    let more : SumPart × List ℕ → Read (List SumPart) = λ y. with_front (y.0 ∷ []) (items_from 41 sum_room (sum_item scope) sum_next (sum_next (sum_next None first) y.0) most most y.1) in
    subst (Fails e) (sym (ap (λ (r : Read (Unit {0})). with_front (first ∷ []) (r >>= λ x. sum_item scope (sum_next None first) most x.1 >>= more)) h ∙ ap (λ (o : Option ℕ). with_front (first ∷ []) (sum_item scope o most rest >>= more)) (sym t)))
    (Fails-bind e (sum_item scope top most rest >>= more) _ (Fails-bind e (sum_item scope top most rest) more f))

pub added_same : (k t : ℕ) (front old : List Coef) (c : Coef) → old ≡ front ++ c ∷ [] → c.var ≡ k → t ≡ c.times + 1 → front ++ record { var = k; times = t } ∷ [] ≡ add_var k old
added_same k t front old c o e n =
    ap (λ (m : ℕ). front ++ record { var = k; times = m } ∷ []) n
    ∙ ap (λ cs. front ++ cs) (sym (ap (λ (b : Bool). cond b (record { var = k; times = c.times + 1 } ∷ []) (c ∷ record { var = k; times = 1 } ∷ [])) (eq-eqb c.var k e)))
    ∙ sym (add_to_last k front c)
    ∙ ap (add_var k) (sym o)

pub added_other : (k : ℕ) (front middle all old : List Coef) (c : Coef) → old ≡ front ++ c ∷ [] → (c.var ≡ k → ⊥) → middle ≡ front ++ c ∷ [] → all ≡ middle ++ record { var = k; times = 1 } ∷ [] → all ≡ add_var k old
added_other k front middle all old c o e m a =
    a
    ∙ ap (λ cs. cs ++ record { var = k; times = 1 } ∷ []) m
    ∙ append_assoc front (c ∷ []) (record { var = k; times = 1 } ∷ [])
    ∙ ap (λ cs. front ++ cs) (sym (ap (λ (b : Bool). cond b (record { var = k; times = c.times + 1 } ∷ []) (c ∷ record { var = k; times = 1 } ∷ [])) (ne_eqb c.var k e)))
    ∙ sym (add_to_last k front c)
    ∙ ap (add_var k) (sym o)

-- the last part of some
pub take_more : {A : Type 0} (l : List A) (m : ℕ) (d : A) → m < length l → take (m + 1) l ≡ take m l ++ get_or l m d ∷ []
take_more [] m d lt = absurd (omega arith)
take_more (x ∷ l) zero d lt = refl
take_more (x ∷ l) (suc m) d lt = ap (λ (n : ℕ). take n (x ∷ l)) (add-one (suc m)) ∙ ap (λ xs. x ∷ xs) (ap (λ (n : ℕ). take n l) (sym (add-one m)) ∙ take_more l m d (omega (arith, lt)))

pub parts_more : (ps : List SumPart) (p : SumPart) (d : Linear) → add_parts (ps ++ p ∷ []) d ≡ add_parts ps (add_part p d)
parts_more [] p d = refl
parts_more (q ∷ ps) p d = ap (add_part q) (parts_more ps p d)

pub parts_all : (ps : List SumPart) → add_parts ps (record { constant = 0; coefs = [] }) ≡ linear_of ps
parts_all [] = refl
parts_all (p ∷ ps) = ap (add_part p) (parts_all ps)

-- one part of those that are left is added
pub part_added : (ps : List SumPart) (i : ℕ) (d e : Linear) (p z : SumPart) → i < length ps → p ≡ get_or ps (length ps - 1 - i) z → e ≡ add_part p d → add_parts (take (length ps - (i + 1)) ps) e ≡ add_parts (take (length ps - i) ps) d
part_added ps i d e p z lt is same =
    let left : length ps - i ≡ (length ps - 1 - i) + 1 = omega (arith, lt) in
    let less : length ps - (i + 1) ≡ length ps - 1 - i = omega (arith, lt) in
    ap (λ (n : ℕ). add_parts (take n ps) e) less
    ∙ ap (add_parts (take (length ps - 1 - i) ps)) (same ∙ ap (λ q. add_part q d) is)
    ∙ sym (parts_more (take (length ps - 1 - i) ps) (get_or ps (length ps - 1 - i) z) d)
    ∙ ap (λ qs. add_parts qs d) (sym (take_more ps (length ps - 1 - i) z (omega (arith, lt))))
    ∙ ap (λ (n : ℕ). add_parts (take n ps) d) (sym left)

-- no part is left
pub parts_done : (ps : List SumPart) (i : ℕ) (d e : Linear) → length ps ≤ i → add_parts (take (length ps - i) ps) d ≡ e → d ≡ e
parts_done ps i d e le is = let none : length ps - i ≡ 0 = omega arith in sym (ap (λ (n : ℕ). add_parts (take n ps) d) none) ∙ is

-- all parts are left
pub parts_begun : (ps : List SumPart) (cs : List Coef) → cs ≡ [] → add_parts (take (length ps - 0) ps) (record { constant = 0; coefs = cs }) ≡ linear_of ps
parts_begun ps cs e =
    let all : length ps - 0 ≡ length ps = omega arith in
    ap (λ (n : ℕ). add_parts (take n ps) (record { constant = 0; coefs = cs })) all
    ∙ ap (λ qs. add_parts qs (record { constant = 0; coefs = cs })) (take-length ps)
    ∙ ap (λ (es : List Coef). add_parts ps (record { constant = 0; coefs = es })) e
    ∙ parts_all ps

-- ---- an item, a space and others, of any list

module _ {S A : Type 0} (close : ℕ) (room : S → Bool) (item : S → Reader A) (next : S → A → S) (state : S) (first : A) (n : ℕ) (bytes rest : List ℕ) (top : S) (spaced : word_at (32 ∷ []) bytes ≡ Ok (tt, rest)) (same : top ≡ state) where
  abbrev followed : Read (List A)
  followed = with_front (first ∷ []) (behind (32 ∷ []) (some_items close room item next state) n bytes)

  abbrev after_second : S → A × List ℕ → Read (List A)
  after_second s y = with_front (y.0 ∷ []) (items_from close room item next (next s y.0) n n y.1)

  opened : followed ≡ with_front (first ∷ []) (item top n rest >>= after_second top)
  opened =
      ap (λ (r : Read (Unit {0})). with_front (first ∷ []) (r >>= λ x. item state n x.1 >>= after_second state)) spaced
      ∙ ap (λ (s : S). with_front (first ∷ []) (item s n rest >>= after_second s)) (sym same)

  pub followed_at : (second : A) (after : List ℕ) (later : S) (items : List A) → item top n rest ≡ Ok (second, after) → later ≡ next top second → items ≡ first ∷ (second ∷ []) → followed ≡ with_front items (items_from close room item next later n n after)
  followed_at second after later items i l e =
      opened
      ∙ ap (λ (r : Read A). with_front (first ∷ []) (r >>= after_second top)) i
      ∙ front_twice first second (items_from close room item next (next top second) n n after)
      ∙ ap (λ (s : S). with_front (first ∷ (second ∷ [])) (items_from close room item next s n n after)) (sym l)
      ∙ ap (λ (xs : List A). with_front xs (items_from close room item next later n n after)) (sym e)

  pub followed_fails : (e : TextError) → Fails e (item top n rest) → Fails e followed
  followed_fails e f = subst (Fails e) (sym opened) (Fails-bind e (item top n rest >>= after_second top) _ (Fails-bind e (item top n rest) (after_second top) f))
