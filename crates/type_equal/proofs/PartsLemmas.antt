-- The parts of a normal form's tree, put one by one.
use Rattle.std.proofs.Common.{◌≡◌, ◌∙◌, refl, sym, ap, ℕ, zero, suc, ◌+◌, ◌-◌, ◌<◌, ◌≤◌, add-one, arith, length, drop, drop-cons, get_or, List, [], ◌∷◌, ◌++◌, replicate, append_assoc, append-nil}
use Rattle.core_syntax.specs.declared.index.Index.{Index as Tree}
use Rattle.core_syntax.specs.declared.norm.Coef.{Coef}
use Rattle.std.proofs.lemmas.List.{drop_all, get_or_default}
use Rattle.core_syntax.specs.declared.norm.Letter.{Letter}
use Rattle.core_syntax.specs.declared.norm.Letter.TheVariants as letter
use Rattle.core_syntax.specs.Linear.{Linear}
use Rattle.core_syntax.specs.Lists.{each, onto}
use Rattle.core_syntax.specs.Refine.{index_of, indices_of}
use Rattle.core_syntax.specs.Syntax.{Index, index_list, no_span}
use Rattle.core_syntax.specs.Nodes.{var}
use Rattle.core_syntax.specs.Norm.{constant_part, coef_vars, sum_of_parts, join_of_parts, run_part, dim_tree, word_parts, word_tree}
use Rattle.type_equal.specs.Parts.{vars_of}

each-append : (xs ys : List Tree) → each index_of (xs ++ ys) ≡ each index_of xs ++ each index_of ys
each-append [] ys = refl
each-append (x ∷ xs) ys = ap (λ l. index_of x ∷ l) (each-append xs ys)

pub listed : (xs : List Tree) → index_list (each index_of xs) ≡ indices_of xs
listed [] = refl
listed (x ∷ xs) = ap (λ is. Rattle.core_syntax.specs.Syntax.more (index_of x) is) (listed xs)

more_times : {A : Type 0} (n : ℕ) (x : A) → replicate (suc n) x ≡ replicate n x ++ x ∷ []
more_times zero x = refl
more_times (suc n) x = ap (λ l. x ∷ l) (more_times n x)

pub pushed : (parts new : List Tree) (p : Tree) → new ≡ parts ++ p ∷ [] → each index_of new ≡ each index_of parts ++ index_of p ∷ []
pushed parts new p e = ap (each index_of) e ∙ each-append parts (p ∷ [])

pub pushed_times : (parts new : List Tree) (p : Tree) (old : List Index) (n k : ℕ) → new ≡ parts ++ p ∷ [] → index_of p ≡ var k →
    each index_of parts ≡ old ++ replicate n (var k) → each index_of new ≡ old ++ replicate (n + 1) (var k)
pushed_times parts new p old n k e is before =
    pushed parts new p e ∙ ap (λ i. each index_of parts ++ i ∷ []) is ∙ ap (λ l. l ++ var k ∷ []) before
    ∙ append_assoc old (replicate n (var k)) (var k ∷ []) ∙ ap (λ l. old ++ l) (sym (more_times n (var k)))
    ∙ (let at : suc n ≡ n + 1 = omega arith in ap (λ m. old ++ replicate m (var k)) at)

-- the variables of the last coefficients, with one coefficient more
pub vars_more : (cs : List Coef) (at : ℕ) (c : Coef) → at < length cs → c ≡ get_or cs (length cs - 1 - at) c →
    vars_of (drop (length cs - (at + 1)) cs) ≡ vars_of (drop (length cs - at) cs) ++ replicate c.times (var c.var)
vars_more cs at c lt is =
    let i = length cs - 1 - at in
    let first : length cs - (at + 1) ≡ i = omega arith in
    let others : suc i ≡ length cs - at = omega arith in
    ap (λ n. vars_of (drop n cs)) first ∙ ap vars_of (drop-cons cs i c (omega arith)) ∙ ap (λ (x : Coef). vars_of (drop (suc i) cs) ++ replicate x.times (var x.var)) (sym is)
    ∙ ap (λ n. vars_of (drop n cs) ++ replicate c.times (var c.var)) others

pub coef_vars_is : (cs : List Coef) (after : List Index) → coef_vars cs after ≡ vars_of cs ++ after
coef_vars_is [] after = refl
coef_vars_is (c ∷ cs) after =
    coef_vars_is cs (replicate c.times (var c.var) ++ after) ∙ sym (append_assoc (vars_of cs) (replicate c.times (var c.var)) after)

-- a list of one item that was taken from its end
more : {A : Type 0} (y x : A) (zs : List A) → length (y ∷ (zs ++ x ∷ [])) ≡ 1 → ⊥
more y x [] h = omega arith
more y x (z ∷ zs) h = omega arith

pub only : {A : Type 0} (xs ys : List A) (x : A) → xs ≡ ys ++ x ∷ [] → length xs ≡ 1 → xs ≡ x ∷ []
only xs [] x e one = e
only xs (y ∷ ys) x e one = absurd (more y x ys (sym (ap length e) ∙ one))

pub one_sum : (xs ys : List Tree) (x : Tree) → xs ≡ ys ++ x ∷ [] → length xs ≡ 1 → index_of x ≡ sum_of_parts (each index_of xs)
one_sum xs ys x e one = sym (ap (λ l. sum_of_parts (each index_of l)) (only xs ys x e one))

pub one_join : (xs ys : List Tree) (x : Tree) → xs ≡ ys ++ x ∷ [] → length xs ≡ 1 → index_of x ≡ join_of_parts (each index_of xs)
one_join xs ys x e one = sym (ap (λ l. join_of_parts (each index_of l)) (only xs ys x e one))

pub many_sum : (xs : List Tree) → 1 < length xs → Rattle.core_syntax.specs.Syntax.Sum no_span (indices_of xs) ≡ sum_of_parts (each index_of xs)
many_sum [] lt = absurd (omega arith)
many_sum (x ∷ []) lt = absurd (omega arith)
many_sum (x ∷ y ∷ xs) lt = ap (Rattle.core_syntax.specs.Syntax.Sum no_span) (sym (listed (x ∷ y ∷ xs)))

pub many_join : (xs : List Tree) → 1 < length xs → Rattle.core_syntax.specs.Syntax.Join no_span (indices_of xs) ≡ join_of_parts (each index_of xs)
many_join [] lt = absurd (omega arith)
many_join (x ∷ []) lt = absurd (omega arith)
many_join (x ∷ y ∷ xs) lt = ap (Rattle.core_syntax.specs.Syntax.Join no_span) (sym (listed (x ∷ y ∷ xs)))

pub some_run : (xs : List Tree) → (xs ≡ [] → ⊥) → Rattle.core_syntax.specs.Syntax.Dims no_span (indices_of xs) ∷ [] ≡ run_part (each index_of xs) []
some_run [] ne = absurd (ne refl)
some_run (x ∷ xs) ne = ap (λ is. Rattle.core_syntax.specs.Syntax.Dims no_span is ∷ []) (sym (listed (x ∷ xs)))

pub no_join : (xs : List Tree) → length xs ≡ 0 → Rattle.core_syntax.specs.Syntax.Dims no_span (indices_of xs) ≡ join_of_parts (each index_of xs)
no_join [] e = refl
no_join (x ∷ xs) e = absurd (omega arith)

pub constant_none : (n : ℕ) → n ≡ 0 → constant_part n ≡ []
constant_none zero e = refl
constant_none (suc n) e = absurd (omega arith)

pub constant_one : (n : ℕ) → (n ≡ 0 → ⊥) → constant_part n ≡ Rattle.core_syntax.specs.Syntax.Num no_span n ∷ []
constant_one zero ne = absurd (ne refl)
constant_one (suc n) ne = refl

pub coefs_more : (new parts old : List Index) (cs : List Coef) (at : ℕ) (d : Coef) → at < length cs →
    new ≡ parts ++ replicate (get_or cs (length cs - 1 - at) d).times (var (get_or cs (length cs - 1 - at) d).var) →
    parts ≡ old ++ vars_of (drop (length cs - at) cs) → new ≡ old ++ vars_of (drop (length cs - (at + 1)) cs)
coefs_more new parts old cs at d lt e before =
    let c = get_or cs (length cs - 1 - at) d in
    e ∙ ap (λ l. l ++ replicate c.times (var c.var)) before ∙ append_assoc old (vars_of (drop (length cs - at) cs)) (replicate c.times (var c.var))
    ∙ ap (λ l. old ++ l) (sym (vars_more cs at c lt (get_or_default cs (length cs - 1 - at) d c (omega arith))))

pub dim_none : (xs : List Index) (ys : List Tree) (cs : List Coef) (k : ℕ) → xs ≡ each index_of ys ++ vars_of cs → ys ≡ [] → k ≡ 0 →
    sum_of_parts xs ≡ sum_of_parts (coef_vars cs (constant_part k))
dim_none xs ys cs k e p q =
    ap sum_of_parts (e ∙ ap (λ l. each index_of l ++ vars_of cs) p
    ∙ sym (coef_vars_is cs (constant_part k) ∙ ap (λ l. vars_of cs ++ l) (constant_none k q) ∙ append-nil (vars_of cs)))

pub dim_one : (new xs ys : List Tree) (p : Tree) (cs : List Coef) (k : ℕ) → new ≡ xs ++ p ∷ [] → index_of p ≡ Rattle.core_syntax.specs.Syntax.Num no_span k →
    each index_of xs ≡ each index_of ys ++ vars_of cs → ys ≡ [] → (k ≡ 0 → ⊥) → sum_of_parts (each index_of new) ≡ sum_of_parts (coef_vars cs (constant_part k))
dim_one new xs ys p cs k e is f q ne =
    ap sum_of_parts (pushed xs new p e ∙ ap (λ i. each index_of xs ++ i ∷ []) is ∙ ap (λ l. l ++ Rattle.core_syntax.specs.Syntax.Num no_span k ∷ []) (f ∙ ap (λ l. each index_of l ++ vars_of cs) q)
    ∙ sym (coef_vars_is cs (constant_part k) ∙ ap (λ l. vars_of cs ++ l) (constant_one k ne)))

-- ---- a word, letter by letter

onto_push : {A : Type 0} (xs ys : List A) (x : A) → onto (xs ++ x ∷ []) ys ≡ x ∷ onto xs ys
onto_push [] ys x = refl
onto_push (y ∷ xs) ys x = onto_push xs (y ∷ ys) x

onto_twice : {A : Type 0} (xs ys zs : List A) → onto (onto xs ys) zs ≡ onto ys (xs ++ zs)
onto_twice [] ys zs = refl
onto_twice (x ∷ xs) ys zs = onto_twice xs (x ∷ ys) zs

run_behind : (run after : List Index) → run_part run after ≡ run_part run [] ++ after
run_behind [] after = refl
run_behind (i ∷ is) after = refl

front : (ls : List Letter) (k : ℕ) (l : Letter) → k < length ls → l ≡ get_or ls k l → drop k ls ≡ l ∷ drop (k + 1) ls
front ls k l lt is = rw add-one (drop-cons ls k l lt ∙ ap (λ x. x ∷ drop (suc k) ls) (sym is))

module _ (whole : List Index) (ls : List Letter) (k : ℕ) (l : Letter) (lt : k < length ls) (is : l ≡ get_or ls k l) where
  pub word_dim : (parts run new : List Tree) (d : Linear) (x : Tree) → l ≡ letter.Dim d → new ≡ run ++ x ∷ [] → index_of x ≡ dim_tree d →
      whole ≡ each index_of parts ++ word_parts (onto (each index_of run) []) (drop k ls) →
      whole ≡ each index_of parts ++ word_parts (onto (each index_of new) []) (drop (k + 1) ls)
  word_dim parts run new d x e f t before =
      before ∙ ap (λ xs. each index_of parts ++ word_parts (onto (each index_of run) []) xs) (front ls k l lt is ∙ ap (λ y. y ∷ drop (k + 1) ls) e)
      ∙ ap (λ r. each index_of parts ++ word_parts r (drop (k + 1) ls)) (sym (ap (λ r. onto r []) (pushed run new x f) ∙ onto_push (each index_of run) [] (index_of x) ∙ ap (λ y. y ∷ onto (each index_of run) []) t))

  pub word_var : (parts flushed new run : List Tree) (j : ℕ) (p : Tree) → l ≡ letter.Var j → each index_of flushed ≡ each index_of parts ++ run_part (each index_of run) [] →
      new ≡ flushed ++ p ∷ [] → index_of p ≡ var j → (empty : List Tree) → empty ≡ [] →
      whole ≡ each index_of parts ++ word_parts (onto (each index_of run) []) (drop k ls) →
      whole ≡ each index_of new ++ word_parts (onto (each index_of empty) []) (drop (k + 1) ls)
  word_var parts flushed new run j p e f g t empty none before =
      let rest = word_parts [] (drop (k + 1) ls) in
      before ∙ ap (λ xs. each index_of parts ++ word_parts (onto (each index_of run) []) xs) (front ls k l lt is ∙ ap (λ y. y ∷ drop (k + 1) ls) e)
      ∙ ap (λ r. each index_of parts ++ run_part r (var j ∷ rest)) (onto_twice (each index_of run) [] [] ∙ append-nil (each index_of run))
      ∙ ap (λ r. each index_of parts ++ r) (run_behind (each index_of run) (var j ∷ rest))
      ∙ sym (append_assoc (each index_of parts) (run_part (each index_of run) []) (var j ∷ rest)) ∙ ap (λ r. r ++ var j ∷ rest) (sym f)
      ∙ sym (append_assoc (each index_of flushed) (var j ∷ []) rest)
      ∙ ap (λ r. r ++ rest) (sym (pushed flushed new p g ∙ ap (λ i. each index_of flushed ++ i ∷ []) t))
      ∙ ap (λ r. each index_of new ++ word_parts (onto (each index_of r) []) (drop (k + 1) ls)) (sym none)

pub word_end : (ls : List Letter) (k : ℕ) (parts flushed run : List Tree) → length ls ≤ k → each index_of flushed ≡ each index_of parts ++ run_part (each index_of run) [] →
    word_parts [] ls ≡ each index_of parts ++ word_parts (onto (each index_of run) []) (drop k ls) → join_of_parts (each index_of flushed) ≡ word_tree ls
word_end ls k parts flushed run le f before =
    ap join_of_parts (f ∙ sym (before ∙ ap (λ xs. each index_of parts ++ word_parts (onto (each index_of run) []) xs) (drop_all k ls le)
    ∙ ap (λ r. each index_of parts ++ run_part r []) (onto_twice (each index_of run) [] [] ∙ append-nil (each index_of run))))
