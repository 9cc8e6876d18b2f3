-- Types whose variables are in scope have small numbers, and their normal forms too.
use Rattle.std.proofs.Common.{ℕ, zero, suc, ◌+◌, ◌<◌, ◌≤◌, arith, Bool, true, false, nat_lt, ◌==◌, if◌then◌else◌, List, [], ◌∷◌, ◌++◌, length, replicate}
use Rattle.std.specs.Prelude.{⊤}
use Rattle.core_syntax.specs.declared.norm.Coef.{Coef}
use Rattle.core_syntax.specs.declared.norm.Letter.{Letter}
use Rattle.core_syntax.specs.declared.norm.Letter.TheVariants as letter
use Rattle.core_syntax.specs.Linear.{Linear}
use Rattle.core_syntax.specs.Lists.{onto}
use Rattle.core_syntax.specs.Syntax.{Index, Num, Var, Sum, Dims, Join, Indices, end, more, index_list, Ty, BaseTy, TyVar, Fun, Forall, Pi, Sigma, Arr, Tys, no_tys, more_tys}
use Rattle.core_syntax.specs.Nodes.{var}
use Rattle.core_syntax.specs.Made.{IndexMade, IndicesMade, TyInScope, TysInScope}
use Rattle.core_syntax.specs.Norm.{coef, add_coef, add_coefs, norm_dim, norm_sum, norm_word, norm_letters, norm_words, coef_vars, sum_of_parts, constant_part, dim_tree, run_part, word_parts, join_of_parts, word_tree}
use Rattle.core_syntax.specs.NormTypes.{norm_ty, norm_tys}
use Rattle.type_equal.specs.Moved.{IsFreeBelow, AreFreeBelow}

-- ---- more room

mutual
  made_wider : (n m : ℕ) → n ≤ m → (i : Index) → IndexMade n i → IndexMade m i
  made_wider n m le (Num at k) h = tt
  made_wider n m le (Var at k) h = omega (arith, le, h)
  made_wider n m le (Sum at is) h = all_made_wider n m le is h
  made_wider n m le (Dims at is) h = all_made_wider n m le is h
  made_wider n m le (Join at is) h = all_made_wider n m le is h

  all_made_wider : (n m : ℕ) → n ≤ m → (is : Indices) → IndicesMade n is → IndicesMade m is
  all_made_wider n m le end h = tt
  all_made_wider n m le (more i is) h = (made_wider n m le i h.0, all_made_wider n m le is h.1)

mutual
  -- numbers below these are below greater ones
  pub free_wider : (x x' y y' : ℕ) → x ≤ x' → y ≤ y' → (t : Ty) → IsFreeBelow x y t → IsFreeBelow x' y' t
  free_wider x x' y y' p q (BaseTy at b) h = tt
  free_wider x x' y y' p q (TyVar at k) h = omega (arith, p, h)
  free_wider x x' y y' p q (Fun at ts r) h = (all_free_wider x x' y y' p q ts h.0, free_wider x x' y y' p q r h.1)
  free_wider x x' y y' p q (Forall at n t) h = free_wider (n + x) (n + x') y y' (omega (arith, p)) q t h
  free_wider x x' y y' p q (Pi at ss t) h = free_wider x x' (length ss + y) (length ss + y') p (omega (arith, q)) t h
  free_wider x x' y y' p q (Sigma at ss t) h = free_wider x x' (length ss + y) (length ss + y') p (omega (arith, q)) t h
  free_wider x x' y y' p q (Arr at t i) h = (free_wider x x' y y' p q t h.0, made_wider y y' q i h.1)

  all_free_wider : (x x' y y' : ℕ) → x ≤ x' → y ≤ y' → (ts : Tys) → AreFreeBelow x y ts → AreFreeBelow x' y' ts
  all_free_wider x x' y y' p q no_tys h = tt
  all_free_wider x x' y y' p q (more_tys t ts) h = (free_wider x x' y y' p q t h.0, all_free_wider x x' y y' p q ts h.1)

mutual
  -- a type in scope has such numbers
  pub scope_free : (x y : ℕ) (t : Ty) → TyInScope x y t → IsFreeBelow x y t
  scope_free x y (BaseTy at b) h = tt
  scope_free x y (TyVar at k) h = h
  scope_free x y (Fun at ts r) h = (all_scope_free x y ts h.0, scope_free x y r h.1)
  scope_free x y (Forall at n t) h = scope_free (n + x) y t h.1
  scope_free x y (Pi at ss t) h = scope_free x (length ss + y) t h.1
  scope_free x y (Sigma at ss t) h = scope_free x (length ss + y) t h.1
  scope_free x y (Arr at t i) h = (scope_free x y t h.0, h.1)

  all_scope_free : (x y : ℕ) (ts : Tys) → TysInScope x y ts → AreFreeBelow x y ts
  all_scope_free x y no_tys h = tt
  all_scope_free x y (more_tys t ts) h = (scope_free x y t h.0, all_scope_free x y ts h.1)

-- ---- normal forms

abbrev CoefsBelow : ℕ → List Coef → Type 0
CoefsBelow n [] = ⊤
CoefsBelow n (c ∷ cs) = (c.var < n) × CoefsBelow n cs

abbrev AllMade : ℕ → List Index → Type 0
AllMade n [] = ⊤
AllMade n (i ∷ is) = IndexMade n i × AllMade n is

abbrev LettersMade : ℕ → List Letter → Type 0
LettersMade n [] = ⊤
LettersMade n (letter.Dim d ∷ ls) = CoefsBelow n d.coefs × LettersMade n ls
LettersMade n (letter.Var k ∷ ls) = (k < n) × LettersMade n ls

module _ (n : ℕ) where
  below_one : (k m : ℕ) (cs : List Coef) → k < n → CoefsBelow n cs → CoefsBelow n (add_coef k m cs)
  below_one k m [] p h = (p, tt)
  below_one k m (c ∷ cs) p h = by (nat_lt k c.var) (k == c.var) (below_one k m cs p h.1)
    where
      by : (a b : Bool) → CoefsBelow n (add_coef k m cs) →
          CoefsBelow n (if a then coef k m ∷ c ∷ cs else (if b then coef k (m + c.times) ∷ cs else c ∷ add_coef k m cs))
      by true b r = (p, h)
      by false true r = (p, h.1)
      by false false r = (h.0, r)

  below_all : (cs ds : List Coef) → CoefsBelow n cs → CoefsBelow n ds → CoefsBelow n (add_coefs cs ds)
  below_all [] ds h g = g
  below_all (c ∷ cs) ds h g = below_one c.var c.times (add_coefs cs ds) h.0 (below_all cs ds h.1 g)

  mutual
    dim_below : (i : Index) → IndexMade n i → CoefsBelow n (norm_dim i).coefs
    dim_below (Num at k) h = tt
    dim_below (Var at k) h = (h, tt)
    dim_below (Sum at is) h = sum_below is h
    dim_below (Dims at is) h = tt
    dim_below (Join at is) h = tt

    sum_below : (is : Indices) → IndicesMade n is → CoefsBelow n (norm_sum is).coefs
    sum_below end h = tt
    sum_below (more i is) h = below_all (norm_dim i).coefs (norm_sum is).coefs (dim_below i h.0) (sum_below is h.1)

  letters_below : (is : Indices) → IndicesMade n is → LettersMade n (norm_letters is)
  letters_below end h = tt
  letters_below (more i is) h = (dim_below i h.0, letters_below is h.1)

  letters_join : (a b : List Letter) → LettersMade n a → LettersMade n b → LettersMade n (a ++ b)
  letters_join [] b h g = g
  letters_join (letter.Dim d ∷ a) b h g = (h.0, letters_join a b h.1 g)
  letters_join (letter.Var k ∷ a) b h g = (h.0, letters_join a b h.1 g)

  mutual
    word_below : (i : Index) → IndexMade n i → LettersMade n (norm_word i)
    word_below (Num at k) h = tt
    word_below (Var at k) h = (h, tt)
    word_below (Sum at is) h = tt
    word_below (Dims at is) h = letters_below is h
    word_below (Join at is) h = words_below is h

    words_below : (is : Indices) → IndicesMade n is → LettersMade n (norm_words is)
    words_below end h = tt
    words_below (more i is) h = letters_join (norm_word i) (norm_words is) (word_below i h.0) (words_below is h.1)

  list_made : (is : List Index) → AllMade n is → IndicesMade n (index_list is)
  list_made [] h = tt
  list_made (i ∷ is) h = (h.0, list_made is h.1)

  times_made : (m k : ℕ) (is : List Index) → k < n → AllMade n is → AllMade n (replicate m (var k) ++ is)
  times_made zero k is p h = h
  times_made (suc m) k is p h = (p, times_made m k is p h)

  vars_made : (cs : List Coef) (is : List Index) → CoefsBelow n cs → AllMade n is → AllMade n (coef_vars cs is)
  vars_made [] is h g = g
  vars_made (c ∷ cs) is h g = vars_made cs (replicate c.times (var c.var) ++ is) h.1 (times_made c.times c.var is h.0 g)

  constant_made : (m : ℕ) → AllMade n (constant_part m)
  constant_made zero = tt
  constant_made (suc m) = (tt, tt)

  sum_made : (is : List Index) → AllMade n is → IndexMade n (sum_of_parts is)
  sum_made [] h = tt
  sum_made (i ∷ []) h = h.0
  sum_made (i ∷ j ∷ is) h = list_made (i ∷ j ∷ is) h

  dim_made : (d : Linear) → CoefsBelow n d.coefs → IndexMade n (dim_tree d)
  dim_made d h = sum_made (coef_vars d.coefs (constant_part d.constant)) (vars_made d.coefs (constant_part d.constant) h (constant_made d.constant))

  onto_made : (is js : List Index) → AllMade n is → AllMade n js → AllMade n (onto is js)
  onto_made [] js h g = g
  onto_made (i ∷ is) js h g = onto_made is (i ∷ js) h.1 (h.0, g)

  run_made : (is js : List Index) → AllMade n is → AllMade n js → AllMade n (run_part is js)
  run_made [] js h g = g
  run_made (i ∷ is) js h g = (list_made (i ∷ is) h, g)

  parts_made : (run : List Index) (ls : List Letter) → AllMade n run → LettersMade n ls → AllMade n (word_parts run ls)
  parts_made run [] h g = run_made (onto run []) [] (onto_made run [] h tt) tt
  parts_made run (letter.Dim d ∷ ls) h g = parts_made (dim_tree d ∷ run) ls (dim_made d g.0, h) g.1
  parts_made run (letter.Var k ∷ ls) h g = run_made (onto run []) (var k ∷ word_parts [] ls) (onto_made run [] h tt) (g.0, parts_made [] ls tt g.1)

  join_made : (is : List Index) → AllMade n is → IndexMade n (join_of_parts is)
  join_made [] h = tt
  join_made (i ∷ []) h = h.0
  join_made (i ∷ j ∷ is) h = list_made (i ∷ j ∷ is) h

  shape_made : (i : Index) → IndexMade n i → IndexMade n (word_tree (norm_word i))
  shape_made i h = join_made (word_parts [] (norm_word i)) (parts_made [] (norm_word i) tt (word_below i h))

mutual
  -- and its normal form has
  pub norm_free : (x y : ℕ) (t : Ty) → IsFreeBelow x y t → IsFreeBelow x y (norm_ty t)
  norm_free x y (BaseTy at b) h = tt
  norm_free x y (TyVar at k) h = h
  norm_free x y (Fun at ts r) h = (all_norm_free x y ts h.0, norm_free x y r h.1)
  norm_free x y (Forall at n t) h = norm_free (n + x) y t h
  norm_free x y (Pi at ss t) h = norm_free x (length ss + y) t h
  norm_free x y (Sigma at ss t) h = norm_free x (length ss + y) t h
  norm_free x y (Arr at t i) h = (norm_free x y t h.0, shape_made y i h.1)

  all_norm_free : (x y : ℕ) (ts : Tys) → AreFreeBelow x y ts → AreFreeBelow x y (norm_tys ts)
  all_norm_free x y no_tys h = tt
  all_norm_free x y (more_tys t ts) h = (norm_free x y t h.0, all_norm_free x y ts h.1)
