-- A normal type under binders more is normal.
use Rattle.std.proofs.Common.{◌≡◌, ◌∙◌, refl, sym, ap, ℕ, zero, suc, ◌+◌, ◌<◌, ◌≤◌, arith, List, [], ◌∷◌, ◌++◌, replicate, length}
use Rattle.core_syntax.specs.declared.norm.Coef.{Coef}
use Rattle.core_syntax.specs.declared.norm.Letter.{Letter}
use Rattle.core_syntax.specs.declared.norm.Letter.TheVariants as letter
use Rattle.core_syntax.specs.Linear.{Linear, IsAscending}
use Rattle.core_syntax.specs.Word.{AreNormal}
use Rattle.core_syntax.specs.Lists.{each, onto}
use Rattle.core_syntax.specs.Syntax.{Index, Num, Var, Sum, Dims, Join, Indices, end, more, index_list, Ty, BaseTy, TyVar, Fun, Forall, Pi, Sigma, Arr, Tys, no_tys, more_tys}
use Rattle.core_syntax.specs.Nodes.{var, number}
use Rattle.core_syntax.specs.Norm.{norm_word, coef_vars, sum_of_parts, constant_part, dim_tree, run_part, word_parts, join_of_parts, word_tree}
use Rattle.core_syntax.specs.NormTypes.{norm_ty, norm_tys}
use Rattle.core_syntax.specs.Subst.{past, past_n, index_renamed, indices_renamed, ty_renamed, tys_renamed}
use Rattle.core_syntax.proofs.WordLemmas.{same_word}
use Rattle.core_syntax.proofs.NormLemmas.{AreNormal-norm}
use Rattle.core_syntax.proofs.NormValues.{norm_word_value}
use Rattle.core_syntax.proofs.NormTyLemmas.{word_tree_value}
use Rattle.type_equal.specs.SameTree.{ty_inner, ty_inputs}

-- a normal word is the word of its tree
pub tree_again : (w : List Letter) → AreNormal w → norm_word (word_tree w) ≡ w
tree_again w h = same_word (norm_word (word_tree w)) w (AreNormal-norm (word_tree w)) h (λ v. norm_word_value v (word_tree w) ∙ word_tree_value v w)

-- ---- the tree of a renamed word

abbrev coef_renamed : (ℕ → ℕ) → Coef → Coef
coef_renamed ρ c = record { var = ρ c.var; times = c.times }

abbrev letter_renamed : (ℕ → ℕ) → Letter → Letter
letter_renamed ρ (letter.Dim d) = letter.Dim (record { constant = d.constant; coefs = each (coef_renamed ρ) d.coefs })
letter_renamed ρ (letter.Var k) = letter.Var (ρ k)

module _ (ρ : ℕ → ℕ) where
  renamed_list : (is : List Index) → indices_renamed ρ (index_list is) ≡ index_list (each (index_renamed ρ) is)
  renamed_list [] = refl
  renamed_list (i ∷ is) = ap (more (index_renamed ρ i)) (renamed_list is)

  renamed_times : (n k : ℕ) (after : List Index) → each (index_renamed ρ) (replicate n (var k) ++ after) ≡ replicate n (var (ρ k)) ++ each (index_renamed ρ) after
  renamed_times zero k after = refl
  renamed_times (suc n) k after = ap (λ l. var (ρ k) ∷ l) (renamed_times n k after)

  renamed_coefs : (cs : List Coef) (after : List Index) → each (index_renamed ρ) (coef_vars cs after) ≡ coef_vars (each (coef_renamed ρ) cs) (each (index_renamed ρ) after)
  renamed_coefs [] after = refl
  renamed_coefs (c ∷ cs) after = renamed_coefs cs (replicate c.times (var c.var) ++ after) ∙ ap (coef_vars (each (coef_renamed ρ) cs)) (renamed_times c.times c.var after)

  renamed_constant : (n : ℕ) → each (index_renamed ρ) (constant_part n) ≡ constant_part n
  renamed_constant zero = refl
  renamed_constant (suc n) = refl

  renamed_sum : (is : List Index) → index_renamed ρ (sum_of_parts is) ≡ sum_of_parts (each (index_renamed ρ) is)
  renamed_sum [] = refl
  renamed_sum (i ∷ []) = refl
  renamed_sum (i ∷ j ∷ is) = ap (Sum Rattle.core_syntax.specs.Syntax.no_span) (renamed_list (i ∷ j ∷ is))

  pub renamed_dim : (d : Linear) → index_renamed ρ (dim_tree d) ≡ dim_tree (record { constant = d.constant; coefs = each (coef_renamed ρ) d.coefs })
  renamed_dim d =
      renamed_sum (coef_vars d.coefs (constant_part d.constant))
      ∙ ap sum_of_parts (renamed_coefs d.coefs (constant_part d.constant) ∙ ap (coef_vars (each (coef_renamed ρ) d.coefs)) (renamed_constant d.constant))

  renamed_onto : (is js : List Index) → each (index_renamed ρ) (onto is js) ≡ onto (each (index_renamed ρ) is) (each (index_renamed ρ) js)
  renamed_onto [] js = refl
  renamed_onto (i ∷ is) js = renamed_onto is (i ∷ js)

  renamed_run : (run after : List Index) → each (index_renamed ρ) (run_part run after) ≡ run_part (each (index_renamed ρ) run) (each (index_renamed ρ) after)
  renamed_run [] after = refl
  renamed_run (i ∷ is) after = ap (λ l. Dims Rattle.core_syntax.specs.Syntax.no_span l ∷ each (index_renamed ρ) after) (renamed_list (i ∷ is))

  renamed_parts : (run : List Index) (ls : List Letter) → each (index_renamed ρ) (word_parts run ls) ≡ word_parts (each (index_renamed ρ) run) (each (letter_renamed ρ) ls)
  renamed_parts run [] = renamed_run (onto run []) [] ∙ ap (λ l. run_part l []) (renamed_onto run [])
  renamed_parts run (letter.Dim d ∷ ls) = renamed_parts (dim_tree d ∷ run) ls ∙ ap (λ x. word_parts (x ∷ each (index_renamed ρ) run) (each (letter_renamed ρ) ls)) (renamed_dim d)
  renamed_parts run (letter.Var k ∷ ls) =
      renamed_run (onto run []) (var k ∷ word_parts [] ls) ∙ λ i. run_part (renamed_onto run [] i) (var (ρ k) ∷ renamed_parts [] ls i)

  renamed_join : (is : List Index) → index_renamed ρ (join_of_parts is) ≡ join_of_parts (each (index_renamed ρ) is)
  renamed_join [] = refl
  renamed_join (i ∷ []) = refl
  renamed_join (i ∷ j ∷ is) = ap (Join Rattle.core_syntax.specs.Syntax.no_span) (renamed_list (i ∷ j ∷ is))

  pub renamed_word : (ls : List Letter) → index_renamed ρ (word_tree ls) ≡ word_tree (each (letter_renamed ρ) ls)
  renamed_word ls = renamed_join (word_parts [] ls) ∙ ap join_of_parts (renamed_parts [] ls)

-- ---- a renaming that keeps the order keeps a word normal

abbrev pub Rises : (ℕ → ℕ) → Type 0
Rises ρ = (j k : ℕ) → j < k → ρ j < ρ k

pub rises_past : (ρ : ℕ → ℕ) → Rises ρ → Rises (past ρ)
rises_past ρ h j zero lt = absurd (omega arith)
rises_past ρ h zero (suc k) lt = omega arith
rises_past ρ h (suc j) (suc k) lt = let e : ρ j < ρ k = h j k (omega arith) in omega (arith, e)

pub rises_past_n : (ρ : ℕ → ℕ) (n : ℕ) → Rises ρ → Rises (past_n n ρ)
rises_past_n ρ zero h = h
rises_past_n ρ (suc n) h = rises_past (past_n n ρ) (rises_past_n ρ n h)

module _ (ρ : ℕ → ℕ) (rises : Rises ρ) where
  ascending : (low low' : ℕ) (cs : List Coef) → ((k : ℕ) → low ≤ k → low' ≤ ρ k) → IsAscending low cs → IsAscending low' (each (coef_renamed ρ) cs)
  ascending low low' [] h a = tt
  ascending low low' (c ∷ cs) h a = (
    h c.var a.0,
    a.1,
    ascending (c.var + 1) (ρ c.var + 1) cs (λ k le. let e : ρ c.var < ρ k = rises c.var k (omega arith) in omega (arith, e)) a.2,
  )

  still_normal : (ls : List Letter) → AreNormal ls → AreNormal (each (letter_renamed ρ) ls)
  still_normal [] h = tt
  still_normal (letter.Dim d ∷ ls) h = (ascending 0 0 d.coefs (λ k le. omega arith) h.0, still_normal ls h.1)
  still_normal (letter.Var k ∷ ls) h = (tt, still_normal ls h.1)

  -- the normal form of a renamed normal shape is itself
  shape_moved : (i : Index) → word_tree (norm_word i) ≡ i → word_tree (norm_word (index_renamed ρ i)) ≡ index_renamed ρ i
  shape_moved i e =
      let w = norm_word i in
      let at : index_renamed ρ i ≡ word_tree (each (letter_renamed ρ) w) = ap (index_renamed ρ) (sym e) ∙ renamed_word ρ w in
      ap (λ j. word_tree (norm_word j)) at ∙ ap word_tree (tree_again (each (letter_renamed ρ) w) (still_normal w (AreNormal-norm i))) ∙ sym at

abbrev shape_in : Ty → Index
shape_in (Arr at t i) = i
shape_in _ = number 0

abbrev place_in : Ty → Rattle.core_syntax.specs.declared.span.Span.Span
place_in t = Rattle.core_syntax.specs.Syntax.ty_at t

abbrev first_in : Tys → Ty
first_in no_tys = BaseTy Rattle.core_syntax.specs.Syntax.no_span Rattle.core_syntax.specs.declared.ty.Base.TheVariants.Int
first_in (more_tys t ts) = t

abbrev rest_in : Tys → Tys
rest_in no_tys = no_tys
rest_in (more_tys t ts) = ts

mutual
  pub still_norm : (ρ τ : ℕ → ℕ) → Rises ρ → (t : Ty) → norm_ty t ≡ t → norm_ty (ty_renamed ρ τ t) ≡ ty_renamed ρ τ t
  still_norm ρ τ h (BaseTy at b) e = e
  still_norm ρ τ h (TyVar at k) e = ap (λ p. TyVar p (τ k)) (ap place_in e)
  still_norm ρ τ h (Fun at ts r) e = λ i. Fun (place_in (e i)) (still_norms ρ τ h ts (ap ty_inputs e) i) (still_norm ρ τ h r (ap ty_inner e) i)
  still_norm ρ τ h (Forall at n t) e = λ i. Forall (place_in (e i)) n (still_norm ρ (past_n n τ) h t (ap ty_inner e) i)
  still_norm ρ τ h (Pi at ss t) e = λ i. Pi (place_in (e i)) ss (still_norm (past_n (length ss) ρ) τ (rises_past_n ρ (length ss) h) t (ap ty_inner e) i)
  still_norm ρ τ h (Sigma at ss t) e = λ i. Sigma (place_in (e i)) ss (still_norm (past_n (length ss) ρ) τ (rises_past_n ρ (length ss) h) t (ap ty_inner e) i)
  still_norm ρ τ h (Arr at t s) e = λ i. Arr (place_in (e i)) (still_norm ρ τ h t (ap ty_inner e) i) (shape_moved ρ h s (ap shape_in e) i)

  still_norms : (ρ τ : ℕ → ℕ) → Rises ρ → (ts : Tys) → norm_tys ts ≡ ts → norm_tys (tys_renamed ρ τ ts) ≡ tys_renamed ρ τ ts
  still_norms ρ τ h no_tys e = refl
  still_norms ρ τ h (more_tys t ts) e = λ i. more_tys (still_norm ρ τ h t (ap first_in e) i) (still_norms ρ τ h ts (ap rest_in e) i)
