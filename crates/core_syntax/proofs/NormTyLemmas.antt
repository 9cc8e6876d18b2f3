-- The trees of normal forms have their values, and types are equal exactly where their normal types are one.
use Rattle.std.proofs.Common.{◌≡◌, refl, sym, ◌∙◌, ap, subst, ℕ, zero, suc, ◌+◌, ◌*◌, max, arith, List, [], ◌∷◌, ◌++◌, replicate, append-nil, append_assoc, ◌||◌, length}
use Rattle.core_syntax.specs.declared.norm.Coef.{Coef}
use Rattle.core_syntax.specs.declared.norm.Letter.{Letter}
use Rattle.core_syntax.specs.declared.norm.Letter.TheVariants as letter
use Rattle.core_syntax.specs.Linear.{Linear}
use Rattle.core_syntax.specs.Word.{word_size}
use Rattle.core_syntax.specs.Lists.{onto}
use Rattle.core_syntax.specs.Syntax.{Index, Ty, BaseTy, TyVar, Fun, Forall, Pi, Sigma, Arr, Tys, no_tys, more_tys, no_span, index_list}
use Rattle.core_syntax.specs.Value.{Valuation, dim_val, dim_sum, dim_vals, shape_val, shape_join, SameShape}
use Rattle.core_syntax.specs.NormValue.{coefs_value, form_value, word_value_under}
use Rattle.core_syntax.specs.TypeEqual.{Same, AllSame}
use Rattle.core_syntax.specs.Nodes.{var}
use Rattle.core_syntax.specs.Norm.{norm_word, coef_vars, sum_of_parts, constant_part, dim_tree, run_part, word_parts, join_of_parts, word_tree, has_large, measured}
use Rattle.core_syntax.specs.NormTypes.{norm_ty, norm_tys, ty_size, tys_size, ty_depth, tys_depth, ty_has_large, tys_have_large, measure_ty}
use Rattle.core_syntax.proofs.WordLemmas.{same_word}
use Rattle.core_syntax.proofs.NormLemmas.{AreNormal-norm}
use Rattle.core_syntax.proofs.NormValues.{norm_word_value}
use Rattle.core_syntax.proofs.Equality.{same_sym, same_trans}

-- ---- values of trees

parts_value : (v : Valuation) (is : List Index) → dim_val v (sum_of_parts is) ≡ dim_sum v (index_list is)
parts_value v [] = refl
parts_value v (i ∷ []) = omega arith
parts_value v (i ∷ j ∷ is) = refl

repeated_value : (v : Valuation) (k n : ℕ) (after : List Index) → dim_sum v (index_list (replicate n (var k) ++ after)) ≡ n * v.dim k + dim_sum v (index_list after)
repeated_value v k zero after = omega arith
repeated_value v k (suc n) after = one_more n (v.dim k) _ _ (repeated_value v k n after)
  where
    one_more : (n d a b : ℕ) → a ≡ n * d + b → d + a ≡ suc n * d + b
    one_more n d a b e = grind arith

coef_vars_value : (v : Valuation) (cs : List Coef) (after : List Index) → dim_sum v (index_list (coef_vars cs after)) ≡ coefs_value v cs + dim_sum v (index_list after)
coef_vars_value v [] after = omega arith
coef_vars_value v (c ∷ cs) after =
    omega (arith, coef_vars_value v cs (replicate c.times (var c.var) ++ after), repeated_value v c.var c.times after)

constant_value : (v : Valuation) (n : ℕ) → dim_sum v (index_list (constant_part n)) ≡ n
constant_value v zero = refl
constant_value v (suc n) = omega arith

dim_tree_value : (v : Valuation) (d : Linear) → dim_val v (dim_tree d) ≡ form_value v d
dim_tree_value v d =
    omega (arith, parts_value v (coef_vars d.coefs (constant_part d.constant)), coef_vars_value v d.coefs (constant_part d.constant), constant_value v d.constant)

onto_value : (v : Valuation) (run ys : List Index) → dim_vals v (index_list (onto run ys)) ≡ dim_vals v (index_list (onto run [])) ++ dim_vals v (index_list ys)
onto_value v [] ys = refl
onto_value v (x ∷ run) ys =
    onto_value v run (x ∷ ys) ∙ sym (append_assoc (dim_vals v (index_list (onto run []))) (dim_val v x ∷ []) (dim_vals v (index_list ys)))
    ∙ ap (λ l. l ++ dim_vals v (index_list ys)) (sym (onto_value v run (x ∷ [])))

run_value : (v : Valuation) (run after : List Index) → shape_join v (index_list (run_part run after)) ≡ dim_vals v (index_list run) ++ shape_join v (index_list after)
run_value v [] after = refl
run_value v (i ∷ is) after = refl

word_parts_value : (v : Valuation) (run : List Index) (ls : List Letter) → shape_join v (index_list (word_parts run ls)) ≡ dim_vals v (index_list (onto run [])) ++ word_value_under v ls
word_parts_value v run [] = run_value v (onto run []) []
word_parts_value v run (letter.Dim d ∷ ls) =
    word_parts_value v (dim_tree d ∷ run) ls ∙ ap (λ l. l ++ word_value_under v ls) (onto_value v run (dim_tree d ∷ []))
    ∙ append_assoc (dim_vals v (index_list (onto run []))) (dim_val v (dim_tree d) ∷ []) (word_value_under v ls)
    ∙ ap (λ n. dim_vals v (index_list (onto run [])) ++ (n ∷ word_value_under v ls)) (dim_tree_value v d)
word_parts_value v run (letter.Var k ∷ ls) =
    run_value v (onto run []) (var k ∷ word_parts [] ls) ∙ ap (λ l. dim_vals v (index_list (onto run [])) ++ (v.shape k ++ l)) (word_parts_value v [] ls)

joined_value : (v : Valuation) (is : List Index) → shape_val v (join_of_parts is) ≡ shape_join v (index_list is)
joined_value v [] = refl
joined_value v (i ∷ []) = sym (append-nil (shape_val v i))
joined_value v (i ∷ j ∷ is) = refl

-- the tree of a word has its value
pub word_tree_value : (v : Valuation) (ls : List Letter) → shape_val v (word_tree ls) ≡ word_value_under v ls
word_tree_value v ls = joined_value v (word_parts [] ls) ∙ word_parts_value v [] ls

-- ---- normal shapes

-- shapes are equal exactly where their words are one
pub same_words : (i j : Index) → SameShape i j → norm_word i ≡ norm_word j
same_words i j h =
    same_word _ _ (AreNormal-norm i) (AreNormal-norm j) (λ v. norm_word_value v i ∙ h v ∙ sym (norm_word_value v j))

shape_again : (i : Index) → SameShape (word_tree (norm_word i)) i
shape_again i v = word_tree_value v (norm_word i) ∙ norm_word_value v i

pub word_again : (i : Index) → norm_word (word_tree (norm_word i)) ≡ norm_word i
word_again i = same_words (word_tree (norm_word i)) i (shape_again i)

-- ---- normal types

mutual
  pub norm_same : (t : Ty) → Same (norm_ty t) t
  norm_same (BaseTy at b) = refl
  norm_same (TyVar at k) = refl
  norm_same (Fun at ts r) = (norm_all_same ts, norm_same r)
  norm_same (Forall at n t) = (refl, norm_same t)
  norm_same (Pi at ss t) = (refl, norm_same t)
  norm_same (Sigma at ss t) = (refl, norm_same t)
  norm_same (Arr at t i) = (norm_same t, shape_again i)

  norm_all_same : (ts : Tys) → AllSame (norm_tys ts) ts
  norm_all_same no_tys = tt
  norm_all_same (more_tys t ts) = (norm_same t, norm_all_same ts)

mutual
  -- equal types have one normal type
  pub same_normal : (t u : Ty) → Same t u → norm_ty t ≡ norm_ty u
  same_normal (BaseTy at b) (BaseTy at' c) h = ap (BaseTy no_span) h
  same_normal (TyVar at k) (TyVar at' l) h = ap (TyVar no_span) h
  same_normal (Fun at ts r) (Fun at' us s) h = λ i. Fun no_span (all_same_normal ts us h.0 i) (same_normal r s h.1 i)
  same_normal (Forall at n t) (Forall at' m u) h = λ i. Forall no_span (h.0 i) (same_normal t u h.1 i)
  same_normal (Pi at ss t) (Pi at' rs u) h = λ i. Pi no_span (h.0 i) (same_normal t u h.1 i)
  same_normal (Sigma at ss t) (Sigma at' rs u) h = λ i. Sigma no_span (h.0 i) (same_normal t u h.1 i)
  same_normal (Arr at t s) (Arr at' u r) h = λ i. Arr no_span (same_normal t u h.0 i) (word_tree (same_words s r h.1 i))
  same_normal _ _ h = absurd h

  all_same_normal : (ts us : Tys) → AllSame ts us → norm_tys ts ≡ norm_tys us
  all_same_normal no_tys no_tys h = refl
  all_same_normal (more_tys t ts) (more_tys u us) h = λ i. more_tys (same_normal t u h.0 i) (all_same_normal ts us h.1 i)
  all_same_normal _ _ h = absurd h

-- and types with one normal type are equal
pub normal_same : (t u : Ty) → norm_ty t ≡ norm_ty u → Same t u
normal_same t u e = same_trans t (norm_ty t) u (same_sym (norm_ty t) t (norm_same t)) (subst (λ x. Same x u) (sym e) (norm_same u))

-- a normal type is its own normal type
pub norm_again : (t : Ty) → norm_ty (norm_ty t) ≡ norm_ty t
norm_again t = same_normal (norm_ty t) t (norm_same t)

-- ---- the measure of a normal type

mutual
  pub size_again : (t : Ty) → ty_size (norm_ty t) ≡ ty_size t
  size_again (BaseTy at b) = refl
  size_again (TyVar at k) = refl
  size_again (Fun at ts r) = λ i. 1 + (sizes_again ts i + size_again r i)
  size_again (Forall at n t) = λ i. 1 + (n + size_again t i)
  size_again (Pi at ss t) = λ i. 1 + (length ss + size_again t i)
  size_again (Sigma at ss t) = λ i. 1 + (length ss + size_again t i)
  size_again (Arr at t s) = λ i. 1 + (size_again t i + word_size (word_again s i))

  sizes_again : (ts : Tys) → tys_size (norm_tys ts) ≡ tys_size ts
  sizes_again no_tys = refl
  sizes_again (more_tys t ts) = λ i. size_again t i + sizes_again ts i

mutual
  depth_again : (t : Ty) → ty_depth (norm_ty t) ≡ ty_depth t
  depth_again (BaseTy at b) = refl
  depth_again (TyVar at k) = refl
  depth_again (Fun at ts r) = λ i. 1 + max (depths_again ts i) (depth_again r i)
  depth_again (Forall at n t) = λ i. 1 + depth_again t i
  depth_again (Pi at ss t) = λ i. 1 + depth_again t i
  depth_again (Sigma at ss t) = λ i. 1 + depth_again t i
  depth_again (Arr at t s) = λ i. 1 + depth_again t i

  depths_again : (ts : Tys) → tys_depth (norm_tys ts) ≡ tys_depth ts
  depths_again no_tys = refl
  depths_again (more_tys t ts) = λ i. max (depth_again t i) (depths_again ts i)

mutual
  large_again : (t : Ty) → ty_has_large (norm_ty t) ≡ ty_has_large t
  large_again (BaseTy at b) = refl
  large_again (TyVar at k) = refl
  large_again (Fun at ts r) = λ i. larges_again ts i || large_again r i
  large_again (Forall at n t) = large_again t
  large_again (Pi at ss t) = large_again t
  large_again (Sigma at ss t) = large_again t
  large_again (Arr at t s) = λ i. large_again t i || has_large (word_again s i)

  larges_again : (ts : Tys) → tys_have_large (norm_tys ts) ≡ tys_have_large ts
  larges_again no_tys = refl
  larges_again (more_tys t ts) = λ i. large_again t i || larges_again ts i

pub measure_again : (t : Ty) → measure_ty (norm_ty t) ≡ measure_ty t
measure_again t = λ i. measured (large_again t i) (size_again t i) (depth_again t i)
