-- A normal type is well formed where the type is.
use Rattle.std.proofs.Common.{◌≡◌, refl, ◌∙◌, ℕ, zero, suc, List, [], ◌∷◌, ◌++◌, replicate, Some}
use Rattle.std.specs.Prelude.{slice_get}
use Rattle.core_syntax.specs.declared.index.Sort.{Sort}
use Rattle.core_syntax.specs.declared.index.Sort.TheVariants as sort
use Rattle.core_syntax.specs.declared.norm.Coef.{Coef}
use Rattle.core_syntax.specs.declared.norm.Letter.{Letter}
use Rattle.core_syntax.specs.declared.norm.Letter.TheVariants as letter
use Rattle.core_syntax.specs.Linear.{Linear}
use Rattle.core_syntax.specs.Syntax.{Index, Ty, BaseTy, TyVar, Fun, Forall, Pi, Sigma, Arr, Tys, no_tys, more_tys, index_list}
use Rattle.core_syntax.specs.Lists.{onto}
use Rattle.core_syntax.specs.Sorts.{IsSorted, AreSorted}
use Rattle.core_syntax.specs.Kinds.{IsWellFormed, AreWellFormed, is_atom_kind}
use Rattle.core_syntax.specs.Nodes.{var}
use Rattle.core_syntax.specs.Norm.{norm_word, coef_vars, sum_of_parts, constant_part, dim_tree, run_part, word_parts, join_of_parts, word_tree}
use Rattle.core_syntax.specs.NormTypes.{norm_ty, norm_tys}
use Rattle.core_syntax.proofs.NormLemmas.{CountsDims, WordIsIn, WordIsIn-norm}

-- ---- the trees of normal forms are well sorted

repeated_sorted : (sorts : List Sort) (k n : ℕ) (after : List Index) → slice_get sorts k ≡ Some sort.Dim → AreSorted sorts sort.Dim (index_list after)
    → AreSorted sorts sort.Dim (index_list (replicate n (var k) ++ after))
repeated_sorted sorts k zero after e h = h
repeated_sorted sorts k (suc n) after e h = (e, repeated_sorted sorts k n after e h)

coefs_sorted : (sorts : List Sort) (cs : List Coef) (after : List Index) → CountsDims sorts cs → AreSorted sorts sort.Dim (index_list after)
    → AreSorted sorts sort.Dim (index_list (coef_vars cs after))
coefs_sorted sorts [] after c h = h
coefs_sorted sorts (d ∷ cs) after c h = coefs_sorted sorts cs (replicate d.times (var d.var) ++ after) c.1 (repeated_sorted sorts d.var d.times after c.0 h)

constant_sorted : (sorts : List Sort) (n : ℕ) → AreSorted sorts sort.Dim (index_list (constant_part n))
constant_sorted sorts zero = tt
constant_sorted sorts (suc n) = (refl, tt)

sum_sorted : (sorts : List Sort) (is : List Index) → AreSorted sorts sort.Dim (index_list is) → IsSorted sorts sort.Dim (sum_of_parts is)
sum_sorted sorts [] h = refl
sum_sorted sorts (i ∷ []) h = h.0
sum_sorted sorts (i ∷ j ∷ is) h = (refl, h)

pub dim_tree_sorted : (sorts : List Sort) (d : Linear) → CountsDims sorts d.coefs → IsSorted sorts sort.Dim (dim_tree d)
dim_tree_sorted sorts d c = sum_sorted sorts (coef_vars d.coefs (constant_part d.constant)) (coefs_sorted sorts d.coefs (constant_part d.constant) c (constant_sorted sorts d.constant))

onto_sorted : (sorts : List Sort) (s : Sort) (run ys : List Index) → AreSorted sorts s (index_list run) → AreSorted sorts s (index_list ys) → AreSorted sorts s (index_list (onto run ys))
onto_sorted sorts s [] ys h k = k
onto_sorted sorts s (i ∷ run) ys h k = onto_sorted sorts s run (i ∷ ys) h.1 (h.0, k)

run_sorted : (sorts : List Sort) (run after : List Index) → AreSorted sorts sort.Dim (index_list run) → AreSorted sorts sort.Shape (index_list after)
    → AreSorted sorts sort.Shape (index_list (run_part run after))
run_sorted sorts [] after h k = k
run_sorted sorts (i ∷ is) after h k = ((refl, h), k)

parts_sorted : (sorts : List Sort) (run : List Index) (ls : List Letter) → AreSorted sorts sort.Dim (index_list run) → WordIsIn sorts ls
    → AreSorted sorts sort.Shape (index_list (word_parts run ls))
parts_sorted sorts run [] h w = run_sorted sorts (onto run []) [] (onto_sorted sorts sort.Dim run [] h tt) tt
parts_sorted sorts run (letter.Dim d ∷ ls) h w = parts_sorted sorts (dim_tree d ∷ run) ls (dim_tree_sorted sorts d w.0, h) w.1
parts_sorted sorts run (letter.Var k ∷ ls) h w =
    run_sorted sorts (onto run []) (var k ∷ word_parts [] ls) (onto_sorted sorts sort.Dim run [] h tt) (w.0, parts_sorted sorts [] ls tt w.1)

joined_sorted : (sorts : List Sort) (is : List Index) → AreSorted sorts sort.Shape (index_list is) → IsSorted sorts sort.Shape (join_of_parts is)
joined_sorted sorts [] h = (refl, tt)
joined_sorted sorts (i ∷ []) h = h.0
joined_sorted sorts (i ∷ j ∷ is) h = (refl, h)

pub word_tree_sorted : (sorts : List Sort) (ls : List Letter) → WordIsIn sorts ls → IsSorted sorts sort.Shape (word_tree ls)
word_tree_sorted sorts ls w = joined_sorted sorts (word_parts [] ls) (parts_sorted sorts [] ls tt w)

-- ---- normal types

pub kind_norm : (t : Ty) → is_atom_kind (norm_ty t) ≡ is_atom_kind t
kind_norm (BaseTy at b) = refl
kind_norm (TyVar at k) = refl
kind_norm (Fun at ts r) = refl
kind_norm (Forall at n t) = refl
kind_norm (Pi at ss t) = refl
kind_norm (Sigma at ss t) = refl
kind_norm (Arr at t i) = refl

mutual
  pub formed_norm : (types : ℕ) (sorts : List Sort) (t : Ty) → IsWellFormed types sorts t → IsWellFormed types sorts (norm_ty t)
  formed_norm types sorts (BaseTy at b) h = tt
  formed_norm types sorts (TyVar at k) h = h
  formed_norm types sorts (Fun at ts r) h = (all_formed_norm types sorts ts h.0, formed_norm types sorts r h.1)
  formed_norm types sorts (Forall at n t) h = formed_norm _ sorts t h
  formed_norm types sorts (Pi at ss t) h = formed_norm types (onto ss sorts) t h
  formed_norm types sorts (Sigma at ss t) h = formed_norm types (onto ss sorts) t h
  formed_norm types sorts (Arr at t i) h = (kind_norm t ∙ h.0, word_tree_sorted sorts (norm_word i) (WordIsIn-norm sorts i h.1), formed_norm types sorts t h.2)

  pub all_formed_norm : (types : ℕ) (sorts : List Sort) (ts : Tys) → AreWellFormed types sorts ts → AreWellFormed types sorts (norm_tys ts)
  all_formed_norm types sorts no_tys h = tt
  all_formed_norm types sorts (more_tys t ts) h = (formed_norm types sorts t h.0, all_formed_norm types sorts ts h.1)
