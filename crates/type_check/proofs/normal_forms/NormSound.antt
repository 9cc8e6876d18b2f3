-- Normal forms are well sorted and well formed where what they come from is.
use Rattle.std.proofs.Common.{◌≡◌, refl, sym, ◌∙◌, subst, ℕ, zero, suc, List, [], ◌∷◌, ◌++◌, replicate, Some, slice_get, Bool, true, false}
use Rattle.core_syntax.specs.declared.index.Sort.{Sort}
use Rattle.core_syntax.specs.declared.index.Sort.TheVariants as sort
use Rattle.core_syntax.specs.declared.norm.Coef.{Coef}
use Rattle.core_syntax.specs.declared.norm.Letter.{Letter}
use Rattle.core_syntax.specs.declared.norm.Letter.TheVariants as letter
use Rattle.core_syntax.specs.Linear.{Linear}
use Rattle.core_syntax.specs.Lists.{onto, Each}
use Rattle.core_syntax.specs.Nodes.{var}
use Rattle.core_syntax.specs.Syntax.{Index, index_list, Ty, BaseTy, TyVar, Fun, Forall, Pi, Sigma, Arr, Tys, no_tys, more_tys}
use Rattle.core_syntax.specs.Sorts.{IsSorted, AreSorted}
use Rattle.core_syntax.specs.Kinds.{is_atom_kind, IsWellFormed, AreWellFormed}
use Rattle.core_syntax.specs.Made.{IsArray, HoldsArrays, AreArrays}
use Rattle.core_syntax.specs.Norm.{norm_word, coef_vars, sum_of_parts, constant_part, dim_tree, run_part, word_parts, join_of_parts, word_tree}
use Rattle.core_syntax.specs.NormTypes.{norm_ty, norm_tys}
use Rattle.core_syntax.proofs.NormLemmas.{CountsDims, WordIsIn, WordIsIn-norm}
use Rattle.core_syntax.specs.Typing.{Context}
use Rattle.type_check.specs.Contexts.{IsSound, IsSoundAtom}

-- ---- trees of normal indices

listed : (sorts : List Sort) (s : Sort) (is : List Index) → Each (IsSorted sorts s) is → AreSorted sorts s (index_list is)
listed sorts s [] h = tt
listed sorts s (i ∷ is) h = (h.0, listed sorts s is h.1)

each_onto : (P : Index → Type 0) (xs ys : List Index) → Each P xs → Each P ys → Each P (onto xs ys)
each_onto P [] ys p q = q
each_onto P (x ∷ xs) ys p q = each_onto P xs (x ∷ ys) p.1 (p.0, q)

sum_sorted : (sorts : List Sort) (is : List Index) → Each (IsSorted sorts sort.Dim) is → IsSorted sorts sort.Dim (sum_of_parts is)
sum_sorted sorts [] h = refl
sum_sorted sorts (i ∷ []) h = h.0
sum_sorted sorts (i ∷ j ∷ is) h = (refl, listed sorts sort.Dim (i ∷ j ∷ is) h)

joined_sorted : (sorts : List Sort) (is : List Index) → Each (IsSorted sorts sort.Shape) is → IsSorted sorts sort.Shape (join_of_parts is)
joined_sorted sorts [] h = (refl, tt)
joined_sorted sorts (i ∷ []) h = h.0
joined_sorted sorts (i ∷ j ∷ is) h = (refl, listed sorts sort.Shape (i ∷ j ∷ is) h)

repeated_sorted : (sorts : List Sort) (k n : ℕ) (after : List Index) → slice_get sorts k ≡ Some sort.Dim → Each (IsSorted sorts sort.Dim) after →
    Each (IsSorted sorts sort.Dim) (replicate n (var k) ++ after)
repeated_sorted sorts k zero after p h = h
repeated_sorted sorts k (suc n) after p h = (p, repeated_sorted sorts k n after p h)

coef_vars_sorted : (sorts : List Sort) (cs : List Coef) (after : List Index) → CountsDims sorts cs → Each (IsSorted sorts sort.Dim) after →
    Each (IsSorted sorts sort.Dim) (coef_vars cs after)
coef_vars_sorted sorts [] after p h = h
coef_vars_sorted sorts (c ∷ cs) after p h =
    coef_vars_sorted sorts cs (replicate c.times (var c.var) ++ after) p.1 (repeated_sorted sorts c.var c.times after p.0 h)

constant_sorted : (sorts : List Sort) (n : ℕ) → Each (IsSorted sorts sort.Dim) (constant_part n)
constant_sorted sorts zero = tt
constant_sorted sorts (suc n) = (refl, tt)

pub dim_tree_sorted : (sorts : List Sort) (d : Linear) → CountsDims sorts d.coefs → IsSorted sorts sort.Dim (dim_tree d)
dim_tree_sorted sorts d h =
    sum_sorted sorts (coef_vars d.coefs (constant_part d.constant)) (coef_vars_sorted sorts d.coefs (constant_part d.constant) h (constant_sorted sorts d.constant))

run_sorted : (sorts : List Sort) (run after : List Index) → Each (IsSorted sorts sort.Dim) run → Each (IsSorted sorts sort.Shape) after →
    Each (IsSorted sorts sort.Shape) (run_part run after)
run_sorted sorts [] after p h = h
run_sorted sorts (i ∷ is) after p h = ((refl, listed sorts sort.Dim (i ∷ is) p), h)

word_parts_sorted : (sorts : List Sort) (run : List Index) (ls : List Letter) → Each (IsSorted sorts sort.Dim) run → WordIsIn sorts ls →
    Each (IsSorted sorts sort.Shape) (word_parts run ls)
word_parts_sorted sorts run [] p h = run_sorted sorts (onto run []) [] (each_onto (IsSorted sorts sort.Dim) run [] p tt) tt
word_parts_sorted sorts run (letter.Dim d ∷ ls) p h = word_parts_sorted sorts (dim_tree d ∷ run) ls (dim_tree_sorted sorts d h.0, p) h.1
word_parts_sorted sorts run (letter.Var k ∷ ls) p h =
    run_sorted sorts (onto run []) (var k ∷ word_parts [] ls) (each_onto (IsSorted sorts sort.Dim) run [] p tt) (h.0, word_parts_sorted sorts [] ls tt h.1)

-- the tree of a word is well sorted where the word's variables are
pub word_tree_sorted : (sorts : List Sort) (ls : List Letter) → WordIsIn sorts ls → IsSorted sorts sort.Shape (word_tree ls)
word_tree_sorted sorts ls h = joined_sorted sorts (word_parts [] ls) (word_parts_sorted sorts [] ls tt h)

-- and that of a well-sorted index
pub shape_again_sorted : (sorts : List Sort) (i : Index) → IsSorted sorts sort.Shape i → IsSorted sorts sort.Shape (word_tree (norm_word i))
shape_again_sorted sorts i h = word_tree_sorted sorts (norm_word i) (WordIsIn-norm sorts i h)

-- ---- normal types

-- the kind of a normal type
pub kind_again : (t : Ty) → is_atom_kind (norm_ty t) ≡ is_atom_kind t
kind_again (BaseTy at b) = refl
kind_again (TyVar at k) = refl
kind_again (Fun at ts r) = refl
kind_again (Forall at n t) = refl
kind_again (Pi at ss t) = refl
kind_again (Sigma at ss t) = refl
kind_again (Arr at t i) = refl

mutual
  pub formed_again : (types : ℕ) (sorts : List Sort) (t : Ty) → IsWellFormed types sorts t → IsWellFormed types sorts (norm_ty t)
  formed_again types sorts (BaseTy at b) h = h
  formed_again types sorts (TyVar at k) h = h
  formed_again types sorts (Fun at ts r) h = (all_formed_again types sorts ts h.0, formed_again types sorts r h.1)
  formed_again types sorts (Forall at n t) h = formed_again _ sorts t h
  formed_again types sorts (Pi at ss t) h = formed_again types (onto ss sorts) t h
  formed_again types sorts (Sigma at ss t) h = formed_again types (onto ss sorts) t h
  formed_again types sorts (Arr at t i) h = (kind_again t ∙ h.0, shape_again_sorted sorts i h.1, formed_again types sorts t h.2)

  pub all_formed_again : (types : ℕ) (sorts : List Sort) (ts : Tys) → AreWellFormed types sorts ts → AreWellFormed types sorts (norm_tys ts)
  all_formed_again types sorts no_tys h = tt
  all_formed_again types sorts (more_tys t ts) h = (formed_again types sorts t h.0, all_formed_again types sorts ts h.1)

pub array_again : (t : Ty) → IsArray t → IsArray (norm_ty t)
array_again t h = kind_again t ∙ h

mutual
  pub arrays_again : (t : Ty) → HoldsArrays t → HoldsArrays (norm_ty t)
  arrays_again (BaseTy at b) h = tt
  arrays_again (TyVar at k) h = tt
  arrays_again (Fun at ts r) h = (all_arrays_again ts h.0, array_again r h.1, arrays_again r h.2)
  arrays_again (Forall at n t) h = (array_again t h.0, arrays_again t h.1)
  arrays_again (Pi at ss t) h = (array_again t h.0, arrays_again t h.1)
  arrays_again (Sigma at ss t) h = (array_again t h.0, arrays_again t h.1)
  arrays_again (Arr at t i) h = arrays_again t h

  pub all_arrays_again : (ts : Tys) → AreArrays ts → AreArrays (norm_tys ts)
  all_arrays_again no_tys h = tt
  all_arrays_again (more_tys t ts) h = ((array_again t h.0.0, arrays_again t h.0.1), all_arrays_again ts h.1)

-- the normal form of a sound type is sound
pub sound_again : (types : ℕ) (sorts : List Sort) (t : Ty) → IsSound types sorts t → IsSound types sorts (norm_ty t)
sound_again types sorts t h =
    record { formed = formed_again types sorts t h.formed; top = array_again t h.top; inside = arrays_again t h.inside }

-- and so is that of a sound atom type
pub sound_atom_again : (Γ : Context) (t : Ty) → IsSoundAtom Γ t → IsSoundAtom Γ (norm_ty t)
sound_atom_again Γ t h =
    record { formed = formed_again Γ.types Γ.sorts t h.formed; top = kind_again t ∙ h.top; inside = arrays_again t h.inside }
