-- Bodies of binders with the normal forms of what is given in the variables' places.
use Rattle.std.proofs.Common.{◌≡◌, ◌∙◌, refl, sym, ap, subst, ℕ, zero, suc, ◌+◌, ◌*◌, arith, List, [], ◌∷◌, ◌++◌, replicate, length}
use Rattle.core_syntax.specs.declared.index.Sort.{Sort}
use Rattle.core_syntax.specs.declared.index.Sort.TheVariants as sort
use Rattle.core_syntax.specs.declared.norm.Coef.{Coef}
use Rattle.core_syntax.specs.declared.norm.NormIndex.{NormIndex}
use Rattle.core_syntax.specs.declared.ty.Ty.{Ty as Tree}
use Rattle.core_syntax.specs.Linear.{Linear}
use Rattle.core_syntax.specs.Syntax.{Index, Ty, BaseTy, TyVar, Fun, Forall, Pi, Sigma, Arr, Tys, no_tys, more_tys, index_list}
use Rattle.core_syntax.specs.Lists.{onto, each, Each, EachTwo}
use Rattle.core_syntax.specs.Sorts.{IsSorted}
use Rattle.core_syntax.specs.Kinds.{IsWellFormed}
use Rattle.core_syntax.specs.Value.{Valuation, dim_val, dim_sum, SameAt}
use Rattle.core_syntax.specs.NormValue.{coefs_value, form_value}
use Rattle.core_syntax.specs.TypeEqual.{Same, AllSame}
use Rattle.core_syntax.specs.Nodes.{var}
use Rattle.core_syntax.specs.Norm.{norm_at, norm_dim, norm_word, coef_vars, sum_of_parts, constant_part, dim_tree}
use Rattle.core_syntax.specs.NormTypes.{norm_ty}
use Rattle.core_syntax.specs.Refine.{ty_of}
use Rattle.core_syntax.specs.Subst.{Fate, Keep, Put, Fates, kept, put_first, put_all, moved, under, under_n, in_place, indices_under, ty_put, tys_put, past_n, same, ty_renamed, tys_renamed, ty_under_type, fate_under_index, fates_under_index, with_types, with_indices}
use Rattle.core_syntax.specs.Typing.{Context, IsAtomType}
use Rattle.core_syntax.proofs.Equality.{same_sym}
use Rattle.core_syntax.proofs.Valued.{renumbered, shape_val-renamed}
use Rattle.core_syntax.proofs.NormValues.{norm_dim_value, norm_word_value}
use Rattle.core_syntax.proofs.NormTyLemmas.{word_tree_value, norm_same}
use Rattle.type_equal.specs.Put.{index_tree}
use Rattle.type_check.specs.Written.{AreNormalAtomsOf, AreNormalIndicesOf}
use Rattle.type_check.proofs.substitution.Instances.{AllSameAt, with_indices_same}

-- ---- the tree of a linear form has its value

parts_value : (v : Valuation) (is : List Index) → dim_val v (sum_of_parts is) ≡ dim_sum v (index_list is)
parts_value v [] = refl
parts_value v (i ∷ []) = omega arith
parts_value v (i ∷ j ∷ is) = refl

repeated_value : (v : Valuation) (k n : ℕ) (after : List Index) → dim_sum v (index_list (replicate n (var k) ++ after)) ≡ n * v.dim k + dim_sum v (index_list after)
repeated_value v k zero after = omega arith
repeated_value v k (suc n) after = one_more n (v.dim k) _ _ (repeated_value v k n after)
  where
    one_more : (n d a b : ℕ) → a ≡ n * d + b → d + a ≡ suc n * d + b
    one_more n d a b e = grind arith

coef_vars_value : (v : Valuation) (cs : List Coef) (after : List Index) → dim_sum v (index_list (coef_vars cs after)) ≡ coefs_value v cs + dim_sum v (index_list after)
coef_vars_value v [] after = omega arith
coef_vars_value v (c ∷ cs) after =
    omega (arith, coef_vars_value v cs (replicate c.times (var c.var) ++ after), repeated_value v c.var c.times after)

constant_value : (v : Valuation) (n : ℕ) → dim_sum v (index_list (constant_part n)) ≡ n
constant_value v zero = refl
constant_value v (suc n) = omega arith

dim_tree_value : (v : Valuation) (d : Linear) → dim_val v (dim_tree d) ≡ form_value v d
dim_tree_value v d =
    omega (arith, parts_value v (coef_vars d.coefs (constant_part d.constant)), coef_vars_value v d.coefs (constant_part d.constant), constant_value v d.constant)

-- ---- indices

tree_same : (s : Sort) (i : Index) → SameAt s i (index_tree (norm_at s i))
tree_same sort.Dim i = λ v. sym (dim_tree_value v (norm_dim i) ∙ norm_dim_value v i)
tree_same sort.Shape i = λ v. sym (word_tree_value v (norm_word i) ∙ norm_word_value v i)

trees_same : (Γ : Context) (ss : List Sort) (is : List Index) (ns : List NormIndex) → AreNormalIndicesOf Γ ss is ns → AllSameAt ss is (each index_tree ns)
trees_same Γ [] [] [] h = tt
trees_same Γ (s ∷ ss) (i ∷ is) (n ∷ ns) h = (subst (λ n. SameAt s i (index_tree n)) (sym h.1) (tree_same s i), trees_same Γ ss is ns h.2)
trees_same Γ _ _ _ h = absurd h

-- the body with indices, and with their normal forms
pub with_indices_normal : (Γ : Context) (ss : List Sort) (is : List Index) (ns : List NormIndex) (b : Ty) → AreNormalIndicesOf Γ ss is ns → IsWellFormed Γ.types (onto ss Γ.sorts) b
    → Same (with_indices is b) (with_indices (each index_tree ns) b)
with_indices_normal Γ ss is ns b h w = with_indices_same Γ.types Γ.sorts ss is (each index_tree ns) b (trees_same Γ ss is ns h) w

pub indices_sorted : (Γ : Context) (ss : List Sort) (is : List Index) (ns : List NormIndex) → AreNormalIndicesOf Γ ss is ns → EachTwo (IsSorted Γ.sorts) ss is
indices_sorted Γ [] [] [] h = tt
indices_sorted Γ (s ∷ ss) (i ∷ is) (n ∷ ns) h = (h.0, indices_sorted Γ ss is ns h.2)
indices_sorted Γ _ _ _ h = absurd h

-- ---- renaming keeps equality

mutual
  pub same_renamed : (ρ τ : ℕ → ℕ) (t u : Ty) → Same t u → Same (ty_renamed ρ τ t) (ty_renamed ρ τ u)
  same_renamed ρ τ (BaseTy at b) (BaseTy at' c) h = h
  same_renamed ρ τ (TyVar at k) (TyVar at' l) h = ap τ h
  same_renamed ρ τ (Fun at ts r) (Fun at' us s) h = (all_same_renamed ρ τ ts us h.0, same_renamed ρ τ r s h.1)
  same_renamed ρ τ (Forall at n t) (Forall at' m u) h = (h.0, subst (λ k. Same (ty_renamed ρ (past_n n τ) t) (ty_renamed ρ (past_n k τ) u)) h.0 (same_renamed ρ (past_n n τ) t u h.1))
  same_renamed ρ τ (Pi at ss t) (Pi at' rs u) h = (h.0, subst (λ ks. Same (ty_renamed (past_n (length ss) ρ) τ t) (ty_renamed (past_n (length ks) ρ) τ u)) h.0 (same_renamed (past_n (length ss) ρ) τ t u h.1))
  same_renamed ρ τ (Sigma at ss t) (Sigma at' rs u) h = (h.0, subst (λ ks. Same (ty_renamed (past_n (length ss) ρ) τ t) (ty_renamed (past_n (length ks) ρ) τ u)) h.0 (same_renamed (past_n (length ss) ρ) τ t u h.1))
  same_renamed ρ τ (Arr at t i) (Arr at' u j) h = (same_renamed ρ τ t u h.0, λ v. shape_val-renamed v ρ i ∙ h.1 (renumbered v ρ) ∙ sym (shape_val-renamed v ρ j))
  same_renamed ρ τ _ _ h = absurd h

  all_same_renamed : (ρ τ : ℕ → ℕ) (ts us : Tys) → AllSame ts us → AllSame (tys_renamed ρ τ ts) (tys_renamed ρ τ us)
  all_same_renamed ρ τ no_tys no_tys h = tt
  all_same_renamed ρ τ (more_tys t ts) (more_tys u us) h = (same_renamed ρ τ t u h.0, all_same_renamed ρ τ ts us h.1)
  all_same_renamed ρ τ _ _ h = absurd h

-- ---- types

-- fates of type variables that are equal types
abbrev FateSame : Fate Ty → Fate Ty → Type 0
FateSame (Keep k) (Keep l) = k ≡ l
FateSame (Put t) (Put u) = Same t u
FateSame _ _ = ⊥

abbrev FatesSame : Fates Ty → Fates Ty → Type 0
FatesSame τ υ = (k : ℕ) → FateSame (τ k) (υ k)

moved_same : (f g : Fate Ty) → FateSame f g → FateSame (moved ty_under_type f) (moved ty_under_type g)
moved_same (Keep k) (Keep l) h = ap suc h
moved_same (Put t) (Put u) h = same_renamed same suc t u h
moved_same _ _ h = absurd h

under_same : (τ υ : Fates Ty) → FatesSame τ υ → FatesSame (under ty_under_type τ) (under ty_under_type υ)
under_same τ υ h zero = refl
under_same τ υ h (suc k) = moved_same (τ k) (υ k) (h k)

under_n_same : (n : ℕ) (τ υ : Fates Ty) → FatesSame τ υ → FatesSame (under_n n ty_under_type τ) (under_n n ty_under_type υ)
under_n_same zero τ υ h = h
under_n_same (suc n) τ υ h = under_same (under_n n ty_under_type τ) (under_n n ty_under_type υ) (under_n_same n τ υ h)

index_same : (f g : Fate Ty) → FateSame f g → FateSame (fate_under_index f) (fate_under_index g)
index_same (Keep k) (Keep l) h = h
index_same (Put t) (Put u) h = same_renamed suc same t u h
index_same _ _ h = absurd h

indices_same : (n : ℕ) (τ υ : Fates Ty) → FatesSame τ υ → FatesSame (fates_under_index n τ) (fates_under_index n υ)
indices_same zero τ υ h k = h k
indices_same (suc n) τ υ h k = index_same (fates_under_index n τ k) (fates_under_index n υ k) (indices_same n τ υ h k)

variable_same : (t : Ty) (at : ℕ → Ty) (f g : Fate Ty) → ((k l : ℕ) → k ≡ l → Same (at k) (at l)) → FateSame f g → Same (in_place at f) (in_place at g)
variable_same t at (Keep k) (Keep l) e h = e k l h
variable_same t at (Put u) (Put w) e h = h
variable_same t at _ _ e h = absurd h

mutual
  ty_same_fates : (σ : Fates Index) (τ υ : Fates Ty) → FatesSame τ υ → (t : Ty) → Same (ty_put σ τ t) (ty_put σ υ t)
  ty_same_fates σ τ υ h (BaseTy at b) = refl
  ty_same_fates σ τ υ h (TyVar at k) = variable_same (TyVar at k) (TyVar at) (τ k) (υ k) (λ k l e. e) (h k)
  ty_same_fates σ τ υ h (Fun at ts r) = (tys_same_fates σ τ υ h ts, ty_same_fates σ τ υ h r)
  ty_same_fates σ τ υ h (Forall at n t) = (refl, ty_same_fates σ (under_n n ty_under_type τ) (under_n n ty_under_type υ) (under_n_same n τ υ h) t)
  ty_same_fates σ τ υ h (Pi at ss t) = (refl, ty_same_fates (indices_under (length ss) σ) (fates_under_index (length ss) τ) (fates_under_index (length ss) υ) (indices_same (length ss) τ υ h) t)
  ty_same_fates σ τ υ h (Sigma at ss t) = (refl, ty_same_fates (indices_under (length ss) σ) (fates_under_index (length ss) τ) (fates_under_index (length ss) υ) (indices_same (length ss) τ υ h) t)
  ty_same_fates σ τ υ h (Arr at t i) = (ty_same_fates σ τ υ h t, λ v. refl)

  tys_same_fates : (σ : Fates Index) (τ υ : Fates Ty) → FatesSame τ υ → (ts : Tys) → AllSame (tys_put σ τ ts) (tys_put σ υ ts)
  tys_same_fates σ τ υ h no_tys = tt
  tys_same_fates σ τ υ h (more_tys t ts) = (ty_same_fates σ τ υ h t, tys_same_fates σ τ υ h ts)

first_same : (us ws : List Ty) → EachTwo Same us ws → FatesSame (put_first us) (put_first ws)
first_same [] [] h k = refl
first_same [] (w ∷ ws) h k = absurd h
first_same (u ∷ us) [] h k = absurd h
first_same (u ∷ us) (w ∷ ws) h zero = h.0
first_same (u ∷ us) (w ∷ ws) h (suc k) = first_same us ws h.1 k

same_onto : (us ws us' ws' : List Ty) → EachTwo Same us ws → EachTwo Same us' ws' → EachTwo Same (onto us us') (onto ws ws')
same_onto [] [] us' ws' h k = k
same_onto [] (w ∷ ws) us' ws' h k = absurd h
same_onto (u ∷ us) [] us' ws' h k = absurd h
same_onto (u ∷ us) (w ∷ ws) us' ws' h k = same_onto us ws (u ∷ us') (w ∷ ws') h.1 (h.0, k)

atoms_same : (Γ : Context) (us : List Ty) (ns : List Tree) → AreNormalAtomsOf Γ us ns → EachTwo Same us (each ty_of ns)
atoms_same Γ [] [] h = tt
atoms_same Γ [] (n ∷ ns) h = absurd h
atoms_same Γ (u ∷ us) [] h = absurd h
atoms_same Γ (u ∷ us) (n ∷ ns) h = (subst (Same u) (sym h.0.1) (same_sym (norm_ty u) u (norm_same u)), atoms_same Γ us ns h.1)

-- the body with types, and with their normal types
pub with_types_normal : (Γ : Context) (us : List Ty) (ns : List Tree) (b : Ty) → AreNormalAtomsOf Γ us ns → Same (with_types us b) (with_types (each ty_of ns) b)
with_types_normal Γ us ns b h = ty_same_fates kept (put_all us) (put_all (each ty_of ns)) (first_same (onto us []) (onto (each ty_of ns) []) (same_onto us (each ty_of ns) [] [] (atoms_same Γ us ns h) tt)) b

pub atoms_formed : (Γ : Context) (us : List Ty) (ns : List Tree) → AreNormalAtomsOf Γ us ns → Each (IsAtomType Γ) us
atoms_formed Γ [] [] h = tt
atoms_formed Γ [] (n ∷ ns) h = absurd h
atoms_formed Γ (u ∷ us) [] h = absurd h
atoms_formed Γ (u ∷ us) (n ∷ ns) h = (h.0.0, atoms_formed Γ us ns h.1)
