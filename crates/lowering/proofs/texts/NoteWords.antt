-- Shapes and indices of types that are measured are such as a code may hold.
use Rattle.std.proofs.Common.{◌≡◌, refl, sym, ap, ◌∙◌, subst, ℕ, zero, suc, ◌<◌, ◌≤◌, ◌^◌, arith, Bool, true, false, List, [], ◌∷◌, ◌++◌, length, Some, None}
use Rattle.std.specs.Prelude.{◌||◌, nat_lt, slice_get}
use Rattle.std.specs.List.{All}
use Rattle.std.proofs.lemmas.List.Elements.{All-nil}
use Rattle.std.proofs.lemmas.Bool.Decides.{nat_tests}
use Rattle.core_syntax.specs.declared.index.Sort.{Sort}
use Rattle.core_syntax.specs.declared.index.Sort.TheVariants as sort
use Rattle.core_syntax.specs.declared.norm.Coef.{Coef}
use Rattle.core_syntax.specs.declared.norm.Letter.TheVariants as letter
use Rattle.core_syntax.specs.Syntax.{Index, Num, Var, Sum, Dims, Join, Ty, BaseTy, TyVar, Fun, Forall, Pi, Sigma, Arr, Tys, no_tys, more_tys, ty_items}
use Rattle.core_syntax.specs.Lists.{each, Each}
use Rattle.core_syntax.specs.Limits.{largest_number}
use Rattle.core_syntax.specs.Linear.{Linear, IsNormal, dim_size}
use Rattle.core_syntax.specs.Word.{Word, AreNormal, word_size}
use Rattle.core_syntax.specs.Sorts.{IsSorted, own_sort}
use Rattle.core_syntax.specs.Kinds.{IsWellFormed, AreWellFormed}
use Rattle.core_syntax.specs.Value.{then_shape}
use Rattle.core_syntax.specs.TypeEqual.{Same}
use Rattle.core_syntax.specs.Norm.{constant, norm_dim, norm_word, norm_at, word_tree, is_large, has_large, measured, measure_at}
use Rattle.core_syntax.specs.NormTypes.{norm_ty, ty_has_large, tys_have_large, ty_size, ty_depth, measure_ty}
use Rattle.core_syntax.specs.Notes.{shape_word}
use Rattle.core_syntax.specs.Prims.{array_of}
use Rattle.core_syntax.specs.Typing.{numbers}
use Rattle.core_syntax.proofs.NormLemmas.{CountsDims, CountsDims-norm, WordIsIn, WordIsIn-norm, IsNormal-norm, AreNormal-norm}
use Rattle.core_syntax.proofs.NormTyLemmas.{same_words, same_normal, measure_again, word_again}
use Rattle.erasure.specs.Erasure.{cell_word, norm_in, norm_by}
use Rattle.core_syntax.specs.NormPut.{number_letters}
use Rattle.machine_table.specs.IndexBounds.{InBlock, IsVar, IsDim, IsLetter, IsCell}
use Rattle.lowering.proofs.texts.Writable.{IsNorm}
use Rattle.lowering.proofs.texts.CodeIndices.{all_of}

-- ---- lists

is_there : {A : Type 0} (xs : List A) (k : ℕ) (a : A) → slice_get xs k ≡ Some a → k < length xs
is_there [] k a e = absurd (cc)
is_there (x ∷ xs) zero a e = omega arith
is_there (x ∷ xs) (suc k) a e = let h = is_there xs k a e in omega (arith, h)

each_parts : {A : Type 0} (P : A → Type 0) (xs ys : List A) → Each P (xs ++ ys) → Each P xs × Each P ys
each_parts P [] ys h = (tt, h)
each_parts P (x ∷ xs) ys h = let r = each_parts P xs ys h.1 in ((h.0, r.0), r.1)

each_at : {A : Type 0} (P : A → Type 0) (xs : List A) → All P xs → Each P xs
each_at P [] h = tt
each_at P (x ∷ xs) h = (h 0 x (omega arith), each_at P xs (λ k d lt. h (suc k) d (omega (arith, lt))))

pub neither : (a b : Bool) → (a || b) ≡ false → (a ≡ false) × (b ≡ false)
neither false b e = (refl, e)
neither true b e = absurd (cc)

not_large : (large : Bool) (size depth : ℕ) → measured large size depth ≡ None → large ≡ false
not_large false size depth e = refl
not_large true size depth e = absurd (cc)

-- ---- letters

module _ (sorts : List Sort) (few : length sorts < 2 ^ 32) where
  counted : (cs : List Coef) → CountsDims sorts cs → Each (λ c. IsVar InBlock sort.Dim c.var) cs
  counted [] h = tt
  counted (c ∷ cs) h = (let lt = is_there sorts c.var sort.Dim h.0 in omega (arith, lt, few), counted cs h.1)

  small : (n : ℕ) → nat_lt largest_number n ≡ false → n ≤ 2 ^ 40
  small n h = grind (arith, nat_tests, h)

  letter_fine : (d : Linear) → IsNormal d → CountsDims sorts d.coefs → is_large d ≡ false → IsDim InBlock d
  letter_fine d normal counts less = record { normal = normal; vars = all_of (λ c. IsVar InBlock sort.Dim c.var) d.coefs (counted d.coefs counts); small = small d.constant less }

  -- a word that is normal, with sorted variables and no large constant
  word_fine : (w : Word) → AreNormal w → WordIsIn sorts w → has_large w ≡ false → Each (IsLetter InBlock) w
  word_fine [] normal is less = tt
  word_fine (letter.Dim d ∷ ls) normal is less =
      let parts = neither (is_large d) (has_large ls) less in
      (letter_fine d normal.0 is.0 parts.0, word_fine ls normal.1 is.1 parts.1)
  word_fine (letter.Var k ∷ ls) normal is less = (let lt = is_there sorts k sort.Shape is.0 in omega (arith, lt, few), word_fine ls normal.1 is.1 less)

  shape_fine : (i : Index) → IsSorted sorts sort.Shape i → has_large (norm_word i) ≡ false → Each (IsLetter InBlock) (norm_word i)
  shape_fine i is less = word_fine (norm_word i) (AreNormal-norm i) (WordIsIn-norm sorts i is) less

  -- ---- types

  pub type_fine : (types : ℕ) (t : Ty) → IsWellFormed types sorts t → ty_has_large t ≡ false → IsCell (shape_word t)
  type_fine types (Arr at t i) w less = all_of (IsLetter InBlock) (norm_word i) (shape_fine i w.1 (neither (ty_has_large t) (has_large (norm_word i)) less).1)
  type_fine types (BaseTy at b) w less = All-nil (IsLetter InBlock)
  type_fine types (TyVar at k) w less = All-nil (IsLetter InBlock)
  type_fine types (Fun at ts r) w less = All-nil (IsLetter InBlock)
  type_fine types (Forall at n t) w less = All-nil (IsLetter InBlock)
  type_fine types (Pi at ss t) w less = All-nil (IsLetter InBlock)
  type_fine types (Sigma at ss t) w less = All-nil (IsLetter InBlock)

  pub types_fine : (types : ℕ) (ts : Tys) → AreWellFormed types sorts ts → tys_have_large ts ≡ false → Each IsCell (each shape_word (ty_items ts))
  types_fine types no_tys w less = tt
  types_fine types (more_tys t ts) w less =
      let parts = neither (ty_has_large t) (tys_have_large ts) less in (type_fine types t w.0 parts.0, types_fine types ts w.1 parts.1)

  -- the parts of a joined shape
  pub joined_fine : (p c : Index) → Each (IsLetter InBlock) (norm_word (then_shape p c)) → Each (IsLetter InBlock) (norm_word p) × Each (IsLetter InBlock) (norm_word c)
  joined_fine p c h =
      let r = each_parts (IsLetter InBlock) (norm_word p) (norm_word c ++ []) h in
      (r.0, (each_parts (IsLetter InBlock) (norm_word c) [] r.1).0)

  -- what a rule concludes from a type's shape, where the concluded type is measured
  pub concluded_fine : (types : ℕ) (a : Ty) (s : Index) (t : Ty) → IsWellFormed types sorts t → Same (array_of a s) t → ty_has_large t ≡ false → Each (IsLetter InBlock) (norm_word s)
  concluded_fine types a s (Arr at t i) w same less =
      subst (Each (IsLetter InBlock)) (sym (same_words s i same.1)) (shape_fine i w.1 (neither (ty_has_large t) (has_large (norm_word i)) less).1)
  concluded_fine types a s (BaseTy at b) w same less = absurd same
  concluded_fine types a s (TyVar at k) w same less = absurd same
  concluded_fine types a s (Fun at ts r) w same less = absurd same
  concluded_fine types a s (Forall at n t) w same less = absurd same
  concluded_fine types a s (Pi at ss t) w same less = absurd same
  concluded_fine types a s (Sigma at ss t) w same less = absurd same

  -- ---- indices

  own_is : (s : Sort) (i : Index) → IsSorted sorts s i → own_sort sorts i ≡ Some s
  own_is s (Num at n) h = ap Some (sym h)
  own_is s (Var at k) h = h
  own_is s (Sum at is) h = ap Some (sym h.0)
  own_is s (Dims at is) h = ap Some (sym h.0)
  own_is s (Join at is) h = ap Some (sym h.0)

  at_fine : (s : Sort) (i : Index) → IsSorted sorts s i → measure_at s i ≡ None → IsNorm (norm_at s i)
  at_fine sort.Dim i h m = letter_fine (norm_dim i) (IsNormal-norm i) (CountsDims-norm sorts i h) (not_large (is_large (norm_dim i)) (dim_size (norm_dim i)) 0 m)
  at_fine sort.Shape i h m = all_of (IsLetter InBlock) (norm_word i) (shape_fine i h (not_large (has_large (norm_word i)) (word_size (norm_word i)) 0 m))

  pub index_fine : (s : Sort) (i : Index) → IsSorted sorts s i → measure_at s i ≡ None → IsNorm (norm_in sorts i)
  index_fine s i h m = subst (λ o. IsNorm (norm_by o i)) (sym (own_is s i h)) (at_fine s i h m)

-- ---- measures

-- a measured type has no large constant
pub no_large : (t : Ty) → measure_ty t ≡ None → ty_has_large t ≡ false
no_large t m = not_large (ty_has_large t) (ty_size t) (ty_depth t) m

-- equal types are measured alike
pub measure_same : (t u : Ty) → Same t u → measure_ty t ≡ None → measure_ty u ≡ None
measure_same t u s m = sym (measure_again u) ∙ sym (ap measure_ty (same_normal t u s)) ∙ measure_again t ∙ m

-- ---- notes

pub cell_normal : (t : Ty) → cell_word (norm_ty t) ≡ shape_word t
cell_normal (Arr at a i) = word_again i
cell_normal (BaseTy at b) = refl
cell_normal (TyVar at k) = refl
cell_normal (Fun at ts r) = refl
cell_normal (Forall at n t) = refl
cell_normal (Pi at ss t) = refl
cell_normal (Sigma at ss t) = refl

pub shape_same : (t u : Ty) → Same t u → shape_word t ≡ shape_word u
shape_same (BaseTy at b) (BaseTy at' c) s = refl
shape_same (TyVar at k) (TyVar at' l) s = refl
shape_same (Fun at ts r) (Fun at' us q) s = refl
shape_same (Forall at n t) (Forall at' m u) s = refl
shape_same (Pi at ss t) (Pi at' rs u) s = refl
shape_same (Sigma at ss t) (Sigma at' rs u) s = refl
shape_same (Arr at t i) (Arr at' u j) s = same_words i j s.1
shape_same _ _ s = absurd s

word_normal : (t : Ty) → norm_word (word_tree (shape_word t)) ≡ shape_word t
word_normal (Arr at a i) = word_again i
word_normal (BaseTy at b) = refl
word_normal (TyVar at k) = refl
word_normal (Fun at ts r) = refl
word_normal (Forall at n t) = refl
word_normal (Pi at ss t) = refl
word_normal (Sigma at ss t) = refl

pub words_normal : (ts : List Ty) → each norm_word (each word_tree (each shape_word ts)) ≡ each shape_word ts
words_normal [] = refl
words_normal (t ∷ ts) = λ i. word_normal t i ∷ words_normal ts i

-- the word of numbers
pub numbers_word : (ns : List ℕ) → norm_word (numbers ns) ≡ number_letters ns
numbers_word [] = refl
numbers_word (n ∷ ns) = ap (λ ls. letter.Dim (constant n) ∷ ls) (numbers_word ns)
