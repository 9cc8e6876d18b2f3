-- Normal types, their measures and their text.
use Rattle.std.specs.Prelude.{ℕ, suc, ◌+◌, max, Bool, false, ◌||◌, List, [], ◌∷◌, ◌++◌, length, Option, codes, decimal}
use Rattle.core_syntax.specs.declared.index.Sort.{Sort}
use Rattle.core_syntax.specs.declared.index.Sort.TheVariants as sort
use Rattle.core_syntax.specs.declared.ty.Base.{Base}
use Rattle.core_syntax.specs.declared.ty.Base.TheVariants as base
use Rattle.core_syntax.specs.Syntax.{Ty, BaseTy, TyVar, Fun, Forall, Pi, Sigma, Arr, Tys, no_tys, more_tys, no_span}
use Rattle.core_syntax.specs.Word.{word_size}
use Rattle.core_syntax.specs.Norm.{norm_word, word_tree, has_large, measured, spaced, bracketed, index_text}

-- ---- normal types

-- the normal type, as a tree without places
abbrev mutual
  pub norm_ty : Ty → Ty
  norm_ty (BaseTy at b) = BaseTy no_span b
  norm_ty (TyVar at k) = TyVar no_span k
  norm_ty (Fun at ts r) = Fun no_span (norm_tys ts) (norm_ty r)
  norm_ty (Forall at n t) = Forall no_span n (norm_ty t)
  norm_ty (Pi at ss t) = Pi no_span ss (norm_ty t)
  norm_ty (Sigma at ss t) = Sigma no_span ss (norm_ty t)
  norm_ty (Arr at t i) = Arr no_span (norm_ty t) (word_tree (norm_word i))

  -- the normal types of a list
  pub norm_tys : Tys → Tys
  norm_tys no_tys = no_tys
  norm_tys (more_tys t ts) = more_tys (norm_ty t) (norm_tys ts)

-- ---- sizes, depths and constants of normal types

-- the size of a type in normal form: 1 for each node and each binder, and the size of the word of each shape
abbrev mutual
  pub ty_size : Ty → ℕ
  ty_size (BaseTy at b) = 1
  ty_size (TyVar at k) = 1
  ty_size (Fun at ts r) = 1 + (tys_size ts + ty_size r)
  ty_size (Forall at n t) = 1 + (n + ty_size t)
  ty_size (Pi at ss t) = 1 + (length ss + ty_size t)
  ty_size (Sigma at ss t) = 1 + (length ss + ty_size t)
  ty_size (Arr at t i) = 1 + (ty_size t + word_size (norm_word i))

  -- the sizes of a list, added up
  pub tys_size : Tys → ℕ
  tys_size no_tys = 0
  tys_size (more_tys t ts) = ty_size t + tys_size ts

-- how deep a type is nested; a shape adds nothing
abbrev mutual
  pub ty_depth : Ty → ℕ
  ty_depth (BaseTy at b) = 1
  ty_depth (TyVar at k) = 1
  ty_depth (Fun at ts r) = 1 + max (tys_depth ts) (ty_depth r)
  ty_depth (Forall at n t) = 1 + ty_depth t
  ty_depth (Pi at ss t) = 1 + ty_depth t
  ty_depth (Sigma at ss t) = 1 + ty_depth t
  ty_depth (Arr at t i) = 1 + ty_depth t

  -- the greatest depth of a list
  pub tys_depth : Tys → ℕ
  tys_depth no_tys = 0
  tys_depth (more_tys t ts) = max (ty_depth t) (tys_depth ts)

-- some constant in a shape is too large
abbrev mutual
  pub ty_has_large : Ty → Bool
  ty_has_large (BaseTy at b) = false
  ty_has_large (TyVar at k) = false
  ty_has_large (Fun at ts r) = tys_have_large ts || ty_has_large r
  ty_has_large (Forall at n t) = ty_has_large t
  ty_has_large (Pi at ss t) = ty_has_large t
  ty_has_large (Sigma at ss t) = ty_has_large t
  ty_has_large (Arr at t i) = ty_has_large t || has_large (norm_word i)

  -- and in a shape of a list's types
  pub tys_have_large : Tys → Bool
  tys_have_large no_tys = false
  tys_have_large (more_tys t ts) = ty_has_large t || tys_have_large ts

-- the measure of a type: of its normal form
abbrev pub measure_ty : Ty → Option ℕ
measure_ty t = measured (ty_has_large t) (ty_size t) (ty_depth t)

-- ---- the text of a printable type

-- the text of a sort
abbrev pub sort_text : Sort → List ℕ
sort_text sort.Dim = codes "Dim"
sort_text sort.Shape = codes "Shape"

-- the text of a base type
abbrev pub base_text : Base → List ℕ
base_text base.Int = codes "Int"
base_text base.Bool = codes "Bool"
base_text base.Char = codes "Char"

-- the binders of a list, numbered from this number on
abbrev pub binder_texts : ℕ → List Sort → List (List ℕ)
binder_texts n [] = []
binder_texts n (s ∷ ss) = (codes "(i" ++ decimal n ++ codes " " ++ sort_text s ++ codes ")") ∷ binder_texts (suc n) ss

-- parts in brackets, with a space between each two
abbrev pub list_text : List (List ℕ) → List ℕ
list_text [] = codes "()"
list_text (x ∷ xs) = codes "(" ++ x ++ spaced xs ++ codes ")"

-- the text of a printable type; a type that is not printable has none
abbrev pub ty_text_under : ℕ → Ty → List ℕ
ty_text_under binders (BaseTy at b) = base_text b
ty_text_under binders (Sigma at ss t) = bracketed (codes "Sigma") (list_text (binder_texts binders ss) ∷ ty_text_under (length ss + binders) t ∷ [])
ty_text_under binders (Arr at t i) = bracketed (codes "A") (ty_text_under binders t ∷ index_text binders (word_tree (norm_word i)) ∷ [])
ty_text_under binders _ = []

-- the text of a closed type
abbrev pub ty_text : Ty → List ℕ
ty_text t = ty_text_under 0 t
