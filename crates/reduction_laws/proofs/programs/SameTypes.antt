-- Types of which it is merely known that they are the same are the same.
use Rattle.std.proofs.Common.{◌≡◌, refl, sym, ap, ◌∙◌, List, [], ◌∷◌}
use Rattle.std.proofs.Math.Logic.{∥∥₁_elim}
use Rattle.std.specs.Coded.{Coded-set, coded_list}
use Rattle.core_syntax.specs.declared.index.Index.{Index}
use Rattle.core_syntax.specs.declared.index.IndexForm.TheVariants.{Num, Var, Sum, Dims, Join}
use Rattle.core_syntax.specs.declared.ty.Ty.{Ty}
use Rattle.core_syntax.specs.declared.ty.TyForm.{Fun, Forall, Pi, Sigma, Arr}
use Rattle.core_syntax.specs.declared.ty.TyForm.TheVariants as form
use Rattle.core_syntax.specs.contracts.ty.Ty.{the_row}
use Rattle.core_syntax.specs.Lists.{each}
use Rattle.core_syntax.specs.Refine.{index_of, indices_of, ty_of, tys_of}
use Rattle.core_syntax.specs.Syntax as syntax
use Rattle.core_syntax.proofs.TreeRows.{form_of_sum, form_of_dims, form_of_join}
use Rattle.core_syntax.proofs.TyRows.{form_of_fun, form_of_forall, form_of_pi, form_of_sigma, form_of_arr}

-- the tree of an index, and the trees of the indices of a list
abbrev mutual
  index_tree : syntax.Index → Index
  index_tree (syntax.Num at n) = record { at = at; form = Num n }
  index_tree (syntax.Var at k) = record { at = at; form = Var k }
  index_tree (syntax.Sum at is) = record { at = at; form = Sum (index_trees is) }
  index_tree (syntax.Dims at is) = record { at = at; form = Dims (index_trees is) }
  index_tree (syntax.Join at is) = record { at = at; form = Join (index_trees is) }

  index_trees : syntax.Indices → List Index
  index_trees syntax.end = []
  index_trees (syntax.more i is) = index_tree i ∷ index_trees is

-- it stands for that index
mutual
  index_back : (i : syntax.Index) → index_of (index_tree i) ≡ i
  index_back (syntax.Num at n) = refl
  index_back (syntax.Var at k) = refl
  index_back (syntax.Sum at is) = form_of_sum at (index_trees is) ∙ ap (syntax.Sum at) (indices_back is)
  index_back (syntax.Dims at is) = form_of_dims at (index_trees is) ∙ ap (syntax.Dims at) (indices_back is)
  index_back (syntax.Join at is) = form_of_join at (index_trees is) ∙ ap (syntax.Join at) (indices_back is)

  indices_back : (is : syntax.Indices) → indices_of (index_trees is) ≡ is
  indices_back syntax.end = refl
  indices_back (syntax.more i is) = λ k. syntax.more (index_back i k) (indices_back is k)

-- the tree of a type, and the trees of the types of a list
abbrev mutual
  tree : syntax.Ty → Ty
  tree (syntax.BaseTy at b) = record { at = at; form = form.Base b }
  tree (syntax.TyVar at k) = record { at = at; form = form.Var k }
  tree (syntax.Fun at ts r) = record { at = at; form = Fun (trees ts) (tree r) }
  tree (syntax.Forall at n t) = record { at = at; form = Forall n (tree t) }
  tree (syntax.Pi at ss t) = record { at = at; form = Pi ss (tree t) }
  tree (syntax.Sigma at ss t) = record { at = at; form = Sigma ss (tree t) }
  tree (syntax.Arr at t i) = record { at = at; form = Arr (tree t) (index_tree i) }

  trees : syntax.Tys → List Ty
  trees syntax.no_tys = []
  trees (syntax.more_tys t ts) = tree t ∷ trees ts

-- it stands for that type
mutual
  back : (t : syntax.Ty) → ty_of (tree t) ≡ t
  back (syntax.BaseTy at b) = refl
  back (syntax.TyVar at k) = refl
  back (syntax.Fun at ts r) = form_of_fun at (trees ts) (tree r) ∙ (λ k. syntax.Fun at (all_back ts k) (back r k))
  back (syntax.Forall at n t) = form_of_forall at n (tree t) ∙ ap (syntax.Forall at n) (back t)
  back (syntax.Pi at ss t) = form_of_pi at ss (tree t) ∙ ap (syntax.Pi at ss) (back t)
  back (syntax.Sigma at ss t) = form_of_sigma at ss (tree t) ∙ ap (syntax.Sigma at ss) (back t)
  back (syntax.Arr at t i) = form_of_arr at (tree t) (index_tree i) ∙ (λ k. syntax.Arr at (back t k) (index_back i k))

  all_back : (ts : syntax.Tys) → tys_of (trees ts) ≡ ts
  all_back syntax.no_tys = refl
  all_back (syntax.more_tys t ts) = λ k. syntax.more_tys (back t k) (all_back ts k)

each_back : (ts : List syntax.Ty) → each ty_of (each tree ts) ≡ ts
each_back [] = refl
each_back (t ∷ ts) = λ k. back t k ∷ each_back ts k

-- lists of types of which it is merely known that they are the same are the same
pub same_types : (ts us : List syntax.Ty) → ∥ ts ≡ us ∥₁ → ts ≡ us
same_types ts us same =
    sym (each_back ts) ∙ ap (each ty_of) (∥∥₁_elim same (Coded-set (coded_list the_row.coded) (each tree ts) (each tree us)) (ap (each tree))) ∙ each_back us
