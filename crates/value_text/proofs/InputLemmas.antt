-- What the types of inputs come to.
use Rattle.std.proofs.Common.{◌≡◌, refl, sym, ap, ◌∙◌, ℕ, Bool, false, List, [], Some, None, if◌then◌else◌}
use Rattle.core_syntax.specs.declared.index.Sort.{Sort}
use Rattle.core_syntax.specs.declared.ty.Base.{Base}
use Rattle.core_syntax.specs.Lists.{same_numbers}
use Rattle.core_syntax.specs.Norm.{word_tree}
use Rattle.core_syntax.specs.NormValue.{word_value_under}
use Rattle.core_syntax.specs.Syntax as syntax
use Rattle.core_syntax.specs.Syntax.{Ty, no_span}
use Rattle.core_syntax.specs.Terms.{IndexValue}
use Rattle.core_syntax.specs.Typed.{atom_type}
use Rattle.core_syntax.specs.Value.{shape_val}
use Rattle.core_syntax.specs.Word.{Word}
use Rattle.core_syntax.proofs.NormTyLemmas.{word_tree_value}
use Rattle.machine_table.specs.declared.code.Param.{Param as Tree}
use Rattle.machine_table.specs.declared.code.Elem.{Elem, Sigma}
use Rattle.machine_table.specs.declared.code.Elem.TheVariants as elem
use Rattle.machine_table.specs.declared.code.Elem.TheBlock.{hidden-the_row-Param-0}
use Rattle.machine_table.specs.Codes.{boxed, of_elem, param_of}
use Rattle.machine_table.specs.ParamTypes.{type_of}
use Rattle.value_text.specs.DataRead.{hidden, has_dims, same_base, is_base, have_sorts, body_for}
use Rattle.value_text.specs.InputTypes.{param_type, elem_type}

elem_of_sigma : (ss : List Sort) (p : Tree) (shape : Word) → of_elem (Sigma ss p) shape ≡ boxed ss shape (param_of p)
unfolding hidden-the_row-Param-0 denote.Hole.Carrier.hidden
elem_of_sigma ss p shape = refl

-- ---- the type of atoms

pub elem_is : (p : Tree) → elem_type p.elem ≡ atom_type (param_type p)
elem_is p = go p.elem
  where
    go : (e : Elem) → elem_type e ≡ atom_type (type_of (of_elem e p.shape))
    go (elem.Base b) = refl
    go (elem.Sigma' ss s row) = refl

sigma_is : (ss : List Sort) (p : Tree) → elem_type (Sigma ss p) ≡ syntax.Sigma no_span ss (param_type p)
sigma_is ss p = ap (λ q. atom_type (type_of q)) (elem_of_sigma ss p [])

module _ (e : Elem) where
  -- atoms of a base type
  module _ (c : Base) (is : e ≡ elem.Base c) where
    pub base_is : (b : Base) → is_base b (elem_type e) ≡ same_base b c
    base_is b = ap (λ x. is_base b (elem_type x)) is

    pub no_body : (vs : List IndexValue) → body_for (elem_type e) vs ≡ None
    no_body vs = ap (λ x. body_for (elem_type x) vs) is

  -- boxes
  module _ (ss : List Sort) (p : Tree) (is : e ≡ Sigma ss p) where
    pub no_base : (b : Base) → is_base b (elem_type e) ≡ false
    no_base b = ap (λ x. is_base b (elem_type x)) is ∙ ap (is_base b) (sigma_is ss p)

    pub body_is : (now : List Sort) (p' : Tree) (vs : List IndexValue) → now ≡ ss → p' ≡ p → (b : Bool) → have_sorts now vs ≡ b → body_for (elem_type e) vs ≡ (if b then Some (param_type p') else None)
    body_is now p' vs s q b h =
        ap (λ x. body_for (elem_type x) vs) is ∙ ap (λ t. body_for t vs) (sigma_is ss p)
        ∙ ap (λ rs. if have_sorts rs vs then Some (param_type p) else None) (sym s)
        ∙ ap (λ r. if have_sorts now vs then Some (param_type r) else None) (sym q)
        ∙ ap (λ (b : Bool). if b then Some (param_type p') else None) h

-- ---- the dims of arrays

pub dims_are : (vs : List IndexValue) (p : Tree) (dims : List ℕ) → has_dims vs (param_type p) dims ≡ same_numbers (word_value_under (hidden vs) p.shape) dims
dims_are vs p dims = go p.elem ∙ ap (λ s. same_numbers s dims) (word_tree_value (hidden vs) p.shape)
  where
    go : (e : Elem) → has_dims vs (type_of (of_elem e p.shape)) dims ≡ same_numbers (shape_val (hidden vs) (word_tree p.shape)) dims
    go (elem.Base b) = refl
    go (elem.Sigma' ss s row) = refl
