-- Each primitive keeps types: on arguments of its inputs' types it gives its result's type, traps or folds.
use Rattle.std.proofs.Common.{◌≡◌, ◌∙◌, ap, ℕ, arith, List, [], ◌∷◌, Some, None}
use Rattle.core_syntax.specs.declared.primitive.Primitive.TheVariants as p
use Rattle.core_syntax.specs.Syntax.{Index, Ty}
use Rattle.core_syntax.specs.Kinds.{IsWellFormed}
use Rattle.core_syntax.specs.Subst.{kept, put_all, with_indices, ty_under_index}
use Rattle.reduction_laws.proofs.putting.TermSubst.{closed_under_index}
use Rattle.reduction_laws.proofs.putting.Binders.{closed_put}
use Rattle.reduction_laws.proofs.steps.Bodies.{DefsClosed}
use Rattle.reduction_laws.proofs.steps.Scalars.{PrimFine}
use Rattle.reduction_laws.proofs.primitives.Plain
use Rattle.reduction_laws.proofs.primitives.Arrays
use Rattle.reduction_laws.proofs.primitives.Boxes
use Rattle.reduction_laws.proofs.primitives.Folds
use Rattle.core_syntax.specs.Typing.{times}

-- a closed type under index binders, with indices in place
placed : (n : ℕ) (is : List Index) (u : Ty) → IsWellFormed 0 [] u → with_indices is (times n ty_under_index u) ≡ u
placed n is u w = ap (with_indices is) (closed_under_index n u w) ∙ closed_put (put_all is) kept u w

module _ (D : List Ty) (dc : DefsClosed D) where
  pub prims_fine : PrimFine D
  prims_fine p.Add None None ws b c es note h wf ve he n = Plain.rule_add D ws b c es note None wf.1 ve he n h
  prims_fine p.Add (Some vs) None ws b c es note h wf ve he n = absurd h
  prims_fine p.Add (Some vs) (Some ks) ws b c es note h wf ve he n = absurd h
  prims_fine p.Add None (Some ks) ws b c es note h wf ve he n = absurd h
  prims_fine p.Sub None None ws b c es note h wf ve he n = Plain.rule_sub D ws b c es note None wf.1 ve he n h
  prims_fine p.Sub (Some vs) None ws b c es note h wf ve he n = absurd h
  prims_fine p.Sub (Some vs) (Some ks) ws b c es note h wf ve he n = absurd h
  prims_fine p.Sub None (Some ks) ws b c es note h wf ve he n = absurd h
  prims_fine p.Mul None None ws b c es note h wf ve he n = Plain.rule_mul D ws b c es note None wf.1 ve he n h
  prims_fine p.Mul (Some vs) None ws b c es note h wf ve he n = absurd h
  prims_fine p.Mul (Some vs) (Some ks) ws b c es note h wf ve he n = absurd h
  prims_fine p.Mul None (Some ks) ws b c es note h wf ve he n = absurd h
  prims_fine p.Div None None ws b c es note h wf ve he n = Plain.rule_div D ws b c es note None wf.1 ve he n h
  prims_fine p.Div (Some vs) None ws b c es note h wf ve he n = absurd h
  prims_fine p.Div (Some vs) (Some ks) ws b c es note h wf ve he n = absurd h
  prims_fine p.Div None (Some ks) ws b c es note h wf ve he n = absurd h
  prims_fine p.Mod None None ws b c es note h wf ve he n = Plain.rule_mod D ws b c es note None wf.1 ve he n h
  prims_fine p.Mod (Some vs) None ws b c es note h wf ve he n = absurd h
  prims_fine p.Mod (Some vs) (Some ks) ws b c es note h wf ve he n = absurd h
  prims_fine p.Mod None (Some ks) ws b c es note h wf ve he n = absurd h
  prims_fine p.Min None None ws b c es note h wf ve he n = Plain.rule_min D ws b c es note None wf.1 ve he n h
  prims_fine p.Min (Some vs) None ws b c es note h wf ve he n = absurd h
  prims_fine p.Min (Some vs) (Some ks) ws b c es note h wf ve he n = absurd h
  prims_fine p.Min None (Some ks) ws b c es note h wf ve he n = absurd h
  prims_fine p.Max None None ws b c es note h wf ve he n = Plain.rule_max D ws b c es note None wf.1 ve he n h
  prims_fine p.Max (Some vs) None ws b c es note h wf ve he n = absurd h
  prims_fine p.Max (Some vs) (Some ks) ws b c es note h wf ve he n = absurd h
  prims_fine p.Max None (Some ks) ws b c es note h wf ve he n = absurd h
  prims_fine p.Equal None None ws b c es note h wf ve he n = Plain.rule_equal D ws b c es note None wf.1 ve he n h
  prims_fine p.Equal (Some vs) None ws b c es note h wf ve he n = absurd h
  prims_fine p.Equal (Some vs) (Some ks) ws b c es note h wf ve he n = absurd h
  prims_fine p.Equal None (Some ks) ws b c es note h wf ve he n = absurd h
  prims_fine p.Less None None ws b c es note h wf ve he n = Plain.rule_less D ws b c es note None wf.1 ve he n h
  prims_fine p.Less (Some vs) None ws b c es note h wf ve he n = absurd h
  prims_fine p.Less (Some vs) (Some ks) ws b c es note h wf ve he n = absurd h
  prims_fine p.Less None (Some ks) ws b c es note h wf ve he n = absurd h
  prims_fine p.AtMost None None ws b c es note h wf ve he n = Plain.rule_atmost D ws b c es note None wf.1 ve he n h
  prims_fine p.AtMost (Some vs) None ws b c es note h wf ve he n = absurd h
  prims_fine p.AtMost (Some vs) (Some ks) ws b c es note h wf ve he n = absurd h
  prims_fine p.AtMost None (Some ks) ws b c es note h wf ve he n = absurd h
  prims_fine p.CharEqual None None ws b c es note h wf ve he n = Plain.rule_charequal D ws b c es note None wf.1 ve he n h
  prims_fine p.CharEqual (Some vs) None ws b c es note h wf ve he n = absurd h
  prims_fine p.CharEqual (Some vs) (Some ks) ws b c es note h wf ve he n = absurd h
  prims_fine p.CharEqual None (Some ks) ws b c es note h wf ve he n = absurd h
  prims_fine p.CharLess None None ws b c es note h wf ve he n = Plain.rule_charless D ws b c es note None wf.1 ve he n h
  prims_fine p.CharLess (Some vs) None ws b c es note h wf ve he n = absurd h
  prims_fine p.CharLess (Some vs) (Some ks) ws b c es note h wf ve he n = absurd h
  prims_fine p.CharLess None (Some ks) ws b c es note h wf ve he n = absurd h
  prims_fine p.CharToInt None None ws b c es note h wf ve he n = Plain.rule_chartoint D ws b c es note None wf.1 ve he n h
  prims_fine p.CharToInt (Some vs) None ws b c es note h wf ve he n = absurd h
  prims_fine p.CharToInt (Some vs) (Some ks) ws b c es note h wf ve he n = absurd h
  prims_fine p.CharToInt None (Some ks) ws b c es note h wf ve he n = absurd h
  prims_fine p.BoolToInt None None ws b c es note h wf ve he n = Plain.rule_booltoint D ws b c es note None wf.1 ve he n h
  prims_fine p.BoolToInt (Some vs) None ws b c es note h wf ve he n = absurd h
  prims_fine p.BoolToInt (Some vs) (Some ks) ws b c es note h wf ve he n = absurd h
  prims_fine p.BoolToInt None (Some ks) ws b c es note h wf ve he n = absurd h
  prims_fine p.And None None ws b c es note h wf ve he n = Plain.rule_and D ws b c es note None wf.1 ve he n h
  prims_fine p.And (Some vs) None ws b c es note h wf ve he n = absurd h
  prims_fine p.And (Some vs) (Some ks) ws b c es note h wf ve he n = absurd h
  prims_fine p.And None (Some ks) ws b c es note h wf ve he n = absurd h
  prims_fine p.Or None None ws b c es note h wf ve he n = Plain.rule_or D ws b c es note None wf.1 ve he n h
  prims_fine p.Or (Some vs) None ws b c es note h wf ve he n = absurd h
  prims_fine p.Or (Some vs) (Some ks) ws b c es note h wf ve he n = absurd h
  prims_fine p.Or None (Some ks) ws b c es note h wf ve he n = absurd h
  prims_fine p.Not None None ws b c es note h wf ve he n = Plain.rule_not D ws b c es note None wf.1 ve he n h
  prims_fine p.Not (Some vs) None ws b c es note h wf ve he n = absurd h
  prims_fine p.Not (Some vs) (Some ks) ws b c es note h wf ve he n = absurd h
  prims_fine p.Not None (Some ks) ws b c es note h wf ve he n = absurd h
  prims_fine p.Select (Some vs) None ws b c es note h wf ve he n = Plain.rule_select D ws b c es note (Some vs) wf.1 ve he n vs h
  prims_fine p.Select None None ws b c es note h wf ve he n = absurd h.1
  prims_fine p.Select (Some vs) (Some ks) ws b c es note h wf ve he n = absurd h.2
  prims_fine p.Select None (Some ks) ws b c es note h wf ve he n = absurd h
  prims_fine p.Iota None (Some (i ∷ [])) ws b c es note h wf ve he n = Boxes.rule_iota D dc ws b c es note None (i ∷ []) wf.1 ve he n i h
  prims_fine p.Iota None (Some []) ws b c es note h wf ve he n = absurd h.0
  prims_fine p.Iota None (Some (i ∷ j ∷ ks)) ws b c es note h wf ve he n = absurd h.0.1
  prims_fine p.Iota None None ws b c es note h wf ve he n = absurd h.1
  prims_fine p.Iota (Some vs) None ws b c es note h wf ve he n = absurd h
  prims_fine p.Iota (Some vs) (Some ks) ws b c es note h wf ve he n = absurd h
  prims_fine p.Reverse (Some vs) (Some (i ∷ j ∷ [])) ws b c es note h wf ve he n = Arrays.rule_reverse D ws b c es note vs (i ∷ j ∷ []) wf.1 ve he n i j h
  prims_fine p.Reverse (Some vs) (Some []) ws b c es note h wf ve he n = absurd h.2.0
  prims_fine p.Reverse (Some vs) (Some (i ∷ [])) ws b c es note h wf ve he n = absurd h.2.0.1
  prims_fine p.Reverse (Some vs) (Some (i ∷ j ∷ k ∷ ks)) ws b c es note h wf ve he n = absurd h.2.0.1.1
  prims_fine p.Reverse (Some vs) None ws b c es note h wf ve he n = absurd h.2.1
  prims_fine p.Reverse None None ws b c es note h wf ve he n = absurd h.1
  prims_fine p.Reverse None (Some ks) ws b c es note h wf ve he n = absurd h
  prims_fine p.Replicate (Some vs) (Some (i ∷ j ∷ [])) ws b c es note h wf ve he n = Arrays.rule_replicate D ws b c es note vs (i ∷ j ∷ []) wf.1 ve he n i j h
  prims_fine p.Replicate (Some vs) (Some []) ws b c es note h wf ve he n = absurd h.2.0
  prims_fine p.Replicate (Some vs) (Some (i ∷ [])) ws b c es note h wf ve he n = absurd h.2.0.1
  prims_fine p.Replicate (Some vs) (Some (i ∷ j ∷ k ∷ ks)) ws b c es note h wf ve he n = absurd h.2.0.1.1
  prims_fine p.Replicate (Some vs) None ws b c es note h wf ve he n = absurd h.2.1
  prims_fine p.Replicate None None ws b c es note h wf ve he n = absurd h.1
  prims_fine p.Replicate None (Some ks) ws b c es note h wf ve he n = absurd h
  prims_fine p.Length (Some vs) (Some (i ∷ j ∷ [])) ws b c es note h wf ve he n = Arrays.rule_length D ws b c es note vs (i ∷ j ∷ []) wf.1 ve he n i j h
  prims_fine p.Length (Some vs) (Some []) ws b c es note h wf ve he n = absurd h.2.0
  prims_fine p.Length (Some vs) (Some (i ∷ [])) ws b c es note h wf ve he n = absurd h.2.0.1
  prims_fine p.Length (Some vs) (Some (i ∷ j ∷ k ∷ ks)) ws b c es note h wf ve he n = absurd h.2.0.1.1
  prims_fine p.Length (Some vs) None ws b c es note h wf ve he n = absurd h.2.1
  prims_fine p.Length None None ws b c es note h wf ve he n = absurd h.1
  prims_fine p.Length None (Some ks) ws b c es note h wf ve he n = absurd h
  prims_fine p.Positions (Some vs) (Some (i ∷ j ∷ [])) ws b c es note h wf ve he n = Arrays.rule_positions D ws b c es note vs (i ∷ j ∷ []) wf.1 ve he n i j h
  prims_fine p.Positions (Some vs) (Some []) ws b c es note h wf ve he n = absurd h.2.0
  prims_fine p.Positions (Some vs) (Some (i ∷ [])) ws b c es note h wf ve he n = absurd h.2.0.1
  prims_fine p.Positions (Some vs) (Some (i ∷ j ∷ k ∷ ks)) ws b c es note h wf ve he n = absurd h.2.0.1.1
  prims_fine p.Positions (Some vs) None ws b c es note h wf ve he n = absurd h.2.1
  prims_fine p.Positions None None ws b c es note h wf ve he n = absurd h.1
  prims_fine p.Positions None (Some ks) ws b c es note h wf ve he n = absurd h
  prims_fine p.IndexOr (Some vs) (Some (i ∷ j ∷ [])) ws b c es note h wf ve he n = Arrays.rule_index_or D ws b c es note vs (i ∷ j ∷ []) wf.1 ve he n i j h
  prims_fine p.IndexOr (Some vs) (Some []) ws b c es note h wf ve he n = absurd h.2.0
  prims_fine p.IndexOr (Some vs) (Some (i ∷ [])) ws b c es note h wf ve he n = absurd h.2.0.1
  prims_fine p.IndexOr (Some vs) (Some (i ∷ j ∷ k ∷ ks)) ws b c es note h wf ve he n = absurd h.2.0.1.1
  prims_fine p.IndexOr (Some vs) None ws b c es note h wf ve he n = absurd h.2.1
  prims_fine p.IndexOr None None ws b c es note h wf ve he n = absurd h.1
  prims_fine p.IndexOr None (Some ks) ws b c es note h wf ve he n = absurd h
  prims_fine p.Append (Some vs) (Some (i ∷ j ∷ k ∷ [])) ws b c es note h wf ve he n = Arrays.rule_append D ws b c es note vs (i ∷ j ∷ k ∷ []) wf.1 ve he n i j k h
  prims_fine p.Append (Some vs) (Some []) ws b c es note h wf ve he n = absurd h.2.0
  prims_fine p.Append (Some vs) (Some (i ∷ [])) ws b c es note h wf ve he n = absurd h.2.0.1
  prims_fine p.Append (Some vs) (Some (i ∷ j ∷ [])) ws b c es note h wf ve he n = absurd h.2.0.1.1
  prims_fine p.Append (Some vs) (Some (i ∷ j ∷ k ∷ l ∷ ks)) ws b c es note h wf ve he n = absurd h.2.0.1.1.1
  prims_fine p.Append (Some vs) None ws b c es note h wf ve he n = absurd h.2.1
  prims_fine p.Append None None ws b c es note h wf ve he n = absurd h.1
  prims_fine p.Append None (Some ks) ws b c es note h wf ve he n = absurd h
  prims_fine p.Take (Some vs) (Some (i ∷ j ∷ k ∷ [])) ws b c es note h wf ve he n = Arrays.rule_take D ws b c es note vs (i ∷ j ∷ k ∷ []) wf.1 ve he n i j k h
  prims_fine p.Take (Some vs) (Some []) ws b c es note h wf ve he n = absurd h.2.0
  prims_fine p.Take (Some vs) (Some (i ∷ [])) ws b c es note h wf ve he n = absurd h.2.0.1
  prims_fine p.Take (Some vs) (Some (i ∷ j ∷ [])) ws b c es note h wf ve he n = absurd h.2.0.1.1
  prims_fine p.Take (Some vs) (Some (i ∷ j ∷ k ∷ l ∷ ks)) ws b c es note h wf ve he n = absurd h.2.0.1.1.1
  prims_fine p.Take (Some vs) None ws b c es note h wf ve he n = absurd h.2.1
  prims_fine p.Take None None ws b c es note h wf ve he n = absurd h.1
  prims_fine p.Take None (Some ks) ws b c es note h wf ve he n = absurd h
  prims_fine p.Drop (Some vs) (Some (i ∷ j ∷ k ∷ [])) ws b c es note h wf ve he n = Arrays.rule_drop D ws b c es note vs (i ∷ j ∷ k ∷ []) wf.1 ve he n i j k h
  prims_fine p.Drop (Some vs) (Some []) ws b c es note h wf ve he n = absurd h.2.0
  prims_fine p.Drop (Some vs) (Some (i ∷ [])) ws b c es note h wf ve he n = absurd h.2.0.1
  prims_fine p.Drop (Some vs) (Some (i ∷ j ∷ [])) ws b c es note h wf ve he n = absurd h.2.0.1.1
  prims_fine p.Drop (Some vs) (Some (i ∷ j ∷ k ∷ l ∷ ks)) ws b c es note h wf ve he n = absurd h.2.0.1.1.1
  prims_fine p.Drop (Some vs) None ws b c es note h wf ve he n = absurd h.2.1
  prims_fine p.Drop None None ws b c es note h wf ve he n = absurd h.1
  prims_fine p.Drop None (Some ks) ws b c es note h wf ve he n = absurd h
  prims_fine p.Reshape (Some vs) (Some (i ∷ j ∷ [])) ws b c es note h wf ve he n = Boxes.rule_reshape D dc ws b c es note (Some vs) (i ∷ j ∷ []) wf.1 ve he n vs i j h
  prims_fine p.Reshape (Some vs) (Some []) ws b c es note h wf ve he n = absurd h.2.0
  prims_fine p.Reshape (Some vs) (Some (i ∷ [])) ws b c es note h wf ve he n = absurd h.2.0.1
  prims_fine p.Reshape (Some vs) (Some (i ∷ j ∷ k ∷ ks)) ws b c es note h wf ve he n = absurd h.2.0.1.1
  prims_fine p.Reshape (Some vs) None ws b c es note h wf ve he n = absurd h.2.1
  prims_fine p.Reshape None None ws b c es note h wf ve he n = absurd h.1
  prims_fine p.Reshape None (Some ks) ws b c es note h wf ve he n = absurd h
  prims_fine p.Filter (Some vs) (Some (i ∷ j ∷ [])) ws b c es note h wf ve he n = Boxes.rule_filter D dc ws b c es note (Some vs) (i ∷ j ∷ []) wf.1 ve he n vs i j h
  prims_fine p.Filter (Some vs) (Some []) ws b c es note h wf ve he n = absurd h.2.0
  prims_fine p.Filter (Some vs) (Some (i ∷ [])) ws b c es note h wf ve he n = absurd h.2.0.1
  prims_fine p.Filter (Some vs) (Some (i ∷ j ∷ k ∷ ks)) ws b c es note h wf ve he n = absurd h.2.0.1.1
  prims_fine p.Filter (Some vs) None ws b c es note h wf ve he n = absurd h.2.1
  prims_fine p.Filter None None ws b c es note h wf ve he n = absurd h.1
  prims_fine p.Filter None (Some ks) ws b c es note h wf ve he n = absurd h
  prims_fine p.Ravel (Some vs) (Some (i ∷ [])) ws b c es note h wf ve he n = Boxes.rule_ravel D dc ws b c es note (Some vs) (i ∷ []) wf.1 ve he n vs i h
  prims_fine p.Ravel (Some vs) (Some []) ws b c es note h wf ve he n = absurd h.2.0
  prims_fine p.Ravel (Some vs) (Some (i ∷ j ∷ ks)) ws b c es note h wf ve he n = absurd h.2.0.1
  prims_fine p.Ravel (Some vs) None ws b c es note h wf ve he n = absurd h.2.1
  prims_fine p.Ravel None None ws b c es note h wf ve he n = absurd h.1
  prims_fine p.Ravel None (Some ks) ws b c es note h wf ve he n = absurd h
  prims_fine p.Transpose (Some vs) (Some (i ∷ j ∷ k ∷ [])) ws b c es note h wf ve he n = Folds.rule_transpose D ws b c es note wf.1 ve he n vs i j k h
  prims_fine p.Transpose (Some vs) (Some []) ws b c es note h wf ve he n = absurd h.2.0
  prims_fine p.Transpose (Some vs) (Some (i ∷ [])) ws b c es note h wf ve he n = absurd h.2.0.1
  prims_fine p.Transpose (Some vs) (Some (i ∷ j ∷ [])) ws b c es note h wf ve he n = absurd h.2.0.1.1
  prims_fine p.Transpose (Some vs) (Some (i ∷ j ∷ k ∷ l ∷ ks)) ws b c es note h wf ve he n = absurd h.2.0.1.1.1
  prims_fine p.Transpose (Some vs) None ws b c es note h wf ve he n = absurd h.2.1
  prims_fine p.Transpose None None ws b c es note h wf ve he n = absurd h.1
  prims_fine p.Transpose None (Some ks) ws b c es note h wf ve he n = absurd h
  prims_fine p.Reduce (Some (u ∷ [])) (Some (i ∷ j ∷ [])) ws b c es note h wf ve he n = Folds.rule_reduce D ws b c es note wf.1 ve he n u i j h.1.0 (placed 2 (i ∷ j ∷ []) u h.1.0.1) h
  prims_fine p.Reduce (Some (u ∷ [])) (Some []) ws b c es note h wf ve he n = absurd h.2.0
  prims_fine p.Reduce (Some (u ∷ [])) (Some (i ∷ [])) ws b c es note h wf ve he n = absurd h.2.0.1
  prims_fine p.Reduce (Some (u ∷ [])) (Some (i ∷ j ∷ k ∷ ks)) ws b c es note h wf ve he n = absurd h.2.0.1.1
  prims_fine p.Reduce (Some []) (Some ks) ws b c es note h wf ve he n = absurd (let e = h.0 in omega arith)
  prims_fine p.Reduce (Some (u ∷ t ∷ vs)) (Some ks) ws b c es note h wf ve he n = absurd (let e = h.0 in omega arith)
  prims_fine p.Reduce (Some vs) None ws b c es note h wf ve he n = absurd h.2.1
  prims_fine p.Reduce None None ws b c es note h wf ve he n = absurd h.1
  prims_fine p.Reduce None (Some ks) ws b c es note h wf ve he n = absurd h
  prims_fine p.Fold (Some (t ∷ u ∷ [])) (Some (i ∷ j ∷ k ∷ [])) ws b c es note h wf ve he n = Folds.rule_fold D ws b c es note wf.1 ve he n t u i j k h.1.0 h.1.1.0 (placed 3 (i ∷ j ∷ k ∷ []) t h.1.0.1) (placed 3 (i ∷ j ∷ k ∷ []) u h.1.1.0.1) h
  prims_fine p.Fold (Some (t ∷ u ∷ [])) (Some []) ws b c es note h wf ve he n = absurd h.2.0
  prims_fine p.Fold (Some (t ∷ u ∷ [])) (Some (i ∷ [])) ws b c es note h wf ve he n = absurd h.2.0.1
  prims_fine p.Fold (Some (t ∷ u ∷ [])) (Some (i ∷ j ∷ [])) ws b c es note h wf ve he n = absurd h.2.0.1.1
  prims_fine p.Fold (Some (t ∷ u ∷ [])) (Some (i ∷ j ∷ k ∷ l ∷ ks)) ws b c es note h wf ve he n = absurd h.2.0.1.1.1
  prims_fine p.Fold (Some []) (Some ks) ws b c es note h wf ve he n = absurd (let e = h.0 in omega arith)
  prims_fine p.Fold (Some (t ∷ [])) (Some ks) ws b c es note h wf ve he n = absurd (let e = h.0 in omega arith)
  prims_fine p.Fold (Some (t ∷ u ∷ v ∷ vs)) (Some ks) ws b c es note h wf ve he n = absurd (let e = h.0 in omega arith)
  prims_fine p.Fold (Some vs) None ws b c es note h wf ve he n = absurd h.2.1
  prims_fine p.Fold None None ws b c es note h wf ve he n = absurd h.1
  prims_fine p.Fold None (Some ks) ws b c es note h wf ve he n = absurd h
