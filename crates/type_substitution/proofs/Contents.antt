-- The types of the contents of boxes.
use Rattle.std.proofs.Common.{◌≡◌, refl, sym, ap, ◌∙◌, List, []}
use Rattle.core_syntax.specs.declared.index.Sort.{Sort}
use Rattle.core_syntax.specs.declared.index.Index.{Index as IndexTree}
use Rattle.core_syntax.specs.declared.ty.Ty.{Ty as Tree}
use Rattle.core_syntax.specs.declared.ty.TyForm.{Sigma}
use Rattle.core_syntax.specs.Lists.{each}
use Rattle.core_syntax.specs.Refine.{index_of, ty_of}
use Rattle.core_syntax.specs.Typed.{put_in_ty, content_type}
use Rattle.core_syntax.proofs.TyRows.{is_sigma}
use Rattle.type_substitution.specs.Putting.{puts_at}
use Rattle.type_substitution.proofs.Fates.{put_indices_only}

module _ (t u u' : Tree) (ss : List Sort) (is : List IndexTree) (q : u' ≡ u) (e : t.form ≡ Sigma ss u) where
  pub sigma_content : put_in_ty (puts_at 0 0 is []) (ty_of u') ≡ content_type (ty_of t) (each index_of is)
  sigma_content = ap (λ σ. put_in_ty σ (ty_of u')) (put_indices_only is) ∙ sym (ap (λ w. content_type w (each index_of is)) (is_sigma t ss ss u u' refl q e))
