use Rattle.std.proofs.Common.{◌≡◌, ◌∙◌, refl, sym, ap, subst, true≢false}
use Rattle.core_syntax.specs.NormTypes.{norm_ty}
use Rattle.core_syntax.specs.Refine.{ty_of}
use Rattle.type_check.proofs.whole_programs.ProgramParts.{has_written, has_another}
use Rattle.type_check.proofs.program.has_written_type.Goals as goal

pub returns-then-same_part : goal.returns-then-same_part
returns-then-same_part c t is =
    has_written (ty_of c.args.found.now) (ty_of c.args.ty.now) t
    (sym (ap ty_of c.ty-own.ensures.tree) ∙ (c.if-same_part.ensures c.ty-own.ensures.normal c.ty-other.ensures.normal).0 refl ∙ ap ty_of c.ty-other.ensures.tree) is

pub returns-else-same_part : goal.returns-else-same_part
returns-else-same_part c t is = (
  has_another (ty_of c.args.found.now) (ty_of c.args.ty.now) t (subst (λ t. norm_ty (ty_of t) ≡ ty_of t) c.ty-own.ensures.tree c.ty-own.ensures.normal)
      (λ e. true≢false (sym ((c.if-same_part.ensures c.ty-own.ensures.normal c.ty-other.ensures.normal).1 (ap ty_of c.ty-own.ensures.tree ∙ e ∙ sym (ap ty_of c.ty-other.ensures.tree))))) is,
  refl,
)
