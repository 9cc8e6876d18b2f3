-- What a rule concludes from the type that it gives.
use Rattle.std.proofs.Common.{◌≡◌, ◌∙◌, sym, subst, List, ◌∷◌}
use Rattle.std.specs.Prelude.{Result, Ok, Err}
use Rattle.core_syntax.specs.declared.span.Span.{Span}
use Rattle.core_syntax.specs.Syntax.{Ty, Expr, expr_at}
use Rattle.core_syntax.specs.Refine.{ty_of}
use Rattle.core_syntax.specs.TypeEqual.{Same}
use Rattle.core_syntax.specs.NormTypes.{norm_ty, measure_ty}
use Rattle.core_syntax.specs.Notes.{NodeNote, NotesAre}
use Rattle.core_syntax.specs.Typing.{Context, Has, Takes}
use Rattle.core_syntax.specs.Blame.{Premises, premises, measure, with_any}
use Rattle.core_syntax.proofs.Equality.{same_refl, same_sym}
use Rattle.core_syntax.proofs.NormTyLemmas.{norm_same, same_normal}
use Rattle.type_check.specs.declared.concluded.Concluded.{Concluded}
use Rattle.type_check.specs.declared.refusal.TypeRefusal.{TypeRefusal}
use Rattle.type_check.specs.Contexts.{IsSound}
use Rattle.type_check.specs.Found.{Refuses, Concludes}
use Rattle.type_check.specs.Written.{Tells}
use Rattle.type_check.specs.Framed.{Answers}
use Rattle.type_check.proofs.exits.Refusing.{in_later, in_any}
use Rattle.type_check.proofs.normal_forms.NormSound.{sound_again}
use Rattle.type_check.proofs.trees.FramedLemmas.{measure_same}

module _ (Γ : Context) (e : Expr) (u x : Ty) (note : NodeNote) (ns : List NodeNote)
    (met : (premises Γ e).met) (takes : (t : Ty) → Takes Γ u t → Has Γ e t) (sound : IsSound Γ.types Γ.sorts u) (same : Same u x) where
  has_normal : Has Γ e (norm_ty u)
  has_normal = takes (norm_ty u) ((sound_again Γ.types Γ.sorts u sound).formed, same_sym (norm_ty u) u (norm_same u))

  has_rule : Has Γ e u
  has_rule = takes u (sound.formed, same_refl u)

  -- a measure of the type is one of the expression's
  pub measured : (at : Span) (r : TypeRefusal) → at ≡ expr_at e → Refuses (measure (measure_ty x) at) r → Refuses (Rattle.core_syntax.specs.Blame.expr_premises Γ e) r
  measured at r place h =
      in_later (premises Γ e) (with_any (Has Γ e) (λ t. measure (measure_ty t) (expr_at e))) r met
      (in_any (Has Γ e) (λ t. measure (measure_ty t) (expr_at e)) u r has_rule
      (subst (λ o. Refuses (measure o (expr_at e)) r) (sym (measure_same u x same)) (subst (λ at. Refuses (measure (measure_ty x) at) r) place h)))

  pub concludes : (at : Span) (r : Result Concluded TypeRefusal) → at ≡ expr_at e → NotesAre Γ e (note ∷ ns) → Tells (measure (measure_ty x) at) (Answers x note) r → Concludes Γ e ns r
  concludes at (Err r) place notes told = measured at r place told
  concludes at (Ok c) place notes told = record {
    met = (met, (u, has_rule, measure_same u x same ∙ told.0));
    has = subst (Has Γ e) is has_normal;
    sound = subst (IsSound Γ.types Γ.sorts) is (sound_again Γ.types Γ.sorts u sound);
    notes = subst (λ n. NotesAre Γ e (n ∷ ns)) (sym told.1.0) notes;
  }
    where
      is : norm_ty u ≡ ty_of c.ty
      is = same_normal u x same ∙ sym told.1.1
