-- What follows at a node from the type that its rule gives.
use Rattle.std.proofs.Common.{◌≡◌, sym, subst, List, ◌∷◌, None, inr}
use Rattle.core_syntax.specs.declared.span.Span.{Span}
use Rattle.core_syntax.specs.Syntax.{Ty, Expr, expr_at}
use Rattle.core_syntax.specs.TypeEqual.{Same}
use Rattle.core_syntax.specs.NormTypes.{norm_ty, measure_ty}
use Rattle.core_syntax.specs.Typing.{Context, Has}
use Rattle.core_syntax.specs.Blame.{premises, expr_premises, measure}
use Rattle.core_syntax.specs.Notes.{NodeNote, NotesAre}
use Rattle.core_syntax.proofs.Equality.{same_sym}
use Rattle.core_syntax.proofs.NormTyLemmas.{norm_same}
use Rattle.core_syntax.proofs.Closed.{has_same}
use Rattle.type_check.specs.Contexts.{IsSound}
use Rattle.type_check.specs.declared.refusal.TypeRefusal.{TypeRefusal}
use Rattle.type_check.specs.Found.{Found, Refuses}
use Rattle.type_check.proofs.exits.Refusing.{refused_as}
use Rattle.type_check.proofs.normal_forms.NormSound.{sound_again}

module _ (Γ : Context) (e : Expr) (u t : Ty) (met : (premises Γ e).met) (has : Has Γ e u) (same : Same u t) (sound : IsSound Γ.types Γ.sorts t) where
  -- the node has each sound type that equals the rule's
  has_equal : Has Γ e t
  has_equal = has_same Γ e u t has same sound.formed

  -- a type whose measure is nothing is found, in normal form
  pub concluded : (n : Ty) (ns : List NodeNote) → n ≡ norm_ty t → measure_ty t ≡ None → NotesAre Γ e ns → Found Γ e n ns
  concluded n ns is fits notes = record {
    met = (met, (t, has_equal, fits));
    has = subst (Has Γ e) (sym is) (has_same Γ e t (norm_ty t) has_equal (same_sym (norm_ty t) t (norm_same t)) normal.formed);
    sound = subst (IsSound Γ.types Γ.sorts) (sym is) normal;
    notes = notes;
  }
    where
      normal : IsSound Γ.types Γ.sorts (norm_ty t)
      normal = sound_again Γ.types Γ.sorts t sound

  -- another is refused at the node's place
  pub refused : (at : Span) → expr_at e ≡ at → (r : TypeRefusal) → Refuses (measure (measure_ty t) at) r → Refuses (expr_premises Γ e) r
  refused at is r h =
      refused_as (measure (measure_ty t) (expr_at e)) (expr_premises Γ e) (λ q b. inr (met, (t, has_equal, b))) r
      (subst (λ at. Refuses (measure (measure_ty t) at) r) (sym is) h)
