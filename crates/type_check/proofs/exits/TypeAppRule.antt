-- An application to types: what is told at each of its exits.
use Rattle.std.proofs.Common.{◌≡◌, ◌∙◌, refl, sym, ap, subst, ℕ, ◌+◌, List, length}
use Rattle.std.specs.Prelude.{Result}
use Rattle.core_syntax.specs.declared.span.Span.{Span}
use Rattle.core_syntax.specs.declared.ty.Ty.{Ty as Tree}
use Rattle.core_syntax.specs.Syntax.{Index, Ty, Forall, Arr, no_span, Expr, TypeApp, expr_at}
use Rattle.core_syntax.specs.Lists.{each, Each}
use Rattle.core_syntax.specs.Kinds.{IsWellFormed}
use Rattle.core_syntax.specs.Made.{HoldsArrays, IsArray}
use Rattle.core_syntax.specs.TypeEqual.{Same}
use Rattle.core_syntax.specs.Subst.{kept, put_all, with_types}
use Rattle.core_syntax.specs.NormTypes.{norm_ty, measure_ty}
use Rattle.core_syntax.specs.Notes.{NodeNote, cell_note}
use Rattle.core_syntax.specs.Refine.{ty_of}
use Rattle.core_syntax.specs.Typing.{Context, Has}
use Rattle.core_syntax.specs.Blame.{Premises, premise, premises, expr_premises, measure, with_any, ◌then◌, IsForall, of_forall, all_written_atoms}
use Rattle.core_syntax.proofs.Equality.{same_sym}
use Rattle.core_syntax.proofs.NormTyLemmas.{norm_same, same_normal}
use Rattle.type_check.specs.declared.concluded.Concluded.{Concluded}
use Rattle.type_check.specs.declared.refusal.TypeRefusal.{TypeRefusal}
use Rattle.type_check.specs.declared.refusal.TypeRefusal.TheVariants.{Refused}
use Rattle.type_check.specs.Contexts.{IsSound}
use Rattle.type_check.specs.Found.{Refuses, Found, Concludes}
use Rattle.type_check.specs.Framed.{framed, Answers}
use Rattle.type_check.specs.Written.{Tells, AreNormalAtomsOf}
use Rattle.type_check.proofs.exits.Refusing.{in_first, in_later, in_any, fails}
use Rattle.type_check.proofs.substitution.PutArrays.{array_put}
use Rattle.type_check.proofs.substitution.Instances.{with_types_formed, with_types_holds}
use Rattle.type_check.proofs.substitution.GivenSame.{with_types_normal, atoms_formed}
use Rattle.type_check.proofs.trees.FramedLemmas.{framed_takes, framed_same, framed_sound, note_again}
use Rattle.type_check.proofs.exits.Conclude.{concludes, measured}

-- the premises behind those of the callee, whose type is t
abbrev rest : Context → Span → Expr → List Ty → Ty → Premises
rest Γ at e us t = premise 23 (expr_at e) (IsForall t) then of_forall t (λ n. premise 20 at (length us ≡ n) then all_written_atoms Γ us)

-- where the callee is refused, the application is
pub callee_refused : (Γ : Context) (at : Span) (e : Expr) (us : List Ty) (r : TypeRefusal) → Refuses (expr_premises Γ e) r → Refuses (expr_premises Γ (TypeApp at e us)) r
callee_refused Γ at e us r h = in_first (premises Γ (TypeApp at e us)) (with_any (Has Γ (TypeApp at e us)) (λ t. measure (measure_ty t) at)) r (in_first (expr_premises Γ e) (with_any (Has Γ e) (rest Γ at e us)) r h)

-- and where a premise behind is not met
behind : (Γ : Context) (at : Span) (e : Expr) (us : List Ty) (t : Ty) (ns : List NodeNote) → Found Γ e t ns → (r : TypeRefusal) → Refuses (rest Γ at e us t) r → Refuses (expr_premises Γ (TypeApp at e us)) r
behind Γ at e us t ns found r h =
    in_first (premises Γ (TypeApp at e us)) (with_any (Has Γ (TypeApp at e us)) (λ t. measure (measure_ty t) at)) r
    (in_later (expr_premises Γ e) (with_any (Has Γ e) (rest Γ at e us)) r found.met (in_any (Has Γ e) (rest Γ at e us) t r found.has h))

pub not_forall : (Γ : Context) (at : Span) (e : Expr) (us : List Ty) (t : Ty) (ns : List NodeNote) → Found Γ e t ns → (place : Span) → expr_at e ≡ place → (¬ IsForall t)
    → Refuses (expr_premises Γ (TypeApp at e us)) (Refused 23 place)
not_forall Γ at e us t ns found place is other =
    behind Γ at e us t ns found (Refused 23 place)
    (in_first (premise 23 (expr_at e) (IsForall t)) (of_forall t (λ n. premise 20 at (length us ≡ n) then all_written_atoms Γ us)) (Refused 23 place)
    (fails 23 (expr_at e) place (IsForall t) other (sym is)))

module _ (Γ : Context) (at : Span) (e : Expr) (us : List Ty) (ns : List NodeNote) (n : ℕ) (b : Ty) (s : Index) (found : Found Γ e (Arr no_span (Forall no_span n b) s) ns) where
  pub miscounted : (length us ≡ n → ⊥) → Refuses (expr_premises Γ (TypeApp at e us)) (Refused 20 at)
  miscounted other =
      behind Γ at e us (Arr no_span (Forall no_span n b) s) ns found (Refused 20 at)
      (in_later (premise 23 (expr_at e) (IsForall (Arr no_span (Forall no_span n b) s))) (premise 20 at (length us ≡ n) then all_written_atoms Γ us) (Refused 20 at) tt
      (in_first (premise 20 at (length us ≡ n)) (all_written_atoms Γ us) (Refused 20 at) (fails 20 at at (length us ≡ n) other refl)))

  pub unwritten : (r : TypeRefusal) → length us ≡ n → Refuses (all_written_atoms Γ us) r → Refuses (expr_premises Γ (TypeApp at e us)) r
  unwritten r len h =
      behind Γ at e us (Arr no_span (Forall no_span n b) s) ns found r
      (in_later (premise 23 (expr_at e) (IsForall (Arr no_span (Forall no_span n b) s))) (premise 20 at (length us ≡ n) then all_written_atoms Γ us) r tt
      (in_later (premise 20 at (length us ≡ n)) (all_written_atoms Γ us) r len h))

  module _ (len : length us ≡ n) (with : List Tree) (holds : Each HoldsArrays us) (told : (all_written_atoms Γ us).met × AreNormalAtomsOf Γ us with) where
    met : (premises Γ (TypeApp at e us)).met
    met = (found.met, (Arr no_span (Forall no_span n b) s, found.has, (tt, (len, told.0))))

    array : IsArray (with_types us b)
    array = array_put kept (put_all us) b found.sound.inside.0

    cell_sound : IsSound Γ.types Γ.sorts (with_types us b)
    cell_sound = record {
      formed = with_types_formed Γ us b (atoms_formed Γ us with told.1) (subst (λ n. IsWellFormed (n + Γ.types) Γ.sorts b) (sym len) found.sound.formed.2);
      top = array;
      inside = with_types_holds us b holds found.sound.inside.1;
    }

    takes : (t : Ty) → Rattle.core_syntax.specs.Typing.Takes Γ (framed s (with_types us b)) t → Has Γ (TypeApp at e us) t
    takes t h = (n, b, s, found.has, len, atoms_formed Γ us with told.1, framed_takes Γ s (with_types us b) t array h)

    sound : IsSound Γ.types Γ.sorts (framed s (with_types us b))
    sound = framed_sound Γ.types Γ.sorts s (with_types us b) found.sound.formed.1 cell_sound

    -- the instance by normal types is too large
    pub too_large : (r : TypeRefusal) → Refuses (measure (measure_ty (framed s (with_types (each ty_of with) b))) at) r → Refuses (expr_premises Γ (TypeApp at e us)) r
    too_large r h =
        measured Γ (TypeApp at e us) (framed s (with_types us b)) (framed s (with_types (each ty_of with) b)) (cell_note b) ns met takes sound
        (framed_same s s (with_types us b) (with_types (each ty_of with) b) array (λ v. refl) (with_types_normal Γ us with b told.1)) at r refl h

    -- this is the normal instance, and what a result of this frame and these cells comes to
    pub applied : (cell : Ty) → cell ≡ norm_ty (with_types (each ty_of with) b) → (r : Result Concluded TypeRefusal)
        → Tells (measure (measure_ty (framed s cell)) at) (Answers (framed s cell) (cell_note cell)) r → Concludes Γ (TypeApp at e us) ns r
    applied cell is r h =
        concludes Γ (TypeApp at e us) (framed s (with_types us b)) (framed s cell) (cell_note cell) ns met takes sound
        (framed_same s s (with_types us b) cell array (λ v. refl) (subst (Same (with_types us b)) (sym cell_is) (same_sym (norm_ty (with_types us b)) (with_types us b) (norm_same (with_types us b)))))
        at r refl
        (b, s, subst (λ n. Has Γ e (Arr no_span (Forall no_span n b) s)) (sym len) found.has, (ap cell_note cell_is ∙ note_again (with_types us b), found.notes)) h
      where
        cell_is : cell ≡ norm_ty (with_types us b)
        cell_is = is ∙ sym (same_normal (with_types us b) (with_types (each ty_of with) b) (with_types_normal Γ us with b told.1))
