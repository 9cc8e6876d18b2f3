-- An application to indices: what is told at each of its exits.
use Rattle.std.proofs.Common.{◌≡◌, ◌∙◌, refl, sym, ap, subst, List, length}
use Rattle.std.specs.Prelude.{Result}
use Rattle.core_syntax.specs.declared.span.Span.{Span}
use Rattle.core_syntax.specs.declared.index.Sort.{Sort}
use Rattle.core_syntax.specs.declared.norm.NormIndex.{NormIndex}
use Rattle.core_syntax.specs.Syntax.{Index, Ty, Pi, Arr, no_span, Expr, IndexApp, expr_at}
use Rattle.core_syntax.specs.Lists.{each}
use Rattle.core_syntax.specs.Made.{IsArray}
use Rattle.core_syntax.specs.TypeEqual.{Same}
use Rattle.core_syntax.specs.Subst.{kept, put_all, with_indices}
use Rattle.core_syntax.specs.NormTypes.{norm_ty, measure_ty}
use Rattle.core_syntax.specs.Notes.{NodeNote, cell_note}
use Rattle.core_syntax.specs.Typing.{Context, Has, Takes}
use Rattle.core_syntax.specs.Blame.{Premises, premise, premises, expr_premises, measure, with_any, ◌then◌, IsPi, of_pi, written_indices}
use Rattle.core_syntax.proofs.Equality.{same_sym}
use Rattle.core_syntax.proofs.NormTyLemmas.{norm_same, same_normal}
use Rattle.type_equal.specs.Put.{index_tree}
use Rattle.type_check.specs.declared.concluded.Concluded.{Concluded}
use Rattle.type_check.specs.declared.refusal.TypeRefusal.{TypeRefusal}
use Rattle.type_check.specs.declared.refusal.TypeRefusal.TheVariants.{Refused}
use Rattle.type_check.specs.Contexts.{IsSound}
use Rattle.type_check.specs.Found.{Refuses, Found, Concludes}
use Rattle.type_check.specs.Framed.{framed, Answers}
use Rattle.type_check.specs.Written.{Tells, AreNormalIndicesOf}
use Rattle.type_check.proofs.exits.Refusing.{in_first, in_later, in_any, fails}
use Rattle.type_check.proofs.substitution.PutArrays.{array_put}
use Rattle.type_check.proofs.substitution.Instances.{with_indices_formed, with_indices_holds}
use Rattle.type_check.proofs.substitution.GivenSame.{with_indices_normal, indices_sorted}
use Rattle.type_check.proofs.trees.FramedLemmas.{framed_takes, framed_same, framed_sound, note_again}
use Rattle.type_check.proofs.exits.Conclude.{concludes, measured}

-- the premises behind those of the callee, whose type is t
abbrev rest : Context → Span → Expr → List Index → Ty → Premises
rest Γ at e is t = premise 24 (expr_at e) (IsPi t) then of_pi t (λ ss. premise 20 at (length is ≡ length ss) then written_indices Γ ss is)

-- where the callee is refused, the application is
pub callee_refused : (Γ : Context) (at : Span) (e : Expr) (is : List Index) (r : TypeRefusal) → Refuses (expr_premises Γ e) r → Refuses (expr_premises Γ (IndexApp at e is)) r
callee_refused Γ at e is r h = in_first (premises Γ (IndexApp at e is)) (with_any (Has Γ (IndexApp at e is)) (λ t. measure (measure_ty t) at)) r (in_first (expr_premises Γ e) (with_any (Has Γ e) (rest Γ at e is)) r h)

-- and where a premise behind is not met
behind : (Γ : Context) (at : Span) (e : Expr) (is : List Index) (t : Ty) (ns : List NodeNote) → Found Γ e t ns → (r : TypeRefusal) → Refuses (rest Γ at e is t) r → Refuses (expr_premises Γ (IndexApp at e is)) r
behind Γ at e is t ns found r h =
    in_first (premises Γ (IndexApp at e is)) (with_any (Has Γ (IndexApp at e is)) (λ t. measure (measure_ty t) at)) r
    (in_later (expr_premises Γ e) (with_any (Has Γ e) (rest Γ at e is)) r found.met (in_any (Has Γ e) (rest Γ at e is) t r found.has h))

pub not_pi : (Γ : Context) (at : Span) (e : Expr) (is : List Index) (t : Ty) (ns : List NodeNote) → Found Γ e t ns → (place : Span) → expr_at e ≡ place → (¬ IsPi t)
    → Refuses (expr_premises Γ (IndexApp at e is)) (Refused 24 place)
not_pi Γ at e is t ns found place at_place other =
    behind Γ at e is t ns found (Refused 24 place)
    (in_first (premise 24 (expr_at e) (IsPi t)) (of_pi t (λ ss. premise 20 at (length is ≡ length ss) then written_indices Γ ss is)) (Refused 24 place)
    (fails 24 (expr_at e) place (IsPi t) other (sym at_place)))

module _ (Γ : Context) (at : Span) (e : Expr) (is : List Index) (ns : List NodeNote) (ss : List Sort) (b : Ty) (s : Index) (found : Found Γ e (Arr no_span (Pi no_span ss b) s) ns) where
  pub miscounted : (length is ≡ length ss → ⊥) → Refuses (expr_premises Γ (IndexApp at e is)) (Refused 20 at)
  miscounted other =
      behind Γ at e is (Arr no_span (Pi no_span ss b) s) ns found (Refused 20 at)
      (in_later (premise 24 (expr_at e) (IsPi (Arr no_span (Pi no_span ss b) s))) (premise 20 at (length is ≡ length ss) then written_indices Γ ss is) (Refused 20 at) tt
      (in_first (premise 20 at (length is ≡ length ss)) (written_indices Γ ss is) (Refused 20 at) (fails 20 at at (length is ≡ length ss) other refl)))

  pub ill_given : (r : TypeRefusal) → length is ≡ length ss → Refuses (written_indices Γ ss is) r → Refuses (expr_premises Γ (IndexApp at e is)) r
  ill_given r len h =
      behind Γ at e is (Arr no_span (Pi no_span ss b) s) ns found r
      (in_later (premise 24 (expr_at e) (IsPi (Arr no_span (Pi no_span ss b) s))) (premise 20 at (length is ≡ length ss) then written_indices Γ ss is) r tt
      (in_later (premise 20 at (length is ≡ length ss)) (written_indices Γ ss is) r len h))

  module _ (len : length is ≡ length ss) (with : List NormIndex) (told : (written_indices Γ ss is).met × AreNormalIndicesOf Γ ss is with) where
    met : (premises Γ (IndexApp at e is)).met
    met = (found.met, (Arr no_span (Pi no_span ss b) s, found.has, (tt, (len, told.0))))

    array : IsArray (with_indices is b)
    array = array_put (put_all is) kept b found.sound.inside.0

    cell_sound : IsSound Γ.types Γ.sorts (with_indices is b)
    cell_sound = record {
      formed = with_indices_formed Γ.types Γ.sorts ss is b (indices_sorted Γ ss is with told.1) found.sound.formed.2;
      top = array;
      inside = with_indices_holds is b found.sound.inside.1;
    }

    normal : Same (with_indices is b) (with_indices (each index_tree with) b)
    normal = with_indices_normal Γ ss is with b told.1 found.sound.formed.2

    takes : (t : Ty) → Takes Γ (framed s (with_indices is b)) t → Has Γ (IndexApp at e is) t
    takes t h = (ss, b, s, found.has, indices_sorted Γ ss is with told.1, framed_takes Γ s (with_indices is b) t array h)

    sound : IsSound Γ.types Γ.sorts (framed s (with_indices is b))
    sound = framed_sound Γ.types Γ.sorts s (with_indices is b) found.sound.formed.1 cell_sound

    -- the instance by normal forms is too large
    pub too_large : (r : TypeRefusal) → Refuses (measure (measure_ty (framed s (with_indices (each index_tree with) b))) at) r → Refuses (expr_premises Γ (IndexApp at e is)) r
    too_large r h =
        measured Γ (IndexApp at e is) (framed s (with_indices is b)) (framed s (with_indices (each index_tree with) b)) (cell_note b) ns met takes sound
        (framed_same s s (with_indices is b) (with_indices (each index_tree with) b) array (λ v. refl) normal) at r refl h

    -- this is the normal instance, and what a result of this frame and these cells comes to
    pub applied : (cell : Ty) → cell ≡ norm_ty (with_indices (each index_tree with) b) → (r : Result Concluded TypeRefusal)
        → Tells (measure (measure_ty (framed s cell)) at) (Answers (framed s cell) (cell_note cell)) r → Concludes Γ (IndexApp at e is) ns r
    applied cell cell_normal r h =
        concludes Γ (IndexApp at e is) (framed s (with_indices is b)) (framed s cell) (cell_note cell) ns met takes sound
        (framed_same s s (with_indices is b) cell array (λ v. refl) (subst (Same (with_indices is b)) (sym cell_is) (same_sym (norm_ty (with_indices is b)) (with_indices is b) (norm_same (with_indices is b)))))
        at r refl
        (ss, b, s, found.has, (ap cell_note cell_is ∙ note_again (with_indices is b), found.notes)) h
      where
        cell_is : cell ≡ norm_ty (with_indices is b)
        cell_is = cell_normal ∙ sym (same_normal (with_indices is b) (with_indices (each index_tree with) b) normal)
