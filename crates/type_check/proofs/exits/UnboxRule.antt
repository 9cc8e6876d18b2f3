-- An `unbox`: what is told at each of its exits.
use Rattle.std.proofs.Common.{◌≡◌, ◌∙◌, refl, sym, ap, subst, ℕ, List, [], ◌∷◌, ◌++◌, length}
use Rattle.std.specs.Prelude.{Result, Ok, Err}
use Rattle.core_syntax.specs.declared.span.Span.{Span}
use Rattle.core_syntax.specs.declared.index.Sort.{Sort}
use Rattle.core_syntax.specs.declared.ty.Ty.{Ty as Tree}
use Rattle.core_syntax.specs.Syntax.{Index, Ty, Sigma, Arr, no_span, Expr, Unbox, expr_at, ty_at}
use Rattle.core_syntax.specs.Lists.{onto}
use Rattle.core_syntax.specs.Kinds.{IsWellFormed}
use Rattle.core_syntax.specs.Made.{IsArray, HoldsArrays}
use Rattle.core_syntax.specs.TypeEqual.{Same}
use Rattle.core_syntax.specs.Subst.{ty_under_index}
use Rattle.core_syntax.specs.NormTypes.{norm_ty, measure_ty}
use Rattle.core_syntax.specs.Notes.{NodeNote, unbox_note}
use Rattle.core_syntax.specs.Refine.{ty_of}
use Rattle.core_syntax.specs.Typing.{Context, times, under_sorts, under_terms, Has, Takes}
use Rattle.core_syntax.specs.Blame.{Premises, premise, premises, expr_premises, measure, with_any, ◌then◌, IsSigma, of_sigma, written}
use Rattle.core_syntax.proofs.Equality.{same_sym}
use Rattle.core_syntax.proofs.NormTyLemmas.{norm_same, same_normal}
use Rattle.core_syntax.proofs.Closed.{has_same}
use Rattle.type_check.specs.declared.concluded.Concluded.{Concluded}
use Rattle.type_check.specs.declared.refusal.TypeRefusal.{TypeRefusal}
use Rattle.type_check.specs.declared.refusal.TypeRefusal.TheVariants.{Refused, Memory}
use Rattle.type_check.specs.declared.boxes.OpenedUnbox.{OpenedUnbox}
use Rattle.type_check.specs.Contexts.{IsSound}
use Rattle.type_check.specs.Found.{Refuses, Found, Concludes}
use Rattle.type_check.specs.Framed.{framed, Answers}
use Rattle.type_check.specs.Written.{Tells, IsNormalOf}
use Rattle.type_check.specs.Boxes.{IsOpenedUnbox, OpensUnbox}
use Rattle.type_check.proofs.exits.Refusing.{in_first, in_later, in_any, fails}
use Rattle.std.specs.Prelude.{IfOk, IfErr}
use Rattle.type_equal.specs.Moved.{ty_moved}
use Rattle.type_check.proofs.substitution.Shifted.{times_formed, moved_same}
use Rattle.type_check.proofs.trees.FramedLemmas.{framed_takes, framed_same, framed_sound, unbox_note_again}
use Rattle.type_check.proofs.exits.Conclude.{concludes}

-- the context of the body
abbrev pub opened_context : Context → List Sort → Ty → Context
opened_context Γ ss c = under_terms (c ∷ []) (under_sorts ss Γ)

-- the body's premises, and its type
abbrev body : Context → ℕ → Ty → Expr → List Sort → Ty → Premises
body Γ n u b ss c =
    expr_premises (opened_context Γ ss c) b then with_any (Has (opened_context Γ ss c) b) (λ w. premise 27 (ty_at u) (Same w (times n ty_under_index u)))

-- the premises behind those of the boxes, whose type is t
abbrev rest : Context → Span → ℕ → Expr → Ty → Expr → Ty → Premises
rest Γ at n e u b t =
    premise 25 (expr_at e) (IsSigma t) then of_sigma t (λ ss c. premise 20 at (n ≡ length ss) then written Γ u then body Γ n u b ss c)

-- where the boxes are refused, the `unbox` is
pub boxes_refused : (Γ : Context) (at : Span) (n : ℕ) (e : Expr) (u : Ty) (b : Expr) (r : TypeRefusal) → Refuses (expr_premises Γ e) r → Refuses (expr_premises Γ (Unbox at n e u b)) r
boxes_refused Γ at n e u b r h =
    in_first (premises Γ (Unbox at n e u b)) (with_any (Has Γ (Unbox at n e u b)) (λ t. measure (measure_ty t) at)) r (in_first (expr_premises Γ e) (with_any (Has Γ e) (rest Γ at n e u b)) r h)

-- and where a premise behind is not met
behind : (Γ : Context) (at : Span) (n : ℕ) (e : Expr) (u : Ty) (b : Expr) (t : Ty) (ns : List NodeNote) → Found Γ e t ns → (r : TypeRefusal) → Refuses (rest Γ at n e u b t) r → Refuses (expr_premises Γ (Unbox at n e u b)) r
behind Γ at n e u b t ns found r h =
    in_first (premises Γ (Unbox at n e u b)) (with_any (Has Γ (Unbox at n e u b)) (λ t. measure (measure_ty t) at)) r
    (in_later (expr_premises Γ e) (with_any (Has Γ e) (rest Γ at n e u b)) r found.met (in_any (Has Γ e) (rest Γ at n e u b) t r found.has h))

pub no_boxes : (Γ : Context) (at : Span) (n : ℕ) (e : Expr) (u : Ty) (b : Expr) (t : Ty) (ns : List NodeNote) → Found Γ e t ns → (place : Span) → expr_at e ≡ place → (¬ IsSigma t)
    → Refuses (expr_premises Γ (Unbox at n e u b)) (Refused 25 place)
no_boxes Γ at n e u b t ns found place is other =
    behind Γ at n e u b t ns found (Refused 25 place)
    (in_first (premise 25 (expr_at e) (IsSigma t)) (of_sigma t (λ ss c. premise 20 at (n ≡ length ss) then written Γ u then body Γ n u b ss c)) (Refused 25 place)
    (fails 25 (expr_at e) place (IsSigma t) other (sym is)))

module _ (Γ : Context) (at : Span) (n : ℕ) (e : Expr) (u : Ty) (b : Expr) (ns : List NodeNote) (ss : List Sort) (c : Ty) (s : Index) (found : Found Γ e (Arr no_span (Sigma no_span ss c) s) ns) where
  sums : (r : TypeRefusal) → Refuses (premise 20 at (n ≡ length ss) then written Γ u then body Γ n u b ss c) r → Refuses (expr_premises Γ (Unbox at n e u b)) r
  sums r h =
      behind Γ at n e u b (Arr no_span (Sigma no_span ss c) s) ns found r
      (in_later (premise 25 (expr_at e) (IsSigma (Arr no_span (Sigma no_span ss c) s))) (premise 20 at (n ≡ length ss) then written Γ u then body Γ n u b ss c) r tt h)

  pub miscounted : (n ≡ length ss → ⊥) → Refuses (expr_premises Γ (Unbox at n e u b)) (Refused 20 at)
  miscounted other = sums (Refused 20 at) (in_first (premise 20 at (n ≡ length ss)) (written Γ u then body Γ n u b ss c) (Refused 20 at) (fails 20 at at (n ≡ length ss) other refl))

  pub unwritten : (r : TypeRefusal) → n ≡ length ss → Refuses (written Γ u) r → Refuses (expr_premises Γ (Unbox at n e u b)) r
  unwritten r len h =
      sums r (in_later (premise 20 at (n ≡ length ss)) (written Γ u then body Γ n u b ss c) r len (in_first (written Γ u) (body Γ n u b ss c) r h))

  module _ (len : n ≡ length ss) (tested : (written Γ u).met) where
    in_body : (r : TypeRefusal) → Refuses (body Γ n u b ss c) r → Refuses (expr_premises Γ (Unbox at n e u b)) r
    in_body r h = sums r (in_later (premise 20 at (n ≡ length ss)) (written Γ u then body Γ n u b ss c) r len (in_later (written Γ u) (body Γ n u b ss c) r tested h))

    module _ (w : Ty) (ms : List NodeNote) (found_body : Found (opened_context Γ ss c) b w ms) where
      other_body : (place : Span) → place ≡ ty_at u → (¬ Same w (times n ty_under_index u)) → Refuses (expr_premises Γ (Unbox at n e u b)) (Refused 27 place)
      other_body place is other =
          in_body (Refused 27 place)
          (in_later (expr_premises (opened_context Γ ss c) b) (with_any (Has (opened_context Γ ss c) b) (λ w. premise 27 (ty_at u) (Same w (times n ty_under_index u)))) (Refused 27 place) found_body.met
          (in_any (Has (opened_context Γ ss c) b) (λ w. premise 27 (ty_at u) (Same w (times n ty_under_index u))) w (Refused 27 place) found_body.has
          (fails 27 (ty_at u) place (Same w (times n ty_under_index u)) other is)))

      module _ (same : Same w (times n ty_under_index u)) (sound : IsSound Γ.types Γ.sorts u) where
        met : (premises Γ (Unbox at n e u b)).met
        met = (found.met, (Arr no_span (Sigma no_span ss c) s, found.has, (tt, (len, (tested, (found_body.met, (w, found_body.has, same)))))))

        formed : IsWellFormed Γ.types (onto ss Γ.sorts) (times n ty_under_index u)
        formed = subst (λ n. IsWellFormed Γ.types (onto ss Γ.sorts) (times n ty_under_index u)) (sym len) (times_formed Γ.types ss Γ.sorts u sound.formed)

        takes : (t : Ty) → Takes Γ (framed s u) t → Has Γ (Unbox at n e u b) t
        takes t h = (ss, c, s, found.has, sym len, sound.formed, has_same (opened_context Γ ss c) b w (times n ty_under_index u) found_body.has same formed, framed_takes Γ s u t sound.top h)

        result : (x : Ty) → x ≡ norm_ty u → (r : Result Concluded TypeRefusal) → Tells (measure (measure_ty (framed s x)) at) (Answers (framed s x) (unbox_note ss x)) r → Concludes Γ (Unbox at n e u b) (ns ++ ms) r
        result x is r h =
            concludes Γ (Unbox at n e u b) (framed s u) (framed s x) (unbox_note ss x) (ns ++ ms) met takes (framed_sound Γ.types Γ.sorts s u found.sound.formed.1 sound)
            (framed_same s s u x sound.top (λ v. refl) (subst (Same u) (sym is) (same_sym (norm_ty u) u (norm_same u))))
            at r refl
            (ss, c, s, found.has, (ap (unbox_note ss) is ∙ unbox_note_again ss u, (ns, ms, refl, found.notes, found_body.notes))) h

module _ (Γ : Context) (at : Span) (n : ℕ) (e : Expr) (u : Ty) (b : Expr) (ns : List NodeNote) (callee : Ty) (o : OpenedUnbox) (opened : IsOpenedUnbox Γ n u callee o) (found : Found Γ e callee ns) where
  found_sums : Found Γ e (Arr no_span (Sigma no_span o.sorts (ty_of o.content)) opened.frame) ns
  found_sums = subst (λ t. Found Γ e t ns) opened.callee_is found

  -- where the body is refused, the `unbox` is
  pub body_refused : (r : TypeRefusal) → Refuses (expr_premises (opened_context Γ o.sorts (ty_of o.content)) b) r → Refuses (expr_premises Γ (Unbox at n e u b)) r
  body_refused r h =
      in_body Γ at n e u b ns o.sorts (ty_of o.content) opened.frame found_sums opened.counts opened.tested r
      (in_first (expr_premises (opened_context Γ o.sorts (ty_of o.content)) b) (with_any (Has (opened_context Γ o.sorts (ty_of o.content)) b) (λ w. premise 27 (ty_at u) (Same w (times n ty_under_index u)))) r h)

  module _ (w : Ty) (ms : List NodeNote) (found_body : Found (opened_context Γ o.sorts (ty_of o.content)) b w ms) where
    -- the body is of another type
    pub misfits : (place : Span) → place ≡ ty_at u → norm_ty w ≡ w → norm_ty (ty_of o.expected) ≡ ty_of o.expected → (w ≡ ty_of o.expected → ⊥) → Refuses (expr_premises Γ (Unbox at n e u b)) (Refused 27 place)
    misfits place is normal expected other =
        other_body Γ at n e u b ns o.sorts (ty_of o.content) opened.frame found_sums opened.counts opened.tested w ms found_body place is
        (λ s. other (sym normal ∙ same_normal w (times n ty_under_index u) s ∙ sym (same_normal (ty_of o.expected) (times n ty_under_index u) opened.expected_is) ∙ expected))

    -- it is of the type
    pub closed : w ≡ ty_of o.expected → IsArray u → HoldsArrays u → (r : Result Concluded TypeRefusal)
        → Tells (measure (measure_ty (framed opened.frame (ty_of o.cell))) at) (Answers (framed opened.frame (ty_of o.cell)) (unbox_note o.sorts (ty_of o.cell))) r → Concludes Γ (Unbox at n e u b) (ns ++ ms) r
    closed same array holds r h =
        result Γ at n e u b ns o.sorts (ty_of o.content) opened.frame found_sums opened.counts opened.tested w ms found_body
        (subst (λ x. Same x (times n ty_under_index u)) (sym same) opened.expected_is)
        (record { formed = opened.formed; top = array; inside = holds }) (ty_of o.cell) opened.cell_is r h

-- ---- what is opened

pub opens_told : (Γ : Context) (at : Span) (n : ℕ) (e : Expr) (u t : Ty) (ss : List Sort) (b : Ty) (s : Index) (cell : Tree) → t ≡ Arr no_span (Sigma no_span ss b) s → norm_ty b ≡ b → n ≡ length ss
    → (written Γ u).met × IsNormalOf Γ u cell → (r : Result OpenedUnbox TypeRefusal) → IfOk r (λ o. o.sorts ≡ ss) → IfOk r (λ o. ty_of o.content ≡ norm_ty b) → IfOk r (λ o. o.cell ≡ cell)
    → IfOk r (λ o. ty_of o.expected ≡ ty_moved 0 (length ss) (ty_of cell)) → IfErr r (λ x. x ≡ Memory) → OpensUnbox Γ at n e u t r
opens_told Γ at n e u t ss b s cell is normal counts told (Ok o) sorts content own expected memory = record {
  frame = s;
  callee_is = is ∙ λ i. Arr no_span (Sigma no_span (sym sorts i) (sym (content ∙ normal) i)) s;
  counts = counts ∙ ap length (sym sorts);
  tested = told.0;
  formed = told.1.0;
  cell_is = ap ty_of own ∙ told.1.1;
  expected_is = moved_same n u (ty_of cell) (ty_of o.expected) told.1.1 (expected ∙ ap (λ k. ty_moved 0 k (ty_of cell)) (sym counts));
}
opens_told Γ at n e u t ss b s cell is normal counts told (Err x) sorts content own expected memory = λ body. subst (λ x. Refuses (expr_premises Γ (Unbox at n e u body)) x) (sym memory) tt

-- the frame of boxes that are read twice
pub one_frame : (t : Ty) (at at' : Span) (a a' : Ty) (p q : Index) → t ≡ Arr at a p → t ≡ Arr at' a' q → q ≡ p
one_frame t at at' a a' p q e f = cc

pub framed_again : (at : Span) (p q : Index) (ss rs : List Sort) (cell own : Tree) (r : Result Concluded TypeRefusal) → q ≡ p → rs ≡ ss → own ≡ cell
    → Tells (measure (measure_ty (framed p (ty_of cell))) at) (Answers (framed p (ty_of cell)) (unbox_note ss (ty_of cell))) r
    → Tells (measure (measure_ty (framed q (ty_of own))) at) (Answers (framed q (ty_of own)) (unbox_note rs (ty_of own))) r
framed_again at p q ss rs cell own r e f g told =
    subst (λ q. Tells (measure (measure_ty (framed q (ty_of own))) at) (Answers (framed q (ty_of own)) (unbox_note rs (ty_of own))) r) (sym e)
    (subst (λ rs. Tells (measure (measure_ty (framed p (ty_of own))) at) (Answers (framed p (ty_of own)) (unbox_note rs (ty_of own))) r) (sym f)
    (subst (λ own. Tells (measure (measure_ty (framed p (ty_of own))) at) (Answers (framed p (ty_of own)) (unbox_note ss (ty_of own))) r) (sym g) told))
