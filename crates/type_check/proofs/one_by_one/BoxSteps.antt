-- The body of an `unbox`: the state inside, and what is left behind it.
use Rattle.std.proofs.Common.{◌≡◌, refl, sym, ◌∙◌, ap, subst, ℕ, ◌+◌, ◌-◌, ◌<◌, ◌^◌, arith, List, [], ◌∷◌, ◌++◌, length, take, Ok, Err, Result, inl, inr}
use Rattle.std.proofs.Math.Seq.{take-append_seam}
use Rattle.std.proofs.lemmas.List.{length-append}
use Rattle.core_syntax.specs.declared.index.Sort.{Sort}
use Rattle.core_syntax.specs.declared.span.Span.{Span}
use Rattle.core_syntax.specs.declared.ty.Ty.{Ty as Tree}
use Rattle.core_syntax.specs.Syntax.{Ty, Sigma, Arr, no_span, Expr, Unbox, expr_at}
use Rattle.core_syntax.specs.Lists.{onto, each, Each}
use Rattle.core_syntax.specs.Made.{Scope, IsArray, IsSmall, terms_more, indices_more, ExprMade}
use Rattle.core_syntax.specs.Blame.{expr_premises}
use Rattle.core_syntax.specs.Notes.{NodeNote, note_of}
use Rattle.core_syntax.specs.Refine.{ty_of}
use Rattle.core_syntax.specs.Subst.{ty_under_index}
use Rattle.core_syntax.specs.Typing.{Context, times, under_sorts, under_terms}
use Rattle.core_syntax.proofs.Equality.{same_refl}
use Rattle.type_check.specs.declared.refusal.TypeRefusal.{TypeRefusal}
use Rattle.type_check.specs.declared.boxes.OpenedUnbox.{OpenedUnbox}
use Rattle.type_check.specs.declared.refusal.TypeRefusal.TheVariants.{Refused, Memory}
use Rattle.type_check.specs.declared.state.Bound.{Bound}
use Rattle.type_check.specs.Boxes.{IsOpenedUnbox}
use Rattle.type_check.specs.Found.{Found, Refuses}
use Rattle.type_check.specs.Written.{HasScope}
use Rattle.type_check.specs.Answers.{Finding, ExprAnswers, NodeAnswers, InBoxAnswers, IsFoundBefore}
use Rattle.type_check.specs.Contexts.{Like, IsSound, scope_of}
use Rattle.type_check.specs.State.{State, bound_at, seen, context_of, IsSteady, within_sorts, within_box}
use Rattle.type_check.proofs.contexts.Binding.{like_terms, context_sorts, context_terms, each_length, onto_append, onto_length}
use Rattle.type_check.proofs.exits.RuleLemmas.{scope_like, array_normal}
use Rattle.type_check.proofs.one_by_one.Steps.{like_after, like_itself, sound_after}
use Rattle.type_check.proofs.contexts.Entering.{steady_sorts, steady_terms, made_terms, like_entered_sorts}

module _ (s : State) (ss : List Sort) (c : Tree) (h : IsSteady s) (small : IsSmall (terms_more 1 (indices_more (length ss) (scope_of (context_of s))))) where
  mid : State
  mid = within_sorts ss s

  steady_mid : IsSteady (within_sorts ss s)
  steady_mid = steady_sorts s ss h small.1

  scope_mid : scope_of (context_of (within_sorts ss s)) ≡ indices_more (length ss) (scope_of (context_of s))
  scope_mid = ap scope_of (context_sorts s h.older ss)
      ∙ λ i. record { defs = length (each ty_of s.defs); types = s.types; indices = onto_length ss (onto s.sorts []) i; terms = each_length (times (length ss) ty_under_index) (context_of s).terms i }

  pub sorts_few_inside : length (s.sorts ++ ss) < 2 ^ 31
  sorts_few_inside = let a = length-append s.sorts ss in let b = onto_length s.sorts [] in let l = small.1 in omega (arith, a, b, l)

  pub steady_inside : IsSound s.types (onto ss (onto s.sorts [])) (ty_of c) → IsSteady (within_box ss c s)
  steady_inside sound =
      steady_terms (within_sorts ss s) (c ∷ []) steady_mid (subst (λ (rs : List Sort). IsSound s.types rs (ty_of c)) (sym (onto_append s.sorts ss [])) sound, tt)
      (let a = each_length (seen s.types (length (s.sorts ++ ss))) (onto s.terms []) in let b = each_length (seen s.types (length s.sorts)) (onto s.terms []) in let l = small.2 in omega (arith, a, b, l))

  pub made_inside : (e : Expr) → ExprMade (terms_more 1 (indices_more (length ss) (scope_of (context_of s)))) e → ExprMade (scope_of (context_of (within_box ss c s))) e
  made_inside e m = made_terms (within_sorts ss s) (c ∷ []) steady_mid 1 e refl (subst (λ (Γ : Scope). ExprMade (terms_more 1 Γ) e) (sym scope_mid) m)

  like_inside : (Γ : Context) → Like Γ (context_of s) → Like (under_terms (ty_of c ∷ []) (under_sorts ss Γ)) (context_of (within_box ss c s))
  like_inside Γ l =
      subst (Like (under_terms (ty_of c ∷ []) (under_sorts ss Γ))) (sym (context_terms (within_sorts ss s) (c ∷ [])))
      (like_terms (ty_of c ∷ []) (ty_of c ∷ []) (under_sorts ss Γ) (context_of (within_sorts ss s)) (same_refl (ty_of c), tt) (like_entered_sorts s ss h Γ l))

  module _ (entered : State) (enters : entered ≡ within_box ss c s) where
    like_entered : (Γ : Context) → Like Γ (context_of s) → Like (under_terms (ty_of c ∷ []) (under_sorts ss Γ)) (context_of entered)
    like_entered Γ l = subst (λ (z : State). Like (under_terms (ty_of c ∷ []) (under_sorts ss Γ)) (context_of z)) (sym enters) (like_inside Γ l)

    pub in_box_refused : (e : Expr) (r : TypeRefusal) (later now : State) → ExprAnswers entered later e (Err r) → InBoxAnswers ss (ty_of c) e s now (Err r)
    in_box_refused e r later now a = λ Γ l. a (under_terms (ty_of c ∷ []) (under_sorts ss Γ)) (like_entered Γ l)

    pub in_box_found : (e : Expr) (t : Tree) (n : ℕ) (later now : State) → n ≡ length ss → ExprAnswers entered later e (Ok t)
        → now ≡ record later { sorts = take (length later.sorts - n) later.sorts; terms = take (length later.terms - 1) later.terms } → InBoxAnswers ss (ty_of c) e s now (Ok t)
    in_box_found e t n later now count a left = (a.0, now_is, λ Γ l. a.2 (under_terms (ty_of c ∷ []) (under_sorts ss Γ)) (like_entered Γ l))
      where
        sorts_left : take (length (s.sorts ++ ss) - n) (s.sorts ++ ss) ≡ s.sorts
        sorts_left = ap (λ k. take k (s.sorts ++ ss)) (let l = length-append s.sorts ss in let e : length (s.sorts ++ ss) - n ≡ length s.sorts = omega (arith, l, count) in e) ∙ take-append_seam s.sorts ss

        last : List Bound
        last = bound_at (within_sorts ss s) c ∷ []

        terms_left : take (length (s.terms ++ last) - 1) (s.terms ++ last) ≡ s.terms
        terms_left = ap (λ k. take k (s.terms ++ last)) (let l = length-append s.terms last in let e : length (s.terms ++ last) - 1 ≡ length s.terms = omega (arith, l) in e) ∙ take-append_seam s.terms last

        now_is : now ≡ record s { notes = s.notes ++ a.0 }
        now_is = left
            ∙ ap (λ (z : State). record z { sorts = take (length z.sorts - n) z.sorts; terms = take (length z.terms - 1) z.terms }) (a.1 ∙ ap (λ (z : State). record z { notes = z.notes ++ a.0 }) enters)
            ∙ λ i. record s { sorts = sorts_left i; terms = terms_left i; notes = s.notes ++ a.0 }

-- ---- what is opened

module _ (at : Span) (boxes u : Ty) (n : ℕ) (old : State) (o : OpenedUnbox) (f : IsFoundBefore at boxes old)
    (opens : (Γ : Context) (e : Expr) (ns : List NodeNote) → HasScope old.types old.sorts Γ → expr_at e ≡ at → Found Γ e boxes ns → IsOpenedUnbox Γ n u boxes o) where
  found_boxes : IsSound old.types (onto old.sorts []) boxes
  found_boxes = sound_after f.0 old f.1 boxes f.3

  opened_there : IsOpenedUnbox (context_of f.0) n u boxes o
  opened_there =
      opens (context_of f.0) f.1 (each note_of f.3.0) (scope_like old (context_of f.0) (like_after (λ Γ. Found Γ f.1 boxes) f.0 old f.3 (context_of f.0) (like_itself (context_of f.0)))) f.2
      (f.3.2 (context_of f.0) (like_itself (context_of f.0)))

  pub boxes_array : IsArray boxes
  boxes_array = found_boxes.top

  pub cell_array : IsArray u → IsArray (ty_of o.cell)
  cell_array h = subst IsArray (sym opened_there.cell_is) (array_normal u h)

  pub opened_count : n ≡ length o.sorts
  opened_count = opened_there.counts

  pub content_sound : IsSound old.types (onto o.sorts (onto old.sorts [])) (ty_of o.content)
  content_sound = let h = subst (IsSound old.types (onto old.sorts [])) opened_there.callee_is found_boxes in record { formed = h.formed.2; top = h.inside.0; inside = h.inside.1 }

pub opened_like : (at : Span) (boxes u : Ty) (n : ℕ) (before old : State) (o : OpenedUnbox) (e : Expr)
    → ((Γ : Context) (e : Expr) (ns : List NodeNote) → HasScope old.types old.sorts Γ → expr_at e ≡ at → Found Γ e boxes ns → IsOpenedUnbox Γ n u boxes o)
    → expr_at e ≡ at → Finding (λ Γ. Found Γ e boxes) before old → (Γ : Context) → Like Γ (context_of before) → IsOpenedUnbox Γ n u boxes o
opened_like at boxes u n before old o e opens is f Γ l = opens Γ e (each note_of f.0) (scope_like old Γ (like_after (λ Γ. Found Γ e boxes) before old f Γ l)) is (f.2 Γ l)

pub unbox_not_opened : (at boxes_at : Span) (boxes u : Ty) (n : ℕ) (before old now : State) (e b : Expr) (r : TypeRefusal)
    → ((Γ : Context) (e : Expr) (ns : List NodeNote) → HasScope old.types old.sorts Γ → expr_at e ≡ boxes_at → Found Γ e boxes ns → (b : Expr) → Refuses (expr_premises Γ (Unbox at n e u b)) r)
    → expr_at e ≡ boxes_at → Finding (λ Γ. Found Γ e boxes) before old → NodeAnswers before now (Unbox at n e u b) (Err r)
unbox_not_opened at boxes_at boxes u n before old now e b r opens is f = λ Γ l. opens Γ e (each note_of f.0) (scope_like old Γ (like_after (λ Γ. Found Γ e boxes) before old f Γ l)) is (f.2 Γ l) b

-- a blame of the body is one of the `unbox`
body_blamed : (Γ : Context) (at : Span) (n : ℕ) (e : Expr) (u : Ty) (b : Expr) (t : Ty) (ns : List NodeNote) (o : OpenedUnbox) (r : TypeRefusal) → Found Γ e t ns → IsOpenedUnbox Γ n u t o
    → Refuses (expr_premises (under_terms (ty_of o.content ∷ []) (under_sorts o.sorts Γ)) b) r → Refuses (expr_premises Γ (Unbox at n e u b)) r
body_blamed Γ at n e u b t ns o Memory f i h = tt
body_blamed Γ at n e u b t ns o (Refused k p) f i h =
    let g = subst (λ t. Found Γ e t ns) i.callee_is f in
    inl (inr (g.met, (Arr no_span (Sigma no_span o.sorts (ty_of o.content)) i.frame, g.has, inr (tt, inr (i.counts, inr (i.tested, inl h))))))

pub body_refused : (before old now : State) (at : Span) (n : ℕ) (e : Expr) (u : Ty) (b : Expr) (t : Ty) (o : OpenedUnbox) (ss : List Sort) (r : TypeRefusal) → Finding (λ Γ. Found Γ e t) before old
    → ((Γ : Context) → Like Γ (context_of before) → IsOpenedUnbox Γ n u t o) → ss ≡ o.sorts
    → ((Γ : Context) → Like Γ (context_of old) → Refuses (expr_premises (under_terms (ty_of o.content ∷ []) (under_sorts ss Γ)) b) r) → NodeAnswers before now (Unbox at n e u b) (Err r)
body_refused before old now at n e u b t o ss r f i is h = λ Γ l.
    body_blamed Γ at n e u b t (each note_of f.0) o r (f.2 Γ l) (i Γ l)
    (subst (λ (rs : List Sort). Refuses (expr_premises (under_terms (ty_of o.content ∷ []) (under_sorts rs Γ)) b) r) is (h Γ (like_after (λ Γ. Found Γ e t) before old f Γ l)))
