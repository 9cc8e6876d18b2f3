-- What the functions of the checker answer, from what their parts do.
use Rattle.std.proofs.Common.{◌≡◌, refl, sym, ◌∙◌, ap, subst, ℕ, ◌+◌, ◌-◌, ◌<◌, ◌≤◌, ◌^◌, arith, List, [], ◌∷◌, ◌++◌, append_assoc, append-nil, length, take, Ok, Err, Result, IfOk, IfErr, inl}
use Rattle.std.proofs.Math.Seq.{set-append_seam, take-append_seam}
use Rattle.std.proofs.lemmas.List.{length-append}
use Rattle.std.specs.Prelude.{slice_set}
use Rattle.core_syntax.specs.declared.index.Sort.{Sort}
use Rattle.core_syntax.specs.declared.note.Note.{Note}
use Rattle.core_syntax.specs.declared.span.Span.{Span}
use Rattle.core_syntax.specs.declared.ty.Ty.{Ty as Tree}
use Rattle.core_syntax.specs.Syntax.{Ty, Forall, Pi, no_span, Index, Expr, App, TypeApp, IndexApp, Unbox, Exprs, Atom, TypeFn, IndexFn}
use Rattle.core_syntax.specs.Lists.{onto, each}
use Rattle.core_syntax.specs.Notes.{note_of}
use Rattle.core_syntax.specs.Refine.{ty_of}
use Rattle.core_syntax.specs.Typing.{Context, under_types, under_sorts}
use Rattle.core_syntax.specs.Blame.{Premises, expr_premises, atom_premises}
use Rattle.core_syntax.proofs.Equality.{same_refl}
use Rattle.type_check.specs.declared.concluded.Concluded.{Concluded}
use Rattle.type_check.specs.declared.refusal.TypeRefusal.{TypeRefusal}
use Rattle.type_check.specs.declared.refusal.TypeRefusal.TheVariants.{Refused, Memory}
use Rattle.type_check.specs.Answers.{Answers, ExprAnswers, NodeAnswers, AtomAnswers}
use Rattle.type_check.specs.Contexts.{Like}
use Rattle.type_check.specs.Found.{Refuses, Found, FoundAtom}
use Rattle.type_check.specs.State.{State, empty_note, context_of, IsSteady}
use Rattle.type_check.proofs.contexts.Entering.{like_entered_types, like_entered_sorts}

-- want of memory refuses nothing
pub no_memory : (ps : Premises) (r : TypeRefusal) → r ≡ Memory → Refuses ps r
no_memory ps r e = subst (Refuses ps) (sym e) tt

-- ---- a node's note in its place

pub noted : (old held later now : State) (e : Expr) (place : ℕ) (c : Concluded) → place ≡ length old.notes → held ≡ record old { notes = old.notes ++ empty_note ∷ [] }
    → NodeAnswers held later e (Ok c) → now ≡ record later { notes = slice_set later.notes place c.note } → ExprAnswers old now e (Ok c.ty)
noted old held later now e place c p h a n = (c.note ∷ a.0, now_is, λ Γ l. a.2 Γ (subst (λ (s : State). Like Γ (context_of s)) (sym h) l))
  where
    later_is : later ≡ record old { notes = (old.notes ++ empty_note ∷ []) ++ a.0 }
    later_is = a.1 ∙ ap (λ (s : State). record s { notes = s.notes ++ a.0 }) h

    set_is : slice_set ((old.notes ++ empty_note ∷ []) ++ a.0) place c.note ≡ old.notes ++ c.note ∷ a.0
    set_is = (λ i. slice_set (append_assoc old.notes (empty_note ∷ []) a.0 i) (p i) c.note) ∙ set-append_seam old.notes empty_note a.0 c.note

    now_is : now ≡ record old { notes = old.notes ++ c.note ∷ a.0 }
    now_is = n ∙ ap (λ (s : State). record s { notes = slice_set s.notes place c.note }) later_is ∙ ap (λ (ns : List Note). record old { notes = ns }) set_is

pub held_refused : (old held : State) (e : Expr) (r : TypeRefusal) (later : State) → held ≡ record old { notes = old.notes ++ empty_note ∷ [] } → NodeAnswers held later e (Err r) → (now : State) → ExprAnswers old now e (Err r)
held_refused old held e r later h a now = λ Γ l. a Γ (subst (λ (s : State). Like Γ (context_of s)) (sym h) l)

-- ---- functions of types

module _ (old entered : State) (n : ℕ) (at : Span) (e : Expr) (steady : IsSteady old) (enters : entered ≡ record old { types = n + old.types }) where
  like_inside : (Γ : Context) → Like Γ (context_of old) → Like (under_types n Γ) (context_of entered)
  like_inside Γ l = subst (λ (s : State). Like (under_types n Γ) (context_of s)) (sym enters) (like_entered_types old n steady Γ l)

  pub type_function_refused : (r : TypeRefusal) (later now : State) → ExprAnswers entered later e (Err r) → AtomAnswers old now (TypeFn at n e) (Err r)
  type_function_refused r later now a = λ Γ l. a (under_types n Γ) (like_inside Γ l)

  pub type_function_found : (t : Tree) (later now : State) (o : Result Tree TypeRefusal) → ExprAnswers entered later e (Ok t) → now ≡ record later { types = later.types - n }
      → IfOk o (λ f. ty_of f ≡ Forall no_span n (ty_of t)) → IfErr o (λ r. r ≡ Memory) → AtomAnswers old now (TypeFn at n e) o
  type_function_found t later now (Err r) a left is none = λ Γ l. no_memory (atom_premises Γ (TypeFn at n e)) r none
  type_function_found t later now (Ok f) a left is none = (a.0, now_is, found)
    where
      count : (n + old.types) - n ≡ old.types
      count = omega arith

      now_is : now ≡ record old { notes = old.notes ++ a.0 }
      now_is = left ∙ ap (λ (s : State). record s { types = s.types - n }) (a.1 ∙ ap (λ (s : State). record s { notes = s.notes ++ a.0 }) enters)
          ∙ ap (λ k. record old { types = k; notes = old.notes ++ a.0 }) count

      found : (Γ : Context) → Like Γ (context_of old) → FoundAtom Γ (TypeFn at n e) (ty_of f) (each note_of a.0)
      found Γ l = subst (λ u. FoundAtom Γ (TypeFn at n e) u (each note_of a.0)) (sym is) (record {
        met = inner.met;
        has = (ty_of t, inner.has, (inner.sound.formed, same_refl (Forall no_span n (ty_of t))));
        sound = record { formed = inner.sound.formed; top = refl; inside = (inner.sound.top, inner.sound.inside) };
        notes = inner.notes;
      })
        where
          inner : Found (under_types n Γ) e (ty_of t) (each note_of a.0)
          inner = a.2 (under_types n Γ) (like_inside Γ l)

-- ---- functions of indices

module _ (old entered : State) (ss : List Sort) (at : Span) (e : Expr) (steady : IsSteady old) (enters : entered ≡ record old { sorts = old.sorts ++ ss }) where
  like_within : (Γ : Context) → Like Γ (context_of old) → Like (under_sorts ss Γ) (context_of entered)
  like_within Γ l = subst (λ (s : State). Like (under_sorts ss Γ) (context_of s)) (sym enters) (like_entered_sorts old ss steady Γ l)

  pub index_function_refused : (r : TypeRefusal) (later now : State) → ExprAnswers entered later e (Err r) → AtomAnswers old now (IndexFn at ss e) (Err r)
  index_function_refused r later now a = λ Γ l. a (under_sorts ss Γ) (like_within Γ l)

  pub index_function_found : (n : ℕ) (t : Tree) (later now : State) (o : Result Tree TypeRefusal) → n ≡ length ss → ExprAnswers entered later e (Ok t) → now ≡ record later { sorts = take (length later.sorts - n) later.sorts }
      → IfOk o (λ f. ty_of f ≡ Pi no_span ss (ty_of t)) → IfErr o (λ r. r ≡ Memory) → AtomAnswers old now (IndexFn at ss e) o
  index_function_found n t later now (Err r) c a left is none = λ Γ l. no_memory (atom_premises Γ (IndexFn at ss e)) r none
  index_function_found n t later now (Ok f) c a left is none = (a.0, now_is, found)
    where
      cut : take (length (old.sorts ++ ss) - n) (old.sorts ++ ss) ≡ old.sorts
      cut = ap (λ k. take k (old.sorts ++ ss)) (let l = length-append old.sorts ss in let e : length (old.sorts ++ ss) - n ≡ length old.sorts = omega (arith, l, c) in e) ∙ take-append_seam old.sorts ss

      now_is : now ≡ record old { notes = old.notes ++ a.0 }
      now_is = left ∙ ap (λ (s : State). record s { sorts = take (length s.sorts - n) s.sorts }) (a.1 ∙ ap (λ (s : State). record s { notes = s.notes ++ a.0 }) enters)
          ∙ ap (λ (k : List Sort). record old { sorts = k; notes = old.notes ++ a.0 }) cut

      found : (Γ : Context) → Like Γ (context_of old) → FoundAtom Γ (IndexFn at ss e) (ty_of f) (each note_of a.0)
      found Γ l = subst (λ u. FoundAtom Γ (IndexFn at ss e) u (each note_of a.0)) (sym is) (record {
        met = inner.met;
        has = (ty_of t, inner.has, (inner.sound.formed, same_refl (Pi no_span ss (ty_of t))));
        sound = record { formed = inner.sound.formed; top = refl; inside = (inner.sound.top, inner.sound.inside) };
        notes = inner.notes;
      })
        where
          inner : Found (under_sorts ss Γ) e (ty_of t) (each note_of a.0)
          inner = a.2 (under_sorts ss Γ) (like_within Γ l)

-- ---- parts

-- a state to which no note is added
pub unchanged : (s : State) → s ≡ record s { notes = s.notes ++ [] }
unchanged s = ap (λ (ns : List Note). record s { notes = ns }) (sym (append-nil s.notes))

-- a part that is refused at once refuses the node
pub first_refused : (old now later : State) (e f : Expr) (r : TypeRefusal) → ((Γ : Context) → Refuses (expr_premises Γ f) r → Refuses (expr_premises Γ e) r) → ExprAnswers old later f (Err r) → NodeAnswers old now e (Err r)
first_refused old now later e f r h a = λ Γ l. h Γ (a Γ l)

-- the first part of an application of each kind
pub app_refused : (Γ : Context) (at : Span) (f : Expr) (es : Exprs) (r : TypeRefusal) → Refuses (expr_premises Γ f) r → Refuses (expr_premises Γ (App at f es)) r
app_refused Γ at f es (Refused n s) h = inl (inl h)
app_refused Γ at f es Memory h = tt

pub type_app_refused : (Γ : Context) (at : Span) (f : Expr) (ts : List Ty) (r : TypeRefusal) → Refuses (expr_premises Γ f) r → Refuses (expr_premises Γ (TypeApp at f ts)) r
type_app_refused Γ at f ts (Refused n s) h = inl (inl h)
type_app_refused Γ at f ts Memory h = tt

pub index_app_refused : (Γ : Context) (at : Span) (f : Expr) (is : List Index) (r : TypeRefusal) → Refuses (expr_premises Γ f) r → Refuses (expr_premises Γ (IndexApp at f is)) r
index_app_refused Γ at f is (Refused n s) h = inl (inl h)
index_app_refused Γ at f is Memory h = tt

pub unbox_refused : (Γ : Context) (at : Span) (n : ℕ) (f : Expr) (t : Ty) (b : Expr) (r : TypeRefusal) → Refuses (expr_premises Γ f) r → Refuses (expr_premises Γ (Unbox at n f t b)) r
unbox_refused Γ at n f t b (Refused m s) h = inl (inl h)
unbox_refused Γ at n f t b Memory h = tt
