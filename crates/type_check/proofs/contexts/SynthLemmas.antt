-- The state in a context is steady and like it.
use Rattle.std.proofs.Common.{◌≡◌, sym, ◌∙◌, subst, ℕ, ◌-◌, ◌<◌, ◌^◌, arith, List, [], ◌∷◌, length, Ok, Err, Result}
use Rattle.std.specs.Prelude.{OnOk, IfOk, IfErr}
use Rattle.core_syntax.specs.declared.index.Sort.{Sort}
use Rattle.core_syntax.specs.declared.ty.Ty.{Ty as Tree}
use Rattle.core_syntax.specs.Syntax.{Ty, Expr}
use Rattle.core_syntax.specs.Blame.{expr_premises}
use Rattle.core_syntax.specs.Lists.{onto, each, Each, EachTwo}
use Rattle.core_syntax.specs.Made.{ExprMade}
use Rattle.core_syntax.specs.NormTypes.{norm_ty}
use Rattle.core_syntax.specs.Refine.{ty_of}
use Rattle.core_syntax.specs.TypeEqual.{Same}
use Rattle.core_syntax.specs.Typing.{Context, Has}
use Rattle.core_syntax.proofs.Equality.{same_sym}
use Rattle.core_syntax.proofs.NormTyLemmas.{norm_same}
use Rattle.type_check.specs.declared.refusal.TypeRefusal.{TypeRefusal}
use Rattle.type_check.specs.declared.state.Bound.{Bound}
use Rattle.type_check.specs.Answers.{ExprAnswers}
use Rattle.type_check.specs.Contexts.{Like, IsSound, scope_of}
use Rattle.type_check.specs.Found.{Refuses}
use Rattle.type_check.specs.State.{State, further, seen, context_of, IsOlder, IsSteady}
use Rattle.type_check.specs.Synth.{IsHeld, IsWellMadeContext, IsNormal, IsKnown, IsWithin}
use Rattle.type_check.proofs.contexts.Binding.{each_length}
use Rattle.type_check.proofs.normal_forms.NormSound.{sound_again}
use Rattle.type_check.proofs.whole_programs.ProgramStates.{two_length}
use Rattle.type_check.proofs.substitution.Renamed.{further_none}

norm_equal : (t n : Ty) → n ≡ norm_ty t → Same t n
norm_equal t n e = subst (Same t) (sym e) (same_sym (norm_ty t) t (norm_same t))

norm_sound : (types : ℕ) (sorts : List Sort) (t n : Ty) → n ≡ norm_ty t → IsSound types sorts t → IsSound types sorts n
norm_sound types sorts t n e h = subst (IsSound types sorts) (sym e) (sound_again types sorts t h)

defs_equal : (ts : List Ty) (ns : List Tree) → EachTwo IsNormal ts ns → EachTwo Same ts (each ty_of ns)
defs_equal [] [] h = tt
defs_equal [] (n ∷ ns) h = absurd h
defs_equal (t ∷ ts) [] h = absurd h
defs_equal (t ∷ ts) (n ∷ ns) h = (norm_equal t (ty_of n) h.0, defs_equal ts ns h.1)

defs_sound : (ts : List Ty) (ns : List Tree) → EachTwo IsNormal ts ns → Each (IsHeld 0 []) ts → Each (IsSound 0 []) (each ty_of ns)
defs_sound [] [] h k = tt
defs_sound [] (n ∷ ns) h k = absurd h
defs_sound (t ∷ ts) [] h k = absurd h
defs_sound (t ∷ ts) (n ∷ ns) h k = (norm_sound 0 [] t (ty_of n) h.0 k.0.sound, defs_sound ts ns h.1 k.1)

module _ (types indices : ℕ) where
  seen_is : (t : Ty) (b : Bound) → IsKnown types indices t b → seen types indices b ≡ norm_ty t
  seen_is t b h =
      let p : indices - b.indices ≡ 0 = let e = h.2 in omega (arith, e) in
      let q : types - b.types ≡ 0 = let e = h.1 in omega (arith, e) in
      (λ i. further (p i) (q i) (h.0 i)) ∙ further_none (norm_ty t)

  terms_equal : (ts : List Ty) (bs : List Bound) → EachTwo (IsKnown types indices) ts bs → EachTwo Same ts (each (seen types indices) bs)
  terms_equal [] [] h = tt
  terms_equal [] (b ∷ bs) h = absurd h
  terms_equal (t ∷ ts) [] h = absurd h
  terms_equal (t ∷ ts) (b ∷ bs) h = (norm_equal t (seen types indices b) (seen_is t b h.0), terms_equal ts bs h.1)

  terms_sound : (sorts : List Sort) (ts : List Ty) (bs : List Bound) → EachTwo (IsKnown types indices) ts bs → Each (IsHeld types sorts) ts → Each (IsSound types sorts) (each (seen types indices) bs)
  terms_sound sorts [] [] h k = tt
  terms_sound sorts [] (b ∷ bs) h k = absurd h
  terms_sound sorts (t ∷ ts) [] h k = absurd h
  terms_sound sorts (t ∷ ts) (b ∷ bs) h k = (norm_sound types sorts t (seen types indices b) (seen_is t b h.0) k.0.sound, terms_sound sorts ts bs h.1 k.1)

  terms_older : (ts : List Ty) (bs : List Bound) → EachTwo (IsKnown types indices) ts bs → Each (IsOlder types indices) bs
  terms_older [] [] h = tt
  terms_older [] (b ∷ bs) h = absurd h
  terms_older (t ∷ ts) [] h = absurd h
  terms_older (t ∷ ts) (b ∷ bs) h = let p = h.0.1 in let q = h.0.2 in ((omega (arith, p), omega (arith, q)), terms_older ts bs h.1)

-- what holds of each in the other order holds of each
back : {A : Type 0} (P : A → Type 0) (xs ys : List A) → Each P (onto xs ys) → Each P xs × Each P ys
back P [] ys h = (tt, h)
back P (x ∷ xs) ys h = let r = back P xs (x ∷ ys) h in ((r.1.0, r.0), r.1.1)

module _ (Γ : Context) (s : State) (w : IsWithin Γ s) where
  pub like_within : Like Γ (context_of s)
  like_within = record {
    types = sym w.types;
    sorts = sym w.sorts;
    defs = defs_equal Γ.defs s.defs w.defs;
    terms = terms_equal s.types (length s.sorts) Γ.terms (onto s.terms []) w.terms;
  }

  terms_count : length (context_of s).terms ≡ length Γ.terms
  terms_count = each_length (seen s.types (length s.sorts)) (onto s.terms []) ∙ two_length (IsKnown s.types (length s.sorts)) Γ.terms (onto s.terms []) w.terms

  scope_within : scope_of (context_of s) ≡ scope_of Γ
  scope_within = λ i. record { defs = (each_length ty_of s.defs ∙ two_length IsNormal Γ.defs s.defs w.defs) i; types = w.types i; indices = length (w.sorts i); terms = terms_count i }

  pub steady_within : IsWellMadeContext Γ → IsSteady s
  steady_within made = record {
    ready = record {
      defs = defs_sound Γ.defs s.defs w.defs made.defs;
      terms = terms_sound s.types (length s.sorts) (onto s.sorts []) Γ.terms (onto s.terms []) w.terms
          (subst (λ n. Each (IsHeld n (onto s.sorts [])) Γ.terms) (sym w.types) (subst (λ ss. Each (IsHeld Γ.types ss) Γ.terms) (sym w.sorts) made.terms));
      types_few = subst (λ n. n < 2 ^ 31) (sym w.types) made.types_few;
      sorts_few = subst (λ ss. length ss < 2 ^ 31) (sym w.sorts) made.sorts_few;
      terms_few = subst (λ n. n < 2 ^ 31) (sym terms_count) made.terms_few;
    };
    older = (back (IsOlder s.types (length s.sorts)) s.terms [] (terms_older s.types (length s.sorts) Γ.terms (onto s.terms []) w.terms)).0;
  }

  pub made_within : (e : Expr) → ExprMade (scope_of Γ) e → ExprMade (scope_of (context_of s)) e
  made_within e m = subst (λ Θ. ExprMade Θ e) (sym scope_within) m

  -- what is answered in the state is so in the context
  pub synth_met : (now : State) (e : Expr) (r : Result Tree TypeRefusal) → ExprAnswers s now e r → OnOk r (expr_premises Γ e).met
  synth_met now e (Ok t) f = (f.2 Γ like_within).met
  synth_met now e (Err r) f = tt

  pub synth_has : (now : State) (e : Expr) (r : Result Tree TypeRefusal) → ExprAnswers s now e r → IfOk r (λ t. Has Γ e (ty_of t))
  synth_has now e (Ok t) f = (f.2 Γ like_within).has
  synth_has now e (Err r) f = tt

  pub synth_refused : (now : State) (e : Expr) (r : Result Tree TypeRefusal) → ExprAnswers s now e r → IfErr r (λ q. Refuses (expr_premises Γ e) q)
  synth_refused now e (Ok t) f = tt
  synth_refused now e (Err r) f = f Γ like_within
