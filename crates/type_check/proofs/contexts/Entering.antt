-- States with binders more: they are steady, and an expression is made there.
use Rattle.std.proofs.Common.{◌≡◌, refl, sym, ◌∙◌, ap, subst, ℕ, ◌+◌, ◌<◌, ◌≤◌, ◌^◌, arith, List, [], ◌∷◌, ◌++◌, length}
use Rattle.std.proofs.lemmas.List.{length-append}
use Rattle.core_syntax.specs.declared.index.Sort.{Sort}
use Rattle.core_syntax.specs.declared.ty.Ty.{Ty as Tree}
use Rattle.core_syntax.specs.Syntax.{Ty, Expr}
use Rattle.core_syntax.specs.Lists.{onto, each, Each}
use Rattle.core_syntax.specs.Made.{Scope, types_more, indices_more, terms_more, ExprMade}
use Rattle.core_syntax.specs.Refine.{ty_of}
use Rattle.core_syntax.specs.Subst.{ty_under_index, ty_under_type}
use Rattle.core_syntax.specs.Typing.{Context, times, under_types, under_sorts, under_terms}
use Rattle.type_check.specs.declared.state.Bound.{Bound}
use Rattle.type_check.specs.Contexts.{Like, IsSound, IsReady, scope_of}
use Rattle.type_check.specs.State.{State, bound_at, context_of, IsOlder, IsSteady}
use Rattle.type_check.proofs.contexts.Binding.{like_types, like_sorts, ready_types, ready_sorts, ready_terms, context_types, context_sorts, context_terms, each_length, onto_length}

each_weaker : {A : Type 0} (P Q : A → Type 0) → ((a : A) → P a → Q a) → (xs : List A) → Each P xs → Each Q xs
each_weaker P Q h [] p = tt
each_weaker P Q h (x ∷ xs) p = (h x p.0, each_weaker P Q h xs p.1)

each_append : {A : Type 0} (P : A → Type 0) (xs ys : List A) → Each P xs → Each P ys → Each P (xs ++ ys)
each_append P [] ys p q = q
each_append P (x ∷ xs) ys p q = (p.0, each_append P xs ys p.1 q)

-- ---- type variables

module _ (s : State) (n : ℕ) (h : IsSteady s) where
  pub steady_types : n + s.types < 2 ^ 31 → IsSteady (record s { types = n + s.types })
  steady_types few = record {
    ready = subst IsReady (sym (context_types s h.older n)) (ready_types n (context_of s) h.ready few);
    older = each_weaker (IsOlder s.types (length s.sorts)) (IsOlder (n + s.types) (length s.sorts)) (λ b o. let k = o.0 in (omega (arith, k), o.1)) s.terms h.older;
  }

  pub like_entered_types : (Γ : Context) → Like Γ (context_of s) → Like (under_types n Γ) (context_of (record s { types = n + s.types }))
  like_entered_types Γ l = subst (Like (under_types n Γ)) (sym (context_types s h.older n)) (like_types n Γ (context_of s) l)

  pub made_types : (e : Expr) → ExprMade (types_more n (scope_of (context_of s))) e → ExprMade (scope_of (context_of (record s { types = n + s.types }))) e
  made_types e m = subst (λ Γ. ExprMade Γ e) (sym scope) m
    where
      scope : scope_of (context_of (record s { types = n + s.types })) ≡ types_more n (scope_of (context_of s))
      scope = ap scope_of (context_types s h.older n)
          ∙ λ i. record { defs = length (each ty_of s.defs); types = n + s.types; indices = length (onto s.sorts []); terms = each_length (times n ty_under_type) (context_of s).terms i }

-- ---- index variables

module _ (s : State) (ss : List Sort) (h : IsSteady s) where
  pub steady_sorts : length ss + length (onto s.sorts []) < 2 ^ 31 → IsSteady (record s { sorts = s.sorts ++ ss })
  steady_sorts few = record {
    ready = subst IsReady (sym (context_sorts s h.older ss)) (ready_sorts ss (context_of s) h.ready few);
    older = each_weaker (IsOlder s.types (length s.sorts)) (IsOlder s.types (length (s.sorts ++ ss))) (λ b o. let k = o.1 in let l = length-append s.sorts ss in (o.0, omega (arith, k, l))) s.terms h.older;
  }

  pub like_entered_sorts : (Γ : Context) → Like Γ (context_of s) → Like (under_sorts ss Γ) (context_of (record s { sorts = s.sorts ++ ss }))
  like_entered_sorts Γ l = subst (Like (under_sorts ss Γ)) (sym (context_sorts s h.older ss)) (like_sorts ss Γ (context_of s) l)

  pub made_sorts : (e : Expr) → ExprMade (indices_more (length ss) (scope_of (context_of s))) e → ExprMade (scope_of (context_of (record s { sorts = s.sorts ++ ss }))) e
  made_sorts e m = subst (λ Γ. ExprMade Γ e) (sym scope) m
    where
      scope : scope_of (context_of (record s { sorts = s.sorts ++ ss })) ≡ indices_more (length ss) (scope_of (context_of s))
      scope = ap scope_of (context_sorts s h.older ss)
          ∙ λ i. record { defs = length (each ty_of s.defs); types = s.types; indices = onto_length ss (onto s.sorts []) i; terms = each_length (times (length ss) ty_under_index) (context_of s).terms i }

-- ---- term variables

module _ (s : State) (ts : List Tree) (h : IsSteady s) where
  here_older : (ts : List Tree) → Each (IsOlder s.types (length s.sorts)) (each (bound_at s) ts)
  here_older [] = tt
  here_older (t ∷ ts) = ((omega arith, omega arith), here_older ts)

  pub steady_terms : Each (IsSound s.types (onto s.sorts [])) (each ty_of ts) → length ts + length (context_of s).terms < 2 ^ 31 → IsSteady (record s { terms = s.terms ++ each (bound_at s) ts })
  steady_terms sound few = record {
    ready = subst IsReady (sym (context_terms s ts)) (ready_terms (each ty_of ts) (context_of s) h.ready sound (let e = each_length ty_of ts in omega (arith, e, few)));
    older = each_append (IsOlder s.types (length s.sorts)) s.terms (each (bound_at s) ts) h.older (here_older ts);
  }

  pub made_terms : (n : ℕ) (e : Expr) → length ts ≡ n → ExprMade (terms_more n (scope_of (context_of s))) e → ExprMade (scope_of (context_of (record s { terms = s.terms ++ each (bound_at s) ts }))) e
  made_terms n e c m = subst (λ Γ. ExprMade Γ e) (sym scope) m
    where
      scope : scope_of (context_of (record s { terms = s.terms ++ each (bound_at s) ts })) ≡ terms_more n (scope_of (context_of s))
      scope = ap scope_of (context_terms s ts)
          ∙ λ i. record { defs = length (each ty_of s.defs); types = s.types; indices = length (onto s.sorts []); terms = (onto_length (each ty_of ts) (context_of s).terms ∙ ap (λ k. k + length (context_of s).terms) (each_length ty_of ts ∙ c)) i }
