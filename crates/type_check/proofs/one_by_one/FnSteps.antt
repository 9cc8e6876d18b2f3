-- The body of a function: the state inside, and what is left behind it.
use Rattle.std.proofs.Common.{◌≡◌, refl, sym, ◌∙◌, ap, subst, ℕ, ◌+◌, ◌-◌, ◌<◌, ◌^◌, arith, List, [], ◌∷◌, ◌++◌, length, take, get_or, Ok, Err, Result}
use Rattle.std.proofs.Math.Seq.{take-append_seam}
use Rattle.std.proofs.lemmas.List.{length-append, take_more}
use Rattle.core_syntax.specs.declared.span.Span.{Span}
use Rattle.core_syntax.specs.declared.ty.Ty.{Ty as Tree}
use Rattle.core_syntax.specs.Syntax.{Ty, Tys, no_tys, more_tys, ty_items, Expr, Fn}
use Rattle.core_syntax.specs.Lists.{onto, each, Each, EachTwo}
use Rattle.core_syntax.specs.Made.{IsArray, HoldsArrays, AreArrays, IsSmall, terms_more, ExprMade, ArraysMade}
use Rattle.core_syntax.specs.NormTypes.{norm_ty, norm_tys}
use Rattle.core_syntax.specs.Refine.{ty_of, tys_of}
use Rattle.core_syntax.specs.TypeEqual.{Same}
use Rattle.core_syntax.specs.Typing.{Context, under_terms}
use Rattle.core_syntax.specs.Blame.{expr_premises, atom_premises}
use Rattle.core_syntax.proofs.Equality.{same_sym}
use Rattle.core_syntax.proofs.NormTyLemmas.{norm_same}
use Rattle.type_check.specs.declared.refusal.TypeRefusal.{TypeRefusal}
use Rattle.type_check.specs.declared.functions.FunctionTypes.{FunctionTypes}
use Rattle.type_check.specs.declared.state.Bound.{Bound}
use Rattle.type_check.specs.Answers.{ExprAnswers, AtomAnswers}
use Rattle.type_check.specs.Boxes.{AreFunctionTypes}
use Rattle.type_check.specs.Contexts.{Like, IsSound, scope_of}
use Rattle.type_check.specs.Found.{Found, Refuses}
use Rattle.type_check.specs.Functions.{within_terms, InFunctionAnswers}
use Rattle.type_check.specs.State.{State, bound_at, context_of, IsSteady}
use Rattle.type_check.specs.Written.{AreNormalOf, IsWritten}
use Rattle.type_check.proofs.contexts.Binding.{like_terms, context_terms, each_length}
use Rattle.type_check.proofs.contexts.Entering.{steady_terms, made_terms}
use Rattle.type_check.proofs.exits.FnRule.{body_refused}
use Rattle.type_check.proofs.normal_forms.NormSound.{formed_again, arrays_again}
use Rattle.type_check.proofs.exits.RuleLemmas.{array_normal}
use Rattle.type_check.proofs.one_by_one.Steps.{like_itself}

-- ---- the trees of the inputs

abbrev pub IsNormal : Tree → Type 0
IsNormal t = norm_ty (ty_of t) ≡ ty_of t

each_more : (ts : List Tree) (t : Tree) → Each IsNormal ts → IsNormal t → Each IsNormal (ts ++ t ∷ [])
each_more [] t h n = (n, tt)
each_more (u ∷ ts) t h n = (h.0, each_more ts t h.1 n)

pub trees_normal : (ts : List Tree) → Each IsNormal ts → norm_tys (tys_of ts) ≡ tys_of ts
trees_normal [] h = refl
trees_normal (t ∷ ts) h = λ i. more_tys (h.0 i) (trees_normal ts h.1 i)

pub trees_go_on : (types done now : List Tree) (k : ℕ) (x y t : Tree) → k < length types → x ≡ get_or types k x → y ≡ x → IsNormal y → t ≡ y → now ≡ done ++ t ∷ []
    → (done ≡ take k types) × Each IsNormal done → (now ≡ take (k + 1) types) × Each IsNormal now
trees_go_on types done now k x y t lt is read normal copied pushed before = (
  pushed ∙ (λ i. before.0 i ++ (copied ∙ read) i ∷ []) ∙ ap (λ u. take k types ++ u ∷ []) is ∙ sym (take_more types k x lt),
  subst (Each IsNormal) (sym pushed) (each_more done t before.1 (subst IsNormal (sym copied) normal)),
)

-- ---- the types that are entered

pub inputs_sound : (Γ : Context) (ts : Tys) (ns : List Tree) → AreNormalOf Γ (ty_items ts) ns → AreArrays ts → Each (IsSound Γ.types Γ.sorts) (each ty_of ns)
inputs_sound Γ no_tys [] h a = tt
inputs_sound Γ no_tys (n ∷ ns) h a = absurd h
inputs_sound Γ (more_tys t ts) [] h a = absurd h
inputs_sound Γ (more_tys t ts) (n ∷ ns) h a = (
  subst (IsSound Γ.types Γ.sorts) (sym h.0.1) (record { formed = formed_again Γ.types Γ.sorts t h.0.0; top = array_normal t a.0.0; inside = arrays_again t a.0.1 }),
  inputs_sound Γ ts ns h.1 a.1,
)

pub inputs_same : (Γ : Context) (ts : Tys) (ns : List Tree) → AreNormalOf Γ (ty_items ts) ns → EachTwo Same (ty_items ts) (each ty_of ns)
inputs_same Γ no_tys [] h = tt
inputs_same Γ no_tys (n ∷ ns) h = absurd h
inputs_same Γ (more_tys t ts) [] h = absurd h
inputs_same Γ (more_tys t ts) (n ∷ ns) h = (subst (Same t) (sym h.0.1) (same_sym (norm_ty t) t (norm_same t)), inputs_same Γ ts ns h.1)

pub inputs_count : (Γ : Context) (ts : Tys) (ns : List Tree) → AreNormalOf Γ (ty_items ts) ns → length (ty_items ts) ≡ length ns
inputs_count Γ no_tys [] h = refl
inputs_count Γ no_tys (n ∷ ns) h = absurd h
inputs_count Γ (more_tys t ts) [] h = absurd h
inputs_count Γ (more_tys t ts) (n ∷ ns) h = let e = inputs_count Γ ts ns h.1 in omega arith

-- ---- the state inside

module _ (s : State) (ts : List Tree) (h : IsSteady s) (small : IsSmall (terms_more (length ts) (scope_of (context_of s)))) where
  pub steady_inside : Each (IsSound s.types (onto s.sorts [])) (each ty_of ts) → IsSteady (within_terms ts s)
  steady_inside sound = steady_terms s ts h sound small.2

  pub made_inside : (e : Expr) → ExprMade (terms_more (length ts) (scope_of (context_of s))) e → ExprMade (scope_of (context_of (within_terms ts s))) e
  made_inside e m = made_terms s ts h (length ts) e refl m

  module _ (entered : State) (enters : entered ≡ within_terms ts s) where
    like_entered : (us : List Ty) → EachTwo Same us (each ty_of ts) → (Γ : Context) → Like Γ (context_of s) → Like (under_terms us Γ) (context_of entered)
    like_entered us same Γ l =
        subst (λ (z : State). Like (under_terms us Γ) (context_of z)) (sym enters)
        (subst (Like (under_terms us Γ)) (sym (context_terms s ts)) (like_terms us (each ty_of ts) Γ (context_of s) same l))

    pub in_function_refused : (e : Expr) (r : TypeRefusal) (later now : State) → ExprAnswers entered later e (Err r) → InFunctionAnswers (each ty_of ts) e s now (Err r)
    in_function_refused e r later now a = λ us same Γ l. a (under_terms us Γ) (like_entered us same Γ l)

    pub in_function_found : (e : Expr) (t : Tree) (n : ℕ) (later now : State) → n ≡ length ts → ExprAnswers entered later e (Ok t)
        → now ≡ record later { terms = take (length later.terms - n) later.terms } → InFunctionAnswers (each ty_of ts) e s now (Ok t)
    in_function_found e t n later now count a left = λ us same. (a.0, now_is, λ Γ l. a.2 (under_terms us Γ) (like_entered us same Γ l))
      where
        inner : List Bound
        inner = each (bound_at s) ts

        terms_left : take (length (s.terms ++ inner) - n) (s.terms ++ inner) ≡ s.terms
        terms_left =
            ap (λ k. take k (s.terms ++ inner)) (let l = length-append s.terms inner in let m = each_length (bound_at s) ts in let e : length (s.terms ++ inner) - n ≡ length s.terms = omega (arith, l, m, count) in e)
            ∙ take-append_seam s.terms inner

        now_is : now ≡ record s { notes = s.notes ++ a.0 }
        now_is = left
            ∙ ap (λ (z : State). record z { terms = take (length z.terms - n) z.terms }) (a.1 ∙ ap (λ (z : State). record z { notes = z.notes ++ a.0 }) enters)
            ∙ λ i. record s { terms = terms_left i; notes = s.notes ++ a.0 }

-- ---- a function whose types are as they should be

module _ (s : State) (ts : Tys) (r : Ty) (f : FunctionTypes) (types : (Γ : Context) → Like Γ (context_of s) → AreFunctionTypes Γ ts r f) where
  here : AreFunctionTypes (context_of s) ts r f
  here = types (context_of s) (like_itself (context_of s))

  pub opened_sound : AreArrays ts → Each (IsSound s.types (onto s.sorts [])) (each ty_of f.inputs.items)
  opened_sound a = inputs_sound (context_of s) ts f.inputs.items here.inputs a

  pub opened_same : EachTwo Same (ty_items ts) (each ty_of f.inputs.items)
  opened_same = inputs_same (context_of s) ts f.inputs.items here.inputs

  pub opened_count : length (ty_items ts) ≡ length f.inputs.items
  opened_count = inputs_count (context_of s) ts f.inputs.items here.inputs

  pub inner_refused : (at : Span) (e : Expr) (refusal : TypeRefusal) (now : State) → InFunctionAnswers (each ty_of f.inputs.items) e s now (Err refusal) → AtomAnswers s now (Fn at ts r e) (Err refusal)
  inner_refused at e refusal now a = λ Γ l. body_refused Γ at ts r e f (types Γ l) refusal (a (ty_items ts) opened_same Γ l)
