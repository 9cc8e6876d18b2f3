-- A function: what is told at each of its exits.
use Rattle.std.proofs.Common.{◌≡◌, ◌∙◌, refl, sym, subst, List, [], ◌∷◌, inl, inr}
use Rattle.core_syntax.specs.declared.span.Span.{Span}
use Rattle.core_syntax.specs.declared.ty.Ty.{Ty as Tree}
use Rattle.core_syntax.specs.Syntax.{Ty, Fun, Tys, no_tys, more_tys, ty_items, no_span, Expr, Fn, ty_at}
use Rattle.core_syntax.specs.Kinds.{IsWellFormed, AreWellFormed}
use Rattle.core_syntax.specs.Made.{IsArray, HoldsArrays, AreArrays}
use Rattle.core_syntax.specs.TypeEqual.{Same}
use Rattle.core_syntax.specs.NormTypes.{norm_ty, norm_tys}
use Rattle.core_syntax.specs.Notes.{NodeNote}
use Rattle.core_syntax.specs.Refine.{ty_of, tys_of}
use Rattle.core_syntax.specs.Typing.{Context, under_terms, Has}
use Rattle.core_syntax.specs.Blame.{Premises, premise, expr_premises, atom_premises, with_any, ◌then◌, written, all_written}
use Rattle.core_syntax.proofs.Equality.{same_sym}
use Rattle.core_syntax.proofs.NormTyLemmas.{norm_same, same_normal}
use Rattle.core_syntax.proofs.Closed.{has_same}
use Rattle.type_check.specs.declared.refusal.TypeRefusal.{TypeRefusal}
use Rattle.type_check.specs.declared.refusal.TypeRefusal.TheVariants.{Refused, Memory}
use Rattle.type_check.specs.declared.functions.FunctionTypes.{FunctionTypes}
use Rattle.type_check.specs.Found.{Refuses, Found, FoundAtom}
use Rattle.type_check.specs.Written.{AreNormalOf}
use Rattle.type_check.specs.Boxes.{AreFunctionTypes}
use Rattle.type_check.proofs.exits.Refusing.{in_first, in_later, in_any, fails}
use Rattle.type_check.proofs.normal_forms.NormSound.{formed_again, arrays_again}

inputs_formed : (Γ : Context) (ts : Tys) (ns : List Tree) → AreNormalOf Γ (ty_items ts) ns → AreWellFormed Γ.types Γ.sorts ts
inputs_formed Γ no_tys ns h = tt
inputs_formed Γ (more_tys t ts) [] h = absurd h
inputs_formed Γ (more_tys t ts) (n ∷ ns) h = (h.0.0, inputs_formed Γ ts ns h.1)

inputs_normal : (Γ : Context) (ts : Tys) (ns : List Tree) → AreNormalOf Γ (ty_items ts) ns → tys_of ns ≡ norm_tys ts
inputs_normal Γ no_tys [] h = refl
inputs_normal Γ no_tys (n ∷ ns) h = absurd h
inputs_normal Γ (more_tys t ts) [] h = absurd h
inputs_normal Γ (more_tys t ts) (n ∷ ns) h = λ i. more_tys (h.0.1 i) (inputs_normal Γ ts ns h.1 i)

-- the body's premises, and its type
abbrev body : Context → Tys → Ty → Expr → Premises
body Γ ts r e = expr_premises (under_terms (ty_items ts) Γ) e then with_any (Has (under_terms (ty_items ts) Γ) e) (λ t. premise 27 (ty_at r) (Same t r))

-- the types that it writes aren't as they should be
pub types_refused : (Γ : Context) (at : Span) (ts : Tys) (r : Ty) (e : Expr) (refusal : TypeRefusal) → Refuses (all_written Γ ts then written Γ r) refusal → Refuses (atom_premises Γ (Fn at ts r e)) refusal
types_refused Γ at ts r e (Refused n place) (inl h) = inl h
types_refused Γ at ts r e (Refused n place) (inr h) = inr (h.0, inl h.1)
types_refused Γ at ts r e Memory h = tt

module _ (Γ : Context) (at : Span) (ts : Tys) (r : Ty) (e : Expr) (f : FunctionTypes) (types : AreFunctionTypes Γ ts r f) where
  in_body : (refusal : TypeRefusal) → Refuses (body Γ ts r e) refusal → Refuses (atom_premises Γ (Fn at ts r e)) refusal
  in_body refusal h = in_later (all_written Γ ts) (written Γ r then body Γ ts r e) refusal types.inputs_tested (in_later (written Γ r) (body Γ ts r e) refusal types.output_tested h)

  -- where the body is refused, the function is
  pub body_refused : (refusal : TypeRefusal) → Refuses (expr_premises (under_terms (ty_items ts) Γ) e) refusal → Refuses (atom_premises Γ (Fn at ts r e)) refusal
  body_refused refusal h =
      in_body refusal (in_first (expr_premises (under_terms (ty_items ts) Γ) e) (with_any (Has (under_terms (ty_items ts) Γ) e) (λ t. premise 27 (ty_at r) (Same t r))) refusal h)

  module _ (w : Ty) (ns : List NodeNote) (found : Found (under_terms (ty_items ts) Γ) e w ns) where
    -- the body is of another type
    pub misfits : (place : Span) → place ≡ ty_at r → norm_ty w ≡ w → (w ≡ ty_of f.output → ⊥) → Refuses (atom_premises Γ (Fn at ts r e)) (Refused 27 place)
    misfits place is normal other =
        in_body (Refused 27 place)
        (in_later (expr_premises (under_terms (ty_items ts) Γ) e) (with_any (Has (under_terms (ty_items ts) Γ) e) (λ t. premise 27 (ty_at r) (Same t r))) (Refused 27 place) found.met
        (in_any (Has (under_terms (ty_items ts) Γ) e) (λ t. premise 27 (ty_at r) (Same t r)) w (Refused 27 place) found.has
        (fails 27 (ty_at r) place (Same w r) (λ s. other (sym normal ∙ same_normal w r s ∙ sym types.output.1)) is)))

    -- it is of the type
    pub closed : w ≡ ty_of f.output → AreArrays ts → IsArray r → HoldsArrays r → (t : Ty) → t ≡ Fun no_span (tys_of f.inputs.items) (ty_of f.output) → FoundAtom Γ (Fn at ts r e) t ns
    closed same arrays array holds t is = subst (λ t. FoundAtom Γ (Fn at ts r e) t ns) (sym t_is) (record {
      met = (types.inputs_tested, (types.output_tested, (found.met, (w, found.has, body_same))));
      has = (formed.0, formed.1, has_same (under_terms (ty_items ts) Γ) e w r found.has body_same formed.1, (formed_again Γ.types Γ.sorts (Fun no_span ts r) formed, same_sym (norm_ty (Fun no_span ts r)) (Fun no_span ts r) (norm_same (Fun no_span ts r))));
      sound = record { formed = formed_again Γ.types Γ.sorts (Fun no_span ts r) formed; top = refl; inside = arrays_again (Fun no_span ts r) (arrays, array, holds) };
      notes = found.notes;
    })
      where
        formed : AreWellFormed Γ.types Γ.sorts ts × IsWellFormed Γ.types Γ.sorts r
        formed = (inputs_formed Γ ts f.inputs.items types.inputs, types.output.0)

        body_same : Same w r
        body_same = subst (λ x. Same x r) (sym (same ∙ types.output.1)) (norm_same r)

        t_is : t ≡ norm_ty (Fun no_span ts r)
        t_is = is ∙ λ i. Fun no_span (inputs_normal Γ ts f.inputs.items types.inputs i) (types.output.1 i)
