-- The state between the parts of a program: it is steady, and like the context of what is behind.
use Rattle.std.proofs.Common.{◌≡◌, refl, sym, ◌∙◌, ap, subst, ℕ, suc, ◌+◌, ◌-◌, ◌<◌, ◌^◌, arith, List, [], ◌∷◌, length}
use Rattle.core_syntax.specs.declared.ty.Ty.{Ty as Tree}
use Rattle.core_syntax.specs.Syntax.{Ty, Def}
use Rattle.core_syntax.specs.Lists.{onto, each, Each, EachTwo}
use Rattle.core_syntax.specs.Made.{behind_defs, terms_more}
use Rattle.core_syntax.specs.NormTypes.{norm_ty}
use Rattle.core_syntax.specs.Refine.{ty_of}
use Rattle.core_syntax.specs.TypeEqual.{Same}
use Rattle.core_syntax.specs.Typing.{under_terms, defs_only}
use Rattle.core_syntax.proofs.Equality.{same_sym}
use Rattle.core_syntax.proofs.NormTyLemmas.{norm_same}
use Rattle.type_check.specs.declared.state.Bound.{Bound}
use Rattle.type_check.specs.Contexts.{Like, IsSound, scope_of}
use Rattle.type_check.specs.ProgramState.{IsDefined, IsEntered, IsBehind}
use Rattle.type_check.specs.State.{State, further, seen, context_of, IsOlder, IsSteady}
use Rattle.type_check.proofs.contexts.Binding.{each_onto, each_of_onto, each_length, onto_length, two_onto}
use Rattle.type_check.proofs.normal_forms.NormSound.{sound_again}
use Rattle.type_check.proofs.substitution.Renamed.{further_none}

-- the types that are written of definitions
abbrev pub types_of : List Def → List Ty
types_of defs = each (λ d. d.ty) defs

norm_equal : (t n : Ty) → n ≡ norm_ty t → Same t n
norm_equal t n e = subst (Same t) (sym e) (same_sym (norm_ty t) t (norm_same t))

norm_sound : (t n : Ty) → n ≡ norm_ty t → IsSound 0 [] t → IsSound 0 [] n
norm_sound t n e h = subst (IsSound 0 []) (sym e) (sound_again 0 [] t h)

pub two_length : {A B : Type 0} (R : A → B → Type 0) (xs : List A) (ys : List B) → EachTwo R xs ys → length ys ≡ length xs
two_length R [] [] h = refl
two_length R [] (y ∷ ys) h = absurd h
two_length R (x ∷ xs) [] h = absurd h
two_length R (x ∷ xs) (y ∷ ys) h = ap suc (two_length R xs ys h.1)

-- ---- definitions

defs_equal : (ds : List Def) (ns : List Tree) → EachTwo IsDefined ds ns → EachTwo Same (types_of ds) (each ty_of ns)
defs_equal [] [] h = tt
defs_equal [] (n ∷ ns) h = absurd h
defs_equal (d ∷ ds) [] h = absurd h
defs_equal (d ∷ ds) (n ∷ ns) h = (norm_equal d.ty (ty_of n) h.0.ty_is, defs_equal ds ns h.1)

defs_sound : (ds : List Def) (ns : List Tree) → EachTwo IsDefined ds ns → Each (IsSound 0 []) (each ty_of ns)
defs_sound [] [] h = tt
defs_sound [] (n ∷ ns) h = absurd h
defs_sound (d ∷ ds) [] h = absurd h
defs_sound (d ∷ ds) (n ∷ ns) h = (norm_sound d.ty (ty_of n) h.0.ty_is h.0.sound, defs_sound ds ns h.1)

-- ---- inputs, where no type variables and index variables are in scope

seen_is : (types indices : ℕ) → types ≡ 0 → indices ≡ 0 → (t : Ty) (b : Bound) → IsEntered t b → seen types indices b ≡ norm_ty t
seen_is types indices p q t b h = (λ i. further (q i - h.indices_none i) (p i - h.types_none i) (h.ty_is i)) ∙ further_none (norm_ty t)

module _ (types indices : ℕ) (p : types ≡ 0) (q : indices ≡ 0) where
  inputs_equal : (ts : List Ty) (bs : List Bound) → EachTwo IsEntered ts bs → EachTwo Same ts (each (seen types indices) bs)
  inputs_equal [] [] h = tt
  inputs_equal [] (b ∷ bs) h = absurd h
  inputs_equal (t ∷ ts) [] h = absurd h
  inputs_equal (t ∷ ts) (b ∷ bs) h = (norm_equal t (seen types indices b) (seen_is types indices p q t b h.0), inputs_equal ts bs h.1)

  inputs_sound : (ts : List Ty) (bs : List Bound) → EachTwo IsEntered ts bs → Each (IsSound 0 []) (each (seen types indices) bs)
  inputs_sound [] [] h = tt
  inputs_sound [] (b ∷ bs) h = absurd h
  inputs_sound (t ∷ ts) [] h = absurd h
  inputs_sound (t ∷ ts) (b ∷ bs) h = (norm_sound t (seen types indices b) (seen_is types indices p q t b h.0) h.0.sound, inputs_sound ts bs h.1)

  inputs_older : (ts : List Ty) (bs : List Bound) → EachTwo IsEntered ts bs → Each (IsOlder types indices) bs
  inputs_older [] [] h = tt
  inputs_older [] (b ∷ bs) h = absurd h
  inputs_older (t ∷ ts) [] h = absurd h
  inputs_older (t ∷ ts) (b ∷ bs) h =
      let k = h.0.types_none in let l = h.0.indices_none in ((omega (arith, k, p), omega (arith, l, q)), inputs_older ts bs h.1)

-- ---- the state

module _ (defs : List Def) (inputs : List Ty) (s : State) (h : IsBehind defs inputs s) where
  indices_none : length s.sorts ≡ 0
  indices_none = ap length h.sorts_none

  sorts_are : onto s.sorts [] ≡ []
  sorts_are = ap (λ ss. onto ss []) h.sorts_none

  terms_are : each (seen s.types (length s.sorts)) (onto s.terms []) ≡ onto (each (seen s.types (length s.sorts)) s.terms) []
  terms_are = each_of_onto (seen s.types (length s.sorts)) s.terms []

  pub like_behind : Like (under_terms inputs (defs_only (types_of defs))) (context_of s)
  like_behind = record {
    types = sym h.types_none;
    sorts = sym sorts_are;
    defs = defs_equal defs s.defs h.defs_are;
    terms = subst (EachTwo Same (onto inputs [])) (sym terms_are)
        (two_onto Same inputs (each (seen s.types (length s.sorts)) s.terms) [] [] (inputs_equal s.types (length s.sorts) h.types_none indices_none inputs s.terms h.inputs_are) tt);
  }

  terms_count : length (context_of s).terms ≡ length inputs + 0
  terms_count =
      each_length (seen s.types (length s.sorts)) (onto s.terms []) ∙ onto_length s.terms [] ∙ ap (λ n. n + 0) (two_length IsEntered inputs s.terms h.inputs_are)

  pub scope_behind : scope_of (context_of s) ≡ terms_more (length inputs) (behind_defs (length defs))
  scope_behind = λ i. record { defs = defs_count i; types = h.types_none i; indices = ap length sorts_are i; terms = terms_count i }
    where
      defs_count : length (each ty_of s.defs) ≡ length defs
      defs_count = each_length ty_of s.defs ∙ two_length IsDefined defs s.defs h.defs_are

  pub steady_behind : length inputs < 2 ^ 31 → IsSteady s
  steady_behind few = record {
    ready = record {
      defs = defs_sound defs s.defs h.defs_are;
      terms = subst (Each (IsSound s.types (onto s.sorts []))) (sym terms_are) (each_onto (IsSound s.types (onto s.sorts [])) (each (seen s.types (length s.sorts)) s.terms) []
          (subst (λ n. Each (IsSound n (onto s.sorts [])) (each (seen s.types (length s.sorts)) s.terms)) (sym h.types_none)
          (subst (λ ss. Each (IsSound 0 ss) (each (seen s.types (length s.sorts)) s.terms)) (sym sorts_are)
          (inputs_sound s.types (length s.sorts) h.types_none indices_none inputs s.terms h.inputs_are))) tt);
      types_few = let e = h.types_none in omega (arith, e);
      sorts_few = let e = ap length sorts_are in omega (arith, e);
      terms_few = let e = terms_count in omega (arith, e, few);
    };
    older = inputs_older s.types (length s.sorts) h.types_none indices_none inputs s.terms h.inputs_are;
  }
