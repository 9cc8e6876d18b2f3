-- An erased run goes step for step with the typed one.
use Rattle.std.proofs.Common.{◌≡◌, refl, sym, ◌∙◌, ap, ℕ, zero, suc, List, [], Option, Some, None}
use Rattle.std.specs.Prelude.{option_map, ◌↔◌}
use Rattle.core_syntax.specs.declared.errors.TrapKind.{TrapKind}
use Rattle.core_syntax.specs.Lists.{each}
use Rattle.core_syntax.specs.Move.{Move, Rests, Trapped, Goes, Lost, where_it_goes}
use Rattle.core_syntax.specs.Step.{step, after, ReachesValue, TrapsAt, GoesOn}
use Rattle.core_syntax.specs.Syntax.{Ty}
use Rattle.core_syntax.specs.TermTyping.{DefTermsTyped, HasClosed}
use Rattle.core_syntax.specs.Typed.{TypedTerm, typed_rules}
use Rattle.erasure.specs.Erased.{ErasedTerm, erased_rules}
use Rattle.erasure.specs.Erasure.{er}
use Rattle.reduction_laws.proofs.runs.TypedRuns.{preservation, after_has}
use Rattle.erasure.proofs.together.Steps.{step_erased}
use Rattle.erasure.proofs.together.Applied.{move_map}

-- a move whose image is a value is one
rests_from : {A B : Type 0} (f : A → B) (m : Move A) → move_map f m ≡ Rests → m ≡ Rests
rests_from f Rests e = refl
rests_from f (Trapped k) e = absurd (cc)
rests_from f (Goes a) e = absurd (cc)
rests_from f Lost e = absurd (cc)

-- and one whose image traps traps alike
traps_from : {A B : Type 0} (f : A → B) (m : Move A) (kind : TrapKind) → move_map f m ≡ Trapped kind → m ≡ Trapped kind
traps_from f Rests kind e = absurd (cc)
traps_from f (Trapped k) kind e = let same : k ≡ kind = cc in ap Trapped same
traps_from f (Goes a) kind e = absurd (cc)
traps_from f Lost kind e = absurd (cc)

-- and one whose image has no rule has none
pub lost_from : {A B : Type 0} (f : A → B) (m : Move A) → move_map f m ≡ Lost → m ≡ Lost
lost_from f Rests e = absurd (cc)
lost_from f (Trapped k) e = absurd (cc)
lost_from f (Goes a) e = absurd (cc)
lost_from f Lost e = refl

-- what an image comes from
some_from : {A B : Type 0} (f : A → B) (o : Option A) (b : B) → option_map f o ≡ Some b → (a : A) × (o ≡ Some a) × (f a ≡ b)
some_from f None b e = absurd (cc)
some_from f (Some a) b e = (a, refl, cc)

module _ (D : List Ty) (defs : List TypedTerm) (typed_defs : DefTermsTyped D defs) where
  abbrev ED : List ErasedTerm
  ED = each (er []) defs

  -- a step, where the typed one goes
  goes_erased : (k : ℕ) (m : Move TypedTerm) → ((u : TypedTerm) → m ≡ Goes u → after erased_rules ED k (er [] u) ≡ option_map (er []) (after typed_rules defs k u))
      → where_it_goes (move_map (er []) m) (after erased_rules ED k) ≡ option_map (er []) (where_it_goes m (after typed_rules defs k))
  goes_erased k (Goes u) f = f u refl
  goes_erased k Rests f = refl
  goes_erased k (Trapped kind) f = refl
  goes_erased k Lost f = refl

  -- each term on the way is the typed one, erased
  pub after_erased : (k : ℕ) (t : TypedTerm) (T : Ty) → HasClosed D t T → after erased_rules ED k (er [] t) ≡ option_map (er []) (after typed_rules defs k t)
  after_erased zero t T h = refl
  after_erased (suc k) t T h =
      ap (λ m. where_it_goes m (after erased_rules ED k)) (sym (step_erased D defs typed_defs t T h))
      ∙ goes_erased k (step typed_rules defs t) (λ u e. after_erased k u T (preservation D defs typed_defs t u T h e))

  -- where an erased run is, the typed one is
  pub way_back : (k : ℕ) (t : TypedTerm) (w : ErasedTerm) (T : Ty) → HasClosed D t T → after erased_rules ED k (er [] t) ≡ Some w → (u : TypedTerm) × (after typed_rules defs k t ≡ Some u) × (er [] u ≡ w)
  way_back k t w T h e = some_from (er []) (after typed_rules defs k t) w (sym (after_erased k t T h) ∙ e)

  way_there : (k : ℕ) (t u : TypedTerm) (T : Ty) → HasClosed D t T → after typed_rules defs k t ≡ Some u → after erased_rules ED k (er [] t) ≡ Some (er [] u)
  way_there k t u T h e = after_erased k t T h ∙ ap (option_map (er [])) e

  -- the step of a typed term on the way, erased
  pub step_there : (k : ℕ) (t u : TypedTerm) (T : Ty) → HasClosed D t T → after typed_rules defs k t ≡ Some u → move_map (er []) (step typed_rules defs u) ≡ step erased_rules ED (er [] u)
  step_there k t u T h e = step_erased D defs typed_defs u T (after_has D defs typed_defs k t u T h e)

  -- a value is reached by both, and the erased one is the typed one, erased
  pub reaches_erased : (k : ℕ) (t : TypedTerm) (w : ErasedTerm) (T : Ty) → HasClosed D t T → ReachesValue erased_rules ED k (er [] t) w ↔ ((v : TypedTerm) × ReachesValue typed_rules defs k t v × (er [] v ≡ w))
  reaches_erased k t w T h = (there, back)
    where
      there : ReachesValue erased_rules ED k (er [] t) w → (v : TypedTerm) × ReachesValue typed_rules defs k t v × (er [] v ≡ w)
      there r =
          let g = way_back k t w T h r.0 in
          (g.0, (g.1, rests_from (er []) (step typed_rules defs g.0) (step_there k t g.0 T h g.1 ∙ ap (step erased_rules ED) g.2 ∙ r.1)), g.2)

      back : (v : TypedTerm) × ReachesValue typed_rules defs k t v × (er [] v ≡ w) → ReachesValue erased_rules ED k (er [] t) w
      back r = (
        way_there k t r.0 T h r.1.0 ∙ ap Some r.2,
        ap (step erased_rules ED) (sym r.2) ∙ sym (step_there k t r.0 T h r.1.0) ∙ ap (move_map (er [])) r.1.1,
      )

  -- both trap alike
  pub traps_erased : (k : ℕ) (t : TypedTerm) (kind : TrapKind) (T : Ty) → HasClosed D t T → TrapsAt erased_rules ED k (er [] t) kind ↔ TrapsAt typed_rules defs k t kind
  traps_erased zero t kind T h = ((λ x. x), (λ x. x))
  traps_erased (suc k) t kind T h = (there, back)
    where
      there : TrapsAt erased_rules ED (suc k) (er [] t) kind → TrapsAt typed_rules defs (suc k) t kind
      there r =
          let g = way_back k t r.0 T h r.1 in
          (g.0, g.1, traps_from (er []) (step typed_rules defs g.0) kind (step_there k t g.0 T h g.1 ∙ ap (step erased_rules ED) g.2 ∙ r.2))

      back : TrapsAt typed_rules defs (suc k) t kind → TrapsAt erased_rules ED (suc k) (er [] t) kind
      back r = (er [] r.0, way_there k t r.0 T h r.1, sym (step_there k t r.0 T h r.1) ∙ ap (move_map (er [])) r.2)

  -- and both go on
  pub goes_on_erased : (k : ℕ) (t : TypedTerm) (T : Ty) → HasClosed D t T → GoesOn erased_rules ED k (er [] t) ↔ GoesOn typed_rules defs k t
  goes_on_erased k t T h = (
    (λ g j le. (
      (λ v r. (g j le).0 (er [] v) ((reaches_erased j t (er [] v) T h).1 (v, r, refl))),
      (λ kind s. (g j le).1 kind ((traps_erased j t kind T h).1 s)),
    )),
    (λ g j le. (
      (λ w r. let v = (reaches_erased j t w T h).0 r in (g j le).0 v.0 v.1),
      (λ kind s. (g j le).1 kind ((traps_erased j t kind T h).0 s)),
    )),
  )
