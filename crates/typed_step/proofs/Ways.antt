-- Runs of parts are runs of the whole.
use Rattle.std.proofs.Common.{◌≡◌, refl, sym, ◌∙◌, ap, subst, ℕ, zero, suc, ◌+◌, ◌<◌, arith, List, Option, Some, None}
use Rattle.std.specs.Prelude.{option_map, ⊤}
use Rattle.core_syntax.specs.declared.errors.TrapKind.{TrapKind}
use Rattle.core_syntax.specs.Move.{Move, Rests, Trapped, Goes, Lost, first_move, where_it_goes}
use Rattle.core_syntax.specs.Step.{step}
use Rattle.core_syntax.specs.Typed.{typed_rules, TypedTerm}
use Rattle.typed_step.specs.declared.outcome.End.{End}
use Rattle.typed_step.specs.declared.outcome.End.TheVariants as end
use Rattle.typed_step.specs.Outcomes.{fires, trapped}
use Rattle.typed_step.specs.Runs.{moves, EndsHere, RunOf, EndsAround, PartsRun, Fired}
use Rattle.reduction_laws.proofs.runs.Once.{goes_to}

-- moves so far, of which a budget leaves so much
abbrev pub SoFar : {A : Type 0} → (A → Move A) → ℕ → A → ℕ → A → Type 0
SoFar {A} move budget first left last = (n : ℕ) × (moves move n first ≡ Some last) × (n + left ≡ budget)

-- a run that doesn't end at a value
abbrev pub Stops : End → Type 0
Stops end.Value = ⊥
Stops _ = ⊤

pub stops : (e : End) → (e ≡ end.Value → ⊥) → Stops e
stops end.Value n = n refl
stops (end.Trap k) n = tt
stops end.Spent n = tt
stops end.Lost n = tt

-- what a move gives is known where the move is
pub first_rests : {A B : Type 0} (m : Move A) (K : A → B) (later : Move B) → first_move m K later ≡ Rests → m ≡ Rests
first_rests Rests K later e = refl
first_rests (Trapped k) K later e = absurd (cc)
first_rests (Goes a) K later e = absurd (cc)
first_rests Lost K later e = absurd (cc)

-- two contexts in one another are one
pub first_twice : {A B C : Type 0} (m : Move A) (K : A → B) (later : Move B) (L : B → C) (final : Move C)
    → first_move (first_move m K later) L final ≡ first_move m (λ a. L (K a)) (first_move later L final)
first_twice Rests K later L final = refl
first_twice (Trapped k) K later L final = refl
first_twice (Goes a) K later L final = refl
first_twice Lost K later L final = refl

-- a step that traps, as a move of anything
pub trapped_here : {A : Type 0} (kind : TrapKind) (m : Move A) (budget left : ℕ) (e : End) → m ≡ Trapped kind → EndsHere (trapped kind) 0 budget e left → EndsHere m 0 budget e left
trapped_here kind m budget left end.Value p h = absurd (let q = h.1 in cc)
trapped_here kind m budget left (end.Trap k) p h = (h.0, p ∙ ap Trapped (let q = h.1 in cc))
trapped_here kind m budget left end.Spent p h = (h.0, h.1, λ q. let z : Trapped kind ≡ Rests = sym p ∙ q in cc)
trapped_here kind m budget left end.Lost p h = absurd (let q = h.1 in cc)

module _ {A : Type 0} (move : A → Move A) where
  pub join_moves : (n k : ℕ) (a b : A) (r : Option A) → moves move n a ≡ Some b → moves move k b ≡ r → moves move (n + k) a ≡ r
  join_moves zero k a b r e h =
      let same : b ≡ a = cc in
      let at : k ≡ 0 + k = omega arith in
      subst (λ n. moves move n a ≡ r) at (subst (λ x. moves move k x ≡ r) same h)
  join_moves (suc n) k a b r e h =
      let g = goes_to (move a) (moves move n) b e in
      let at : suc (n + k) ≡ suc n + k = omega arith in
      subst (λ j. moves move j a ≡ r) at (ap (λ m. where_it_goes m (moves move (n + k))) g.1 ∙ join_moves n k g.0 b r g.2 h)

  -- nothing has been done
  pub so_far_here : (budget : ℕ) (a : A) → SoFar move budget a budget a
  so_far_here budget a = (0, refl, omega arith)

  -- one move more
  pub one_more : (budget left less : ℕ) (a b c : A) → SoFar move budget a left b → suc less ≡ left → move b ≡ Goes c → SoFar move budget a less c
  one_more budget left less a b c s e g = (
    s.0 + 1,
    join_moves s.0 1 a b (Some c) s.1 (ap (λ m. where_it_goes m (moves move 0)) g),
    (let x = s.2 in omega arith),
  )

  -- a run after moves
  pub more_so_far : (budget left less : ℕ) (a b c : A) → SoFar move budget a left b → SoFar move left b less c → SoFar move budget a less c
  more_so_far budget left less a b c s t = (s.0 + t.0, join_moves s.0 t.0 a b (Some c) s.1 t.1, (let x = s.2 in let y = t.2 in omega arith))

  later_end : (next : Move A) (n m budget left less : ℕ) (e : End) → n + left ≡ budget → EndsHere next m left e less → EndsHere next (n + m) budget e less
  later_end next n m budget left less end.Value x h = ((let y = h.0 in omega arith), h.1)
  later_end next n m budget left less (end.Trap k) x h = ((let y = h.0 in omega arith), h.1)
  later_end next n m budget left less end.Spent x h = ((let y = h.0 in omega arith), h.1, h.2)
  later_end next n m budget left less end.Lost x h = ((let y = h.0 in omega arith), h.1)

  pub then_run : (budget left less : ℕ) (a b c : A) (e : End) → SoFar move budget a left b → RunOf move left b e less c → RunOf move budget a e less c
  then_run budget left less a b c e s r = record { count = s.0 + r.count; moved = join_moves s.0 r.count a b (Some c) s.1 r.moved; ends = later_end (move c) s.0 r.count budget left less e s.2 r.ends }

  -- a run that ends where it stands
  pub here : (budget left : ℕ) (a b : A) (e : End) (less : ℕ) → SoFar move budget a left b → EndsHere (move b) 0 left e less → RunOf move budget a e less b
  here budget left a b e less s h = then_run budget left less a b b e s (record { count = 0; moved = refl; ends = h })

  -- a run to a value
  pub to_value : (budget left : ℕ) (a b : A) → RunOf move budget a end.Value left b → SoFar move budget a left b
  to_value budget left a b r = (r.count, r.moved, r.ends.0)

module _ {A B : Type 0} (f : A → Move A) (g : B → Move B) (K : A → B) (later : A → Move B) (same : (a : A) → g (K a) ≡ first_move (f a) K (later a)) where
  pub inside : (n : ℕ) (a b : A) → moves f n a ≡ Some b → moves g n (K a) ≡ Some (K b)
  inside zero a b e = ap (option_map K) e
  inside (suc n) a b e =
      let h = goes_to (f a) (moves f n) b e in
      ap (λ m. where_it_goes m (moves g n)) (same a ∙ ap (λ m. first_move m K (later a)) h.1) ∙ inside n h.0 b h.2

  pub so_far_inside : (budget left : ℕ) (a b : A) → SoFar f budget a left b → SoFar g budget (K a) left (K b)
  so_far_inside budget left a b s = (s.0, inside s.0 a b s.1, s.2)

  end_inside : (n budget left : ℕ) (b : A) (e : End) → Stops e → EndsHere (f b) n budget e left → EndsHere (g (K b)) n budget e left
  end_inside n budget left b end.Value s h = absurd s
  end_inside n budget left b (end.Trap k) s h = (h.0, same b ∙ ap (λ m. first_move m K (later b)) h.1)
  end_inside n budget left b end.Spent s h = (h.0, h.1, λ r. h.2 (first_rests (f b) K (later b) (sym (same b) ∙ r)))
  end_inside n budget left b end.Lost s h = (h.0, same b ∙ ap (λ m. first_move m K (later b)) h.1)

  pub run_inside : (budget left : ℕ) (a b : A) (e : End) → Stops e → RunOf f budget a e left b → RunOf g budget (K a) e left (K b)
  run_inside budget left a b e s r = record { count = r.count; moved = inside r.count a b r.moved; ends = end_inside r.count budget left b e s r.ends }

  -- a run to a value of the part: what comes next is the whole's own
  pub next_inside : (b : A) → f b ≡ Rests → g (K b) ≡ later b
  next_inside b e = same b ∙ ap (λ m. first_move m K (later b)) e

module _ (defs : List TypedTerm) where
  around : (t : TypedTerm) (n budget left : ℕ) (e : End) → Stops e → EndsHere (step typed_rules defs t) n budget e left → EndsAround defs t n budget e left
  around t n budget left end.Value s h = absurd s
  around t n budget left (end.Trap k) s h = h
  around t n budget left end.Spent s h = h
  around t n budget left end.Lost s h = h

  -- a run of a term that stops, as one of its parts
  pub stops_around : (budget left : ℕ) (t u : TypedTerm) (e : End) → Stops e → RunOf (step typed_rules defs) budget t e left u → PartsRun defs budget t e left u
  stops_around budget left t u e s r = record { count = r.count; moved = r.moved; ends = around u r.count budget left e s r.ends }

  -- the parts rest
  pub parts_rest : (budget left : ℕ) (t u : TypedTerm) → SoFar (step typed_rules defs) budget t left u → step typed_rules defs u ≡ fires defs u → PartsRun defs budget t end.Value left u
  parts_rest budget left t u s e = record { count = s.0; moved = s.1; ends = (s.2, e) }

  -- a run of the last part of a term
  pub last_part : {A : Type 0} (f : A → Move A) (K : A → TypedTerm) (same : (a : A) → step typed_rules defs (K a) ≡ first_move (f a) K (fires defs (K a)))
      (budget left : ℕ) (a b : A) (e : End) → RunOf f budget a e left b → PartsRun defs budget (K a) e left (K b)
  last_part f K same budget left a b end.Value r =
      parts_rest budget left (K a) (K b) (so_far_inside f (step typed_rules defs) K (λ a. fires defs (K a)) same budget left a b (r.count, r.moved, r.ends.0))
      (next_inside f (step typed_rules defs) K (λ a. fires defs (K a)) same b r.ends.1)
  last_part f K same budget left a b (end.Trap k) r = stops_around budget left (K a) (K b) (end.Trap k) tt (run_inside f (step typed_rules defs) K (λ a. fires defs (K a)) same budget left a b (end.Trap k) tt r)
  last_part f K same budget left a b end.Spent r = stops_around budget left (K a) (K b) end.Spent tt (run_inside f (step typed_rules defs) K (λ a. fires defs (K a)) same budget left a b end.Spent tt r)
  last_part f K same budget left a b end.Lost r = stops_around budget left (K a) (K b) end.Lost tt (run_inside f (step typed_rules defs) K (λ a. fires defs (K a)) same budget left a b end.Lost tt r)

  -- a run of parts that stops is one of the term
  pub parts_stop : (budget left : ℕ) (t u : TypedTerm) (e : End) → Stops e → PartsRun defs budget t e left u → RunOf (step typed_rules defs) budget t e left u
  parts_stop budget left t u end.Value s r = absurd s
  parts_stop budget left t u (end.Trap k) s r = record { count = r.count; moved = r.moved; ends = r.ends }
  parts_stop budget left t u end.Spent s r = record { count = r.count; moved = r.moved; ends = r.ends }
  parts_stop budget left t u end.Lost s r = record { count = r.count; moved = r.moved; ends = r.ends }

  -- moves so far, and then a run of parts
  pub then_parts : (budget left less : ℕ) (t u v : TypedTerm) (e : End) → SoFar (step typed_rules defs) budget t left u → PartsRun defs left u e less v → PartsRun defs budget t e less v
  then_parts budget left less t u v end.Value s r =
      record { count = s.0 + r.count; moved = join_moves (step typed_rules defs) s.0 r.count t u (Some v) s.1 r.moved; ends = ((let x = s.2 in let y = r.ends.0 in omega arith), r.ends.1) }
  then_parts budget left less t u v (end.Trap k) s r = stops_around budget less t v (end.Trap k) tt (then_run (step typed_rules defs) budget left less t u v (end.Trap k) s (parts_stop left less u v (end.Trap k) tt r))
  then_parts budget left less t u v end.Spent s r = stops_around budget less t v end.Spent tt (then_run (step typed_rules defs) budget left less t u v end.Spent s (parts_stop left less u v end.Spent tt r))
  then_parts budget left less t u v end.Lost s r = stops_around budget less t v end.Lost tt (then_run (step typed_rules defs) budget left less t u v end.Lost s (parts_stop left less u v end.Lost tt r))

  -- the parts stop
  pub stopped_at : (budget left less : ℕ) (first t u : TypedTerm) (e : End) → SoFar (step typed_rules defs) budget first left t → PartsRun defs left t e less u → (e ≡ end.Value → ⊥) → RunOf (step typed_rules defs) budget first e less u
  stopped_at budget left less first t u e s r n = then_run (step typed_rules defs) budget left less first t u e s (parts_stop left less t u e (stops e n) r)

  -- the parts have been run, and the term's own rule has fired
  pub fired : (budget left less : ℕ) (t u v : TypedTerm) → PartsRun defs budget t end.Value left u → Fired (fires defs u) left u None less v → SoFar (step typed_rules defs) budget t less v
  fired budget left less t u v r f = one_more (step typed_rules defs) budget left less t u v (r.count, r.moved, r.ends.0) f.0 (r.ends.1 ∙ f.1)

  -- or the run ends
  pub ended : (budget left less : ℕ) (t u v : TypedTerm) (e : End) → PartsRun defs budget t end.Value left u → Fired (fires defs u) left u (Some e) less v → RunOf (step typed_rules defs) budget t e less v
  ended budget left less t u v e r f =
      subst (λ x. RunOf (step typed_rules defs) budget t e less x) (sym f.0)
      (here (step typed_rules defs) budget left t u e less (r.count, r.moved, r.ends.0) (subst (λ m. EndsHere m 0 left e less) (sym r.ends.1) f.1))

  pub fired_at : (budget left middle less : ℕ) (first t u v : TypedTerm) (e : End) (o : Option End)
      → SoFar (step typed_rules defs) budget first left t → PartsRun defs left t e middle u → e ≡ end.Value → Fired (fires defs u) middle u o less v → o ≡ None
      → SoFar (step typed_rules defs) budget first less v
  fired_at budget left middle less first t u v e o s r is f none =
      more_so_far (step typed_rules defs) budget left less first t v s
      (fired left middle less t u v (subst (λ x. PartsRun defs left t x middle u) is r) (subst (λ x. Fired (fires defs u) middle u x less v) none f))

  pub fired_less : (left middle less : ℕ) (t u v : TypedTerm) (e : End) (o : Option End) → PartsRun defs left t e middle u → e ≡ end.Value → Fired (fires defs u) middle u o less v → o ≡ None → less < left
  fired_less left middle less t u v e o r is f none =
      let x = subst (λ y. PartsRun defs left t y middle u) is r in let y = subst (λ z. Fired (fires defs u) middle u z less v) none f in
      let a = x.ends.0 in let b = y.0 in omega (arith, a, b)

  pub ended_at : (budget left middle less : ℕ) (first t u v : TypedTerm) (e : End) (o : Option End) (x : End)
      → SoFar (step typed_rules defs) budget first left t → PartsRun defs left t e middle u → e ≡ end.Value → Fired (fires defs u) middle u o less v → o ≡ Some x
      → RunOf (step typed_rules defs) budget first x less v
  ended_at budget left middle less first t u v e o x s r is f some =
      then_run (step typed_rules defs) budget left less first t v x s
      (ended left middle less t u v x (subst (λ y. PartsRun defs left t y middle u) is r) (subst (λ y. Fired (fires defs u) middle u y less v) some f))
