use Rattle.std.proofs.Common.{◌≡◌, sym, ◌∙◌, [], ◌∷◌, ◌++◌, Some, None}
use Rattle.name_resolve.proofs.SpaceLemmas.{on_either, drop_pop, hides_pop, name_found, room_pop, level_popped}
use Rattle.name_resolve.proofs.space.Space.leave.Goals as goal

pub invariant_of-self-in-Some-hidden : goal.invariant_of-self-in-Some-hidden
invariant_of-self-in-Some-hidden c =
    let old = c.self.inside.bound.items in
    let new = c.pop.new.self.items in
    let b = c.in-Some.bound in
    let e : old ≡ new ++ b ∷ [] = c.in-Some.ensures.items in
    let h = hides_pop old new b e c.self.invariant.1 in
    let updates = on_either _ _ c.insert.result c.insert.ensures.updates c.insert.ensures.absent (name_found old new b e _ (c.self.invariant.2 b.name.now)) in
    (room_pop old new b e c.self.invariant.0, h.0, (λ x. level_popped old new b e x (Some c.in-Some-hidden.level) _ _ (sym c.in-Some-hidden.is ∙ h.1) (c.self.invariant.2 x) (updates.0 (record b.name { now = x }))))

pub invariant_of-self-in-None : goal.invariant_of-self-in-None
invariant_of-self-in-None c =
    let old = c.self.inside.bound.items in
    let new = c.pop.new.self.items in
    let b = c.in-Some.bound in
    let e : old ≡ new ++ b ∷ [] = c.in-Some.ensures.items in
    let h = hides_pop old new b e c.self.invariant.1 in
    (room_pop old new b e c.self.invariant.0, h.0, (λ x. level_popped old new b e x None _ _ (sym c.in-None.is ∙ h.1) (c.self.invariant.2 x) (c.swap_remove.ensures.updates.0 (record b.name { now = x }))))

pub returns-in-Some-hidden : goal.returns-in-Some-hidden
returns-in-Some-hidden c = drop_pop c.self.inside.bound.items c.pop.new.self.items c.in-Some.bound c.in-Some.ensures.items c.args.self.now c.self.view_is

pub returns-in-None : goal.returns-in-None
returns-in-None c = drop_pop c.self.inside.bound.items c.pop.new.self.items c.in-Some.bound c.in-Some.ensures.items c.args.self.now c.self.view_is
