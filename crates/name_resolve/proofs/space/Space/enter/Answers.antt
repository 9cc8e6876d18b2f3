use Rattle.std.proofs.Common.{rules, ◌≡◌, sym, ap, ◌∙◌, [], ◌∷◌, ◌++◌, length, arith, subst, ◌≤◌, ◌^◌}
use Rattle.name_resolve.specs.Spaces.{names_in, level_in, AreHidden}
use Rattle.name_resolve.specs.declared.space.Bound.{Bound}
use Rattle.name_resolve.proofs.SpaceLemmas.{names_push, hidden_push, level_push, length_onto, room_push, on_ok}
use Rattle.name_resolve.proofs.space.Space.enter.Goals as goal

pub returns-clause-entered : goal.returns-clause-entered
returns-clause-entered c =
    let b : Bound = record { name = c.args.name; hidden = c.copied-hidden.result } in
    let e : c.push.new.self.items ≡ c.self.inside.bound.items ++ b ∷ [] = search rules in
    ap names_in e ∙ names_push c.self.inside.bound.items b [] ∙ ap (λ ys. c.args.name.now ∷ ys) c.self.view_is

pub invariant_of-self-else-is_err : goal.invariant_of-self-else-is_err
invariant_of-self-else-is_err c =
    let b : Bound = record { name = c.args.name; hidden = c.copied-hidden.result } in
    let e : c.push.new.self.items ≡ c.self.inside.bound.items ++ b ∷ [] = search rules in
    let n : c.len-level.result ≡ length c.self.inside.bound.items = search rules in
    let m : c.len-level.result ≡ length (names_in c.self.inside.bound.items) = omega (arith, n, length_onto c.self.inside.bound.items []) in
    let hides = c.copied-hidden.ensures ∙ c.get.ensures.value ∙ c.self.invariant.2 c.args.name.now in
    let updates = on_ok _ c.insert.result (sym c.is_err.ensures.value ∙ c.if-is_err.false) c.insert.ensures.updates in (
      subst (λ all. length all ≤ 2 ^ 31) (sym e) (room_push c.self.inside.bound.items b c.args.self.now (2 ^ 31) c.self.view_is c.requires),
      subst (λ all. AreHidden all []) (sym e) (hidden_push c.self.inside.bound.items b [] c.self.invariant.1 hides),
      (λ x.
          level_push x c.args.name.now (names_in c.self.inside.bound.items) c.len-level.result _ _ m (c.self.invariant.2 x) (updates.0 (record c.args.name { now = x }))
          ∙ ap (level_in x) (sym (ap names_in e ∙ names_push c.self.inside.bound.items b []))),
    )
