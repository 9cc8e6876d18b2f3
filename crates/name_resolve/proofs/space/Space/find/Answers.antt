use Rattle.std.proofs.Common.{rules, ap, sym, ◌∙◌, arith}
use Rattle.name_resolve.specs.Scopes.{number_of}
use Rattle.name_resolve.specs.Spaces.{names_in}
use Rattle.name_resolve.proofs.SpaceLemmas.{no_level, level_below, number_found}
use Rattle.name_resolve.proofs.space.Space.find.Goals as goal

pub returns-in_err-level : goal.returns-in_err-level
returns-in_err-level c =
    c.from_residual.ensures
    ∙ sym (no_level c.args.name.now (names_in c.self.inside.bound.items) (sym (c.self.invariant.2 c.args.name.now) ∙ sym c.in_err-level.ensures.value))
    ∙ ap (number_of c.args.name.now) c.self.view_is

pub overflow_sub-result : goal.overflow_sub-result
overflow_sub-result c =
    let below = level_below c.args.name.now c.self.inside.bound.items c.in_ok-level.field-0.now c.len.result (search rules) (sym (c.self.invariant.2 c.args.name.now) ∙ sym c.in_ok-level.ensures.value) in
    omega (arith, below)

pub overflow_sub-result-2 : goal.overflow_sub-result-2
overflow_sub-result-2 c =
    let below = level_below c.args.name.now c.self.inside.bound.items c.in_ok-level.field-0.now c.len.result (search rules) (sym (c.self.invariant.2 c.args.name.now) ∙ sym c.in_ok-level.ensures.value) in
    omega (arith, below)

pub returns : goal.returns
returns c =
    number_found c.args.name.now c.self.inside.bound.items c.in_ok-level.field-0.now c.len.result (search rules) (sym (c.self.invariant.2 c.args.name.now) ∙ sym c.in_ok-level.ensures.value) c.args.self.now c.self.view_is
