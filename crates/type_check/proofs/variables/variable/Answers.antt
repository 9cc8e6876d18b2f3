use Rattle.std.proofs.Common.{◌≡◌, ◌∙◌, ◌-◌, ap, []}
use Rattle.core_syntax.specs.Refine.{ty_of}
use Rattle.type_check.specs.State.{further}
use Rattle.type_check.proofs.contexts.VariableLemmas.{variable_is, variable_moves, term_few}
use Rattle.type_check.proofs.one_by_one.NodeLemmas.{unchanged}
use Rattle.type_check.proofs.variables.variable.Goals as goal

pub bound-bound-requires : goal.bound-bound-requires
bound-bound-requires c = term_few c.args.checker.now c.args.k c.requires.bound

pub moved-requires : goal.moved-requires
moved-requires c =
    let b = c.bound-bound.result.now in
    variable_moves c.args.checker.now c.args.k b _ _ c.requires.steady.ready (term_few c.args.checker.now c.args.k c.requires.bound) c.bound-bound.ensures
    (ap (λ n. n - b.indices) c.indices.ensures) (ap (λ n. n - b.types) c.types.ensures)

pub returns-in-Ok : goal.returns-in-Ok
returns-in-Ok c =
    let b = c.bound-bound.result.now in (
      [],
      unchanged c.args.checker.now,
      variable_is c.args.checker.now c.args._at c.args.k b (ty_of c.in-Ok.ty) _ c.no_note-note.ensures c.requires.steady.ready (term_few c.args.checker.now c.args.k c.requires.bound) c.bound-bound.ensures
          (c.in-Ok.ensures.moved ∙ (λ i. further (c.indices.ensures i - b.indices) (c.types.ensures i - b.types) (ty_of b.ty))) c.in-Ok.ensures.measured,
    )
