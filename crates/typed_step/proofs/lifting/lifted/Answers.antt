use Rattle.std.proofs.Common.{refl, ap, ◌∙◌, ◌++◌, take, drop}
use Rattle.core_syntax.specs.RefineTerms.{term_of}
use Rattle.core_syntax.specs.Rules.{dims_of}
use Rattle.core_syntax.specs.Typed.{typed_rules}
use Rattle.typed_step.proofs.Greatest.{is_front}
use Rattle.typed_step.proofs.LiftTrees.{stays, lifts_empty, lifts_array, front_product}
use Rattle.typed_step.proofs.lifting.lifted.Goals as goal

pub returns-then-not-starts_with : goal.returns-then-not-starts_with
returns-then-not-starts_with c =
    let d = dims_of typed_rules (term_of c.args.term.now) in
    let own = c.front-own.ensures ∙ ap (take c.args.rank) c.dims-dims.ensures in
    let other = is_front c.starts_with.result c.front-own.result.now (take c.args.rank d) c.args.frame.now c.starts_with.ensures.value own ∙ c.if-not-starts_with.true in
    stays c.copy.result c.args.frame.now (take c.args.rank d) (drop c.args.rank d) c.args.term.now other c.copy.ensures

pub over_frame-requires : goal.over_frame-requires
over_frame-requires c =
    let own = c.front-own.result.now in
    let fronts = is_front c.starts_with.result own own c.args.frame.now c.starts_with.ensures.value refl ∙ c.if-not-starts_with.false in
    front_product own c.args.frame.now c.back-rest.result.now fronts c.back-rest.ensures c.requires

pub returns-in_ok-copy-in-NoAtoms : goal.returns-in_ok-copy-in-NoAtoms
returns-in_ok-copy-in-NoAtoms c =
    let d = dims_of typed_rules (term_of c.args.term.now) in
    let own = c.front-own.ensures ∙ ap (take c.args.rank) c.dims-dims.ensures in
    let cell = c.back-cell.ensures ∙ ap (drop c.args.rank) c.dims-dims.ensures in
    let fronts = is_front c.starts_with.result c.front-own.result.now (take c.args.rank d) c.args.frame.now c.starts_with.ensures.value own ∙ c.if-not-starts_with.false in
    let dims = c.dims.view_is ∙ c.in_ok-dims.ensures ∙ ap (λ l. c.args.frame.now ++ l) cell in
    lifts_empty c.args.term.now c.args.frame.now (take c.args.rank d) (drop c.args.rank d) c.in-NoAtoms.field-0 c.dims.inside.items.items c.in-NoAtoms.ty c.in_ok-copy-in-NoAtoms.field-0 c.in-NoAtoms.is fronts dims c.in_ok-copy-in-NoAtoms.ensures

pub returns-in_ok-atoms-in_default : goal.returns-in_ok-atoms-in_default
returns-in_ok-atoms-in_default c =
    let d = dims_of typed_rules (term_of c.args.term.now) in
    let own = c.front-own.ensures ∙ ap (take c.args.rank) c.dims-dims.ensures in
    let cell = c.back-cell.ensures ∙ ap (drop c.args.rank) c.dims-dims.ensures in
    let fronts = is_front c.starts_with.result c.front-own.result.now (take c.args.rank d) c.args.frame.now c.starts_with.ensures.value own ∙ c.if-not-starts_with.false in
    lifts_array c.args.term.now c.array.result c.args.frame.now c.front-own.result.now c.back-rest.result.now c.back-cell.result.now (take c.args.rank d) (drop c.args.rank d) c.in_ok-dims.dims c.atoms.result.now
    c.in_ok-atoms-in_default.atoms.items c.in_default.not-NoAtoms fronts own cell c.back-rest.ensures c.in_ok-dims.ensures c.atoms.ensures c.in_ok-atoms-in_default.ensures c.array.ensures
