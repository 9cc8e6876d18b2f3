use Rattle.std.proofs.Common.{◌≡◌, subst, length, arith, IfOk}
use Rattle.core_syntax.specs.Lists.{each}
use Rattle.core_syntax.specs.Refine.{ty_of}
use Rattle.core_syntax.specs.RefineTerms.{term_of, cell_of}
use Rattle.core_syntax.specs.Rules.{unbox_one}
use Rattle.core_syntax.specs.Terms.{TUnbox}
use Rattle.core_syntax.specs.Typed.{typed_rules}
use Rattle.typed_prims.specs.Outcomes.{move_of}
use Rattle.typed_step.proofs.BindRules.{over_nothing, over_one, over_each}
use Rattle.typed_step.proofs.rules.unbox.Goals as goal

pub returns-then-count-eq0 : goal.returns-then-count-eq0
returns-then-count-eq0 c =
    subst (λ m. IfOk c.empty.result (λ o. move_of o ≡ m))
    (over_nothing (term_of c.args.boxed.now) (λ a. TUnbox c.args.sorts.now a (term_of c.args.body.now) (ty_of c.args.answer.now)) (unbox_one typed_rules (term_of c.args.body.now)) (ty_of c.args.answer.now) c.dims-frame.result.now c.count.result c.dims-frame.ensures c.count.ensures c.if-count-eq0.true)
    c.empty.ensures

pub returns-then-is_empty : goal.returns-then-is_empty
returns-then-is_empty c =
    let none : length c.dims-frame.result.now ≡ 0 = grind arith in
    subst (λ m. IfOk c.«open».result (λ o. move_of o ≡ m))
    (over_one (term_of c.args.boxed.now) (λ a. TUnbox c.args.sorts.now a (term_of c.args.body.now) (ty_of c.args.answer.now)) (unbox_one typed_rules (term_of c.args.body.now)) (ty_of c.args.answer.now) c.dims-frame.result.now c.count.result (each cell_of c.atoms-atoms.result.now) c.dims-frame.ensures c.count.ensures c.if-count-eq0.false none
    c.atoms-atoms.ensures)
    c.«open».ensures

pub returns : goal.returns
returns c =
    let some : length c.dims-frame.result.now ≡ 0 → ⊥ = grind arith in
    subst (λ m. IfOk c.framed.result (λ o. move_of o ≡ m))
    (over_each (term_of c.args.boxed.now) (λ a. TUnbox c.args.sorts.now a (term_of c.args.body.now) (ty_of c.args.answer.now)) (unbox_one typed_rules (term_of c.args.body.now)) (ty_of c.args.answer.now) c.dims-frame.result.now c.count.result (each cell_of c.atoms-atoms.result.now) c.in_ok-cells.cells.items c.dims-frame.ensures c.count.ensures
    c.if-count-eq0.false some c.atoms-atoms.ensures c.in_ok-cells.ensures)
    c.framed.ensures
