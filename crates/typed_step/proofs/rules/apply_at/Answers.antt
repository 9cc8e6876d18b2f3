use Rattle.core_syntax.specs.Lists.{each}
use Rattle.core_syntax.specs.Refine.{ty_of}
use Rattle.core_syntax.specs.RefineTerms.{term_of}
use Rattle.core_syntax.specs.Rules.{dims_of}
use Rattle.core_syntax.specs.Typed.{typed_rules}
use Rattle.typed_step.specs.Frames.{fronts, backs}
use Rattle.typed_step.proofs.ApplyRules.{map_goes, lift_goes}
use Rattle.typed_step.proofs.rules.apply_at.Goals as goal

pub returns-then-all_are : goal.returns-then-all_are
returns-then-all_are c =
    let a = c.args.application in
    let ds = each (λ t. dims_of typed_rules (term_of t)) a.args.now in
    map_goes (term_of a.function.now) (each term_of a.args.now) a.cells.now (ty_of a.answer.now) c.args.frame.now (fronts c.args.ranks.now ds) c.count-count.result c.count-count.ensures c.if-count-gt-MOST_CELLS.false c.if-count-eq0.false
    c.if-is_empty.ensures c.all_are.result c.all_are.ensures (backs c.args.ranks.now ds) c.requires.cells (term_of c.in_ok-cells.cells) c.if-all_are.true c.in_ok-cells.ensures

pub returns : goal.returns
returns c =
    let a = c.args.application in
    let ds = each (λ t. dims_of typed_rules (term_of t)) a.args.now in
    lift_goes (term_of a.function.now) (each term_of a.args.now) a.cells.now (ty_of a.answer.now) c.args.frame.now (fronts c.args.ranks.now ds) c.count-count.result c.count-count.ensures c.if-count-gt-MOST_CELLS.false c.if-count-eq0.false
    c.if-is_empty.ensures c.all_are.result c.all_are.ensures (backs c.args.ranks.now ds) c.requires.cells (term_of c.in_ok-lifted.lifted) c.if-all_are.false c.in_ok-lifted.ensures
