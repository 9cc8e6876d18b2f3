use Rattle.core_syntax.specs.Lists.{each}
use Rattle.core_syntax.specs.Refine.{ty_of}
use Rattle.core_syntax.specs.RefineTerms.{cell_of, term_of}
use Rattle.typed_step.proofs.CollapseRules.{collapse_goes}
use Rattle.typed_step.proofs.rules.collapse.Goals as goal

pub returns-in_ok-array-in-len1-up : goal.returns-in_ok-array-in-len1-up
returns-in_ok-array-in-len1-up c =
    collapse_goes c.args.frame.now c.in_ok-dims-in-len1-up.dims c.dims.result.now c.args.cells.now c.first-item.result (ty_of c.args.cell.now) (each cell_of c.in_ok-atoms-in-len1-up.atoms.items) (term_of c.in_ok-array-in-len1-up.array)
    c.in-len1-up.len_at_least c.first-item.is c.dims.ensures c.in_ok-dims-in-len1-up.ensures c.in_ok-atoms-in-len1-up.ensures c.in_ok-array-in-len1-up.ensures
