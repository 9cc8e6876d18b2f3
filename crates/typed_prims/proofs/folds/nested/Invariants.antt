use Rattle.std.proofs.Common.{◌≡◌, drop}
use Rattle.core_syntax.specs.Lists.{each}
use Rattle.core_syntax.specs.Refine.{index_of, ty_of}
use Rattle.core_syntax.specs.RefineTerms.{cell_of, term_of}
use Rattle.core_syntax.specs.Rules.{fold_term}
use Rattle.core_syntax.specs.Typed.{atom_type, typed_rules}
use Rattle.typed_prims.specs.Folds.{item_terms}
use Rattle.typed_prims.proofs.folds.nested.Given as goal

abbrev pub invariant-loop-place : goal.invariant-loop-place
invariant-loop-place l =
    let ts = item_terms (atom_type (ty_of l.fold.item.now)) l.cells.count l.cells.dims.now (each cell_of l.cells.atoms.now) in
    let terms = fold_term typed_rules (cell_of l.fold.function.now) (each index_of l.fold.shapes.now) (ty_of l.fold.answer.now) in
    terms (term_of l.acc) (drop l.place ts) ≡ terms (term_of l.fn.first) (drop l.from ts)
