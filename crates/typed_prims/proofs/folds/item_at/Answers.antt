use Rattle.std.proofs.Common.{◌≡◌, ◌∙◌, ◌*◌, sym, ap, subst, take, drop, IfOk}
use Rattle.core_syntax.specs.Lists.{each, product}
use Rattle.core_syntax.specs.Refine.{ty_of}
use Rattle.core_syntax.specs.RefineTerms.{cell_of, term_of}
use Rattle.core_syntax.specs.Rules.{array_term_of}
use Rattle.core_syntax.specs.Typed.{atom_type, typed_rules}
use Rattle.naturality.proofs.Eaches.{each_take, each_drop}
use Rattle.typed_prims.proofs.folds.item_at.Goals as goal

pub returns : goal.returns
returns c =
    let size = product c.args.cells.dims.now in
    let xs = c.args.cells.atoms.now in
    subst (λ ys. IfOk c.value.result (λ t. term_of t ≡ array_term_of typed_rules (atom_type (ty_of c.args.item.now)) c.args.cells.dims.now ys))
    (ap (each cell_of) c.at-atoms.ensures ∙ sym (each_take cell_of size (drop (c.args.place * size) xs)) ∙ ap (take size) (sym (each_drop cell_of (c.args.place * size) xs))) c.value.ensures
