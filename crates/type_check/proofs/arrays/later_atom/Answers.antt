use Rattle.std.proofs.Common.{◌≡◌, ◌∙◌, refl, sym, true≢false}
use Rattle.core_syntax.specs.Refine.{ty_of}
use Rattle.type_check.proofs.one_by_one.PartsTested.{one_atom, atom_differs}
use Rattle.type_check.proofs.arrays.later_atom.Goals as goal

pub returns-then-same_part : goal.returns-then-same_part
returns-then-same_part c = λ Γ x ns at f.
    one_atom Γ (ty_of c.args.first.now) x (ty_of c.args.found.now) ns f ((c.if-same_part.ensures c.requires.found c.requires.first).0 refl)

pub returns-else-same_part : goal.returns-else-same_part
returns-else-same_part c = λ Γ x ns at f.
    atom_differs Γ (ty_of c.args.first.now) x (ty_of c.args.found.now) ns f c.args.at at (ty_of c.args.found.now) (ty_of c.args.first.now) refl refl
    c.requires.found c.requires.first (λ e. true≢false (sym ((c.if-same_part.ensures c.requires.found c.requires.first).1 e)))
