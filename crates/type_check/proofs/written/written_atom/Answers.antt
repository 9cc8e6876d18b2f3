use Rattle.std.proofs.Common.{◌∙◌, ap, sym}
use Rattle.std.specs.Prelude.{not}
use Rattle.core_syntax.specs.Refine.{ty_of}
use Rattle.core_syntax.proofs.TyRows.{at_ty_form}
use Rattle.type_check.proofs.trees.WrittenLemmas.{no_atom, an_atom}
use Rattle.type_check.proofs.written.written_atom.Goals as goal

pub returns-then-is_array-clause-written : goal.returns-then-is_array-clause-written
returns-then-is_array-clause-written c Γ scope =
    no_atom Γ (ty_of c.args.t.now) c.args.t.now.at (c.is_array.ensures ∙ ap not c.if-is_array.true) (sym (at_ty_form c.args.t.now.at c.args.t.now.form))

pub returns-clause-written : goal.returns-clause-written
returns-clause-written c Γ scope =
    an_atom Γ (ty_of c.args.t.now) (c.is_array.ensures ∙ ap not c.if-is_array.false) c.written.result (c.written.ensures.written Γ scope)
