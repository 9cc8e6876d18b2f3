use Rattle.std.proofs.Common.{ap, ◌∙◌, Ok}
use Rattle.core_syntax.specs.Refine.{ty_of, indices_of}
use Rattle.core_syntax.specs.Syntax as syntax
use Rattle.core_syntax.proofs.TreeRows.{form_of_dims}
use Rattle.name_resolve.proofs.TypeLemmas.{array_of_atom}
use Rattle.name_resolve.proofs.types.as_array.Goals as goal

pub returns : goal.returns
returns c =
    ap Ok (array_of_atom c.args.ty _ c.if-not-is_atom.ensures
    (c.in_ok-array.ensures ∙ ap (syntax.Arr c.args.ty.at (ty_of c.args.ty)) (form_of_dims c.args.ty.at c.new.result ∙ ap (λ xs. syntax.Dims c.args.ty.at (indices_of xs)) c.new.ensures)))
