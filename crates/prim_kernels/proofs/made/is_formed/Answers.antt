use Rattle.std.proofs.Common.{◌<◌, ◌^◌, arith}
use Rattle.std.proofs.lemmas.List.Elements.{All-from_get_or}
use Rattle.prim_kernels.proofs.Asked.{forms_by}
use Rattle.prim_kernels.proofs.made.is_formed.Goals as goal

pub returns : goal.returns
returns c = forms_by c.args.dims.now c.forms.result (All-from_get_or (λ d. d < 2 ^ 32) c.args.dims.now 0 (λ i h. omega (arith, c.type_inv.dims i))) c.forms.ensures
