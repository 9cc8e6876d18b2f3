use Rattle.std.proofs.Common.{◌∙◌, ap, get_or, ◌∷◌}
use Rattle.prim_kernels.proofs.ArrayRows.{transposed_end}
use Rattle.prim_kernels.proofs.arrays.transpose.Goals as goal

pub returns-in_ok-atoms-in-len2-up : goal.returns-in_ok-atoms-in-len2-up
returns-in_ok-atoms-in-len2-up c =
    transposed_end c.args.a.now c.dims.result.now c.in_ok-dims-in-len2-up.dims.items c.width.result c.in_ok-atoms-in-len2-up.atoms.items c.dims.ensures.array c.dims.ensures.dims c.in-len2-up.len_at_least
    c.width.ensures (c.in_ok-dims-in-len2-up.ensures ∙ ap (λ ds. get_or c.dims.result.now 1 0 ∷ ds) (c.as_slice.ensures.value ∙ c.in_ok-inner-in-len2-up.ensures)) c.in_ok-atoms-in-len2-up.ensures
