use Rattle.machine.proofs.Celled.{unfit_fits}
use Rattle.machine.proofs.applied.cell_fit.Goals as goal

pub returns-else-dims-rank : goal.returns-else-dims-rank
returns-else-dims-rank c = λ value is.
    unfit_fits c.args.shape.now c.in-Unfit.rank value c.args.array.now.dims c.dims-dims.result.now c.in-Unfit.is is c.dims-dims.ensures.dims c.dims-dims.ensures.array.forms.each c.if-dims-rank.false
