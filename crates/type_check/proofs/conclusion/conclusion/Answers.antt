use Rattle.type_check.proofs.exits.Concluding.{concluded, refused}
use Rattle.type_check.proofs.conclusion.conclusion.Goals as goal

pub returns-in-Ok : goal.returns-in-Ok
returns-in-Ok c = λ Γ e u ns at met has same sound notes. concluded Γ e u _ met has same sound _ _ c.in-Ok.ensures.ok c.in-Ok.ensures.fits notes

pub returns-in-Err : goal.returns-in-Err
returns-in-Err c = λ Γ e u ns at met has same sound notes. refused Γ e u _ met has same sound _ at _ (c.measured.ensures _ c.in-Err.ensures.refused)
