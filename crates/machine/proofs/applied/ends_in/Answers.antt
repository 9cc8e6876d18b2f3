use Rattle.std.proofs.Common.{refl, sym, ◌-◌, drop, length, arith}
use Rattle.std.proofs.lemmas.List.{take_all, length-drop}
use Rattle.machine.proofs.Judged.{same_of}
use Rattle.machine.proofs.applied.ends_in.Goals as goal

pub returns : goal.returns
returns c =
    let k = length c.args.dims.now - length c.args.cell.now in
    sym (same_of {ys = c.args.cell.now} (take_all (length c.args.dims.now - k) (drop k c.args.dims.now) (omega (arith, length-drop k c.args.dims.now))) refl (sym c.eq.ensures))
