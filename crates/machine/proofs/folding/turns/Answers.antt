use Rattle.std.proofs.Common.{arith, ◌+◌, ◌-◌, ◌∷◌, drop}
use Rattle.core_syntax.specs.Arrays.{single}
use Rattle.machine_table.specs.Machine.{Folding}
use Rattle.prim_kernels.specs.Deltas.{leading_cells}
use Rattle.machine.specs.Scalars.{given_atom}
use Rattle.machine.proofs.Ahead.{stays, turns_more}
use Rattle.machine.proofs.folding.turns.Goals as goal

pub loop-place-init : goal.loop-place-init
loop-place-init c = record {
  least = omega arith;
  most = c.requires.begun;
  leads = λ blocks s. stays blocks _ _ (omega arith);
}

pub loop-place-preserved : goal.loop-place-preserved
loop-place-preserved c =
    let so = c.loop-place.invariant in
    let cells = leading_cells c.args.items.now.dims c.args.items.now.atoms in
    record {
      least = omega (arith, so.least);
      most = omega (arith, c.loop-place-test.true);
      leads = λ blocks s.
          turns_more blocks c.args.function.now cells s (Folding c.args.function.now (single (given_atom c.args.first)) (drop c.args.next cells) ∷ s) (given_atom c.loop-place.accumulator) (given_atom c.in-Some.scalar) c.loop-place.place
          (c.loop-place.place + 1 - c.args.next) (c.loop-place.place - c.args.next) c.in-Some.ensures (omega (arith, so.least)) (so.leads blocks s);
    }
