use Rattle.std.proofs.Common.{arith, refl, ap, ◌+◌, ◌-◌, [], ◌∷◌, List, length, length-append}
use Rattle.array_values.specs.declared.value.Value.{Value}
use Rattle.machine.specs.Scalars.{given_atom}
use Rattle.machine.specs.Works.{work_places_of}
use Rattle.machine.proofs.Ahead.{stays, places_more}
use Rattle.machine.proofs.scalars.push_scalars.Goals as goal

pub loop-place-init : goal.loop-place-init
loop-place-init c = record {
  here = c.requires.given;
  least = omega arith;
  most = c.requires.begun;
  none = λ e. refl;
  leads = λ blocks s. stays blocks _ _ (omega arith);
}

pub loop-place-preserved : goal.loop-place-preserved
loop-place-preserved c =
    let so = c.loop-place.invariant in
    let more = c.in_ok-push_scalar-in-Some.ensures in
    record {
      here = omega (arith, ap (λ (l : List Value). length l) more, length-append c.loop-place.results.items (given_atom c.in-Some.scalar ∷ []), so.here);
      least = omega (arith, so.least);
      most = omega (arith, c.loop-place-test.true);
      none = λ e. absurd (omega (arith, e, so.least));
      leads = λ blocks s.
          places_more blocks c.args.frame.now (work_places_of c.args.frame.now c.args.function.now c.args.arguments.now) s c.args.results.now.items c.loop-place.results.items c.push_scalar.new.results.items (given_atom c.in-Some.scalar)
          c.loop-place.place (c.loop-place.place + 1 - c.args.given) (c.loop-place.place - c.args.given) c.requires.forms so.here more c.in-Some.ensures (omega (arith, so.least)) (so.leads blocks s);
    }
