use Rattle.std.proofs.Common.{◌≡◌, ap, sym, subst, ◌∙◌, [], length, arith}
use Rattle.std.specs.List.{All}
use Rattle.std.proofs.lemmas.List.Elements.{All-nil, All-cons}
use Rattle.machine.specs.Applied.{HasPlaces, placed}
use Rattle.machine.specs.Works.{work_places_of}
use Rattle.machine.proofs.Starts.{has_places, all_have_places, start_arguments, placed_places, kept_items, frame_forms}
use Rattle.machine.proofs.applied.started.Goals as goal

pub placed-function-requires : goal.placed-function-requires
placed-function-requires c = has_places c.args.frame.items c.args.count c.args.function c.requires.prefix c.requires.count c.requires.some c.requires.few

pub place_all-requires : goal.place_all-requires
place_all-requires c =
    subst (All HasPlaces) (sym c.deref_mut.ensures.value) (all_have_places c.args.frame.items c.args.count c.requires.count c.requires.some c.args.arguments.items c.requires.prefixes c.requires.few)

pub invariant_of-result : goal.invariant_of-result
invariant_of-result c =
    let size : c.args.arguments.len ≡ length c.args.arguments.items = omega (arith, c.args.arguments.ok.0) in
    record {
      starts = record {
        count_is = c.requires.count;
        some = c.requires.some;
        forms = frame_forms c.args.frame.items c.args.count c.requires.frame c.requires.count c.requires.few;
        fits = record {
          arguments = start_arguments c.args.frame.items c.args.count c.requires.count c.requires.some c.args.function c.placed-function.result c.args.arguments.items _ c.requires.prefix c.requires.function c.requires.prefixes c.requires.arguments
              c.placed-function.ensures (kept_items (placed c.args.count) c.args.arguments.len c.place_all.new.arguments c.deref_mut.result.now c.args.arguments.items size c.place_all.ensures c.deref_mut.ensures.value);
          functions = All-cons (λ f. f.rank ≡ 0) c.placed-function.result [] (ap (λ f. f.rank) c.placed-function.ensures ∙ c.requires.whole) (All-nil (λ f. f.rank ≡ 0));
          entered = All-nil (λ a. length a.atoms ≡ c.args.count);
        };
      };
    }

pub returns-clause-places : goal.returns-clause-places
returns-clause-places c =
    let size : c.args.arguments.len ≡ length c.args.arguments.items = omega (arith, c.args.arguments.ok.0) in
    (λ i. work_places_of c.args.frame.items (c.placed-function.ensures i) (kept_items (placed c.args.count) c.args.arguments.len c.place_all.new.arguments c.deref_mut.result.now c.args.arguments.items size c.place_all.ensures c.deref_mut.ensures.value i))
    ∙ placed_places c.args.frame.items c.args.count c.requires.count c.requires.some c.args.function c.args.arguments.items
