use Rattle.std.proofs.Common.{◌≡◌, ℕ, ap, sym, subst, ◌∙◌, ◌-◌, length, drop, take, reverse, arith}
use Rattle.core_syntax.specs.Lists.{each}
use Rattle.array_values.specs.Envs.{index_data}
use Rattle.machine_table.specs.Indices.{shape_under}
use Rattle.machine_table.specs.Machine.{pop}
use Rattle.machine.specs.Applied.{Fitting, array_of}
use Rattle.machine.proofs.Takes.{none_taken, front_whole, last_split, front_more, count_more, pop_more, fits_more, all_taken, found_popped}
use Rattle.machine.proofs.applied.take_arguments.Goals as goal

pub loop-rest-init : goal.loop-rest-init
loop-rest-init c = record {
  front = front_whole c.args.cells.now;
  popped = ap (λ l. pop (length c.args.cells.now) (each array_of (reverse l)) (reverse c.args.operands.items)) c.in_ok-arguments.ensures.items;
  fits = none_taken (shape_under (each index_data c.args.indices.now)) c.args.cells.now c.in_ok-arguments.arguments.items c.in_ok-arguments.ensures.items;
}

pub loop-rest-preserved : goal.loop-rest-preserved
loop-rest-preserved c =
    let S = shape_under (each index_data c.args.indices.now) in
    let all = c.args.cells.now in
    let rest = c.loop-rest.rest.now in
    let before = take (length rest - 1) rest in
    let split = last_split rest c.cell-item.result c.in-len1-up.len_at_least c.cell-item.is in
    let pushed = c.in_ok-push.ensures.items in
    record {
      front = front_more S all rest before c.cell-item.result split c.loop-rest.invariant.front;
      popped = pop_more (length rest) (length before) c.loop-rest.arguments.items c.push.new.self.items c.in-Some.argument c.loop-rest.left.items c.next_argument.new.operands.items
          (count_more S all rest before c.cell-item.result split c.loop-rest.invariant.front) (found_popped c.in_ok-argument.field-0 c.in-Some.argument c.in-Some.own c.in-Some.is c.loop-rest.left.items c.next_argument.new.operands.items c.in_ok-argument.ensures.some) pushed ∙ c.loop-rest.invariant.popped;
      fits = fits_more c.in_ok-argument.field-0 c.in-Some.argument c.in-Some.own c.in-Some.is S all rest before c.cell-item.result split c.loop-rest.invariant.front c.loop-rest.arguments.items c.push.new.self.items c.loop-rest.fit c.both_fit-fit.result
          c.in_ok-argument.ensures.array c.in_ok-argument.ensures.fit pushed c.both_fit-fit.ensures c.loop-rest.invariant.fits;
    }

pub returns : goal.returns
returns c =
    let none : length c.loop-rest.rest.now ≡ 0 = omega arith in
    let back : c.reverse.new.self.items ≡ reverse c.loop-rest.arguments.items = c.reverse.ensures.items in
    record {
      taken = all_taken (length c.loop-rest.rest.now) (length c.args.cells.now) c.loop-rest.arguments.items c.reverse.new.self.items c.loop-rest.left.items c.args.operands.items none back c.loop-rest.invariant.popped;
      fit = subst (Fitting c.loop-rest.fit (each (shape_under (each index_data c.args.indices.now)) c.args.cells.now)) (sym back)
          (subst (λ (n : ℕ). Fitting c.loop-rest.fit (drop n (each (shape_under (each index_data c.args.indices.now)) c.args.cells.now)) (reverse c.loop-rest.arguments.items)) none c.loop-rest.invariant.fits);
    }
