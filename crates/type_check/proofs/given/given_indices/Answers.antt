use Rattle.std.proofs.Common.{◌≡◌, sym, subst, ◌<◌, ◌++◌, ◌∷◌, [], length, drop, get_or, arith, rules}
use Rattle.std.proofs.lemmas.List.{drop_all}
use Rattle.core_syntax.specs.declared.index.Sort.TheVariants as sort
use Rattle.core_syntax.specs.Refine.{index_of}
use Rattle.core_syntax.specs.Sorts.{IsSorted}
use Rattle.core_syntax.specs.Norm.{norm_at}
use Rattle.core_syntax.specs.Made.{IndexMade}
use Rattle.std.specs.Prelude.{Ok}
use Rattle.type_check.specs.Found.{Refuses}
use Rattle.type_check.specs.Written.{Tells}
use Rattle.type_check.proofs.one_by_one.Loops.{each_item, own_item}
use Rattle.type_check.proofs.exits.GivenLemmas.{given, index_next, index_refused, indices_end}
use Rattle.type_check.proofs.given.given_indices.Goals as goal

pub given_index-requires : goal.given_index-requires
given_index-requires c =
    each_item index_of (IndexMade (length c.args.sorts.now)) c.args.given.now c.loop-place.place c.index-given-place.result c.loop-place-test.true c.index-given-place.is c.requires.made

pub returns-in-Err : goal.returns-in-Err
returns-in-Err c Γ e =
    let lt : c.loop-place.place < length c.args.bound.now = let m = c.loop-place-test.true in let n = c.requires.counts in omega arith in
    index_refused Γ c.args.bound.now c.args.given.now c.loop-place.all.items c.loop-place.all.items c.loop-place.place (get_or c.args.bound.now c.loop-place.place sort.Dim) c.index-given-place.result lt c.loop-place-test.true
    (own_item c.args.bound.now c.loop-place.place sort.Dim lt) c.index-given-place.is c.in-Err.refusal (c.loop-place.invariant Γ e)
    (subst (λ ss. Refuses (given ss (get_or c.args.bound.now c.loop-place.place sort.Dim) (index_of c.index-given-place.result)) c.in-Err.refusal) (sym e) c.in-Err.ensures)

pub loop-place-preserved : goal.loop-place-preserved
loop-place-preserved c Γ e =
    let lt : c.loop-place.place < length c.args.bound.now = let m = c.loop-place-test.true in let n = c.requires.counts in omega arith in
    let pushed : c.push.new.self.items ≡ c.loop-place.all.items ++ c.in-Ok.one ∷ [] = search rules in
    index_next Γ c.args.bound.now c.args.given.now c.loop-place.all.items c.push.new.self.items c.loop-place.place (get_or c.args.bound.now c.loop-place.place sort.Dim) c.index-given-place.result lt c.loop-place-test.true
    (own_item c.args.bound.now c.loop-place.place sort.Dim lt) c.index-given-place.is c.in-Ok.one pushed (c.loop-place.invariant Γ e)
    (subst (λ ss. Tells (given ss (get_or c.args.bound.now c.loop-place.place sort.Dim) (index_of c.index-given-place.result)) (λ n. IsSorted ss (get_or c.args.bound.now c.loop-place.place sort.Dim) (index_of c.index-given-place.result) × (n ≡ norm_at (get_or c.args.bound.now c.loop-place.place sort.Dim) (index_of c.index-given-place.result))) (Ok c.in-Ok.one)) (sym e) c.in-Ok.ensures)

pub returns : goal.returns
returns c Γ e =
    indices_end Γ c.args.bound.now c.args.given.now (drop c.loop-place.place c.args.bound.now) (drop c.loop-place.place c.args.given.now) c.loop-place.all.items
    (drop_all c.loop-place.place c.args.bound.now (let n = c.requires.counts in let m = c.loop-place-test.false in omega arith)) (drop_all c.loop-place.place c.args.given.now c.loop-place-test.false) (c.loop-place.invariant Γ e)
