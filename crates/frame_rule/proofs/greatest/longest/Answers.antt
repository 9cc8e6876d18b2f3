use Rattle.std.proofs.Common.{ℕ, ◌+◌, ◌<◌, ◌≤◌, length, sym, subst, arith}
use Rattle.frame_rule.proofs.LongestLemmas.{IsLongestBefore, longer, no_longer, longest_found}
use Rattle.frame_rule.proofs.greatest.longest.Goals as goal
use Rattle.frame_rule.proofs.greatest.longest.Goals.{then-letter_count, else-letter_count}

pub loop-place-preserved : goal.loop-place-preserved
loop-place-preserved c =
    let At : ℕ → Type 0 = IsLongestBefore c.args.frames.now (c.loop-place.place + 1) in
    elim c.if-letter_count.branch [
      | then-letter_count w ↦
          let more : length c.index-frames-longest.result < length c.index-frames-place.result = omega arith in
          subst At (sym w.longest-is)
          (longer _ _ _ _ _ c.loop-place-test.true c.index-frames-place.is c.index-frames-longest.is c.loop-place.invariant more)
      | else-letter_count w ↦
          let le : length c.index-frames-place.result ≤ length c.index-frames-longest.result = omega arith in
          subst At (sym w.longest-is)
          (no_longer _ _ _ _ _ c.loop-place-test.true c.index-frames-place.is c.index-frames-longest.is c.loop-place.invariant le)
    ]

pub returns : goal.returns
returns c = longest_found _ _ _ c.loop-place-test.false c.loop-place.invariant
