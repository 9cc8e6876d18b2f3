use Rattle.frame_rule.proofs.LongestLemmas.{IsLongestBefore}
use Rattle.frame_rule.proofs.greatest.longest.Given as goal

abbrev pub invariant-loop-place : goal.invariant-loop-place
invariant-loop-place l = IsLongestBefore l.frames l.place l.longest
