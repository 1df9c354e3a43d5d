use Rattle.buckets.proofs.Gaps.{AreBelow}
use Rattle.buckets.proofs.candidates.Candidates.all.Given as goal

abbrev pub invariant-loop-number : goal.invariant-loop-number
invariant-loop-number l = AreBelow l.number l.numbers.items
