use Rattle.parts.specs.Formats.{AreLevels}
use Rattle.parts.proofs.buckets.are_levels.Given as goal

abbrev pub invariant-loop-k : goal.invariant-loop-k
invariant-loop-k l = AreLevels l.one l.k l.bytes
