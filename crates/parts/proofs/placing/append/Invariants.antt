use Rattle.std.proofs.Common.{◌≡◌, ◌++◌, take}
use Rattle.parts.specs.Placing.{placed_in}
use Rattle.parts.proofs.placing.append.Given as goal

abbrev pub invariant-loop-bucket : goal.invariant-loop-bucket
invariant-loop-bucket l = l.all.items ≡ l.initial.all.items ++ placed_in l.part (take l.bucket-index l.buckets)
