use Rattle.std.proofs.Common.{◌≡◌, map}
use Rattle.std.specs.List.{range_with_len}
use Rattle.primitives.specs.Spread.{blended_at}
use Rattle.primitives.proofs.spread.corner_numbers.Given as goal

abbrev pub invariant-loop-m : goal.invariant-loop-m
invariant-loop-m l = l.spread.items ≡ map (blended_at l.halves l.width l.numbers) (range_with_len 0 l.m)
