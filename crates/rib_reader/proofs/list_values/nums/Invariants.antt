use Rattle.std.proofs.Common.{◌≡◌, take, map}
use Rattle.fixed_math.specs.Decimal.{num}
use Rattle.rib_reader.proofs.list_values.nums.Given as goal

abbrev pub invariant-loop-number : goal.invariant-loop-number
invariant-loop-number l = l.all.items ≡ map num (take l.number-index l.numbers)
