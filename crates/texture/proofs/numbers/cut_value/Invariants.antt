use Rattle.std.proofs.Common.{◌≡◌, take}
use Rattle.fixed_math.specs.Digits.{value_of}
use Rattle.texture.specs.Scans.{cut}
use Rattle.texture.proofs.numbers.cut_value.Given as goal

abbrev pub invariant-loop-digit : goal.invariant-loop-digit
invariant-loop-digit l = l.value ≡ cut (value_of (take l.digit-index l.digits))
