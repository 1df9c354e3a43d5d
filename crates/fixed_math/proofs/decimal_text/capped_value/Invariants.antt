use Rattle.std.proofs.Common.{◌≡◌, take, min}
use Rattle.fixed_math.specs.Digits.{value_of}
use Rattle.fixed_math.proofs.decimal_text.capped_value.Given as goal

abbrev pub invariant-loop-digit : goal.invariant-loop-digit
invariant-loop-digit l = l.value ≡ min (value_of (take l.digit-index l.digits)) 100000000000000000000
