-- Tests of a number's sign.
use Rattle.std.proofs.Common.{◌≡◌, ◌≢◌, false, ℤ, pos, arith}
use Rattle.std.proofs.lemmas.Int.{ints}
use Rattle.transforms.specs.Map.{is_zero}

pub is_zero-false : (z : ℤ) → z ≢ pos 0 → is_zero z ≡ false
is_zero-false z h = grind (arith, ints)
