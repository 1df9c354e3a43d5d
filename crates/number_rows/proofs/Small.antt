-- Products and sums of numbers that are so small that they need not be put into range.
use Rattle.std.proofs.Common.{◌≡◌, sym, ◌≤◌, ℤ, pos, negsuc, ◌*ℤ◌, arith}
use Rattle.std.specs.Int.RustNames.{unsigned_abs}
use Rattle.std.proofs.lemmas.Int.{ints, unsigned_abs-mul}
use Rattle.std.proofs.Math.Nat.{mul-le-mul}
use Rattle.fixed_math.specs.Fixed.{sat}
use Rattle.fixed_math.specs.Whole.{floor_by}
use Rattle.fixed_math.proofs.Sat.{sat_of_raw}

pub product_small : (a b : ℤ) → unsigned_abs a ≤ 4194304 → unsigned_abs b ≤ 4194304 → unsigned_abs (a *ℤ b) ≤ 17592186044416
product_small a b h k = rw (unsigned_abs-mul a b) (mul-le-mul h k)

pub floor_small : (p : ℤ) → unsigned_abs p ≤ 17592186044416 → unsigned_abs (floor_by p 65536) ≤ 268435456
floor_small (pos a) h = omega (arith, ints)
floor_small (negsuc a) h = omega (arith, ints)

pub in_range : (z : ℤ) → unsigned_abs z ≤ 1073741824 → z ≡ sat z
in_range z h = sym (sat_of_raw z (omega (arith, ints)) (omega (arith, ints)))
