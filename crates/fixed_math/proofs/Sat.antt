-- Laws of saturation.
use Rattle.std.proofs.Common.{◌≡◌, ap, ℤ, pos, negsuc, ◌*ℤ◌, ◌≤ℤ◌, arith}
use Rattle.std.proofs.lemmas.Int.{ints}
use Rattle.std.proofs.Math.IntN.{+ℤ_comm, *ℤ_comm}
use Rattle.fixed_math.specs.Whole.{floor_by}
use Rattle.fixed_math.specs.Fixed.{sat, add, mul, IsRaw}
use Rattle.fixed_math.proofs.Floor.{floor_by_mono, floor_by-mul}
use Rattle.fixed_math.proofs.Ring.{*ℤ-mono}

pub sat_low : (z : ℤ) → negsuc 2147483646 ≤ℤ sat z
sat_low z = grind (arith, ints)

pub sat_high : (z : ℤ) → sat z ≤ℤ pos 2147483647
sat_high z = grind (arith, ints)

pub sat_is_raw : (z : ℤ) → IsRaw (sat z)
sat_is_raw z = (sat_low z, sat_high z)

pub sat_of_raw : (z : ℤ) → negsuc 2147483646 ≤ℤ z → z ≤ℤ pos 2147483647 → sat z ≡ z
sat_of_raw z h k = grind (arith, ints)

pub sat_mono : (y z : ℤ) → y ≤ℤ z → sat y ≤ℤ sat z
sat_mono y z h = grind (arith, ints)

pub add_comm : (a b : ℤ) → add a b ≡ add b a
add_comm a b = ap sat (+ℤ_comm a b)

pub mul_comm : (a b : ℤ) → mul a b ≡ mul b a
mul_comm a b = ap (λ (z : ℤ). sat (floor_by z 65536)) (*ℤ_comm a b)

pub mul_one : (a : ℤ) → negsuc 2147483646 ≤ℤ a → a ≤ℤ pos 2147483647 → mul a (pos 65536) ≡ a
mul_one a h k = rw (floor_by-mul a 65536 (omega arith)) (sat_of_raw a h k)

pub mul_mono : (a b c : ℤ) → a ≤ℤ b → pos 0 ≤ℤ c → mul a c ≤ℤ mul b c
mul_mono a b c h k = sat_mono (floor_by (a *ℤ c) 65536) (floor_by (b *ℤ c) 65536) (floor_by_mono (a *ℤ c) (b *ℤ c) 65536 (omega arith) (*ℤ-mono a b c h k))
