-- Floors by a sign and a quotient of naturals.
use Rattle.std.proofs.Common.{◌≡◌, refl, ℕ, ◌/◌, ◌<◌, arith, ℤ, pos, negsuc, ◌-ℤ◌, ◌≤ℤ◌, ◌<ℤ◌}
use Rattle.std.proofs.lemmas.Int.{ints}
use Rattle.std.proofs.Math.Nat.{div-le_self}
use Rattle.fixed_math.specs.Whole.{floor_by}
use Rattle.lanes.specs.Signs.{magnitude, signed_as}

pub floor_by_signed : (n : ℤ) (d : ℕ) → signed_as n (magnitude n / d) ≡ floor_by n d
unfolding signed_as magnitude
floor_by_signed (pos a) d = refl
floor_by_signed (negsuc a) d = refl

pub quotient_small : (n d m : ℕ) → n < m → n / d < m
quotient_small n d m h = let le = div-le_self n d in omega arith

pub magnitude_below : (n : ℤ) → n <ℤ pos 0 → pos (magnitude n) ≡ negsuc 0 -ℤ n
unfolding magnitude
magnitude_below (pos a) h = absurd (omega (arith, ints))
magnitude_below (negsuc a) h = omega (arith, ints)

pub magnitude_above : (n : ℤ) → pos 0 ≤ℤ n → pos (magnitude n) ≡ n
unfolding magnitude
magnitude_above (pos a) h = refl
magnitude_above (negsuc a) h = absurd (omega (arith, ints))

pub signed_below : (n : ℤ) (q : ℕ) → n <ℤ pos 0 → negsuc 0 -ℤ pos q ≡ signed_as n q
unfolding signed_as
signed_below (pos a) q h = absurd (omega (arith, ints))
signed_below (negsuc a) q h = omega (arith, ints)

pub signed_above : (n : ℤ) (q : ℕ) → pos 0 ≤ℤ n → pos q ≡ signed_as n q
unfolding signed_as
signed_above (pos a) q h = refl
signed_above (negsuc a) q h = absurd (omega (arith, ints))
