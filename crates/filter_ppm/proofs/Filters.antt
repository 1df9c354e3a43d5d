-- The filters' weights aren't below 0, and lie within the numbers.
use Rattle.std.proofs.Common.{◌≡◌, ℕ, ◌*◌, ◌^◌, ◌≤◌, arith, refl, Bool, true, false, ◌+◌, ◌<◌, to_z, of_z}
use Rattle.std.proofs.lemmas.Bool.{and_parts}
use Rattle.std.specs.Prelude.{ℤ, pos, negsuc, neg_ℤ, ◌≤ℤ◌, ◌<ℤ◌, ◌-ℤ◌, ◌*ℤ◌, unsigned_abs, int_le, int_lt}
use Rattle.std.specs.Int.{int_rem_euclid}
use lib.Signed.{mag}
use Rattle.std.specs.Int.{w64}
use Rattle.std.proofs.lemmas.Int.{ints, to_z-of_z}
use Rattle.fixed_math.specs.Whole.{floor_by}
use Rattle.fixed_math.specs.Fixed.{sat, mul}
use Rattle.fixed_math.specs.Power.{with_exponent, exp2, exp_bits}
use Rattle.fixed_math.proofs.Floor.{floor_by_between}
use Rattle.fixed_math.proofs.Sat.{sat_mono, mul_mono, sat_of_raw}
use Rattle.filter_ppm.specs.Weight.{counts, slope, across, weight, reach}
use Rattle.scene.specs.Settings.{OptionValues}

by_bool : {P : Type 0} (b : Bool) → (b ≡ true → P) → (b ≡ false → P) → P
by_bool true f g = f refl
by_bool false f g = g refl

nothing_passes : (z : ℤ) → mul (pos 0) z ≡ pos 0
nothing_passes z = let e : pos 0 *ℤ z ≡ pos 0 = omega (arith, ints) in rw e

-- what the code reads of a number of 64 bits
pub read_whole : (z : ℤ) → mag z < 2 ^ 63 → to_z w64 (of_z w64 z) ≡ z
read_whole z h = to_z-of_z w64 z (record { sfits = h })

-- a place within a filter is at most half of its width away
pub record IsWithin (w : ℕ) (d : ℤ) : Type 0 where
  pub left : neg_ℤ (pos w) ≤ℤ (pos 2 *ℤ d)
  pub right : (pos 2 *ℤ d) <ℤ pos w

pub counts_within : (w : ℕ) (d : ℤ) → counts w d ≡ true → IsWithin w d
counts_within w d e =
    let f = and_parts (int_le (neg_ℤ (pos w)) (pos 2 *ℤ d)) (int_lt (pos 2 *ℤ d) (pos w)) e in
    let l = f.0 in
    let r = f.1 in
    record { left = omega (arith, ints); right = omega (arith, ints) }

pub slope_range : (w : ℕ) (d : ℤ) → 1 ≤ w → counts w d ≡ true → (pos 0 ≤ℤ slope w d) × (slope w d ≤ℤ pos 65536)
unfolding slope
slope_range w d h e =
    let i = counts_within w d e in
    let l = i.left in
    let r = i.right in
    let k : 2 * unsigned_abs d ≤ w = omega (arith, ints) in
    floor_by_between (pos 65536 *ℤ (pos w -ℤ pos (2 * unsigned_abs d))) (pos 0) (pos 65536) w (omega arith) (omega (arith, ints)) (omega (arith, ints))

pub across_range : (w : ℕ) (d : ℤ) → 1 ≤ w → counts w d ≡ true → (negsuc 65535 ≤ℤ across w d) × (across w d ≤ℤ pos 65536)
unfolding across
across_range w d h e =
    let i = counts_within w d e in
    let l = i.left in
    let r = i.right in
    floor_by_between (pos 131072 *ℤ d) (negsuc 65535) (pos 65536) w (omega arith) (omega (arith, ints)) (omega (arith, ints))

pub slope_raw : (w : ℕ) (d : ℤ) → 1 ≤ w → counts w d ≡ true → sat (slope w d) ≡ slope w d
slope_raw w d h e = let r = slope_range w d h e in sat_of_raw (slope w d) (omega (arith, ints, r.0)) (omega (arith, ints, r.1))

pub across_raw : (w : ℕ) (d : ℤ) → 1 ≤ w → counts w d ≡ true → sat (across w d) ≡ across w d
across_raw w d h e = let r = across_range w d h e in sat_of_raw (across w d) (omega (arith, ints, r.0)) (omega (arith, ints, r.1))

with_exponent_low : (m : ℕ) (e : ℤ) → pos 0 ≤ℤ with_exponent m e
with_exponent_low m (pos e) = omega (arith, ints)
with_exponent_low m (negsuc e) = omega (arith, ints)

pub exp2_low : (x : ℤ) → pos 0 ≤ℤ exp2 x
unfolding exp2
exp2_low x =
    let m = exp_bits 16 (unsigned_abs (int_rem_euclid x (pos 65536))) (2 ^ 30) (2 ^ 31) in
    let e = floor_by x 65536 -ℤ pos 14 in
    sat_mono (pos 0) (with_exponent m e) (with_exponent_low m e)

pub mul_low : (a b : ℤ) → pos 0 ≤ℤ a → pos 0 ≤ℤ b → pos 0 ≤ℤ mul a b
mul_low a b h k = let e = mul_mono (pos 0) a b h k in rw (nothing_passes b) at e

-- ---- samples of pixels farther away than the reach don't count
pub left_of : (w : ℕ) (d : ℤ) → (pos 2 *ℤ d) <ℤ neg_ℤ (pos w) → counts w d ≡ false
left_of w d h = by_bool (counts w d) (λ e. let i = counts_within w d e in let l = i.left in absurd (omega (arith, ints))) (λ e. e)

pub right_of : (w : ℕ) (d : ℤ) → pos w ≤ℤ (pos 2 *ℤ d) → counts w d ≡ false
right_of w d h = by_bool (counts w d) (λ e. let i = counts_within w d e in let l = i.right in absurd (omega (arith, ints))) (λ e. e)

-- a place in a pixel too far to the left or to the right of pixel x
pub far_left : (w pixel x : ℕ) (place : ℤ) → place <ℤ pos (256 * pixel + 256) → pixel + reach w < x → counts w (place -ℤ pos (256 * x + 128)) ≡ false
far_left w pixel x place h g = left_of w (place -ℤ pos (256 * x + 128)) (omega (arith, ints))

pub far_right : (w pixel x : ℕ) (place : ℤ) → pos (256 * pixel) ≤ℤ place → x + reach w < pixel → counts w (place -ℤ pos (256 * x + 128)) ≡ false
far_right w pixel x place h g = right_of w (place -ℤ pos (256 * x + 128)) (omega (arith, ints))

pub no_weight_x : (o : OptionValues) (dx dy : ℤ) → counts o.wx dx ≡ false → weight o dx dy ≡ pos 0
unfolding weight
no_weight_x o dx dy e = rw e refl

pub no_weight_y : (o : OptionValues) (dx dy : ℤ) → counts o.wy dy ≡ false → weight o dx dy ≡ pos 0
unfolding weight
no_weight_y o dx dy e = by_bool (counts o.wx dx) (λ t. rw (t, e) refl) (λ t. rw t refl)
