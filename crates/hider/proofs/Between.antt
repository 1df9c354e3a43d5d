-- A mean of the corners of a triangle at a place inside it lies between their numbers.
use Rattle.std.proofs.Common.{◌≡◌, ◌+◌, ◌≤◌, ◌^◌, arith, true, to_z, of_z}
use Rattle.std.specs.Int.{w64}
use Rattle.std.specs.Prelude.{ℤ, pos, negsuc, unsigned_abs, ◌≤ℤ◌, ◌<ℤ◌, ◌+ℤ◌, ◌*ℤ◌}
use Rattle.std.proofs.lemmas.Int.{ints}
use Rattle.fixed_math.specs.Whole.{floor_div}
use Rattle.fixed_math.specs.Fixed.{sat}
use Rattle.fixed_math.specs.Edges.{edge}
use Rattle.fixed_math.specs.Spots.{Spot}
use Rattle.fixed_math.proofs.Around.{edge-parts}
use Rattle.fixed_math.proofs.Weights.{mean_low, mean_high}
use Rattle.fixed_math.proofs.Sat.{sat_of_raw}
use Rattle.hider.specs.Coverage.{areas_at, mean_at, is_in_three}
use Rattle.hider.specs.Weighing.{AreAreas}
use Rattle.hider.specs.declared.areas.Areas.{Areas}
use Rattle.hider.proofs.Threes.{sides_of_three}

mean_low_z : (u v w n x y z m : ℤ) → pos 0 ≤ℤ u → pos 0 ≤ℤ v → pos 0 ≤ℤ w → n ≡ u +ℤ v +ℤ w → pos 0 <ℤ n → m ≤ℤ x → m ≤ℤ y → m ≤ℤ z → m ≤ℤ floor_div (u *ℤ x +ℤ v *ℤ y +ℤ w *ℤ z) n
mean_low_z (pos u) (pos v) (pos w) (pos n) x y z m hu hv hw e h a b c =
    let f : n ≡ u + v + w = omega (arith, ints) in
    rw f (mean_low u v w x y z m (omega (arith, ints)) a b c)
mean_low_z (negsuc u) v w n x y z m hu hv hw e h a b c = absurd (omega (arith, ints))
mean_low_z (pos u) (negsuc v) w n x y z m hu hv hw e h a b c = absurd (omega (arith, ints))
mean_low_z (pos u) (pos v) (negsuc w) n x y z m hu hv hw e h a b c = absurd (omega (arith, ints))
mean_low_z (pos u) (pos v) (pos w) (negsuc n) x y z m hu hv hw e h a b c = absurd (omega (arith, ints))

mean_high_z : (u v w n x y z m : ℤ) → pos 0 ≤ℤ u → pos 0 ≤ℤ v → pos 0 ≤ℤ w → n ≡ u +ℤ v +ℤ w → pos 0 <ℤ n → x ≤ℤ m → y ≤ℤ m → z ≤ℤ m → floor_div (u *ℤ x +ℤ v *ℤ y +ℤ w *ℤ z) n ≤ℤ m
mean_high_z (pos u) (pos v) (pos w) (pos n) x y z m hu hv hw e h a b c =
    let f : n ≡ u + v + w = omega (arith, ints) in
    rw f (mean_high u v w x y z m (omega (arith, ints)) a b c)
mean_high_z (negsuc u) v w n x y z m hu hv hw e h a b c = absurd (omega (arith, ints))
mean_high_z (pos u) (negsuc v) w n x y z m hu hv hw e h a b c = absurd (omega (arith, ints))
mean_high_z (pos u) (pos v) (negsuc w) n x y z m hu hv hw e h a b c = absurd (omega (arith, ints))
mean_high_z (pos u) (pos v) (pos w) (negsuc n) x y z m hu hv hw e h a b c = absurd (omega (arith, ints))

-- the areas at a place inside a triangle
pub areas_weigh : (a b c s : Spot) → is_in_three a b c s ≡ true → pos 0 <ℤ edge a b c → AreAreas (areas_at a b c s)
unfolding areas_at
areas_weigh a b c s i h =
    let t = sides_of_three a b c s i in
    record { low_a = t.1; low_b = t.2; low_c = t.0; sum = edge-parts a b c s; some = h }

pub mean_at-low : (w : Areas) (x y z m : ℤ) → AreAreas w → m ≤ℤ x → m ≤ℤ y → m ≤ℤ z → m ≤ℤ mean_at w x y z
mean_at-low w x y z m h a b c = mean_low_z w.a w.b w.c w.whole x y z m h.low_a h.low_b h.low_c h.sum h.some a b c

pub mean_at-high : (w : Areas) (x y z m : ℤ) → AreAreas w → x ≤ℤ m → y ≤ℤ m → z ≤ℤ m → mean_at w x y z ≤ℤ m
mean_at-high w x y z m h a b c = mean_high_z w.a w.b w.c w.whole x y z m h.low_a h.low_b h.low_c h.sum h.some a b c

-- where all three are equal it is that number
pub mean_at-same : (w : Areas) (x y z : ℤ) → AreAreas w → x ≡ y → y ≡ z → x ≡ mean_at w x y z
mean_at-same w x y z h e f =
    let l = mean_at-low w x y z x h (omega (arith, ints)) (omega (arith, ints, e)) (omega (arith, ints, e, f)) in
    let g = mean_at-high w x y z x h (omega (arith, ints)) (omega (arith, ints, e)) (omega (arith, ints, e, f)) in
    omega (arith, ints, l, g)

pub ruleset sames = (mean_at-same)

-- so it is a raw where theirs are
pub mean_at-raw : (w : Areas) (x y z : ℤ) → AreAreas w → unsigned_abs x ≤ 2147483647 → unsigned_abs y ≤ 2147483647 → unsigned_abs z ≤ 2147483647 → sat (mean_at w x y z) ≡ mean_at w x y z
mean_at-raw w x y z h a b c =
    let l = mean_at-low w x y z (negsuc 2147483646) h (omega (arith, ints)) (omega (arith, ints)) (omega (arith, ints)) in
    let g = mean_at-high w x y z (pos 2147483647) h (omega (arith, ints)) (omega (arith, ints)) (omega (arith, ints)) in
    sat_of_raw (mean_at w x y z) l g

-- each area is at most the whole
pub record AreSmall (w : Areas) : Type 0 where
  pub a : unsigned_abs w.a ≤ 2 ^ 59
  pub b : unsigned_abs w.b ≤ 2 ^ 59
  pub c : unsigned_abs w.c ≤ 2 ^ 59

pub areas_small : (w : Areas) → AreAreas w → unsigned_abs w.whole ≤ 2 ^ 59 → AreSmall w
areas_small w h m =
    let a = h.low_a in let b = h.low_b in let c = h.low_c in let s = h.sum in
    record { a = omega (arith, ints); b = omega (arith, ints); c = omega (arith, ints) }

-- what the code reads of an area
pub read_area : (z : ℤ) → unsigned_abs z ≤ 2 ^ 59 → to_z w64 (of_z w64 z) ≡ z
read_area z h = omega (arith, ints)
