-- Curves of patches: their points and derivatives, and how large those are.
use Rattle.std.proofs.Common.{◌≡◌, ◌∙◌, ap, refl, ℕ, zero, suc, ◌+◌, ◌-◌, ◌*◌, ◌^◌, ◌≤◌, arith, List, [], ◌∷◌, unsigned_abs, lit<, to_z, of_z}
use Rattle.std.specs.Prelude.{ℤ, pos, ◌-ℤ◌, ◌*ℤ◌}
use Rattle.std.specs.Int.{w128}
use Rattle.std.proofs.lemmas.Int.{ints}
use Rattle.fixed_math.specs.declared.vec3.Vec3.{Vec3}
use Rattle.fixed_math.specs.declared.vec3.Axis.{Axis}
use Rattle.fixed_math.specs.declared.vec3.Axis.TheVariants.{X, Y, Z}
use Rattle.fixed_math.specs.Axes.{AreWithin}
use Rattle.fixed_math.specs.Blossom.{denominator, mix}
use Rattle.fixed_math.specs.Fixed.{sat}
use Rattle.fixed_math.specs.Tensor.{weights_1, weights_3, weighted_net, blossom_net}
use Rattle.fixed_math.specs.Whole.{floor_by}
use Rattle.fixed_math.proofs.Fits.{sat_same, floor_abs, blossom_net_abs, mix_abs, scaled_size}
use Rattle.patches.specs.Boxes.{IsWithin}
use Rattle.patches.specs.BoxLaws.{part-by_axes, by_axes_same, blossom_point-within, bilinear_point-blossom, bicubic_point-blossom}
use Rattle.patches.specs.Curves.{value_at, slope_at, along, place_at, IsCurve}
use Rattle.patches.specs.declared.curve.Coordinate.{Coordinate}
use Rattle.patches.specs.declared.curve.PolynomialCurve.{PolynomialCurve}
use Rattle.patches.specs.declared.curve.Curve.TheVariants.{Polynomial}
use Rattle.patches.specs.Nets.{control, bilinear_point, bicubic_point}
use Rattle.patches.specs.Slopes.{triple, AreBelow, steps_u, steps_v, weights_0, weights_2, bilinear_du, bilinear_dv, bicubic_du, bicubic_dv}
use Rattle.patches.proofs.Cubics.{weighted_net_2_3, weighted_net_3_2}
use Rattle.patches.proofs.Curves.{floor_scale}
use Rattle.patches.proofs.Fractions.{one_weight, one_column, same_wide}

pub triple_same : (f g : Axis → ℤ) → ((a : Axis) → f a ≡ g a) → triple f ≡ triple g
triple_same f g e = let x = e X in let y = e Y in let z = e Z in cc

pub triple_below : (f : Axis → ℤ) (m : ℕ) → ((a : Axis) → unsigned_abs (f a) ≤ m) → AreBelow m (triple f)
triple_below f m h zero = h X
triple_below f m h (suc zero) = h Y
triple_below f m h (suc (suc zero)) = h Z
triple_below f m h (suc (suc (suc k))) = omega arith

-- the coordinate of a place that is near
place_is : (c : Coordinate) (u : ℕ) (z : ℤ) → floor_by (value_at c.place u) (denominator ^ 6) ≡ z → unsigned_abs z ≤ 2 ^ 30 → place_at c u ≡ z
place_is c u z e h = ap sat e ∙ sat_same z (omega arith)

step_abs : (a b : ℤ) (m : ℕ) → unsigned_abs a ≤ m → unsigned_abs b ≤ m → unsigned_abs (b -ℤ a) ≤ 2 * m
step_abs a b m h k = omega (arith, ints, h, k)

-- ---- the bicubic patch
bicubic_near : (ps : List Vec3) (u v : ℕ) → u ≤ 4096 → v ≤ 4096 → AreWithin (2 ^ 30) ps → IsWithin (2 ^ 30) (bicubic_point ps u v)
bicubic_near ps u v hu hv h =
    rw (bicubic_point-blossom ps u v)
    (blossom_point-within 3 4 (denominator ^ 6) (2 ^ 30) ps (u ∷ u ∷ u ∷ []) (v ∷ v ∷ v ∷ []) (lit< tt) refl refl refl
    (omega arith, hu, (omega arith, hu, (omega arith, hu, tt))) (omega arith, hv, (omega arith, hv, (omega arith, hv, tt))) h)

-- a coordinate of a point of a net, by the code's floor
pub net_coordinate : (ps : List Vec3) (a : Axis) (r s t u v w : ℕ) (z result : ℤ) → r ≤ 4096 → s ≤ 4096 → t ≤ 4096 → u ≤ 4096 → v ≤ 4096 → w ≤ 4096 → AreWithin (2 ^ 30) ps →
    z ≡ blossom_net (r ∷ s ∷ t ∷ []) (u ∷ v ∷ w ∷ []) (control 4 ps a) → result ≡ sat (floor_by (to_z w128 (of_z w128 z)) (denominator ^ 6)) →
    result ≡ floor_by (blossom_net (r ∷ s ∷ t ∷ []) (u ∷ v ∷ w ∷ []) (control 4 ps a)) (denominator ^ 6)
net_coordinate ps a r s t u v w z result hr hs ht hu hv hw h e f =
    let net = blossom_net (r ∷ s ∷ t ∷ []) (u ∷ v ∷ w ∷ []) (control 4 ps a) in
    let b = blossom_net_abs (r ∷ s ∷ t ∷ []) (u ∷ v ∷ w ∷ []) (control 4 ps a) (2 ^ 30)
    (omega arith, hr, (omega arith, hs, (omega arith, ht, tt))) (omega arith, hu, (omega arith, hv, (omega arith, hw, tt))) (λ x y. h (4 * y + x) a) in
    let n = floor_abs net (denominator ^ 6) (2 ^ 30) (lit< tt) (omega (arith, b)) in
    f ∙ ap (λ x. sat (floor_by x (denominator ^ 6))) (same_wide z (rw e (omega (arith, b))) ∙ e) ∙ sat_same (floor_by net (denominator ^ 6)) (omega (arith, n))

-- what holds along each axis
pub by_axis : (P : Axis → Type 0) → P X → P Y → P Z → (a : Axis) → P a
by_axis P x y z X = x
by_axis P x y z Y = y
by_axis P x y z Z = z

-- three times a sum of weighted steps, over the denominator five times
slope_below : (z : ℤ) → unsigned_abs z ≤ 2 ^ 36 * (2 ^ 24 * 2 ^ 31) → unsigned_abs (floor_by (pos 3 *ℤ z) (denominator ^ 5)) ≤ 2 ^ 40
slope_below z h = floor_abs (pos 3 *ℤ z) (denominator ^ 5) (2 ^ 40) (lit< tt) (let e = scaled_size 3 z in omega (arith, e, h))

bicubic_du-below : (ps : List Vec3) (u v : ℕ) → u ≤ 4096 → v ≤ 4096 → AreWithin (2 ^ 30) ps → AreBelow (2 ^ 40) (bicubic_du ps u v)
bicubic_du-below ps u v hu hv h =
    triple_below (λ a. floor_by (pos 3 *ℤ weighted_net (weights_2 u) (weights_3 v) (steps_u (control 4 ps a))) (denominator ^ 5)) (2 ^ 40)
    (λ a. slope_below (weighted_net (weights_2 u) (weights_3 v) (steps_u (control 4 ps a)))
    (rw (weighted_net_2_3 u v (steps_u (control 4 ps a)))
    (let b = blossom_net_abs (u ∷ u ∷ []) (v ∷ v ∷ v ∷ []) (steps_u (control 4 ps a)) (2 ^ 31)
    (omega arith, hu, (omega arith, hu, tt)) (omega arith, hv, (omega arith, hv, (omega arith, hv, tt)))
    (λ x y. let s = step_abs (control 4 ps a x y) (control 4 ps a (x + 1) y) (2 ^ 30) (h (4 * y + x) a) (h (4 * y + (x + 1)) a) in omega (arith, s)) in omega (arith, b))))

bicubic_dv-below : (ps : List Vec3) (u v : ℕ) → u ≤ 4096 → v ≤ 4096 → AreWithin (2 ^ 30) ps → AreBelow (2 ^ 40) (bicubic_dv ps u v)
bicubic_dv-below ps u v hu hv h =
    triple_below (λ a. floor_by (pos 3 *ℤ weighted_net (weights_3 u) (weights_2 v) (steps_v (control 4 ps a))) (denominator ^ 5)) (2 ^ 40)
    (λ a. slope_below (weighted_net (weights_3 u) (weights_2 v) (steps_v (control 4 ps a)))
    (rw (weighted_net_3_2 u v (steps_v (control 4 ps a)))
    (let b = blossom_net_abs (u ∷ u ∷ u ∷ []) (v ∷ v ∷ []) (steps_v (control 4 ps a)) (2 ^ 31)
    (omega arith, hu, (omega arith, hu, (omega arith, hu, tt))) (omega arith, hv, (omega arith, hv, tt))
    (λ x y. let s = step_abs (control 4 ps a x y) (control 4 ps a x (y + 1)) (2 ^ 30) (h (4 * y + x) a) (h (4 * (y + 1) + x) a) in omega (arith, s)) in omega (arith, b))))

pub bicubic_curve : (c : PolynomialCurve) (ps : List Vec3) (v : ℕ) → v ≤ 4096 → AreWithin (2 ^ 30) ps →
    ((a : Axis) (u : ℕ) → u ≤ 4096 → value_at (along a c).place u ≡ weighted_net (weights_3 u) (weights_3 v) (control 4 ps a)) →
    ((a : Axis) (u : ℕ) → u ≤ 4096 → slope_at (along a c).place u ≡ pos 3 *ℤ weighted_net (weights_2 u) (weights_3 v) (steps_u (control 4 ps a))) →
    ((a : Axis) (u : ℕ) → u ≤ 4096 → value_at (along a c).rise u ≡ pos 3 *ℤ weighted_net (weights_3 u) (weights_2 v) (steps_v (control 4 ps a))) →
    IsCurve (Polynomial c) (λ u. bicubic_point ps u v) (λ u. bicubic_du ps u v) (λ u. bicubic_dv ps u v)
bicubic_curve c ps v hv h place across up = record {
  points = λ u k. by_axes_same (λ a. place_at (along a c) u) (λ a. floor_by (weighted_net (weights_3 u) (weights_3 v) (control 4 ps a)) (denominator ^ 6))
      (λ a. place_is (along a c) u _ (ap (λ z. floor_by z (denominator ^ 6)) (place a u k))
      (rw (part-by_axes (λ a. floor_by (weighted_net (weights_3 u) (weights_3 v) (control 4 ps a)) (denominator ^ 6)) a) at (bicubic_near ps u v k hv h a)));
  points_small = λ u k. bicubic_near ps u v k hv h;
  across = λ u k. triple_same _ _ (λ a. ap (λ z. floor_by z (denominator ^ 5)) (across a u k));
  across_small = λ u k. bicubic_du-below ps u v k hv h;
  up = λ u k. triple_same _ _ (λ a. ap (λ z. floor_by z (denominator ^ 5)) (up a u k));
  up_small = λ u k. bicubic_dv-below ps u v k hv h;
}

-- ---- the bilinear patch
bilinear_near : (ps : List Vec3) (u v : ℕ) → u ≤ 4096 → v ≤ 4096 → AreWithin (2 ^ 30) ps → IsWithin (2 ^ 30) (bilinear_point ps u v)
bilinear_near ps u v hu hv h =
    rw (bilinear_point-blossom ps u v)
    (blossom_point-within 1 2 (denominator ^ 2) (2 ^ 30) ps (u ∷ []) (v ∷ []) (lit< tt) refl refl refl (omega arith, hu, tt) (omega arith, hv, tt) h)

edge_below : (s : ℕ) (x y z : ℤ) → s ≤ 4096 → unsigned_abs x ≤ 2 ^ 31 → unsigned_abs y ≤ 2 ^ 31 → z ≡ mix s x y → unsigned_abs (floor_by z denominator) ≤ 2 ^ 40
edge_below s x y z h k l e =
    floor_abs z denominator (2 ^ 40) (lit< tt) (rw e (let b = mix_abs (denominator - s) s x y (2 ^ 31) (omega arith) k l in omega (arith, b)))

bilinear_du-below : (ps : List Vec3) (u v : ℕ) → v ≤ 4096 → AreWithin (2 ^ 30) ps → AreBelow (2 ^ 40) (bilinear_du ps u v)
bilinear_du-below ps u v hv h =
    triple_below (λ a. floor_by (weighted_net weights_0 (weights_1 v) (steps_u (control 2 ps a))) denominator) (2 ^ 40)
    (λ a. let P = control 2 ps a in
    let near = step_abs (P 0 0) (P 1 0) (2 ^ 30) (h 0 a) (h 1 a) in
    let far = step_abs (P 0 1) (P 1 1) (2 ^ 30) (h 2 a) (h 3 a) in
    edge_below v (P 1 0 -ℤ P 0 0) (P 1 1 -ℤ P 0 1) _ hv (omega (arith, near)) (omega (arith, far)) (one_weight (denominator - v) v (P 1 0 -ℤ P 0 0) (P 1 1 -ℤ P 0 1)))

bilinear_dv-below : (ps : List Vec3) (u v : ℕ) → u ≤ 4096 → AreWithin (2 ^ 30) ps → AreBelow (2 ^ 40) (bilinear_dv ps u v)
bilinear_dv-below ps u v hu h =
    triple_below (λ a. floor_by (weighted_net (weights_1 u) weights_0 (steps_v (control 2 ps a))) denominator) (2 ^ 40)
    (λ a. let P = control 2 ps a in
    let near = step_abs (P 0 0) (P 0 1) (2 ^ 30) (h 0 a) (h 2 a) in
    let far = step_abs (P 1 0) (P 1 1) (2 ^ 30) (h 1 a) (h 3 a) in
    edge_below u (P 0 1 -ℤ P 0 0) (P 1 1 -ℤ P 1 0) _ hu (omega (arith, near)) (omega (arith, far)) (one_column (denominator - u) u (P 0 1 -ℤ P 0 0) (P 1 1 -ℤ P 1 0)))

pub bilinear_curve : (c : PolynomialCurve) (ps : List Vec3) (v : ℕ) → v ≤ 4096 → AreWithin (2 ^ 30) ps →
    ((a : Axis) (u : ℕ) → u ≤ 4096 → value_at (along a c).place u ≡ pos (2 ^ 48) *ℤ weighted_net (weights_1 u) (weights_1 v) (control 2 ps a)) →
    ((a : Axis) (u : ℕ) → slope_at (along a c).place u ≡ pos (2 ^ 48) *ℤ weighted_net weights_0 (weights_1 v) (steps_u (control 2 ps a))) →
    ((a : Axis) (u : ℕ) → u ≤ 4096 → value_at (along a c).rise u ≡ pos (2 ^ 48) *ℤ weighted_net (weights_1 u) weights_0 (steps_v (control 2 ps a))) →
    IsCurve (Polynomial c) (λ u. bilinear_point ps u v) (λ u. bilinear_du ps u v) (λ u. bilinear_dv ps u v)
bilinear_curve c ps v hv h place across up = record {
  points = λ u k. by_axes_same (λ a. place_at (along a c) u) (λ a. floor_by (weighted_net (weights_1 u) (weights_1 v) (control 2 ps a)) (denominator ^ 2))
      (λ a. place_is (along a c) u _
      (ap (λ z. floor_by z (denominator ^ 6)) (place a u k) ∙ floor_scale (2 ^ 48) (denominator ^ 2) (weighted_net (weights_1 u) (weights_1 v) (control 2 ps a)) (lit< tt) (lit< tt))
      (rw (part-by_axes (λ a. floor_by (weighted_net (weights_1 u) (weights_1 v) (control 2 ps a)) (denominator ^ 2)) a) at (bilinear_near ps u v k hv h a)));
  points_small = λ u k. bilinear_near ps u v k hv h;
  across = λ u k. triple_same _ _
      (λ a. ap (λ z. floor_by z (denominator ^ 5)) (across a u) ∙ floor_scale (2 ^ 48) denominator (weighted_net weights_0 (weights_1 v) (steps_u (control 2 ps a))) (lit< tt) (lit< tt));
  across_small = λ u k. bilinear_du-below ps u v hv h;
  up = λ u k. triple_same _ _
      (λ a. ap (λ z. floor_by z (denominator ^ 5)) (up a u k) ∙ floor_scale (2 ^ 48) denominator (weighted_net (weights_1 u) weights_0 (steps_v (control 2 ps a))) (lit< tt) (lit< tt));
  up_small = λ u k. bilinear_dv-below ps u v k h;
}
