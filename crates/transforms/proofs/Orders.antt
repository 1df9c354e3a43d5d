-- The raster keeps the order of points across and up, in an orthographic view and at one depth.
use Rattle.std.proofs.Common.{◌≡◌, sym, subst, ℕ, ◌<◌, ◌*◌, ◌^◌, ℤ, pos, Option, Some, None, arith, unsigned_abs}
use Rattle.std.specs.Prelude.{◌-ℤ◌, ◌*ℤ◌, ◌≤ℤ◌, ◌<ℤ◌, IfSome, option_map}
use Rattle.std.proofs.lemmas.Int.{ints}
use Rattle.std.proofs.Math.Nat.{mul-pos}
use Rattle.fixed_math.specs.declared.vec3.Vec3.{Vec3}
use Rattle.fixed_math.proofs.Weights.{mul_mono, floor_mono}
use Rattle.transforms.specs.declared.view.View.{View}
use Rattle.transforms.specs.Field.{IsView, scale_of, tangent, left, right, bottom, top}
use Rattle.transforms.specs.Raster.{clamped, x_place, y_place, raster_x, raster_y, GoesRight, GoesUp}
use Rattle.transforms.proofs.Scales.{scale_some}

pub clamped_mono : (a b : ℤ) → a ≤ℤ b → clamped a ≤ℤ clamped b
clamped_mono a b h = grind (arith, ints)

pub size_some : (l r : ℤ) → l <ℤ r → 0 < unsigned_abs (r -ℤ l)
size_some l r h = omega (arith, ints)

pub x_place_mono : (s : Option ℕ) (w : ℕ) (l r x y : ℤ) (z : ℕ) → IfSome s (λ t. 0 < t) → l <ℤ r → 0 < z → x ≤ℤ y → x_place s w l r x z ≤ℤ x_place s w l r y z
x_place_mono None w l r x y z hs hw hz h =
    floor_mono (pos (256 * w) *ℤ (x -ℤ l)) (pos (256 * w) *ℤ (y -ℤ l)) (unsigned_abs (r -ℤ l)) (size_some l r hw)
    (mul_mono (256 * w) (x -ℤ l) (y -ℤ l) (omega (arith, ints)))
x_place_mono (Some t) w l r x y z hs hw hz h =
    let e = mul_mono (2 ^ 32) x y h in
    let a = pos (2 ^ 32) *ℤ x -ℤ pos (z * t) *ℤ l in
    let b = pos (2 ^ 32) *ℤ y -ℤ pos (z * t) *ℤ l in
    floor_mono (pos (256 * w) *ℤ a) (pos (256 * w) *ℤ b) (z * t * unsigned_abs (r -ℤ l)) (mul-pos (mul-pos hz hs) (size_some l r hw))
    (mul_mono (256 * w) a b (omega (arith, ints, e)))

pub y_place_mono : (s : Option ℕ) (h : ℕ) (b u x y : ℤ) (z : ℕ) → IfSome s (λ t. 0 < t) → b <ℤ u → 0 < z → x ≤ℤ y → y_place s h b u y z ≤ℤ y_place s h b u x z
y_place_mono None h b u x y z hs hw hz o =
    floor_mono (pos (256 * h) *ℤ (u -ℤ y)) (pos (256 * h) *ℤ (u -ℤ x)) (unsigned_abs (u -ℤ b)) (size_some b u hw)
    (mul_mono (256 * h) (u -ℤ y) (u -ℤ x) (omega (arith, ints)))
y_place_mono (Some t) h b u x y z hs hw hz o =
    let e = mul_mono (2 ^ 32) x y o in
    let c = pos (z * t) *ℤ u -ℤ pos (2 ^ 32) *ℤ y in
    let d = pos (z * t) *ℤ u -ℤ pos (2 ^ 32) *ℤ x in
    floor_mono (pos (256 * h) *ℤ c) (pos (256 * h) *ℤ d) (z * t * unsigned_abs (u -ℤ b)) (mul-pos (mul-pos hz hs) (size_some b u hw))
    (mul_mono (256 * h) c d (omega (arith, ints, e)))

pub depth_some : (n z : ℤ) → pos 1 ≤ℤ n → n ≤ℤ z → 0 < unsigned_abs z
depth_some n z h k = omega (arith, ints)

-- at one depth
pub right_at_depth : (v : View) → IsView v → (p q : Vec3) → v.near ≤ℤ p.z → q.z ≡ p.z → GoesRight v p q
right_at_depth v w p q n e h =
    let P : ℤ → Type 0 = λ z. raster_x v p ≤ℤ clamped (x_place (scale_of v) v.width (left v) (right v) q.x (unsigned_abs z)) in
    subst P (sym e)
    (clamped_mono (x_place (scale_of v) v.width (left v) (right v) p.x (unsigned_abs p.z)) (x_place (scale_of v) v.width (left v) (right v) q.x (unsigned_abs p.z))
    (x_place_mono (scale_of v) v.width (left v) (right v) p.x q.x (unsigned_abs p.z) (scale_some v w) w.across (depth_some v.near p.z w.near n) h))

pub up_at_depth : (v : View) → IsView v → (p q : Vec3) → v.near ≤ℤ p.z → q.z ≡ p.z → GoesUp v p q
up_at_depth v w p q n e h =
    let P : ℤ → Type 0 = λ z. clamped (y_place (scale_of v) v.height (bottom v) (top v) q.y (unsigned_abs z)) ≤ℤ raster_y v p in
    subst P (sym e)
    (clamped_mono (y_place (scale_of v) v.height (bottom v) (top v) q.y (unsigned_abs p.z)) (y_place (scale_of v) v.height (bottom v) (top v) p.y (unsigned_abs p.z))
    (y_place_mono (scale_of v) v.height (bottom v) (top v) p.y q.y (unsigned_abs p.z) (scale_some v w) w.up (depth_some v.near p.z w.near n) h))

-- and at all depths, where there is no perspective
pub right_when_flat : (v : View) → IsView v → (p q : Vec3) → v.fov ≡ None → GoesRight v p q
right_when_flat v w p q e h =
    let P : Option ℤ → Type 0 = λ f. let s = option_map (λ f. unsigned_abs (tangent f)) f in clamped (x_place s v.width (left v) (right v) p.x (unsigned_abs p.z)) ≤ℤ clamped (x_place s v.width (left v) (right v) q.x (unsigned_abs q.z)) in
    subst P (sym e)
    (clamped_mono (x_place None v.width (left v) (right v) p.x 1) (x_place None v.width (left v) (right v) q.x 1)
    (x_place_mono None v.width (left v) (right v) p.x q.x 1 tt w.across (omega arith) h))

pub up_when_flat : (v : View) → IsView v → (p q : Vec3) → v.fov ≡ None → GoesUp v p q
up_when_flat v w p q e h =
    let P : Option ℤ → Type 0 = λ f. let s = option_map (λ f. unsigned_abs (tangent f)) f in clamped (y_place s v.height (bottom v) (top v) q.y (unsigned_abs q.z)) ≤ℤ clamped (y_place s v.height (bottom v) (top v) p.y (unsigned_abs p.z)) in
    subst P (sym e)
    (clamped_mono (y_place None v.height (bottom v) (top v) q.y 1) (y_place None v.height (bottom v) (top v) p.y 1)
    (y_place_mono None v.height (bottom v) (top v) p.y q.y 1 tt w.up (omega arith) h))

pub ruleset orders = (right_at_depth, up_at_depth, right_when_flat, up_when_flat)
