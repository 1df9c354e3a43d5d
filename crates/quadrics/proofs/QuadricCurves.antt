-- Curves of quadrics: their points and derivatives, and how large those are.
use Rattle.std.proofs.Common.{◌≡◌, ◌∙◌, ap, sym, subst, refl, ℕ, zero, suc, ◌+◌, ◌*◌, ◌^◌, ◌<◌, ◌≤◌, arith, List, [], ◌∷◌, unsigned_abs}
use Rattle.std.specs.Prelude.{ℤ, pos, ◌-ℤ◌, ◌*ℤ◌}
use Rattle.std.proofs.Math.Nat.{mul-le-mul, mul_comm}
use Rattle.std.proofs.lemmas.Int.{ints}
use Rattle.fixed_math.specs.declared.vec3.Vec3.{Vec3}
use Rattle.fixed_math.specs.declared.vec3.Axis.{Axis}
use Rattle.fixed_math.specs.Axes.{AreWithin}
use Rattle.fixed_math.specs.Fixed.{sat}
use Rattle.fixed_math.specs.Tensor.{weights_1, weighted, weighted_net}
use Rattle.fixed_math.specs.Whole.{floor_by}
use Rattle.fixed_math.proofs.Fits.{sat_same, floor_abs, blossom_net_abs, scaled_size, term_abs}
use Rattle.fixed_math.proofs.Tensors.{weighted_net_1}
use Rattle.patches.specs.Boxes.{IsWithin}
use Rattle.patches.specs.BoxLaws.{part-by_axes, by_axes_same}
use Rattle.patches.specs.Curves.{IsCurve}
use Rattle.patches.specs.RationalCurves.{quadratic_at, factor_at, rational_along, rational_place}
use Rattle.patches.specs.declared.quadratic.RationalCurve.{RationalCurve}
use Rattle.patches.specs.declared.curve.Curve.{Curve}
use Rattle.patches.specs.declared.curve.Curve.TheVariants.{Rational}
use Rattle.patches.specs.Nets.{control}
use Rattle.patches.specs.Slopes.{steps_u, steps_v, weights_0, weights_2}
use Rattle.patches.proofs.Curves.{floor_scale}
use Rattle.patches.proofs.Isolines.{triple_same, triple_below}
use Rattle.quadrics.specs.Rational.{quarter, even, heavy, total, spread, round_point, ruled_point}
use Rattle.quadrics.specs.RationalLaws.{numerator_abs, rational_blossom-within, round_point-blossom, ruled_point-blossom, quarter-positive, even-positive, weighted_net_2_2, weighted_net_2_1}
use Rattle.quadrics.specs.QuadricSlopes.{rise, steps, off_pole, round_rise_u, round_rise_v, ruled_rise_u, ruled_rise_v, round_slope_u, round_slope_v, ruled_slope_u, ruled_slope_v, round_du, round_dv, ruled_du, ruled_dv}
use Rattle.quadrics.proofs.Columns.{total_is, line_total}
use Rattle.quadrics.proofs.Denominators.{quarter_closed, even_closed, product_small}
use Rattle.quadrics.proofs.Derivatives.{weighted_net_1_2, weighted_net_2_0, quarter_steps, even_steps}
use Rattle.quadrics.proofs.SlopeSteps.{cube_positive, exact_abs, sums_fit, round_room, ruled_sums_u, ruled_room_u, ruled_sums_v, ruled_room_v}

-- ---- points
pub round_near : (ps : List Vec3) (u v : ℕ) → u ≤ 4096 → v ≤ 4096 → AreWithin (2 ^ 30) ps → IsWithin (2 ^ 30) (round_point ps u v)
round_near ps u v hu hv h =
    rw (round_point-blossom ps u v)
    (rational_blossom-within quarter quarter ps (u ∷ u ∷ []) (v ∷ v ∷ []) (2 ^ 30) quarter-positive quarter-positive (omega arith, hu, (omega arith, hu, tt)) (omega arith, hv, (omega arith, hv, tt)) h)

pub ruled_near : (ps : List Vec3) (u v : ℕ) → u ≤ 4096 → v ≤ 4096 → AreWithin (2 ^ 30) ps → IsWithin (2 ^ 30) (ruled_point ps u v)
ruled_near ps u v hu hv h =
    rw (ruled_point-blossom ps u v)
    (rational_blossom-within quarter even ps (u ∷ u ∷ []) (v ∷ []) (2 ^ 30) quarter-positive even-positive (omega arith, hu, (omega arith, hu, tt)) (omega arith, hv, tt) h)

-- the coordinate of a place that is near, by equal numerators and denominators
place_is : (z y : ℤ) (m n : ℕ) → z ≡ y → m ≡ n → unsigned_abs (floor_by y n) ≤ 2 ^ 30 → sat (floor_by z m) ≡ floor_by y n
place_is z y m n e f h = ap (λ x. sat (floor_by x m)) e ∙ ap (λ k. sat (floor_by y k)) f ∙ sat_same (floor_by y n) (omega (arith, h))

floor_same : (z y : ℤ) (m n : ℕ) → z ≡ y → m ≡ n → floor_by z m ≡ floor_by y n
floor_same z y m n e f = rw (e, f) refl

-- ---- the size of slopes
quarter_most : (k : ℕ) → quarter k ≤ 2
quarter_most zero = omega arith
quarter_most (suc zero) = omega arith
quarter_most (suc (suc k)) = omega arith

heavy_abs : (p q : ℕ) (z : ℤ) → p ≤ 2 → q ≤ 2 → unsigned_abs z ≤ 2 ^ 30 → unsigned_abs (pos q *ℤ (pos p *ℤ z)) ≤ 2 ^ 32
heavy_abs p q z h k l = let e = term_abs p 2 z (2 ^ 30) h l in let f = term_abs q 2 (pos p *ℤ z) (2 * 2 ^ 30) k e in omega (arith, f)

step_abs : (a b : ℤ) → unsigned_abs a ≤ 2 ^ 32 → unsigned_abs b ≤ 2 ^ 32 → unsigned_abs (b -ℤ a) ≤ 2 ^ 33
step_abs a b h k = omega (arith, ints, h, k)

quarter_spread : (u : ℕ) → u ≤ 4096 → spread (u ∷ u ∷ []) quarter 0 ≤ 2 ^ 25
quarter_spread u h = let e = quarter_closed u u h h in let f = product_small u u h h in omega (arith, e, f)

total_from : (u : ℕ) → u ≤ 4096 → 2 ^ 24 ≤ total (weights_2 u) quarter 0
total_from u h = let e = total_is u h in omega (arith, e)

total_to : (u : ℕ) → u ≤ 4096 → total (weights_2 u) quarter 0 ≤ 2 ^ 25
total_to u h = let e = total_is u h in let f = product_small u u h h in omega (arith, e, f)

-- what is known of a slope's numbers bounds it
slope_small : (s n d : ℤ) (a e b : ℕ) → 0 < a → 0 < b → d ≡ pos e → 4096 * (a * unsigned_abs s + e * unsigned_abs n) ≤ a * a * b * 2 ^ 40 → unsigned_abs (floor_by (rise s a n d) (a * a * b)) ≤ 2 ^ 40
slope_small s n d a e b ha hb f room =
    rw f (floor_abs (rise s a n (pos e)) (a * a * b) (2 ^ 40) (cube_positive a b ha hb) (let t = exact_abs s n a e in omega (arith, t, room)))

round_number : (ps : List Vec3) (u v : ℕ) (a : Axis) → u ≤ 4096 → v ≤ 4096 → AreWithin (2 ^ 30) ps → unsigned_abs (weighted_net (weights_2 u) (weights_2 v) (heavy quarter quarter (control 3 ps a))) ≤ 2 ^ 81
round_number ps u v a hu hv h =
    rw (weighted_net_2_2 u v (heavy quarter quarter (control 3 ps a)))
    (let b = numerator_abs (u ∷ u ∷ []) (v ∷ v ∷ []) quarter quarter (control 3 ps a) (2 ^ 30) (λ x y. h (3 * y + x) a) in
    let p : spread (u ∷ u ∷ []) quarter 0 * spread (v ∷ v ∷ []) quarter 0 ≤ 2 ^ 25 * 2 ^ 25 = mul-le-mul (quarter_spread u hu) (quarter_spread v hv) in omega (arith, b, p))

ruled_number : (ps : List Vec3) (u v : ℕ) (a : Axis) → u ≤ 4096 → v ≤ 4096 → AreWithin (2 ^ 30) ps → unsigned_abs (weighted_net (weights_2 u) (weights_1 v) (heavy quarter even (control 3 ps a))) ≤ 2 ^ 68
ruled_number ps u v a hu hv h =
    rw (weighted_net_2_1 u v (heavy quarter even (control 3 ps a)))
    (let b = numerator_abs (u ∷ u ∷ []) (v ∷ []) quarter even (control 3 ps a) (2 ^ 30) (λ x y. h (3 * y + x) a) in
    let e : spread (v ∷ []) even 0 ≤ 2 ^ 12 = (let f = even_closed v hv in omega (arith, f)) in
    let p : spread (u ∷ u ∷ []) quarter 0 * spread (v ∷ []) even 0 ≤ 2 ^ 25 * 2 ^ 12 = mul-le-mul (quarter_spread u hu) e in omega (arith, b, p))

round_control : (ps : List Vec3) (a : Axis) → AreWithin (2 ^ 30) ps → (x y : ℕ) → unsigned_abs (heavy quarter quarter (control 3 ps a) x y) ≤ 2 ^ 32
round_control ps a h x y = heavy_abs (quarter x) (quarter y) (control 3 ps a x y) (quarter_most x) (quarter_most y) (h (3 * y + x) a)

ruled_control : (ps : List Vec3) (a : Axis) → AreWithin (2 ^ 30) ps → (x y : ℕ) → unsigned_abs (heavy quarter even (control 3 ps a) x y) ≤ 2 ^ 32
ruled_control ps a h x y = heavy_abs (quarter x) (even y) (control 3 ps a x y) (quarter_most x) (omega arith) (h (3 * y + x) a)

twice_most : (z : ℤ) (m n : ℕ) → unsigned_abs z ≤ m → 2 * m ≤ n → unsigned_abs (pos 2 *ℤ z) ≤ n
twice_most z m n h k = let e = scaled_size 2 z in omega (arith, e, h, k)

round_u-below : (ps : List Vec3) (u v : ℕ) (a : Axis) → u ≤ 4096 → v ≤ 4096 → AreWithin (2 ^ 30) ps → unsigned_abs (round_slope_u ps u v a) ≤ 2 ^ 40
unfolding round_slope_u round_rise_u
round_u-below ps u v a hu hv h =
    let H = heavy quarter quarter (control 3 ps a) in
    let s : unsigned_abs (weighted_net (weights_1 u) (weights_2 v) (steps_u H)) ≤ 2 ^ 70 = rw (weighted_net_1_2 u v (steps_u H))
    (let b = blossom_net_abs (u ∷ []) (v ∷ v ∷ []) (steps_u H) (2 ^ 33) (omega arith, hu, tt) (omega arith, hv, (omega arith, hv, tt))
    (λ x y. step_abs (H x y) (H (x + 1) y) (round_control ps a h x y) (round_control ps a h (x + 1) y)) in omega (arith, b)) in
    let m = sums_fit (total (weights_2 u) quarter 0) _ (2 * u) _ (total_to u hu) (twice_most (weighted_net (weights_1 u) (weights_2 v) (steps_u H)) (2 ^ 70) (2 ^ 72) s (omega arith)) (omega (arith, hu)) (round_number ps u v a hu hv h) in
    let l = total_from u hu in
    let k = total_from v hv in
    slope_small _ _ _ (total (weights_2 u) quarter 0) (2 * u) (total (weights_2 v) quarter 0) (omega (arith, l)) (omega (arith, k)) (quarter_steps u hu)
    (round_room (total (weights_2 u) quarter 0) (total (weights_2 v) quarter 0) _ l k m)

round_v-below : (ps : List Vec3) (u v : ℕ) (a : Axis) → u ≤ 4096 → v ≤ 4096 → AreWithin (2 ^ 30) ps → unsigned_abs (round_slope_v ps u v a) ≤ 2 ^ 40
unfolding round_slope_v round_rise_v
round_v-below ps u v a hu hv h =
    let H = heavy quarter quarter (control 3 ps a) in
    let s : unsigned_abs (weighted_net (weights_2 u) (weights_1 v) (steps_v H)) ≤ 2 ^ 70 = rw (weighted_net_2_1 u v (steps_v H))
    (let b = blossom_net_abs (u ∷ u ∷ []) (v ∷ []) (steps_v H) (2 ^ 33) (omega arith, hu, (omega arith, hu, tt)) (omega arith, hv, tt)
    (λ x y. step_abs (H x y) (H x (y + 1)) (round_control ps a h x y) (round_control ps a h x (y + 1))) in omega (arith, b)) in
    let m = sums_fit (total (weights_2 v) quarter 0) _ (2 * v) _ (total_to v hv) (twice_most (weighted_net (weights_2 u) (weights_1 v) (steps_v H)) (2 ^ 70) (2 ^ 72) s (omega arith)) (omega (arith, hv)) (round_number ps u v a hu hv h) in
    let l = total_from v hv in
    let k = total_from u hu in
    slope_small _ _ _ (total (weights_2 v) quarter 0) (2 * v) (total (weights_2 u) quarter 0) (omega (arith, l)) (omega (arith, k)) (quarter_steps v hv)
    (round_room (total (weights_2 v) quarter 0) (total (weights_2 u) quarter 0) _ l k m)

ruled_u-below : (ps : List Vec3) (u v : ℕ) (a : Axis) → u ≤ 4096 → v ≤ 4096 → AreWithin (2 ^ 30) ps → unsigned_abs (ruled_slope_u ps u v a) ≤ 2 ^ 40
unfolding ruled_slope_u ruled_rise_u
ruled_u-below ps u v a hu hv h =
    let H = heavy quarter even (control 3 ps a) in
    let s : unsigned_abs (weighted_net (weights_1 u) (weights_1 v) (steps_u H)) ≤ 2 ^ 57 = rw (weighted_net_1 u v (steps_u H))
    (let b = blossom_net_abs (u ∷ []) (v ∷ []) (steps_u H) (2 ^ 33) (omega arith, hu, tt) (omega arith, hv, tt)
    (λ x y. step_abs (H x y) (H (x + 1) y) (ruled_control ps a h x y) (ruled_control ps a h (x + 1) y)) in omega (arith, b)) in
    let m = ruled_sums_u (total (weights_2 u) quarter 0) _ (2 * u) _ (total_to u hu) (twice_most (weighted_net (weights_1 u) (weights_1 v) (steps_u H)) (2 ^ 57) (2 ^ 59) s (omega arith)) (omega (arith, hu)) (ruled_number ps u v a hu hv h) in
    let l = total_from u hu in
    let e = line_total v hv in
    slope_small _ _ _ (total (weights_2 u) quarter 0) (2 * u) (total (weights_1 v) even 0) (omega (arith, l)) (omega (arith, e)) (quarter_steps u hu)
    (rw (sym e) (ruled_room_u (total (weights_2 u) quarter 0) _ l m))

ruled_v-below : (ps : List Vec3) (u v : ℕ) (a : Axis) → u ≤ 4096 → v ≤ 4096 → AreWithin (2 ^ 30) ps → unsigned_abs (ruled_slope_v ps u v a) ≤ 2 ^ 40
unfolding ruled_slope_v ruled_rise_v
ruled_v-below ps u v a hu hv h =
    let H = heavy quarter even (control 3 ps a) in
    let s : unsigned_abs (weighted_net (weights_2 u) weights_0 (steps_v H)) ≤ 2 ^ 57 = rw (weighted_net_2_0 u (steps_v H))
    (let b = blossom_net_abs (u ∷ u ∷ []) [] (steps_v H) (2 ^ 33) (omega arith, hu, (omega arith, hu, tt)) tt
    (λ x y. step_abs (H x y) (H x (y + 1)) (ruled_control ps a h x y) (ruled_control ps a h x (y + 1))) in omega (arith, b)) in
    let m = ruled_sums_v (unsigned_abs (weighted_net (weights_2 u) weights_0 (steps_v H))) (unsigned_abs (weighted_net (weights_2 u) (weights_1 v) H)) s in
    let k = total_from u hu in
    let e = line_total v hv in
    slope_small (weighted_net (weights_2 u) weights_0 (steps_v H)) (weighted_net (weights_2 u) (weights_1 v) H) (weighted weights_0 (steps even) 0) (total (weights_1 v) even 0) 0 (total (weights_2 u) quarter 0) (omega (arith, e)) (omega (arith, k)) even_steps
    (rw (sym e) (ruled_room_v (total (weights_2 u) quarter 0) (4096 * unsigned_abs (weighted_net (weights_2 u) weights_0 (steps_v H)) + 0 * unsigned_abs (weighted_net (weights_2 u) (weights_1 v) H)) k m))

-- ---- the curves
pub renamed_round : (c : Curve) (ps qs : List Vec3) (v w : ℕ) → ps ≡ qs → v ≡ w →
    IsCurve c (λ u. round_point ps u v) (λ u. round_du ps u v) (λ u. round_dv ps u v) → IsCurve c (λ u. round_point qs u w) (λ u. round_du qs u w) (λ u. round_dv qs u w)
renamed_round c ps qs v w e f h =
    subst (λ qs. IsCurve c (λ u. round_point qs u w) (λ u. round_du qs u w) (λ u. round_dv qs u w)) e
    (subst (λ w. IsCurve c (λ u. round_point ps u w) (λ u. round_du ps u w) (λ u. round_dv ps u w)) f h)

pub renamed_ruled : (c : Curve) (ps qs : List Vec3) (v w : ℕ) → ps ≡ qs → v ≡ w →
    IsCurve c (λ u. ruled_point ps u v) (λ u. ruled_du ps u v) (λ u. ruled_dv ps u v) → IsCurve c (λ u. ruled_point qs u w) (λ u. ruled_du qs u w) (λ u. ruled_dv qs u w)
renamed_ruled c ps qs v w e f h =
    subst (λ qs. IsCurve c (λ u. ruled_point qs u w) (λ u. ruled_du qs u w) (λ u. ruled_dv qs u w)) e
    (subst (λ w. IsCurve c (λ u. ruled_point ps u w) (λ u. ruled_du ps u w) (λ u. ruled_dv ps u w)) f h)

pub round_curve : (c : RationalCurve) (ps : List Vec3) (v off : ℕ) → v ≤ 4096 → off ≤ 4096 → off ≡ off_pole ps 6 v → AreWithin (2 ^ 30) ps →
    c.under ≡ factor_at v → c.across_under ≡ factor_at off → c.up_under ≡ factor_at v * factor_at v →
    ((a : Axis) (u : ℕ) → u ≤ 4096 → quadratic_at (rational_along a c).place u ≡ weighted_net (weights_2 u) (weights_2 v) (heavy quarter quarter (control 3 ps a))) →
    ((a : Axis) (u : ℕ) → u ≤ 4096 → quadratic_at (rational_along a c).across u ≡ round_rise_u ps u off a) →
    ((a : Axis) (u : ℕ) → u ≤ 4096 → quadratic_at (rational_along a c).up u ≡ round_rise_v ps u v a) →
    IsCurve (Rational c) (λ u. round_point ps u v) (λ u. round_du ps u v) (λ u. round_dv ps u v)
unfolding round_slope_u round_slope_v
round_curve c ps v off hv ho e h d da du place across up =
    let hp : off_pole ps 6 v ≤ 4096 = rw e at ho in
    record {
      points = λ u k. by_axes_same (λ a. rational_place c.under (rational_along a c) u)
          (λ a. floor_by (weighted_net (weights_2 u) (weights_2 v) (heavy quarter quarter (control 3 ps a))) (total (weights_2 u) quarter 0 * total (weights_2 v) quarter 0))
          (λ a. place_is _ _ _ _ (place a u k) (rw (d, total_is u k, total_is v hv) refl)
          (rw (part-by_axes (λ a. floor_by (weighted_net (weights_2 u) (weights_2 v) (heavy quarter quarter (control 3 ps a))) (total (weights_2 u) quarter 0 * total (weights_2 v) quarter 0)) a) at (round_near ps u v k hv h a)));
      points_small = λ u k. round_near ps u v k hv h;
      across = λ u k. triple_same _ _ (λ a. floor_same (quadratic_at (rational_along a c).across u) (round_rise_u ps u off a) (factor_at u * factor_at u * c.across_under)
          (total (weights_2 u) quarter 0 * total (weights_2 u) quarter 0 * total (weights_2 off) quarter 0) (across a u k) (rw (da, total_is u k, total_is off ho) refl) ∙ ap (λ o. round_slope_u ps u o a) e);
      across_small = λ u k. triple_below (round_slope_u ps u (off_pole ps 6 v)) (2 ^ 40) (λ a. round_u-below ps u (off_pole ps 6 v) a k hp h);
      up = λ u k. triple_same _ _ (λ a. floor_same (quadratic_at (rational_along a c).up u) (round_rise_v ps u v a) (factor_at u * c.up_under)
          (total (weights_2 v) quarter 0 * total (weights_2 v) quarter 0 * total (weights_2 u) quarter 0) (up a u k) (rw (du, total_is u k, total_is v hv) (mul_comm (total (weights_2 u) quarter 0) (total (weights_2 v) quarter 0 * total (weights_2 v) quarter 0))));
      up_small = λ u k. triple_below (round_slope_v ps u v) (2 ^ 40) (λ a. round_v-below ps u v a k hv h);
    }

scaled_floor : (u v : ℕ) (z : ℤ) → u ≤ 4096 → v ≤ 4096 →
    floor_by (pos (2 ^ 24) *ℤ z) (factor_at u * 2 ^ 48) ≡ floor_by z (total (weights_1 v) even 0 * total (weights_1 v) even 0 * total (weights_2 u) quarter 0)
scaled_floor u v z hu hv =
    rw (sym (line_total v hv), sym (total_is u hu))
    (let e : factor_at u * 2 ^ 48 ≡ 2 ^ 24 * (4096 * 4096 * factor_at u) = omega arith in
    ap (λ n. floor_by (pos (2 ^ 24) *ℤ z) n) e ∙ floor_scale (2 ^ 24) (4096 * 4096 * factor_at u) z (omega arith) (omega arith))

pub ruled_curve : (c : RationalCurve) (ps : List Vec3) (v off : ℕ) → v ≤ 4096 → off ≤ 4096 → off ≡ off_pole ps 3 v → AreWithin (2 ^ 30) ps →
    c.under ≡ 4096 → c.across_under ≡ 4096 → c.up_under ≡ 2 ^ 48 →
    ((a : Axis) (u : ℕ) → u ≤ 4096 → quadratic_at (rational_along a c).place u ≡ weighted_net (weights_2 u) (weights_1 v) (heavy quarter even (control 3 ps a))) →
    ((a : Axis) (u : ℕ) → u ≤ 4096 → quadratic_at (rational_along a c).across u ≡ ruled_rise_u ps u off a) →
    ((a : Axis) (u : ℕ) → u ≤ 4096 → quadratic_at (rational_along a c).up u ≡ pos (2 ^ 24) *ℤ ruled_rise_v ps u v a) →
    IsCurve (Rational c) (λ u. ruled_point ps u v) (λ u. ruled_du ps u v) (λ u. ruled_dv ps u v)
unfolding ruled_slope_u ruled_slope_v
ruled_curve c ps v off hv ho e h d da du place across up =
    let hp : off_pole ps 3 v ≤ 4096 = rw e at ho in
    record {
      points = λ u k. by_axes_same (λ a. rational_place c.under (rational_along a c) u)
          (λ a. floor_by (weighted_net (weights_2 u) (weights_1 v) (heavy quarter even (control 3 ps a))) (total (weights_2 u) quarter 0 * total (weights_1 v) even 0))
          (λ a. place_is _ _ _ _ (place a u k) (rw (d, sym (total_is u k), sym (line_total v hv)) refl)
          (rw (part-by_axes (λ a. floor_by (weighted_net (weights_2 u) (weights_1 v) (heavy quarter even (control 3 ps a))) (total (weights_2 u) quarter 0 * total (weights_1 v) even 0)) a) at (ruled_near ps u v k hv h a)));
      points_small = λ u k. ruled_near ps u v k hv h;
      across = λ u k. triple_same _ _ (λ a. floor_same (quadratic_at (rational_along a c).across u) (ruled_rise_u ps u off a) (factor_at u * factor_at u * c.across_under)
          (total (weights_2 u) quarter 0 * total (weights_2 u) quarter 0 * total (weights_1 off) even 0) (across a u k) (rw (da, sym (total_is u k), sym (line_total off ho)) refl) ∙ ap (λ o. ruled_slope_u ps u o a) e);
      across_small = λ u k. triple_below (ruled_slope_u ps u (off_pole ps 3 v)) (2 ^ 40) (λ a. ruled_u-below ps u (off_pole ps 3 v) a k hp h);
      up = λ u k. triple_same _ _ (λ a. floor_same _ _ _ _ (up a u k) (ap (λ n. factor_at u * n) du) ∙ scaled_floor u v (ruled_rise_v ps u v a) k hv);
      up_small = λ u k. triple_below (ruled_slope_v ps u v) (2 ^ 40) (λ a. ruled_v-below ps u v a k hv h);
    }
