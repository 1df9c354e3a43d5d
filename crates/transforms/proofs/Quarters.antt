-- Quarter turns about an axis are exact.
use Rattle.std.proofs.Common.{◌≡◌, ◌∙◌, refl, sym, ap, subst, ℕ, zero, suc, ◌+◌, ◌*◌, ◌^◌, ◌<◌, ◌≤◌, ℤ, pos, neg_ℤ, ◌+ℤ◌, ◌*ℤ◌, true, false, arith, unsigned_abs}
use Rattle.std.specs.Prelude.{◌&&◌, ◌<ℤ◌, nat_lt}
use Rattle.std.specs.Int.{int_rem_euclid}
use Rattle.std.proofs.lemmas.Int.{ints}
use Rattle.std.proofs.lemmas.Bool.Decides.{nat_tests}
use Rattle.std.proofs.Math.Nat.{div-one}
use Rattle.std.proofs.lemmas.Nat.{mul-le}
use Rattle.std.proofs.Math.IntN.{*ℤ_comm}
use Rattle.fixed_math.specs.Whole.{floor_by}
use Rattle.fixed_math.specs.Root.{isqrt}
use Rattle.fixed_math.specs.Sine.{sin, cos}
use Rattle.fixed_math.specs.Unit.{fits_at, shift_for, shrunk, norm, part, unit_part}
use Rattle.fixed_math.specs.declared.vec3.Vec3.{Vec3}
use Rattle.fixed_math.specs.declared.vec3.Axis.{Axis}
use Rattle.fixed_math.specs.declared.vec3.Axis.TheVariants.{X, Y, Z}
use Rattle.fixed_math.proofs.Floor.{floor_by-mul}
use Rattle.fixed_math.proofs.Root.{isqrt_is}
use Rattle.fixed_math.proofs.Units.{shift_for_is}
use Rattle.transforms.specs.Matrix.{dot}
use Rattle.transforms.specs.Map.{Map, point_of, coordinate}
use Rattle.transforms.specs.Rotation.{cosine, sine, at_quarters, turning, transposed, unit_of, rotation, radians}
use Rattle.transforms.specs.Laws.{numbers, turned, turned_once, IsAlong, IsQuarterTurn}
use Rattle.transforms.proofs.Products.{whole_entry}

-- ---- the unit vector of an axis

fits_unshifted : (x y z : ℕ) → x ≤ 2147483647 → y ≤ 2147483647 → z ≤ 2147483647 → fits_at x y z 0 ≡ true
fits_unshifted x y z hx hy hz = rw (div-one x, div-one y, div-one z) (small x y z hx hy hz)
  where
    small : (x y z : ℕ) → x ≤ 2147483647 → y ≤ 2147483647 → z ≤ 2147483647 → (nat_lt x (2 ^ 62) && (nat_lt y (2 ^ 62) && nat_lt z (2 ^ 62))) ≡ true
    small x y z hx hy hz = grind (arith, nat_tests)

unshifted : (x y z : ℕ) → x ≤ 2147483647 → y ≤ 2147483647 → z ≤ 2147483647 → shift_for x y z ≡ 0
unshifted x y z hx hy hz = sym (shift_for_is x y z 0 (omega arith) (fits_unshifted x y z hx hy hz) (λ j h. absurd (omega arith)))

shrunk-zero : (n : ℕ) → shrunk (pos n) 0 ≡ pos n
shrunk-zero n = ap pos (div-one n)

root_of_square : (n : ℕ) → n ≤ 2147483647 → isqrt (n * n) ≡ n
root_of_square n h = sym (isqrt_is (n * n) n (omega (arith, mul-le n n 2147483647 2147483647 h h)) (omega arith) (omega arith))

part-whole : (n : ℕ) → 0 < n → part (pos n) n ≡ pos 65536
part-whole zero h = absurd (omega arith)
part-whole (suc n) h = ap (λ z. floor_by z (suc n)) (*ℤ_comm (pos (suc n)) (pos 65536)) ∙ floor_by-mul (pos 65536) (suc n) h

part-none : (n : ℕ) → part (pos 0) n ≡ pos 0
part-none zero = refl
part-none (suc n) = omega (arith, ints)

-- a part of a vector of three numbers that aren't negative
unit_part_is : (c x y z n : ℕ) → x ≤ 2147483647 → y ≤ 2147483647 → z ≤ 2147483647 → isqrt (x * x + y * y + z * z) ≡ n → unit_part (pos c) (pos x) (pos y) (pos z) ≡ part (pos c) n
unfolding unit_part norm
unit_part_is c x y z n hx hy hz e =
    rw (unshifted x y z hx hy hz, shrunk-zero c, div-one x, div-one y, div-one z, e)

abbrev pub vector : ℤ → ℤ → ℤ → Vec3
vector a b c = record { x = a; y = b; z = c }

vectors : (a b : Vec3) → a.x ≡ b.x → a.y ≡ b.y → a.z ≡ b.z → a ≡ b
vectors a b e f g = ap (λ x. vector x a.y a.z) e ∙ ap (λ y. vector b.x y a.z) f ∙ ap (λ z. vector b.x b.y z) g

-- the unit vector along an axis
abbrev pub unit_along : Axis → Vec3
unit_along X = vector (pos 65536) (pos 0) (pos 0)
unit_along Y = vector (pos 0) (pos 65536) (pos 0)
unit_along Z = vector (pos 0) (pos 0) (pos 65536)

long_x : (n : ℕ) → 0 < n → n ≤ 2147483647 → unit_of (vector (pos n) (pos 0) (pos 0)) ≡ unit_along X
long_x n h k =
    let r : isqrt (n * n + 0 * 0 + 0 * 0) ≡ n = ap isqrt (plain n) ∙ root_of_square n k in
    vectors _ (unit_along X) (unit_part_is n n 0 0 n k (omega arith) (omega arith) r ∙ part-whole n h)
    (unit_part_is 0 n 0 0 n k (omega arith) (omega arith) r ∙ part-none n) (unit_part_is 0 n 0 0 n k (omega arith) (omega arith) r ∙ part-none n)
  where
    plain : (n : ℕ) → n * n + 0 * 0 + 0 * 0 ≡ n * n
    plain n = omega arith

long_y : (n : ℕ) → 0 < n → n ≤ 2147483647 → unit_of (vector (pos 0) (pos n) (pos 0)) ≡ unit_along Y
long_y n h k =
    let r : isqrt (0 * 0 + n * n + 0 * 0) ≡ n = ap isqrt (plain n) ∙ root_of_square n k in
    vectors _ (unit_along Y) (unit_part_is 0 0 n 0 n (omega arith) k (omega arith) r ∙ part-none n)
    (unit_part_is n 0 n 0 n (omega arith) k (omega arith) r ∙ part-whole n h) (unit_part_is 0 0 n 0 n (omega arith) k (omega arith) r ∙ part-none n)
  where
    plain : (n : ℕ) → 0 * 0 + n * n + 0 * 0 ≡ n * n
    plain n = omega arith

long_z : (n : ℕ) → 0 < n → n ≤ 2147483647 → unit_of (vector (pos 0) (pos 0) (pos n)) ≡ unit_along Z
long_z n h k =
    let r : isqrt (0 * 0 + 0 * 0 + n * n) ≡ n = ap isqrt (plain n) ∙ root_of_square n k in
    vectors _ (unit_along Z) (unit_part_is 0 0 0 n n (omega arith) (omega arith) k r ∙ part-none n)
    (unit_part_is 0 0 0 n n (omega arith) (omega arith) k r ∙ part-none n) (unit_part_is n 0 0 n n (omega arith) (omega arith) k r ∙ part-whole n h)
  where
    plain : (n : ℕ) → 0 * 0 + 0 * 0 + n * n ≡ n * n
    plain n = omega arith

above : (z : ℤ) → pos 0 <ℤ z → (z ≡ pos (unsigned_abs z)) × (0 < unsigned_abs z)
above z h = (omega (arith, ints), omega (arith, ints))

unit_is : (a : Axis) (v : Vec3) → IsAlong a v → unsigned_abs v.x ≤ 2147483647 → unsigned_abs v.y ≤ 2147483647 → unsigned_abs v.z ≤ 2147483647 → unit_of v ≡ unit_along a
unit_is X v h hx hy hz =
    ap unit_of (vectors v (vector (pos (unsigned_abs v.x)) (pos 0) (pos 0)) (above v.x h.0).0 h.1 h.2) ∙ long_x (unsigned_abs v.x) (above v.x h.0).1 hx
unit_is Y v h hx hy hz =
    ap unit_of (vectors v (vector (pos 0) (pos (unsigned_abs v.y)) (pos 0)) h.0 (above v.y h.1).0 h.2) ∙ long_y (unsigned_abs v.y) (above v.y h.1).1 hy
unit_is Z v h hx hy hz =
    ap unit_of (vectors v (vector (pos 0) (pos 0) (pos (unsigned_abs v.z))) h.0 h.1 (above v.z h.2).0) ∙ long_z (unsigned_abs v.z) (above v.z h.2).1 hz

-- ---- the matrices of quarter turns

abbrev pub quarter_cosine : ℕ → ℤ
quarter_cosine q = at_quarters (pos (5898240 * q)) (pos 65536) (pos 0) (neg_ℤ (pos 65536)) (pos 0) (pos 0)

abbrev pub quarter_sine : ℕ → ℤ
quarter_sine q = at_quarters (pos (5898240 * q)) (pos 0) (pos 65536) (pos 0) (neg_ℤ (pos 65536)) (pos 0)

cosine_is : (f : ℤ) (q : ℕ) → q < 4 → int_rem_euclid f (pos 23592960) ≡ pos (5898240 * q) → cosine f ≡ quarter_cosine q
unfolding cosine
cosine_is f zero h e = ap (λ r. at_quarters r (pos 65536) (pos 0) (neg_ℤ (pos 65536)) (pos 0) (cos (radians f))) e
cosine_is f (suc zero) h e = ap (λ r. at_quarters r (pos 65536) (pos 0) (neg_ℤ (pos 65536)) (pos 0) (cos (radians f))) e
cosine_is f (suc (suc zero)) h e = ap (λ r. at_quarters r (pos 65536) (pos 0) (neg_ℤ (pos 65536)) (pos 0) (cos (radians f))) e
cosine_is f (suc (suc (suc zero))) h e = ap (λ r. at_quarters r (pos 65536) (pos 0) (neg_ℤ (pos 65536)) (pos 0) (cos (radians f))) e
cosine_is f (suc (suc (suc (suc q)))) h e = absurd (omega arith)

sine_is : (f : ℤ) (q : ℕ) → q < 4 → int_rem_euclid f (pos 23592960) ≡ pos (5898240 * q) → sine f ≡ quarter_sine q
unfolding sine
sine_is f zero h e = ap (λ r. at_quarters r (pos 0) (pos 65536) (pos 0) (neg_ℤ (pos 65536)) (sin (radians f))) e
sine_is f (suc zero) h e = ap (λ r. at_quarters r (pos 0) (pos 65536) (pos 0) (neg_ℤ (pos 65536)) (sin (radians f))) e
sine_is f (suc (suc zero)) h e = ap (λ r. at_quarters r (pos 0) (pos 65536) (pos 0) (neg_ℤ (pos 65536)) (sin (radians f))) e
sine_is f (suc (suc (suc zero))) h e = ap (λ r. at_quarters r (pos 0) (pos 65536) (pos 0) (neg_ℤ (pos 65536)) (sin (radians f))) e
sine_is f (suc (suc (suc (suc q)))) h e = absurd (omega arith)

-- the image of a point, from its three exact coordinates
images : (m : Map) (p q : Vec3) →
    dot p.x p.y p.z m.there.x.x m.there.y.x m.there.z.x +ℤ m.there.shift.x *ℤ pos 65536 ≡ q.x *ℤ pos 16777216 →
    dot p.x p.y p.z m.there.x.y m.there.y.y m.there.z.y +ℤ m.there.shift.y *ℤ pos 65536 ≡ q.y *ℤ pos 16777216 →
    dot p.x p.y p.z m.there.x.z m.there.y.z m.there.z.z +ℤ m.there.shift.z *ℤ pos 65536 ≡ q.z *ℤ pos 16777216 →
    point_of m p ≡ numbers q
images m p q e f g =
    let c : Vec3 = vectors_of m p in
    ap numbers (vectors c q (whole_entry _ q.x e) (whole_entry _ q.y f) (whole_entry _ q.z g))
  where
    vectors_of : Map → Vec3 → Vec3
    vectors_of m p = vector (coordinate p m.there.x.x m.there.y.x m.there.z.x m.there.shift.x) (coordinate p m.there.x.y m.there.y.y m.there.z.y m.there.shift.y) (coordinate p m.there.x.z m.there.y.z m.there.z.z m.there.shift.z)

-- the rotation by q quarters about an axis
abbrev pub quarter_map : ℕ → Axis → Map
quarter_map q a = let m = turning (quarter_cosine q) (quarter_sine q) (unit_along a) in record { there = m; back = transposed m; mirrored = false }

quarters : (q : ℕ) (a : Axis) → q < 4 → IsQuarterTurn q a (quarter_map q a)
unfolding turning turned
quarters zero X h p = images (quarter_map 0 X) p p (omega (arith, ints)) (omega (arith, ints)) (omega (arith, ints))
quarters zero Y h p = images (quarter_map 0 Y) p p (omega (arith, ints)) (omega (arith, ints)) (omega (arith, ints))
quarters zero Z h p = images (quarter_map 0 Z) p p (omega (arith, ints)) (omega (arith, ints)) (omega (arith, ints))
quarters (suc zero) X h p = images (quarter_map 1 X) p (turned_once X p) (omega (arith, ints)) (omega (arith, ints)) (omega (arith, ints))
quarters (suc zero) Y h p = images (quarter_map 1 Y) p (turned_once Y p) (omega (arith, ints)) (omega (arith, ints)) (omega (arith, ints))
quarters (suc zero) Z h p = images (quarter_map 1 Z) p (turned_once Z p) (omega (arith, ints)) (omega (arith, ints)) (omega (arith, ints))
quarters (suc (suc zero)) X h p = images (quarter_map 2 X) p (turned_once X (turned_once X p)) (omega (arith, ints)) (omega (arith, ints)) (omega (arith, ints))
quarters (suc (suc zero)) Y h p = images (quarter_map 2 Y) p (turned_once Y (turned_once Y p)) (omega (arith, ints)) (omega (arith, ints)) (omega (arith, ints))
quarters (suc (suc zero)) Z h p = images (quarter_map 2 Z) p (turned_once Z (turned_once Z p)) (omega (arith, ints)) (omega (arith, ints)) (omega (arith, ints))
quarters (suc (suc (suc zero))) X h p = images (quarter_map 3 X) p (turned_once X (turned_once X (turned_once X p))) (omega (arith, ints)) (omega (arith, ints)) (omega (arith, ints))
quarters (suc (suc (suc zero))) Y h p = images (quarter_map 3 Y) p (turned_once Y (turned_once Y (turned_once Y p))) (omega (arith, ints)) (omega (arith, ints)) (omega (arith, ints))
quarters (suc (suc (suc zero))) Z h p = images (quarter_map 3 Z) p (turned_once Z (turned_once Z (turned_once Z p))) (omega (arith, ints)) (omega (arith, ints)) (omega (arith, ints))
quarters (suc (suc (suc (suc q)))) a h p = absurd (omega arith)

rotation_is : (f : ℤ) (v : Vec3) (q : ℕ) (a : Axis) → q < 4 → int_rem_euclid f (pos 23592960) ≡ pos (5898240 * q) → IsAlong a v →
    unsigned_abs v.x ≤ 2147483647 → unsigned_abs v.y ≤ 2147483647 → unsigned_abs v.z ≤ 2147483647 → rotation f v ≡ quarter_map q a
rotation_is f v q a h e k hx hy hz =
    let from : ℤ → ℤ → Vec3 → Map = λ c s u. record { there = turning c s u; back = transposed (turning c s u); mirrored = false } in
    ap (λ c. from c (sine f) (unit_of v)) (cosine_is f q h e) ∙ ap (λ s. from (quarter_cosine q) s (unit_of v)) (sine_is f q h e)
    ∙ ap (λ u. from (quarter_cosine q) (quarter_sine q) u) (unit_is a v k hx hy hz)

-- a rotation by quarters about an axis
pub quarter_turns : (f : ℤ) (v : Vec3) → unsigned_abs v.x ≤ 2147483647 → unsigned_abs v.y ≤ 2147483647 → unsigned_abs v.z ≤ 2147483647 →
    (q : ℕ) (a : Axis) → q < 4 → int_rem_euclid f (pos 23592960) ≡ pos (5898240 * q) → IsAlong a v → IsQuarterTurn q a (rotation f v)
quarter_turns f v hx hy hz q a h e k =
    let P : Map → Type 0 = IsQuarterTurn q a in
    subst P (sym (rotation_is f v q a h e k hx hy hz)) (quarters q a h)
