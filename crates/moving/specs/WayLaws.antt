-- A place on a way lies between those before it and behind it.
use Rattle.std.proofs.Common.{◌≡◌, subst, ℕ, ◌≤◌, arith, lit<, Bool, true, false, refl}
use Rattle.std.specs.Prelude.{ℤ, pos, ◌-ℤ◌, ◌*ℤ◌, ◌≤ℤ◌, int_le, unsigned_abs}
use Rattle.std.specs.Int.{int_min, int_max}
use Rattle.std.proofs.lemmas.Int.{ints, clamps}
use Rattle.fixed_math.specs.declared.vec3.Vec3.{Vec3}
use Rattle.fixed_math.specs.declared.vec3.Axis.{Axis}
use Rattle.fixed_math.specs.declared.vec3.Axis.TheVariants.{X, Y, Z}
use Rattle.fixed_math.specs.Axes.{part_of, IsInBox}
use Rattle.fixed_math.specs.Fixed.{IsRaw}
use Rattle.fixed_math.specs.Whole.{floor_by}
use Rattle.fixed_math.proofs.Weights.{floor_down, floor_ge, floor_lt, floor_mono, mul_mono, mul-sub, scale_mono, scale_mono_down}
use Rattle.moving.specs.Ways.{on_way, place_on_way, IsBetween}

-- ---- the two ends
pub way-start : (p q : ℤ) → on_way 0 p q ≡ p
way-start p q =
    let low = floor_ge (pos 0 *ℤ (q -ℤ p)) (pos 0) 65536 (lit< tt) (omega (arith, ints)) in
    let high = floor_lt (pos 0 *ℤ (q -ℤ p)) (pos 0) 65536 (lit< tt) (omega (arith, ints)) in
    omega (arith, ints, low, high)

pub way-end : (p q : ℤ) → on_way 65536 p q ≡ q
way-end p q =
    let low = floor_ge (pos 65536 *ℤ (q -ℤ p)) (q -ℤ p) 65536 (lit< tt) (omega (arith, ints)) in
    let high = floor_lt (pos 65536 *ℤ (q -ℤ p)) (q -ℤ p) 65536 (lit< tt) (omega (arith, ints)) in
    omega (arith, ints, low, high)

-- ---- in order
way-rises : (m n : ℕ) (p q : ℤ) → m ≤ n → p ≤ℤ q → on_way m p q ≤ℤ on_way n p q
way-rises m n p q h g =
    let step : pos 0 ≤ℤ (q -ℤ p) = omega (arith, ints) in
    let e = floor_mono (pos m *ℤ (q -ℤ p)) (pos n *ℤ (q -ℤ p)) 65536 (lit< tt) (scale_mono m n (q -ℤ p) h step) in
    omega (arith, ints, e)

way-falls : (m n : ℕ) (p q : ℤ) → m ≤ n → q ≤ℤ p → on_way n p q ≤ℤ on_way m p q
way-falls m n p q h g =
    let step : (q -ℤ p) ≤ℤ pos 0 = omega (arith, ints) in
    let e = floor_mono (pos n *ℤ (q -ℤ p)) (pos m *ℤ (q -ℤ p)) 65536 (lit< tt) (scale_mono_down m n (q -ℤ p) h step) in
    omega (arith, ints, e)

by_order : {P : Type 0} (p q : ℤ) → (p ≤ℤ q → P) → (q ≤ℤ p → P) → P
by_order {P} p q f g = by (int_le p q) refl
  where
    by : (b : Bool) → int_le p q ≡ b → P
    by true e = f (grind (arith, ints))
    by false e = g (grind (arith, ints))

between-up : (x y z : ℤ) → x ≤ℤ z → z ≤ℤ y → IsBetween x y z
between-up x y z h g = (omega (arith, ints, clamps), omega (arith, ints, clamps))

between-down : (x y z : ℤ) → y ≤ℤ z → z ≤ℤ x → IsBetween x y z
between-down x y z h g = (omega (arith, ints, clamps), omega (arith, ints, clamps))

-- at a moment between two others the place lies between theirs
pub way-between : (k m n : ℕ) (p q : ℤ) → k ≤ m → m ≤ n → IsBetween (on_way k p q) (on_way n p q) (on_way m p q)
way-between k m n p q h g =
    by_order p q
    (λ up. between-up (on_way k p q) (on_way n p q) (on_way m p q) (way-rises k m p q h up) (way-rises m n p q g up))
    (λ down. between-down (on_way k p q) (on_way n p q) (on_way m p q) (way-falls m n p q g down) (way-falls k m p q h down))

-- and so between the two ends
pub way-within : (n : ℕ) (p q : ℤ) → n ≤ 65536 → IsBetween p q (on_way n p q)
way-within n p q h =
    let ends = way-between 0 n 65536 p q (omega arith) h in
    subst (λ y. IsBetween p y (on_way n p q)) (way-end p q) (subst (λ x. IsBetween x (on_way 65536 p q) (on_way n p q)) (way-start p q) ends)

-- so it is in range where these are
pub way-raw : (n : ℕ) (p q : ℤ) → n ≤ 65536 → unsigned_abs p ≤ 2147483647 → unsigned_abs q ≤ 2147483647 → IsRaw (on_way n p q)
way-raw n p q h a b =
    let low = (way-within n p q h).0 in
    let high = (way-within n p q h).1 in
    within (on_way n p q) p q a b low high
  where
    within : (z p q : ℤ) → unsigned_abs p ≤ 2147483647 → unsigned_abs q ≤ 2147483647 → int_min p q ≤ℤ z → z ≤ℤ int_max p q → IsRaw z
    within z p q a b low high = (omega (arith, ints, clamps, a, b, low), omega (arith, ints, clamps, a, b, high))

-- what doesn't move stays
pub way-stays : (n : ℕ) (p : ℤ) → on_way n p p ≡ p
way-stays n p =
    let e = mul-sub n p p in
    let low = floor_ge (pos n *ℤ (p -ℤ p)) (pos 0) 65536 (lit< tt) (omega (arith, ints, e)) in
    let high = floor_lt (pos n *ℤ (p -ℤ p)) (pos 0) 65536 (lit< tt) (omega (arith, ints, e)) in
    omega (arith, ints, low, high)

-- what goes from no less to no less is less at no time
pub way-mono : (n : ℕ) (p q r s : ℤ) → n ≤ 65536 → p ≤ℤ r → q ≤ℤ s → on_way n p q ≤ℤ on_way n r s
way-mono n p q r s h first last =
    let x = pos n *ℤ (q -ℤ p) in
    let y = pos n *ℤ (s -ℤ r) in
    let e = mul-sub n q p in
    let f = mul-sub n s r in
    let g = mul-sub n r p in
    let i = mul_mono n q s last in
    let j = scale_mono n 65536 (r -ℤ p) h (omega (arith, ints)) in
    let k = floor_down x 65536 (lit< tt) in
    let l = floor_ge y (floor_by x 65536 -ℤ (r -ℤ p)) 65536 (lit< tt) (omega (arith, ints, e, f, g, i, j, k)) in
    omega (arith, ints, l)

-- what holds two numbers holds all between them
pub between-held : (l h x y z : ℤ) → IsBetween x y z → (l ≤ℤ x) × (x ≤ℤ h) → (l ≤ℤ y) × (y ≤ℤ h) → (l ≤ℤ z) × (z ≤ℤ h)
between-held l h x y z b i j =
    let low = b.0 in
    let high = b.1 in
    let a = i.0 in
    let c = i.1 in
    let d = j.0 in
    let e = j.1 in
    (omega (arith, ints, clamps, low, a, d), omega (arith, ints, clamps, high, c, e))

-- a box that holds both ends holds the way
pub way-held : (lo hi p q : Vec3) (n : ℕ) → n ≤ 65536 → IsInBox lo hi p → IsInBox lo hi q → IsInBox lo hi (place_on_way n p q)
way-held lo hi p q n h i j X = between-held lo.x hi.x p.x q.x (on_way n p.x q.x) (way-within n p.x q.x h) (i X) (j X)
way-held lo hi p q n h i j Y = between-held lo.y hi.y p.y q.y (on_way n p.y q.y) (way-within n p.y q.y h) (i Y) (j Y)
way-held lo hi p q n h i j Z = between-held lo.z hi.z p.z q.z (on_way n p.z q.z) (way-within n p.z q.z h) (i Z) (j Z)

-- places, by their coordinates
pub place-between : (k m n : ℕ) (p q : Vec3) (a : Axis) → k ≤ m → m ≤ n → IsBetween (part_of a (place_on_way k p q)) (part_of a (place_on_way n p q)) (part_of a (place_on_way m p q))
place-between k m n p q X h g = way-between k m n p.x q.x h g
place-between k m n p q Y h g = way-between k m n p.y q.y h g
place-between k m n p q Z h g = way-between k m n p.z q.z h g

pub place-within : (n : ℕ) (p q : Vec3) (a : Axis) → n ≤ 65536 → IsBetween (part_of a p) (part_of a q) (part_of a (place_on_way n p q))
place-within n p q X h = way-within n p.x q.x h
place-within n p q Y h = way-within n p.y q.y h
place-within n p q Z h = way-within n p.z q.z h

-- a box whose corners are on their ways holds what goes from a place in the first box to one in the last
pub way-in-box : (lo hi low high p q : Vec3) (n : ℕ) → n ≤ 65536 → IsInBox lo hi p → IsInBox low high q → IsInBox (place_on_way n lo low) (place_on_way n hi high) (place_on_way n p q)
way-in-box lo hi low high p q n h i j X = (way-mono n lo.x low.x p.x q.x h (i X).0 (j X).0, way-mono n p.x q.x hi.x high.x h (i X).1 (j X).1)
way-in-box lo hi low high p q n h i j Y = (way-mono n lo.y low.y p.y q.y h (i Y).0 (j Y).0, way-mono n p.y q.y hi.y high.y h (i Y).1 (j Y).1)
way-in-box lo hi low high p q n h i j Z = (way-mono n lo.z low.z p.z q.z h (i Z).0 (j Z).0, way-mono n p.z q.z hi.z high.z h (i Z).1 (j Z).1)

-- and what stays where it is
pub place-stays : (n : ℕ) (p : Vec3) (a : Axis) → part_of a (place_on_way n p p) ≡ part_of a p
place-stays n p X = way-stays n p.x
place-stays n p Y = way-stays n p.y
place-stays n p Z = way-stays n p.z
