-- What the boxes of a moving surface hold: its points when the motion begins and when it ends, and all between them, displaced or not.
use Rattle.std.proofs.Common.{ℕ, zero, suc, ◌≤◌, arith}
use Rattle.std.specs.Prelude.{ℤ, pos, neg_ℤ, ◌+ℤ◌, ◌-ℤ◌, ◌≤ℤ◌, unsigned_abs}
use Rattle.std.specs.Int.{int_min, int_max}
use Rattle.std.proofs.lemmas.Int.{ints, clamps}
use Rattle.fixed_math.specs.declared.vec3.Vec3.{Vec3}
use Rattle.fixed_math.specs.declared.vec3.Axis.TheVariants.{X, Y, Z}
use Rattle.fixed_math.specs.Axes.{part_of, AreWithin}
use Rattle.fixed_math.specs.Fixed.{sat}
use Rattle.fixed_math.proofs.Sat.{sat_mono}
use Rattle.patches.specs.Rects.{Rect, IsRect, IsAt, IsInside}
use Rattle.patches.specs.Boxes.{Box, corners, Holds, IsOrdered, IsWithin, PointsLieInBoxes, PartsLieInBoxes}
use Rattle.moving.specs.Ways.{on_way, place_on_way}
use Rattle.moving.specs.WayLaws.{between-held, way-within}
use Rattle.moving.specs.Closing.{closing_place, IsNear, IsNearBox}
use Rattle.moving.specs.MovingBoxes.{both, moving_box}

-- a point at u and v that displacement moved to another place stays near its surface on the whole way from there to its closing place:
-- where the displacement is at most a bound, it is at most that bound from the box over each part that has u and v
abbrev pub StaysNear : (Rect → Box) → ℕ → ℕ → Vec3 → Vec3 → Vec3 → Type 0
StaysNear box u v before after closing =
    (bound : ℤ) (r : Rect) (n : ℕ) → IsNear bound before after → IsRect r → IsAt r u v → n ≤ 65536 → IsNearBox bound (box r) (place_on_way n after closing)

-- ---- two boxes in one
low-first : (x y z h k : ℤ) → (x ≤ℤ z) × (z ≤ℤ h) → (int_min x y ≤ℤ z) × (z ≤ℤ int_max h k)
low-first x y z h k i =
    let a = i.0 in
    let b = i.1 in
    (omega (arith, ints, clamps, a), omega (arith, ints, clamps, b))

low-last : (x y z h k : ℤ) → (y ≤ℤ z) × (z ≤ℤ k) → (int_min x y ≤ℤ z) × (z ≤ℤ int_max h k)
low-last x y z h k i =
    let a = i.0 in
    let b = i.1 in
    (omega (arith, ints, clamps, a), omega (arith, ints, clamps, b))

pub in-first : (b c : Box) (p : Vec3) → Holds b p → Holds (both b c) p
in-first b c p h X = low-first b.low.x c.low.x p.x b.high.x c.high.x (h X)
in-first b c p h Y = low-first b.low.y c.low.y p.y b.high.y c.high.y (h Y)
in-first b c p h Z = low-first b.low.z c.low.z p.z b.high.z c.high.z (h Z)

pub in-last : (b c : Box) (p : Vec3) → Holds c p → Holds (both b c) p
in-last b c p h X = low-last b.low.x c.low.x p.x b.high.x c.high.x (h X)
in-last b c p h Y = low-last b.low.y c.low.y p.y b.high.y c.high.y (h Y)
in-last b c p h Z = low-last b.low.z c.low.z p.z b.high.z c.high.z (h Z)

-- what holds two boxes holds the least box that does
lows-in : (l h x y : ℤ) → (l ≤ℤ x) × (x ≤ℤ h) → (l ≤ℤ y) × (y ≤ℤ h) → (l ≤ℤ int_min x y) × (int_min x y ≤ℤ h)
lows-in l h x y i j =
    let a = i.0 in
    let b = i.1 in
    let c = j.0 in
    let d = j.1 in
    (omega (arith, ints, clamps, a, c), omega (arith, ints, clamps, b, d))

highs-in : (l h x y : ℤ) → (l ≤ℤ x) × (x ≤ℤ h) → (l ≤ℤ y) × (y ≤ℤ h) → (l ≤ℤ int_max x y) × (int_max x y ≤ℤ h)
highs-in l h x y i j =
    let a = i.0 in
    let b = i.1 in
    let c = j.0 in
    let d = j.1 in
    (omega (arith, ints, clamps, a, c), omega (arith, ints, clamps, b, d))

both-low : (w b c : Box) → Holds w b.low → Holds w c.low → Holds w (both b c).low
both-low w b c h k X = lows-in w.low.x w.high.x b.low.x c.low.x (h X) (k X)
both-low w b c h k Y = lows-in w.low.y w.high.y b.low.y c.low.y (h Y) (k Y)
both-low w b c h k Z = lows-in w.low.z w.high.z b.low.z c.low.z (h Z) (k Z)

both-high : (w b c : Box) → Holds w b.high → Holds w c.high → Holds w (both b c).high
both-high w b c h k X = highs-in w.low.x w.high.x b.high.x c.high.x (h X) (k X)
both-high w b c h k Y = highs-in w.low.y w.high.y b.high.y c.high.y (h Y) (k Y)
both-high w b c h k Z = highs-in w.low.z w.high.z b.high.z c.high.z (h Z) (k Z)

-- ---- order and size of the least box that holds two
lows-ordered : (a b c d : ℤ) → a ≤ℤ b → int_min a c ≤ℤ int_max b d
lows-ordered a b c d h = omega (arith, ints, clamps)

pub both-IsOrdered : (b c : Box) → IsOrdered b → IsOrdered (both b c)
both-IsOrdered b c h X = lows-ordered b.low.x b.high.x c.low.x c.high.x (h X)
both-IsOrdered b c h Y = lows-ordered b.low.y b.high.y c.low.y c.high.y (h Y)
both-IsOrdered b c h Z = lows-ordered b.low.z b.high.z c.low.z c.high.z (h Z)

least-small : (m : ℕ) (x y : ℤ) → unsigned_abs x ≤ m → unsigned_abs y ≤ m → unsigned_abs (int_min x y) ≤ m
least-small m x y h k = omega (arith, ints, clamps)

most-small : (m : ℕ) (x y : ℤ) → unsigned_abs x ≤ m → unsigned_abs y ≤ m → unsigned_abs (int_max x y) ≤ m
most-small m x y h k = omega (arith, ints, clamps)

pub both-within : (m : ℕ) (b c : Box) → AreWithin m (corners b) → AreWithin m (corners c) → AreWithin m (corners (both b c))
both-within m b c h k zero X = least-small m b.low.x c.low.x (h 0 X) (k 0 X)
both-within m b c h k zero Y = least-small m b.low.y c.low.y (h 0 Y) (k 0 Y)
both-within m b c h k zero Z = least-small m b.low.z c.low.z (h 0 Z) (k 0 Z)
both-within m b c h k (suc zero) X = most-small m b.high.x c.high.x (h 1 X) (k 1 X)
both-within m b c h k (suc zero) Y = most-small m b.high.y c.high.y (h 1 Y) (k 1 Y)
both-within m b c h k (suc zero) Z = most-small m b.high.z c.high.z (h 1 Z) (k 1 Z)
both-within m b c h k (suc (suc n)) a = h (suc (suc n)) a

-- ---- the laws of a surface that moves
pub moving_inside : {S : Type 0} (point : S → ℕ → ℕ → Vec3) (box : S → Rect → Box) → PointsLieInBoxes point box → (first last : S) (r : Rect) (u v : ℕ) → IsRect r → IsAt r u v → Holds (moving_box box first last r) (point first u v)
moving_inside point box law first last r u v hr at_ = in-first (box first r) (box last r) (point first u v) (law first r u v hr at_)

pub closing_inside : {S : Type 0} (point : S → ℕ → ℕ → Vec3) (box : S → Rect → Box) → PointsLieInBoxes point box → (first last : S) (r : Rect) (u v : ℕ) → IsRect r → IsAt r u v → Holds (moving_box box first last r) (point last u v)
closing_inside point box law first last r u v hr at_ = in-last (box first r) (box last r) (point last u v) (law last r u v hr at_)

pub moving_parts : {S : Type 0} (box : S → Rect → Box) → PartsLieInBoxes box → (first last : S) (q r : Rect) → IsRect q → IsRect r → IsInside q r →
    Holds (moving_box box first last r) (moving_box box first last q).low × Holds (moving_box box first last r) (moving_box box first last q).high
moving_parts box law first last q r hq hr part =
    let f = law first q r hq hr part in
    let l = law last q r hq hr part in
    let w = moving_box box first last r in (
      both-low w (box first q) (box last q) (in-first (box first r) (box last r) (box first q).low f.0) (in-last (box first r) (box last r) (box last q).low l.0),
      both-high w (box first q) (box last q) (in-first (box first r) (box last r) (box first q).high f.1) (in-last (box first r) (box last r) (box last q).high l.1),
    )

-- ---- what displacement moves by at most the bound
-- saturation draws a number no further from one that is in range
through : (a b c : ℤ) → a ≤ℤ b → b ≤ℤ c → a ≤ℤ c
through a b c h k = omega (arith, ints)

sat-above : (x : ℤ) → x ≤ℤ pos 2147483647 → x ≤ℤ sat x
sat-above x h = grind (arith, ints)

sat-below : (x : ℤ) → neg_ℤ (pos 2147483647) ≤ℤ x → sat x ≤ℤ x
sat-below x h = grind (arith, ints)

drawn-near : (b l p q : ℤ) → unsigned_abs l ≤ 2147483647 → (p -ℤ b) ≤ℤ q → q ≤ℤ (p +ℤ b) → ((l -ℤ b) ≤ℤ sat (l +ℤ (q -ℤ p))) × (sat (l +ℤ (q -ℤ p)) ≤ℤ (l +ℤ b))
drawn-near b l p q small low high =
    let down = sat-above (l -ℤ b) (omega (arith, ints)) in
    let up = sat-below (l +ℤ b) (omega (arith, ints)) in
    let after_low = sat_mono (l -ℤ b) (l +ℤ (q -ℤ p)) (omega (arith, ints)) in
    let after_high = sat_mono (l +ℤ (q -ℤ p)) (l +ℤ b) (omega (arith, ints)) in
    (through (l -ℤ b) (sat (l -ℤ b)) (sat (l +ℤ (q -ℤ p))) down after_low, through (sat (l +ℤ (q -ℤ p))) (sat (l +ℤ b)) (l +ℤ b) after_high up)

-- so a closing place is no further from the closing surface's point than the displaced point from the one before
pub closing_near : (bound : ℤ) (last before after : Vec3) → IsWithin 2147483647 last → IsNear bound before after → IsNear bound last (closing_place last before after)
closing_near bound last before after small near X = drawn-near bound last.x before.x after.x (small X) (near X).0 (near X).1
closing_near bound last before after small near Y = drawn-near bound last.y before.y after.y (small Y) (near Y).0 (near Y).1
closing_near bound last before after small near Z = drawn-near bound last.z before.z after.z (small Z) (near Z).0 (near Z).1

-- a point by the sizes of its coordinates
pub by_parts : (m : ℕ) (p : Vec3) → unsigned_abs p.x ≤ m → unsigned_abs p.y ≤ m → unsigned_abs p.z ≤ m → IsWithin m p
by_parts m p x y z X = x
by_parts m p x y z Y = y
by_parts m p x y z Z = z

near-held : (b l h p q : ℤ) → (l ≤ℤ p) × (p ≤ℤ h) → ((p -ℤ b) ≤ℤ q) × (q ≤ℤ (p +ℤ b)) → ((l -ℤ b) ≤ℤ q) × (q ≤ℤ (h +ℤ b))
near-held b l h p q i j =
    let low = i.0 in
    let high = i.1 in
    let down = j.0 in
    let up = j.1 in
    (omega (arith, ints, low, down), omega (arith, ints, high, up))

-- what is near a point of a box is near the box
pub near_box : (bound : ℤ) (b : Box) (p q : Vec3) → Holds b p → IsNear bound p q → IsNearBox bound b q
near_box bound b p q h n a = near-held bound (part_of a b.low) (part_of a b.high) (part_of a p) (part_of a q) (h a) (n a)

-- what is near a box at both ends of its way is near it on the way
pub way_near : (bound : ℤ) (b : Box) (p q : Vec3) (n : ℕ) → n ≤ 65536 → IsNearBox bound b p → IsNearBox bound b q → IsNearBox bound b (place_on_way n p q)
way_near bound b p q n h i j X = between-held (b.low.x -ℤ bound) (b.high.x +ℤ bound) p.x q.x (on_way n p.x q.x) (way-within n p.x q.x h) (i X) (j X)
way_near bound b p q n h i j Y = between-held (b.low.y -ℤ bound) (b.high.y +ℤ bound) p.y q.y (on_way n p.y q.y) (way-within n p.y q.y h) (i Y) (j Y)
way_near bound b p q n h i j Z = between-held (b.low.z -ℤ bound) (b.high.z +ℤ bound) p.z q.z (on_way n p.z q.z) (way-within n p.z q.z h) (i Z) (j Z)

-- a point of a part that displacement moves by at most the bound is at each time near the part's box
pub stays_near : {S : Type 0} (point : S → ℕ → ℕ → Vec3) (box : S → Rect → Box) → PointsLieInBoxes point box → (first last : S) (r : Rect) (u v n : ℕ) (bound : ℤ) (after : Vec3) → IsRect r → IsAt r u v → n ≤ 65536 →
    IsWithin 2147483647 (point last u v) → IsNear bound (point first u v) after →
    IsNearBox bound (moving_box box first last r) (place_on_way n after (closing_place (point last u v) (point first u v) after))
stays_near point box law first last r u v n bound after hr at_ h small near =
    let b = moving_box box first last r in
    let q = closing_place (point last u v) (point first u v) after in
    way_near bound b after q n h
    (near_box bound b (point first u v) after (moving_inside point box law first last r u v hr at_) near)
    (near_box bound b (point last u v) q (closing_inside point box law first last r u v hr at_) (closing_near bound (point last u v) (point first u v) after small near))
