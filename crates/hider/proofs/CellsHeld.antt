-- Boxes in camera space that hold micropolygons while the shutter is open.
use Rattle.std.proofs.Common.{◌<◌, ◌≤◌, ℕ, arith, subst}
use Rattle.std.specs.Prelude.{ℤ, ◌≤ℤ◌}
use Rattle.fixed_math.specs.declared.vec3.Vec3.{Vec3}
use Rattle.fixed_math.specs.Axes.{part_of, IsInBox}
use Rattle.moving.specs.WayLaws.{way-in-box, place-stays}
use Rattle.hider.specs.declared.moving_box.MovingBox.{MovingBox}
use Rattle.hider.specs.CellBoxes.{EnclosesCell, low_when, high_when}
use Rattle.hider.specs.CellValues.{CellValues, MovesBetween, corners_when}
use Rattle.hider.specs.Extents.{IsBelow, IsBelowAll, IsAboveAll}
use Rattle.hider.proofs.Boxes.{four_held}
use Rattle.hider.proofs.Moves.{corner_in}

-- a box that holds a place when the shutter opens and when it closes holds it at all times
pub held_when : (b : MovingBox) (p : Vec3) (t : ℕ) → t ≤ 65535 → IsInBox b.low b.high p → IsInBox b.closing_low b.closing_high p → IsInBox (low_when b t) (high_when b t) p
held_when b p t h first last a =
    let e = way-in-box b.low b.high b.closing_low b.closing_high p p t (omega (arith, h)) first last a in
    subst (λ (z : ℤ). (part_of a (low_when b t) ≤ℤ z) × (z ≤ℤ part_of a (high_when b t))) (place-stays t p a) e

-- so it encloses a cell whose corners lie in it at both ends at all times
pub enclosed : (v : CellValues) (i : ℕ) (b : MovingBox) → ((k t : ℕ) → k < 4 → t ≤ 65535 → IsInBox b.low b.high (v.corner i k t)) → ((k t : ℕ) → k < 4 → t ≤ 65535 → IsInBox b.closing_low b.closing_high (v.corner i k t)) → EnclosesCell v i b
enclosed v i b first last k t l h = held_when b (v.corner i k t) t h (first k t l h) (last k t l h)

-- what is below and above the corners of a cell at the first time and at the last one holds them at all times
pub held_between : (v : CellValues) (i : ℕ) (lo hi : Vec3) → MovesBetween v → i < v.count →
    IsBelowAll lo (corners_when v i 0) → IsBelowAll lo (corners_when v i 65535) → IsAboveAll hi (corners_when v i 0) → IsAboveAll hi (corners_when v i 65535) →
    (k t : ℕ) → k < 4 → t ≤ 65535 → IsInBox lo hi (v.corner i k t)
held_between v i lo hi moves inside a b c d k t l h =
    corner_in lo hi (v.corner i k 0) (v.corner i k 65535) (v.corner i k t)
    (four_held (IsBelow lo) (λ n. v.corner i n 0) a k l)
    (four_held (IsBelow lo) (λ n. v.corner i n 65535) b k l)
    (four_held (λ q. IsBelow q hi) (λ n. v.corner i n 0) c k l)
    (four_held (λ q. IsBelow q hi) (λ n. v.corner i n 65535) d k l)
    (λ x. moves i k t x inside l h)
