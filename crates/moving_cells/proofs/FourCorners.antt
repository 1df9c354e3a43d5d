-- The four corners of a cell of a grid whose points move.
use Rattle.std.proofs.Common.{ℕ, ◌<◌, ◌≤◌, arith, List, [], ◌∷◌}
use Rattle.std.specs.Prelude.{All, Option, Some, option_map, slice_index_or}
use Rattle.std.specs.Borrow.{Bor}
use Rattle.fixed_math.specs.declared.vec3.Vec3.{Vec3}
use Rattle.fixed_math.specs.Axes.{origin, IsInBox}
use Rattle.hider.specs.declared.moving_box.MovingBox.{MovingBox}
use Rattle.hider.specs.Cells.{first_corner}
use Rattle.hider.specs.CellBoxes.{low_when, high_when}
use Rattle.hider.specs.CellValues.{corner_number}
use Rattle.hider.proofs.Boxes.{four_held}
use Rattle.moving.specs.WayLaws.{way-in-box}
use Rattle.moving_cells.specs.MovingGrids.{point_when}

-- the number of corner k of cell i
abbrev pub number_of : ℕ → ℕ → ℕ → ℕ
number_of columns i k = corner_number columns (first_corner columns i) k

abbrev pub four : (ℕ → Vec3) → List Vec3
four corner = corner 0 ∷ corner 1 ∷ corner 2 ∷ corner 3 ∷ []

-- the corners of cell i of points by rows
abbrev pub corners_at : ℕ → List Vec3 → ℕ → List Vec3
corners_at columns points i = four (λ k. slice_index_or points (number_of columns i k) origin)

-- the corners of cell i of a grid whose points move
abbrev pub moving_corners : ℕ → List Vec3 → Option (Bor (List Vec3)) → ℕ → ℕ → List Vec3
moving_corners columns points closing i t = four (λ k. point_when (option_map (λ (q : Bor (List Vec3)). q.now) closing) points (number_of columns i k) t)

-- a box that goes from one that holds the corners at the first places to one that holds those at the closing places holds them on their ways
pub ways_held : (columns : ℕ) (points places : List Vec3) (b : MovingBox) (i t k : ℕ) → All (IsInBox b.low b.high) (corners_at columns points i) → All (IsInBox b.closing_low b.closing_high) (corners_at columns places i) → k < 4 → t ≤ 65535 →
    IsInBox (low_when b t) (high_when b t) (point_when (Some places) points (number_of columns i k) t)
ways_held columns points places b i t k first last l h =
    way-in-box b.low b.high b.closing_low b.closing_high (slice_index_or points (number_of columns i k) origin) (slice_index_or places (number_of columns i k) origin) t (omega (arith, h))
    (four_held (IsInBox b.low b.high) (λ n. slice_index_or points (number_of columns i n) origin) first k l)
    (four_held (IsInBox b.closing_low b.closing_high) (λ n. slice_index_or places (number_of columns i n) origin) last k l)
