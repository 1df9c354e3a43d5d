-- Boxes in camera space that hold micropolygons while the shutter is open.
use Rattle.std.specs.Prelude.{ℕ, ◌<◌, ◌≤◌, ◌≡◌, pos, refl}
use Rattle.fixed_math.specs.declared.vec3.Vec3.{Vec3}
use Rattle.fixed_math.specs.Axes.{origin, IsInBox}
use Rattle.moving.specs.Ways.{place_on_way}
use Rattle.hider.specs.declared.moving_box.MovingBox.{MovingBox}
use Rattle.hider.specs.CellValues.{CellValues}

-- the first and the last corner of such a box at a time: each goes straight from its place when the shutter opens to that when it closes
abbrev pub low_when : MovingBox → ℕ → Vec3
low_when b t = place_on_way t b.low b.closing_low

-- the greatest corner of a moving box at a time
abbrev pub high_when : MovingBox → ℕ → Vec3
high_when b t = place_on_way t b.high b.closing_high

-- it holds the corners of cell i at all times
abbrev pub EnclosesCell : CellValues → ℕ → MovingBox → Type 0
EnclosesCell v i b = (k t : ℕ) → k < 4 → t ≤ 65535 → IsInBox (low_when b t) (high_when b t) (v.corner i k t)

-- a worked value: half of the way across
half_way : low_when (record { low = origin; high = origin; closing_low = record { x = pos 8; y = pos 0; z = pos 2 }; closing_high = origin }) 32768 ≡ record { x = pos 4; y = pos 0; z = pos 1 }
half_way = refl
