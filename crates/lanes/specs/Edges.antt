-- Masks of the edge test.
use Rattle.std.specs.Prelude.{ℤ, pos, ◌-ℤ◌, ◌*ℤ◌, List, cond, int_le}
use Rattle.fixed_math.specs.Spots.{Spot}
use Rattle.fixed_math.specs.Edges.{is_inside, owns}
use Rattle.lanes.specs.Masks.{mask_of}
use Rattle.lanes.specs.Rows.{at}

-- a place by its coordinates
abbrev pub spot : ℤ → ℤ → Spot
spot x y = record { x = x; y = y }

-- a place given as two numbers
abbrev pub spot_of : List ℤ → Spot
spot_of c = spot (at c 0) (at c 1)

-- the mask of the places on the inner side of the edge from a to b, and of those on it where the edge owns them
abbrev pub inside : Spot → Spot → Spot → ℤ
inside a b s = mask_of (is_inside a b s)

-- for private contracts alone: the value of the edge of step (dx, dy) from (ax, ay) at (x, y), and the least one of a covered place
unfoldable pub value_at : ℤ → ℤ → ℤ → ℤ → ℤ → ℤ → ℤ
value_at ax ay dx dy x y = dx *ℤ (y -ℤ ay) -ℤ dy *ℤ (x -ℤ ax)

abbrev pub least_of : ℤ → ℤ → ℤ
least_of dx dy = cond (owns dx dy) (pos 0) (pos 1)

-- the edge test as one comparison, by where the edge begins and its step
unfoldable pub from_step : ℤ → ℤ → ℤ → ℤ → ℤ → ℤ → ℤ
from_step ax ay dx dy x y = mask_of (int_le (least_of dx dy) (value_at ax ay dx dy x y))
