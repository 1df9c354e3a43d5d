-- The diced grid of a part of a surface: 2 ^ p + 1 columns and 2 ^ q + 1 rows of points at equal steps of the parameters
-- (Cook, Carpenter, Catmull 1987).
use Rattle.std.specs.Prelude.{ℕ, ◌+◌, ◌-◌, ◌*◌, ◌^◌, List, [], ◌∷◌, map, ◌≡◌, refl}
use Rattle.std.specs.List.{range_with_len}
use Rattle.fixed_math.specs.declared.vec3.Vec3.{Vec3}
use Rattle.patches.specs.Parts.{Part}
use Rattle.patches.specs.Lists.{grid}

-- how many lines bound 2 ^ p cells in one direction
abbrev pub line_count : ℕ → ℕ
line_count p = 2 ^ p + 1

-- the parameter (i + k / 2 ^ p) / 2 ^ a of line k, as a numerator over 4096
abbrev pub line_at : ℕ → ℕ → ℕ → ℕ → ℕ
line_at a i p k = (i * 2 ^ p + k) * 2 ^ (12 - (a + p))

-- the parameters of all lines of a part, as numerators
abbrev pub lines : ℕ → ℕ → ℕ → List ℕ
lines a i p = map (line_at a i p) (range_with_len 0 (line_count p))

-- the points of the row at v, for the columns at us
abbrev pub row_points : (ℕ → ℕ → Vec3) → ℕ → List ℕ → List Vec3
row_points point v us = map (λ u. point u v) us

-- the surface's points at all columns and rows, by rows
abbrev pub diced_points : (ℕ → ℕ → Vec3) → Part → ℕ → ℕ → List Vec3
diced_points point t p q = grid point (lines t.a t.i p) (lines t.b t.j q)

-- worked values: the second quarter in halves, and the last lines at the greatest depth
lines_of_quarter : lines 2 1 1 ≡ 1024 ∷ 1536 ∷ 2048 ∷ []
lines_of_quarter = refl

last_line : line_at 8 255 4 16 ≡ 4096
last_line = refl

next_to_last_line : line_at 8 255 4 15 ≡ 4095
next_to_last_line = refl
