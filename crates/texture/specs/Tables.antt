-- Tables of sums over all squares of one side, which the type of textures keeps.
use Rattle.std.specs.Prelude.{ℕ, ◌+◌, ◌*◌, ◌/◌, ◌%◌, ◌^◌, ◌<◌, List, [], length, get_or, ◌≡◌}
use Rattle.texture.specs.Images.{Image, listed}
use Rattle.texture.specs.Pyramid.{square_sum, side_at}

-- the sums over all squares of one side, by rows, three a place
pub record Table : Type 0 where
  pub width : ℕ
  pub height : ℕ
  pub cells : List ℕ

-- the sum at a place of the table of squares of side m, of w columns
abbrev pub cell : Image → ℕ → ℕ → ℕ → ℕ
cell p m w k = square_sum p (k % 3) m (k / 3 % w) (k / 3 / w)

-- a table of the sums over all squares of a side
pub record AreSums (p : Image) (m : ℕ) (t : Table) : Type 0 where
  pub width : t.width ≡ side_at p.width m
  pub height : t.height ≡ side_at p.height m
  pub cells : t.cells ≡ listed (3 * (t.width * t.height)) (cell p m t.width)

abbrev pub no_table : Table
no_table = record { width = 0; height = 0; cells = [] }

-- the tables of the levels from 3 on: that at place i has the sums over squares of side 2 ^ (3 + i)
abbrev pub AreTables : Image → List Table → Type 0
AreTables p ts = (i : ℕ) → i < length ts → AreSums p (2 ^ (3 + i)) (get_or ts i no_table)

-- the tables of the first n levels from 3 on
pub record AreFirst (n : ℕ) (p : Image) (ts : List Table) : Type 0 where
  pub size : length ts ≡ n
  pub each : AreTables p ts
