-- The weights of a gaussian for pairs of offsets.
use Rattle.std.specs.Prelude.{ℕ, ◌+◌, ◌-◌, ◌*◌, ◌/◌, ◌%◌, ◌<◌, ◌≤◌, ℤ, pos, ◌-ℤ◌, ◌≡◌, ◌≢◌, List, length, get_or}
use Rattle.fixed_math.specs.Fixed.{add}
use Rattle.scene.specs.declared.filter.Filter.{Filter}
use Rattle.filter_ppm.specs.declared.bells.Side.{Side}
use Rattle.filter_ppm.specs.declared.tables.RowWeights.{RowWeights}
use Rattle.scene.specs.Settings.{OptionValues}
use Rattle.filter_ppm.specs.Tables.{part, joined, power, IsTable, ArePowers}

-- the number of an offset by its place in its table
abbrev pub number : Filter → ℕ → ℕ → ℤ
number f w k = part f w (pos k -ℤ pos (w / 2))

-- the places from s.count on have the numbers of those opposite to them
pub record IsSide (f : Filter) (w : ℕ) (s : Side) : Type 0 where
  pub width : s.width ≡ w
  pub opposite : (k : ℕ) → s.count ≤ k → k < w → (w - k < s.count) × (number f w (w - k) ≡ number f w k)

-- the weight of the place k in rows of so many columns, by the tables' squares, or 0
abbrev pub IsBell : List ℤ → List ℤ → ℕ → ℕ → ℕ → Type 0
IsBell across down columns k weight = weight ≢ 0 → pos weight ≡ power (add (get_or across (k % columns) (pos 0)) (get_or down (k / columns) (pos 0)))

-- the first such weights
abbrev pub AreFirstBells : List ℤ → List ℤ → ℕ → List ℕ → Type 0
AreFirstBells across down columns weights = (k : ℕ) → k < length weights → IsBell across down columns k (get_or weights k 0)

-- each weight is that of its column's offset across and its row's offset down, or 0
pub record AreBells (f : Filter) (wx wy : ℕ) (columns rows : Side) (weights : List ℕ) : Type 0 where
  pub across : 0 < length weights → IsSide f wx columns
  pub down : 0 < length weights → IsSide f wy rows
  pub each : (i j : ℕ) → i < columns.count → j * columns.count + i < length weights → get_or weights (j * columns.count + i) 0 ≢ 0 →
      pos (get_or weights (j * columns.count + i) 0) ≡ joined f (number f wx i) (number f wy j)

-- the same of the row of an offset down whose number is q, from start on
pub record IsBellRow (f : Filter) (wx : ℕ) (q : ℤ) (across : Side) (start : ℕ) (weights : List ℕ) : Type 0 where
  pub side : 0 < length weights → IsSide f wx across
  pub each : (i : ℕ) → i < across.count → start + i < length weights → get_or weights (start + i) 0 ≢ 0 → pos (get_or weights (start + i) 0) ≡ joined f (number f wx i) q

-- what the weights of a row of pixels are read from, for samples whose number in the row's direction is q
pub record IsRowOf (o : OptionValues) (q : ℤ) (r : RowWeights) : Type 0 where
  pub options : r.options ≡ o
  pub across : IsTable o.filter o.wx r.across.now
  pub powers : ArePowers r.powers.now
  pub down : r.down ≡ q
  pub bells : IsBellRow o.filter o.wx q r.side r.start r.weights.now
