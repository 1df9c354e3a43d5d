-- Numbers and triples at the places of a grid: in rows, or one at all places.
use Rattle.std.specs.Prelude.{ℕ, ◌≤◌, ◌<◌, ◌≡◌, ℤ, pos, List, length, get_or, unsigned_abs}
use Rattle.fixed_math.specs.declared.vec3.Vec3.{Vec3}
use Rattle.lanes.specs.Directions.{IsNearUnit}
use Rattle.number_rows.specs.declared.plane.Parts.{Parts}
use Rattle.number_rows.specs.declared.plane.Plane.{Plane}
use Rattle.number_rows.specs.declared.plane.Plane.TheVariants.{Row, Value}
use Rattle.number_rows.specs.declared.plane.Planes.{Planes}
use Rattle.number_rows.specs.declared.plane.TripleRows.{TripleRows}

-- the number at a place of what is a row, or one value for all places
abbrev pub plane_at : Plane → ℕ → ℤ
plane_at (Row r) i = get_or r.now i (pos 0)
plane_at (Value x) i = x

-- the triple at a place of three such
abbrev pub triple_at : Planes → ℕ → Vec3
triple_at p i = record { x = plane_at p.x i; y = plane_at p.y i; z = plane_at p.z i }

-- there is a number for each of the first n places
abbrev pub IsPlane : ℕ → Plane → Type 0
IsPlane n (Row r) = n ≤ length r.now
IsPlane n (Value x) = Unit {0}

-- three planes for so many places
pub record ArePlanes (n : ℕ) (p : Planes) : Type 0 where
  pub x : IsPlane n p.x
  pub y : IsPlane n p.y
  pub z : IsPlane n p.z

-- the triple at a place of three rows
abbrev pub triple_in : List ℤ → List ℤ → List ℤ → ℕ → Vec3
triple_in xs ys zs i = record { x = get_or xs i (pos 0); y = get_or ys i (pos 0); z = get_or zs i (pos 0) }

-- the plane is this row
abbrev pub IsRow : List ℤ → Plane → Type 0
IsRow xs (Row r) = xs ≡ r.now
IsRow xs (Value x) = ⊥

abbrev pub rows_at : TripleRows → ℕ → Vec3
rows_at r i = triple_in r.x.now r.y.now r.z.now i

-- each of three rows is longer than n
pub record AreLonger (n : ℕ) (r : TripleRows) : Type 0 where
  pub x : n < length r.x.now
  pub y : n < length r.y.now
  pub z : n < length r.z.now

-- the planes are these rows
pub record IsInRows (r : TripleRows) (p : Planes) : Type 0 where
  pub same : (i : ℕ) → triple_at p i ≡ rows_at r i
  pub long : (n i : ℕ) → ArePlanes n p → i < n → AreLonger i r

-- the triple of these parts
abbrev pub triple_of : Parts → Vec3
triple_of p = record { x = p.x; y = p.y; z = p.z }

-- For private contracts alone: the length is nearly 1
abbrev pub IsNear : Vec3 → Type 0
IsNear v = IsNearUnit v.x v.y v.z

-- For private contracts alone: a number below 64
abbrev pub IsSmall : ℤ → Type 0
IsSmall x = unsigned_abs x ≤ 4194304

-- the same of the parts of a triple
pub record AreSmall (v : Vec3) : Type 0 where
  pub x : IsSmall v.x
  pub y : IsSmall v.y
  pub z : IsSmall v.z
