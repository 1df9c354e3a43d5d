-- Boxes of points, and what a surface's boxes hold.
use Rattle.std.specs.Prelude.{ℕ, ◌≤◌, ◌<◌, ◌%◌, ◌≡◌, ◌≤ℤ◌, List, [], ◌∷◌, length, unsigned_abs}
use Rattle.fixed_math.specs.declared.vec3.Vec3.{Vec3}
use Rattle.fixed_math.specs.declared.vec3.Axis.{Axis}
use Rattle.fixed_math.specs.Axes.{part_of, by_axes, least, greatest, IsInBox}
use Rattle.patches.specs.Rects.{Rect, IsRect, IsAt, IsInside}

-- by its first and last corner
pub record Box : Type 0 where
  pub low : Vec3
  pub high : Vec3

-- the least and the greatest corner of a box
abbrev pub corners : Box → List Vec3
corners b = b.low ∷ b.high ∷ []

-- the least box that holds the points
abbrev pub least_box : List Vec3 → Box
least_box ps = record { low = by_axes (λ a. least a ps); high = by_axes (λ a. greatest a ps) }

-- p lies in the box
abbrev pub Holds : Box → Vec3 → Type 0
Holds b p = IsInBox b.low b.high p

-- the first corner is nowhere above the second
abbrev pub IsOrdered : Box → Type 0
IsOrdered b = (a : Axis) → part_of a b.low ≤ℤ part_of a b.high

-- each coordinate has a magnitude of at most m
abbrev pub IsWithin : ℕ → Vec3 → Type 0
IsWithin m p = (a : Axis) → unsigned_abs (part_of a p) ≤ m

-- a point at parameters inside a rectangle lies in the rectangle's box
abbrev pub PointsLieInBoxes : {S : Type 0} → (S → ℕ → ℕ → Vec3) → (S → Rect → Box) → Type 0
PointsLieInBoxes {S} point box = (s : S) (r : Rect) (u v : ℕ) → IsRect r → IsAt r u v → Holds (box s r) (point s u v)

-- the box of a part lies in the box of the whole
abbrev pub PartsLieInBoxes : {S : Type 0} → (S → Rect → Box) → Type 0
PartsLieInBoxes {S} box = (s : S) (q r : Rect) → IsRect q → IsRect r → IsInside q r → Holds (box s r) (box s q).low × Holds (box s r) (box s q).high

-- a net is made of rows of one width, and has at least one point
pub record HasRows (width : ℕ) (net : List Vec3) : Type 0 where
  pub wide : 0 < width
  pub some : 0 < length net
  pub rows : length net % width ≡ 0

-- a law: each net has as many points as its width says
abbrev pub NetsHaveRows : {S : Type 0} → (S → ℕ) → (S → Rect → List Vec3) → Type 0
NetsHaveRows {S} width net = (s : S) (r : Rect) → HasRows (width s) (net s r)
