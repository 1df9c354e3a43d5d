-- Boxes in camera space round micropolygons that move.
use Rattle.std.specs.Prelude.{ℕ, ◌<◌, ◌≤◌, ◌≤ℤ◌, ◌≡◌, ℤ, Option, Some, List, All, slice_index_or}
use Rattle.fixed_math.specs.declared.vec3.Vec3.{Vec3}
use Rattle.fixed_math.specs.declared.vec3.Axis.{Axis}
use Rattle.fixed_math.specs.Axes.{part_of, IsInBox, origin}
use Rattle.hider.specs.CellValues.{CellValues, LiesBetween}
use Rattle.transforms.specs.declared.view.View.{View}
use Rattle.transforms.specs.Raster.{raster_x, raster_y}
use Rattle.hider.specs.declared.bounds.Bounds.{Bounds}
use Rattle.hider.specs.declared.fragment.Fragment.{Fragment}
use Rattle.hider.specs.declared.sample.Sample.{Sample}

-- no coordinate of p is above that of q
abbrev pub IsBelow : Vec3 → Vec3 → Type 0
IsBelow p q = (a : Axis) → part_of a p ≤ℤ part_of a q

-- p is below all of some points, or above them
abbrev pub IsBelowAll : Vec3 → List Vec3 → Type 0
IsBelowAll p corners = All (IsBelow p) corners

abbrev pub IsAboveAll : Vec3 → List Vec3 → Type 0
IsAboveAll p corners = All (λ q. IsBelow q p) corners

-- a box on the raster that holds the place of each point of a box in camera space
abbrev pub HoldsRaster : View → Vec3 → Vec3 → Bounds → Type 0
HoldsRaster v lo hi b = (p : Vec3) → IsInBox lo hi p →
    (b.left ≤ℤ raster_x v p) × (raster_x v p ≤ℤ b.right) × (b.top ≤ℤ raster_y v p) × (raster_y v p ≤ℤ b.bottom)

-- a depth that a camera sees
abbrev pub IsSeenDepth : View → Vec3 → Type 0
IsSeenDepth v p = (v.near ≤ℤ p.z) × (p.z ≤ℤ v.far)

-- corner k of a cell that goes from some corners to others: it lies between its two ends
abbrev pub IsCornerBetween : List Vec3 → List Vec3 → ℕ → Vec3 → Type 0
IsCornerBetween first last k p = (a : Axis) → LiesBetween (part_of a (slice_index_or first k origin)) (part_of a (slice_index_or last k origin)) (part_of a p)

-- where all four corners of such a cell are at seen depths, a box on the raster holds their places
abbrev pub Passed : View → List Vec3 → List Vec3 → Bounds → Type 0
Passed v first last b = (corner : ℕ → Vec3) → ((k : ℕ) → k < 4 → IsCornerBetween first last k (corner k)) → ((k : ℕ) → k < 4 → IsSeenDepth v (corner k)) → (k : ℕ) → k < 4 →
    (b.left ≤ℤ raster_x v (corner k)) × (raster_x v (corner k) ≤ℤ b.right) × (b.top ≤ℤ raster_y v (corner k)) × (raster_y v (corner k) ≤ℤ b.bottom)

-- all corners of cell i have the colour and the opacity of the first one
pub record HasOneColour (v : CellValues) (i : ℕ) : Type 0 where
  pub colour : (k : ℕ) → k < 4 → v.colour i k ≡ v.colour i 0
  pub opacity : (k : ℕ) → k < 4 → v.opacity i k ≡ v.opacity i 0

-- what shows at the times of the shutter's interval is no nearer than a depth
abbrev pub IsNoNearer : ℤ → (Sample → Option Fragment) → Type 0
IsNoNearer z shown = (s : Sample) (f : Fragment) → s.time ≤ 65535 → shown s ≡ Some f → z ≤ℤ f.depth

-- a depth between two is never one that a camera sees
abbrev pub IsOutOfSight : View → ℤ → ℤ → Type 0
IsOutOfSight v p q = (z : ℤ) → LiesBetween p q z → v.near ≤ℤ z → z ≤ℤ v.far → ⊥
