-- How far out on the raster something in camera space can lie, for private contracts alone.
use Rattle.std.specs.Prelude.{ℕ, ◌≤◌, ◌≤ℤ◌, ◌≡◌, ℤ, Bool, None, List}
use Rattle.fixed_math.specs.declared.vec3.Vec3.{Vec3}
use Rattle.transforms.specs.declared.view.View.{View}
use Rattle.transforms.specs.Raster.{raster_x, raster_y}
use Rattle.hider.specs.declared.moving_box.MovingBox.{MovingBox}
use Rattle.hider.specs.declared.sample.Sample.{Sample}
use Rattle.hider.specs.CellBoxes.{EnclosesCell, low_when, high_when}
use Rattle.hider.specs.CellValues.{CellValues, micropolygon_of}
use Rattle.hider.specs.Extents.{IsBelow}
use Rattle.hider.specs.Fragments.{fragment_of}
use Rattle.hider.specs.Searching.{StaysInSteps, StaysInside, StaysInsideFrom}
use Rattle.hider.specs.declared.bounds.Bounds.{Bounds}

-- of the points from one depth to another none that is at least so far right lies further left on the raster
abbrev pub IsLeftmost : View → ℤ → ℤ → ℤ → ℤ → Type 0
IsLeftmost w x near far c = (p : Vec3) → x ≤ℤ p.x → near ≤ℤ p.z → p.z ≤ℤ far → c ≤ℤ raster_x w p

-- none that is at most so far right lies further right
abbrev pub IsRightmost : View → ℤ → ℤ → ℤ → ℤ → Type 0
IsRightmost w x near far c = (p : Vec3) → p.x ≤ℤ x → near ≤ℤ p.z → p.z ≤ℤ far → raster_x w p ≤ℤ c

-- none that is at most so high lies further up
abbrev pub IsTopmost : View → ℤ → ℤ → ℤ → ℤ → Type 0
IsTopmost w y near far c = (p : Vec3) → p.y ≤ℤ y → near ≤ℤ p.z → p.z ≤ℤ far → c ≤ℤ raster_y w p

-- and none that is at least so high further down
abbrev pub IsBottommost : View → ℤ → ℤ → ℤ → ℤ → Type 0
IsBottommost w y near far c = (p : Vec3) → y ≤ℤ p.y → near ≤ℤ p.z → p.z ≤ℤ far → raster_y w p ≤ℤ c

-- a camera sees all of a moving box in depth, at all times
pub record IsSeenAlways (w : View) (b : MovingBox) : Type 0 where
  pub near : w.near ≤ℤ b.low.z
  pub closing_near : w.near ≤ℤ b.closing_low.z
  pub far : b.high.z ≤ℤ w.far
  pub closing_far : b.closing_high.z ≤ℤ w.far

-- its corners are in order at the times of the shutter's interval
abbrev pub IsInOrder : MovingBox → Type 0
IsInOrder b = (t : ℕ) → t ≤ 65535 → IsBelow (low_when b t) (high_when b t)

-- nothing shows at a sample of the cells that it holds
abbrev pub ShowsNothing : View → MovingBox → Sample → Type 0
ShowsNothing w b s = (v : CellValues) (i : ℕ) (one_sided flip : Bool) → EnclosesCell v i b → fragment_of w s (micropolygon_of v one_sided flip i) ≡ None

-- they show nothing outside a box on the raster from one time to another
abbrev pub PassesFrom : View → MovingBox → ℕ → ℕ → Bounds → Type 0
PassesFrom w b from to passed = (v : CellValues) (i : ℕ) (one_sided flip : Bool) → EnclosesCell v i b → StaysInsideFrom from to passed (λ s. fragment_of w s (micropolygon_of v one_sided flip i))

-- for each step of the shutter's interval a box on the raster outside which they show nothing then
abbrev pub PassesInSteps : View → MovingBox → List Bounds → Type 0
PassesInSteps w b passed = (v : CellValues) (i : ℕ) (one_sided flip : Bool) → EnclosesCell v i b → StaysInSteps passed (λ s. fragment_of w s (micropolygon_of v one_sided flip i))

-- the same of those of which nothing shows outside one box
abbrev pub StayInSteps : View → MovingBox → Bounds → List Bounds → Type 0
StayInSteps w b whole passed = (v : CellValues) (i : ℕ) (one_sided flip : Bool) → EnclosesCell v i b → StaysInside whole (λ s. fragment_of w s (micropolygon_of v one_sided flip i)) →
    StaysInSteps passed (λ s. fragment_of w s (micropolygon_of v one_sided flip i))
