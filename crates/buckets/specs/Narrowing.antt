-- Which primitives of a frame can show in a rectangle of pixels: none of those that lie between the numbers of a list.
use Rattle.std.specs.Prelude.{◌≡◌, ◌≤◌, ◌<◌, ◌+◌, ℕ, pos, ◌≤ℤ◌, false, List, All, length, Some, slice_get, slice_index_or}
use Rattle.fixed_math.specs.Spots.{PixelRect}
use Rattle.patches.specs.Parts.{whole_of, rect_of}
use Rattle.bound_split.specs.declared.extents.Extent.{Extent}
use Rattle.bound_split.specs.Extents.{extent_of, pixels_of}
use Rattle.scene.specs.Scene.{PrimValue, FrameValue}
use Rattle.buckets.specs.declared.candidates.Candidates.{Candidates}
use Rattle.buckets.specs.Culled.{leaf_meets}
use Rattle.buckets.specs.Pictures.{prim_box}

-- a rectangle of pixels lies in another one
pub record LiesIn (inner outer : PixelRect) : Type 0 where
  pub left : outer.left ≤ inner.left
  pub right : inner.right ≤ outer.right
  pub top : outer.top ≤ inner.top
  pub bottom : inner.bottom ≤ outer.bottom

-- primitive k, if there is one, doesn't meet the rectangle
abbrev pub Misses : FrameValue → PixelRect → ℕ → Type 0
Misses f r k = (prim : PrimValue) → slice_get f.prims k ≡ Some prim → (pos 0 ≤ℤ prim.bound) × (leaf_meets f prim r (whole_of k) ≡ false)

-- where whole primitives can show, by number
abbrev pub IsWholeExtent : FrameValue → ℕ → Extent → Type 0
IsWholeExtent f k e = (prim : PrimValue) → slice_get f.prims k ≡ Some prim → (pos 0 ≤ℤ prim.bound) × (e ≡ extent_of f.camera prim.bound (prim_box prim (rect_of (whole_of k))))

-- where each whole primitive of a frame can show
pub record AreExtents (f : FrameValue) (extents : List Extent) : Type 0 where
  pub each : (k : ℕ) (d : Extent) → k < length extents → IsWholeExtent f k (slice_index_or extents k d)

-- all primitives between two numbers miss the rectangle
abbrev pub MissBetween : FrameValue → PixelRect → ℕ → ℕ → Type 0
MissBetween f r from to = (k : ℕ) → from < k → k < to → Misses f r k

-- so do all that a list of numbers leaves out behind its first one
pub record LeaveOut (f : FrameValue) (r : PixelRect) (numbers : List ℕ) : Type 0 where
  pub gaps : (i d : ℕ) → i < length numbers → MissBetween f r (slice_index_or numbers i d) (slice_index_or numbers (i + 1) (length f.prims))

abbrev pub AreCandidates : FrameValue → Candidates → Type 0
AreCandidates f c = LeaveOut f (pixels_of c.rect) c.numbers.items

-- the same of each rectangle, and there is one
pub record AreNarrowed (f : FrameValue) (narrowed : List Candidates) : Type 0 where
  pub some : 1 ≤ length narrowed
  pub each : All (AreCandidates f) narrowed
