-- The fragments of a sample, on the way through a frame's leaves.
use Rattle.std.specs.Prelude.{◌≡◌, Bool, ℕ, ◌+◌, ◌*◌, ◌<◌, ◌≤◌, List, [], ◌++◌, All, map, drop, length, slice_index_or}
use Rattle.fixed_math.specs.Spots.{PixelRect, pixel_count}
use Rattle.scene.specs.Scene.{PrimValue, FrameValue}
use Rattle.patches.specs.Parts.{Part, whole_of}
use Rattle.shader_binding.specs.Sets.{AcceptedValue, Fits}
use Rattle.shader_binding.specs.Bindings.{FitsPrim}
use Rattle.hider.specs.declared.sample.Sample.{Sample}
use Rattle.hider.specs.Cells.{Micropolygon}
use Rattle.hider.specs.CellValues.{micropolygon_of, micropolygons_of as all_cells}
use Rattle.moving_cells.specs.MovingGrids.{values_when}
use Rattle.scene.specs.Settings.{OptionValues}
use Rattle.pixel_account.specs.declared.points.LeafGrid.{LeafGrid}
use Rattle.hider.specs.Fragments.{covering}
use Rattle.hider.specs.Kept.{keep_all}
use Rattle.hider.specs.Samples.{sample_in}
use Rattle.bound_split.specs.Leaves.{leaves, pending}
use Rattle.buckets.specs.Culled.{IsShadedPrim, leaf_meets}
use Rattle.buckets.specs.Pictures.{decide, FrameLeaf, leaf_in, leaves_from, frame_leaves, micropolygons_of}
use Rattle.pixel_account.specs.declared.stacks.Stack.{Stack}
use Rattle.pixel_account.specs.declared.shown.Shown.{Shown}
use Rattle.pixel_account.specs.Account.{weight_for, shown_at}
use Rattle.pixel_account.specs.Traces.{fragments_in, IsTrace}

-- what a call is about: a frame of an accepted scene; a pixel
pub record InFrame : Type 0 where
  pub accepted : AcceptedValue
  pub frame : FrameValue

pub record OfPixel : Type 0 where
  pub accepted : AcceptedValue
  pub x : ℕ
  pub y : ℕ

-- a cell of a shaded grid as a micropolygon, and all of them
abbrev pub cell_in_grid : LeafGrid → ℕ → Micropolygon
cell_in_grid g i = micropolygon_of (values_when g.prim.now.smooth g.grid) g.prim.now.one_sided g.prim.now.flip i

abbrev pub cells_in_grid : LeafGrid → List Micropolygon
cells_in_grid g = all_cells (values_when g.prim.now.smooth g.grid) g.prim.now.one_sided g.prim.now.flip

-- a rectangle of some pixels within 4096 by 4096
pub record IsRect (r : PixelRect) : Type 0 where
  pub across : r.left < r.right
  pub right : r.right ≤ 4096
  pub down : r.top < r.bottom
  pub bottom : r.bottom ≤ 4096

-- nothing shows at a sample yet, whose weight is that for the pixel x, y
pub record IsEmptyFor (o : OptionValues) (x y : ℕ) (k : Stack) : Type 0 where
  pub weight : k.weight ≡ weight_for o x y k.sample
  pub traces : k.traces ≡ []

-- a stack with what further micropolygons show at its sample
pub record PutIn (a : AcceptedValue) (f : FrameValue) (ns : List Micropolygon) (old new : Stack) : Type 0 where
  pub sample : new.sample ≡ old.sample
  pub weight : new.weight ≡ old.weight
  pub shown : fragments_in new.traces ≡ keep_all (fragments_in old.traces) (covering f.camera ns old.sample)
  pub each : All (IsTrace a f old.sample) old.traces → All (IsTrace a f old.sample) new.traces

-- so is each of some stacks
pub record PutInAll (a : AcceptedValue) (f : FrameValue) (ns : List Micropolygon) (old new : List Stack) : Type 0 where
  pub long : length new ≡ length old
  pub each : (k : ℕ) (d : Stack) → k < length old → PutIn a f ns (slice_index_or old k d) (slice_index_or new k d)

-- each of the first n is, and the others are as they were
pub record PutInFirst (a : AcceptedValue) (f : FrameValue) (ns : List Micropolygon) (n : ℕ) (old new : List Stack) : Type 0 where
  pub long : length new ≡ length old
  pub each : (k : ℕ) (d : Stack) → k < n → k < length old → PutIn a f ns (slice_index_or old k d) (slice_index_or new k d)
  pub others : (k : ℕ) (d : Stack) → n ≤ k → slice_index_or new k d ≡ slice_index_or old k d

-- what a primitive's piece needs to show in a rectangle of pixels: the box of its points meets it
unfoldable pub meets_in : FrameValue → PrimValue → PixelRect → Part → Bool
meets_in f prim r part = leaf_meets f prim r part

-- the samples are some of a rectangle's
pub record IsSampleOf (xs ys : ℕ) (r : PixelRect) (s : Sample) : Type 0 where
  pub number : ℕ
  pub inside : number < pixel_count r * (xs * ys)
  pub is : s ≡ sample_in xs ys r number

abbrev pub AreSamplesOf : FrameValue → PixelRect → List Stack → Type 0
AreSamplesOf f r stacks = All (λ k. IsSampleOf f.options.xs f.options.ys r k.sample) stacks

-- a frame of an accepted scene that can be shaded
pub record IsShown (a : AcceptedValue) (s : Shown) : Type 0 where
  pub scene : s.scene.now ≡ a.scene
  pub fits : Fits a.set a.scene.uses
  pub variables : All (FitsPrim a.set a.scene.uses) s.frame.now.prims
  pub prims : All (IsShadedPrim a s.frame.now) s.frame.now.prims
  pub few : length s.frame.now.prims ≤ 65536

-- the sample has all that can show of the frame there, and its weight for the pixel x, y
pub record IsDone (a : AcceptedValue) (f : FrameValue) (x y : ℕ) (k : Stack) : Type 0 where
  pub weight : k.weight ≡ weight_for f.options x y k.sample
  pub shown : fragments_in k.traces ≡ shown_at a f k.sample
  pub each : All (IsTrace a f k.sample) k.traces

-- on the way through the leaves of primitive n, of which those below a stack's pieces are still to come
pub record GoesThrough (a : AcceptedValue) (f : FrameValue) (prim : PrimValue) (n : ℕ) (old new : List Stack) (count count' : ℕ) (stack : List Part) : Type 0 where
  pub past : List Part
  pub split : leaves (decide f.camera prim) (whole_of n) ≡ past ++ pending (decide f.camera prim) stack
  pub put : PutInAll a f (micropolygons_of a f (map (leaf_in prim) past)) old new
  pub counted : count' ≤ count + length past

-- on the way through the primitives of a frame, of which those from number n on are still to come
pub record GoesOver (a : AcceptedValue) (f : FrameValue) (n : ℕ) (old new : List Stack) (count count' : ℕ) : Type 0 where
  pub past : List FrameLeaf
  pub split : frame_leaves f ≡ past ++ leaves_from f n (drop n f.prims)
  pub put : PutInAll a f (micropolygons_of a f past) old new
  pub counted : count' ≤ count + 65536 * n
