-- Which leaves of a primitive can show in a rectangle of pixels, and how near a leaf can come.
use Rattle.std.specs.Prelude.{◌≡◌, ℤ, pos, ◌≤ℤ◌, Bool, true, ◌&&◌, not, IfSome}
use Rattle.fixed_math.specs.Spots.{PixelRect}
use Rattle.patches.specs.Parts.{Part, rect_of}
use Rattle.quadrics.specs.AnyPatches.{IsSmallPatch}
use Rattle.transforms.specs.Field.{IsView}
use Rattle.bound_split.specs.Extents.{extent_of, part_meets}
use Rattle.scene.specs.Scene.{PrimValue, FrameValue, HasUses}
use Rattle.shader_binding.specs.Sets.{AcceptedValue, Fits}
use Rattle.buckets.specs.Pictures.{prim_box}

-- a leaf of a primitive can show in a rectangle of pixels: the box of its part, widened by the primitive's bound, meets it
abbrev pub leaf_meets : FrameValue → PrimValue → PixelRect → Part → Bool
leaf_meets f prim r part = part_meets f.camera prim.bound (prim_box prim) r part

-- no point of the leaf is less deep
abbrev pub leaf_nearest : FrameValue → PrimValue → Part → ℤ
leaf_nearest f prim part = (extent_of f.camera prim.bound (prim_box prim (rect_of part))).nearest

-- it can, and no part of it lies at a depth that is told to be behind
abbrev pub part_shows : FrameValue → PrimValue → PixelRect → (ℤ → Bool) → Part → Bool
part_shows f prim r behind p = leaf_meets f prim r p && not (behind (leaf_nearest f prim p))

-- what holds of a depth holds of each that is no nearer
abbrev pub HoldsBehind : (ℤ → Bool) → Type 0
HoldsBehind behind = (y z : ℤ) → y ≤ℤ z → behind y ≡ true → behind z ≡ true

-- what holds of each primitive of a frame of an accepted scene: the camera is one, the bound is no less than 0, the patch at which a
-- motion ends lies in range, and the shaders have the kinds that are asked for
pub record IsShadedPrim (a : AcceptedValue) (f : FrameValue) (prim : PrimValue) : Type 0 where
  pub view : IsView f.camera
  pub bound : pos 0 ≤ℤ prim.bound
  pub small : IfSome prim.closing IsSmallPatch
  pub fits : Fits a.set a.scene.uses
  pub uses : HasUses a.scene.uses prim
