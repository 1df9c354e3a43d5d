-- What is known of pieces of a frame's primitives.
use Rattle.std.specs.Prelude.{◌≡◌, ℕ, List, All, length, Option, Some, None, slice_get}
use Rattle.patches.specs.Parts.{Part, rect_of}
use Rattle.bound_split.specs.Decisions.{FitsPart}
use Rattle.bound_split.specs.Extents.{extent_of}
use Rattle.bound_split.specs.declared.extents.Extent.{Extent}
use Rattle.bound_split.specs.declared.sights.Sight.{Sight}
use Rattle.scene.specs.Scene.{PrimValue, FrameValue}
use Rattle.buckets.specs.declared.candidates.Candidates.{Candidates}
use Rattle.buckets.specs.declared.sights.Known.{Known}
use Rattle.buckets.specs.Narrowing.{AreExtents, AreNarrowed}
use Rattle.buckets.specs.Pictures.{decide, prim_box}

-- the sight is that of a part of a primitive, in a frame
pub record IsSight (f : FrameValue) (prim : PrimValue) (part : Part) (s : Sight) : Type 0 where
  pub extent : s.extent ≡ extent_of f.camera prim.bound (prim_box prim (rect_of part))
  pub decision : s.decision ≡ decide f.camera prim part
  pub fits : FitsPart s.decision part

-- what is kept at a place, if anything, is known of its piece and of the primitive that has its number
abbrev pub IsKnown : FrameValue → Option Known → Type 0
IsKnown f None = Unit {0}
IsKnown f (Some k) = (prim : PrimValue) → slice_get f.prims k.number ≡ Some prim → IsSight f prim k.piece k.sight

-- what is kept of pieces is true of them
pub record AreKnown (f : FrameValue) (known : List (Option Known)) : Type 0 where
  pub room : length known ≡ 16384
  pub each : All (IsKnown f) known

-- the sight, if one is told, is that of a part of the primitive of this number
abbrev pub IsSeen : FrameValue → ℕ → Part → Option Sight → Type 0
IsSeen f number part None = Unit {0}
IsSeen f number part (Some s) = (prim : PrimValue) → slice_get f.prims number ≡ Some prim → IsSight f prim part s

-- what is known of pieces and of whole primitives, and which of these can show in some rectangles of pixels
pub record IsSights (f : FrameValue) (pieces : List (Option Known)) (wholes : List Extent) (near : List Candidates) : Type 0 where
  pub known : AreKnown f pieces
  pub extents : AreExtents f wholes
  pub narrowed : AreNarrowed f near
