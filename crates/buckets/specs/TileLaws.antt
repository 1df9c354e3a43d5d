-- Laws of the walk through a frame's tiles.
use Rattle.std.specs.Prelude.{◌≡◌, ◌+◌, ◌*◌, ◌<◌, ◌≤◌, ℕ, ℤ, pos, ◌≤ℤ◌, Bool, true, false, List, [], filter}
use Rattle.fixed_math.specs.Spots.{PixelRect, pixel_count}
use Rattle.patches.specs.Lists.{Each}
use Rattle.patches.specs.Parts.{Part, IsPart}
use Rattle.transforms.specs.Field.{IsView}
use Rattle.bound_split.specs.Leaves.{leaves}
use Rattle.scene.specs.Scene.{PrimValue, FrameValue}
use Rattle.shader_binding.specs.Sets.{AcceptedValue}
use Rattle.hider.specs.declared.fragment.Fragment.{Fragment}
use Rattle.hider.specs.declared.sample.Sample.{Sample}
use Rattle.hider.specs.declared.sample_grid.SampleGrid.{SampleGrid}
use Rattle.hider.specs.Composite.{composite}
use Rattle.hider.specs.Fragments.{covering}
use Rattle.hider.specs.Kept.{blocks}
use Rattle.hider.specs.Samples.{sample_in}
use Rattle.hider.specs.Tiles.{BlocksAll, sample_count, sample_of}
use Rattle.filter_ppm.specs.Weight.{reach}
use Rattle.buckets.specs.Culled.{leaf_meets, leaf_nearest, part_shows, HoldsBehind, IsShadedPrim}
use Rattle.buckets.specs.Pictures.{decide, frame_leaves, leaf_micropolygons}
use Rattle.buckets.specs.TileWalk.{Drawing, Counts, walked, past_leaves, tile_count, tile_grid, fragments_of, tile_walk}
use Rattle.buckets.specs.Standing.{IsDrawable}
use Rattle.buckets.specs.Meeting.{meetings, meeting_some, points_of, InOneEpoch}

-- no leaf is shaded for a tile that it doesn't meet, and for each that it meets at most once
abbrev pub ShadesWhereMet : Type 0
ShadesWhereMet = (d : Drawing) → (tile_walk d).shadings ≤ meetings d (tile_count d) 0

-- where there is room for the grids of all leaves that meet some tile, one epoch keeps them all, and each is shaded at most once
abbrev pub ShadesOnce : Type 0
ShadesOnce = (d : Drawing) → points_of d (meeting_some d) ≤ d.limit → InOneEpoch (tile_walk d)

-- the leaves that the walk shows in a tile give each of its samples the colour that all leaves of the frame give it
abbrev pub LosesNothing : Type 0
LosesNothing = (d : Drawing) (n i : ℕ) (c : Counts) → IsDrawable d → i < sample_count (tile_grid d n)
    → composite (fragments_of d (past_leaves d n (walked [] c) (frame_leaves d.frame)).shown (sample_of (tile_grid d n) i)) ≡ composite (fragments_of d (frame_leaves d.frame) (sample_of (tile_grid d n) i))

-- a piece that doesn't meet a rectangle of pixels, or lies behind, has no leaf below it that does neither
abbrev pub PassesOverWhole : Type 0
PassesOverWhole = (f : FrameValue) (prim : PrimValue) (r : PixelRect) (behind : ℤ → Bool) (p : Part) → IsView f.camera → pos 0 ≤ℤ prim.bound → HoldsBehind behind → IsPart p → part_shows f prim r behind p ≡ false
    → filter (part_shows f prim r behind) (leaves (decide f.camera prim) p) ≡ []

-- a piece of a primitive that doesn't meet a rectangle of pixels covers none of its samples, each at its time: displacement and motion included
abbrev pub CoversNothingUnmet : Type 0
CoversNothingUnmet = (a : AcceptedValue) (f : FrameValue) (prim : PrimValue) (part : Part) (r : PixelRect) (xs ys n : ℕ) → IsShadedPrim a f prim → IsPart part → leaf_meets f prim r part ≡ false → n < pixel_count r * (xs * ys)
    → covering f.camera (leaf_micropolygons a f prim part) (sample_in xs ys r n) ≡ []

-- where an opaque fragment lies nearer at each sample than the least depth of a piece less the bound, all that shows of the piece lies behind an opaque
-- fragment there, and at no depth of one
abbrev pub LiesBehindOpaque : Type 0
LiesBehindOpaque = (a : AcceptedValue) (f : FrameValue) (prim : PrimValue) (part : Part) (g : SampleGrid) (shown : Sample → List Fragment) (n : ℕ) → IsShadedPrim a f prim → IsPart part → BlocksAll (leaf_nearest f prim part) g shown
    → n < sample_count g → Each (λ k. blocks k.depth (shown (sample_of g n)) ≡ true) (covering f.camera (leaf_micropolygons a f prim part) (sample_of g n))

-- the samples of a bucket, and of as many pixels about it as the filter reaches to each side
abbrev pub samples_about : Drawing → ℕ
samples_about d = (d.side + 2 * reach d.frame.options.wx) * (d.side + 2 * reach d.frame.options.wy) * (d.frame.options.xs * d.frame.options.ys)

-- no tile has more samples
abbrev pub TilesAreSmall : Type 0
TilesAreSmall = (d : Drawing) (n : ℕ) → sample_count (tile_grid d n) ≤ samples_about d
