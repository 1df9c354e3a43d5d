-- Which parts of a surface can show in a rectangle of pixels, wherever displacement moves their points within its bound
-- (Cook, Carpenter and Catmull 1987, "bound", "cull").
use Rattle.std.specs.Prelude.{◌≡◌, refl, ℕ, ◌+◌, ◌*◌, ℤ, pos, neg_ℤ, ◌+ℤ◌, ◌-ℤ◌, int_lt, int_le, Bool, true, false, ◌&&◌, ◌||◌, if◌then◌else◌, None, List, [], ◌∷◌, filter, slice_index_or}
use Rattle.fixed_math.specs.declared.vec3.Vec3.{Vec3}
use Rattle.fixed_math.specs.Axes.{part_of, by_axes}
use Rattle.fixed_math.specs.Spots.{PixelRect}
use Rattle.patches.specs.Boxes.{Box}
use Rattle.patches.specs.Parts.{Part, rect_of}
use Rattle.patches.specs.Rects.{Rect}
use Rattle.transforms.specs.declared.view.View.{View}
use Rattle.transforms.specs.Raster.{raster_box, box_of_places, side}
use Rattle.bound_split.specs.declared.extents.Reach.{Reach}
use Rattle.bound_split.specs.declared.extents.Reach.TheVariants.{Nowhere, Everywhere, Within}
use Rattle.bound_split.specs.declared.extents.Extent.{Extent}
use Rattle.bound_split.specs.declared.splits.Decision.{Decision}
use Rattle.bound_split.specs.Leaves.{leaves}

-- p with each coordinate less by the bound, and with each greater by it
abbrev pub lowered : ℤ → Vec3 → Vec3
lowered bound p = by_axes (λ a. part_of a p -ℤ bound)

-- a point with each coordinate greater by the bound
abbrev pub raised : ℤ → Vec3 → Vec3
raised bound p = by_axes (λ a. part_of a p +ℤ bound)

-- a box widened by the bound: it holds all to which displacement may move the points of the box
abbrev pub widened : ℤ → Box → Box
widened bound b = record { low = lowered bound b.low; high = raised bound b.high }

-- within a box on the raster, given by its first and last corner
abbrev pub reach_within : List (List ℤ) → Reach
reach_within box = Within (side 0 0 box) (side 1 0 box) (side 0 1 box) (side 1 1 box)

-- where points of a box show: nowhere where all of them lie before near or beyond far; where some may lie before near, nothing is
-- said; else within the box on the raster of the box's corners
unfoldable pub reach_of : View → Box → Reach
reach_of v b =
    if int_lt b.high.z v.near || int_lt v.far b.low.z then Nowhere
    else (if int_lt b.low.z v.near then Everywhere else reach_within (raster_box v b.low b.high))

-- how near the points of a box come that displacement moves by at most the bound, and where they show
abbrev pub extent_of : View → ℤ → Box → Extent
extent_of v bound b = let w = widened bound b in record { nearest = w.low.z; reach = reach_of v w }

-- a place of 1/256 pixel from the first to the last, both among them, belongs to a pixel from one on to below another
abbrev pub overlaps : ℤ → ℤ → ℕ → ℕ → Bool
overlaps first last from to = int_lt first (pos (256 * to)) && int_le (pos (256 * from)) last

-- an extent meets a rectangle of pixels
abbrev pub reaches : Reach → PixelRect → Bool
reaches Nowhere r = false
reaches Everywhere r = true
reaches (Within left top right bottom) r = overlaps left right r.left r.right && overlaps top bottom r.top r.bottom

-- what lies in a box can show in a rectangle of pixels, wherever displacement moves its points within the bound
abbrev pub meets : View → ℤ → Box → PixelRect → Bool
meets v bound b r = reaches (extent_of v bound b).reach r

-- the same of a part of a surface that has these boxes
abbrev pub part_meets : View → ℤ → (Rect → Box) → PixelRect → Part → Bool
part_meets v bound box r p = meets v bound (box (rect_of p)) r

-- no leaf below a part can show in a rectangle of pixels
abbrev pub NoLeafMeets : View → ℤ → (Rect → Box) → PixelRect → (Part → Decision) → Part → Type 0
NoLeafMeets v bound box r decide p = filter (part_meets v bound box r) (leaves decide p) ≡ []

-- the rectangle of pixels given by its left, top, right and bottom
abbrev pub pixels_of : List ℕ → PixelRect
pixels_of r = record { left = slice_index_or r 0 0; top = slice_index_or r 1 0; right = slice_index_or r 2 0; bottom = slice_index_or r 3 0 }

-- ---- worked values: an orthographic view of 4 by 4 pixels from -2 to 2, from depth 1 to 9, in which x and y are in pixels from the middle
abbrev two : ℤ
two = pos 131072

abbrev worked_view : View
worked_view = record { fov = None; window = neg_ℤ two ∷ two ∷ neg_ℤ two ∷ two ∷ []; width = 4; height = 4; near = pos 65536; far = pos 589824 }

abbrev worked_box : ℤ → ℤ → Box
worked_box near far = record { low = record { x = pos 0; y = pos 0; z = near }; high = record { x = pos 32768; y = pos 32768; z = far } }

-- the box is half a pixel wide and high, right of and above the middle, and so lies in the third column and the second row
abbrev pixel : ℕ → ℕ → PixelRect
pixel x y = record { left = x; top = y; right = x + 1; bottom = y + 1 }

meets_its_pixel : meets worked_view (pos 0) (worked_box two two) (pixel 2 1) ≡ true
unfolding reach_of box_of_places
meets_its_pixel = refl

-- its places are those from 512 to 640 across: the first of them is the last of no pixel before it
misses_the_pixel_before : meets worked_view (pos 0) (worked_box two two) (pixel 1 1) ≡ false
unfolding reach_of box_of_places
misses_the_pixel_before = refl

misses_the_pixel_behind : meets worked_view (pos 0) (worked_box two two) (pixel 3 1) ≡ false
unfolding reach_of box_of_places
misses_the_pixel_behind = refl

-- displaced by at most a quarter of a pixel it comes into the pixel before it, and not into that behind it; by half a pixel into both
comes_before_it : meets worked_view (pos 16384) (worked_box two two) (pixel 1 1) ≡ true
unfolding reach_of box_of_places
comes_before_it = refl

stays_before_the_pixel_behind : meets worked_view (pos 16384) (worked_box two two) (pixel 3 1) ≡ false
unfolding reach_of box_of_places
stays_before_the_pixel_behind = refl

comes_behind_it : meets worked_view (pos 32768) (worked_box two two) (pixel 3 1) ≡ true
unfolding reach_of box_of_places
comes_behind_it = refl

-- where all lies before near, or beyond far, it meets nothing; at near and far themselves it does
all_before_near : meets worked_view (pos 0) (worked_box (pos 0) (pos 65535)) (pixel 2 1) ≡ false
unfolding reach_of box_of_places
all_before_near = refl

some_at_near : meets worked_view (pos 0) (worked_box (pos 65536) (pos 65536)) (pixel 2 1) ≡ true
unfolding reach_of box_of_places
some_at_near = refl

all_beyond_far : meets worked_view (pos 0) (worked_box (pos 589825) (pos 589826)) (pixel 2 1) ≡ false
unfolding reach_of box_of_places
all_beyond_far = refl

some_at_far : meets worked_view (pos 0) (worked_box (pos 589824) (pos 589826)) (pixel 2 1) ≡ true
unfolding reach_of box_of_places
some_at_far = refl

-- where some may lie before near it may show anywhere
some_before_near : meets worked_view (pos 0) (worked_box (pos 65535) two) (pixel 0 3) ≡ true
unfolding reach_of box_of_places
some_before_near = refl

nearest_of_displaced : (extent_of worked_view (pos 16384) (worked_box two two)).nearest ≡ pos 114688
nearest_of_displaced = refl
