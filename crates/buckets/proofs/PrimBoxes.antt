-- The boxes of a primitive's patch, which may move: they hold those of its parts, and at each time what is near its points.
use Rattle.std.proofs.Common.{◌≡◌, ℕ, ◌≤◌, ◌<◌, arith, subst, sym, Option, Some, None, List, get_or}
use Rattle.std.specs.Prelude.{ℤ, IfSome, option_map}
use Rattle.std.proofs.lemmas.List.FromFn.{get_or-map-range_with_len}
use Rattle.fixed_math.specs.declared.vec3.Vec3.{Vec3}
use Rattle.fixed_math.specs.declared.vec3.Axis.TheVariants.{X, Y, Z}
use Rattle.fixed_math.specs.Axes.{origin}
use Rattle.patches.specs.Rects.{Rect, IsRect, IsAt, IsInside}
use Rattle.patches.specs.Parts.{rect_of}
use Rattle.patches.specs.Boxes.{Box, Holds, IsWithin, PartsLieInBoxes}
use Rattle.quadrics.specs.declared.any_patch.AnyPatch.{AnyPatch}
use Rattle.quadrics.specs.AnyPatches.{patch_point, patch_box, patch_inside, patch_parts, IsSmallPatch, patch_point-within}
use Rattle.moving.specs.Ways.{place_on_way}
use Rattle.moving.specs.Closing.{IsNear, IsNearBox}
use Rattle.moving.specs.MovingBoxes.{moving_box}
use Rattle.moving.specs.MovingLaws.{moving_parts, near_box, stays_near}
use Rattle.moving_cells.specs.MovingGrids.{point_when}
use Rattle.bound_split.specs.Extents.{widened}
use Rattle.grid_variables.specs.Points.{Leaf, own_u, own_v, point_at}
use Rattle.grid_variables.specs.Places.{point_count, over}
use Rattle.grid_variables.specs.Closings.{closing_at}
use Rattle.buckets.specs.Pictures.{box_by, prim_box}

-- ---- boxes of parts
box_parts : (o : Option AnyPatch) (p : AnyPatch) (q r : Rect) → IsRect q → IsRect r → IsInside q r → Holds (box_by o p r) (box_by o p q).low × Holds (box_by o p r) (box_by o p q).high
box_parts None p q r hq hr i = patch_parts p q r hq hr i
box_parts (Some last) p q r hq hr i = moving_parts patch_box patch_parts p last q r hq hr i

pub prim_parts : PartsLieInBoxes prim_box
prim_parts prim q r hq hr i = box_parts prim.closing prim.patch q r hq hr i

-- ---- points near the patch, at each time
-- what is near a box lies in it when it is widened
near_widened : (bound : ℤ) (b : Box) (p : Vec3) → IsNearBox bound b p → Holds (widened bound b) p
near_widened bound b p h X = h X
near_widened bound b p h Y = h Y
near_widened bound b p h Z = h Z

-- a point of a small patch is a number in each coordinate
in_range : (p : AnyPatch) (r : Rect) (u v : ℕ) → IsSmallPatch p → IsRect r → IsAt r u v → IsWithin 2147483647 (patch_point p u v)
in_range p r u v small hr at' a =
    let right = at'.to_right in
    let most = hr.right_in in
    let top = at'.to_top in
    let highest = hr.top_in in
    let within = patch_point-within p u v small (omega (arith, right, most)) (omega (arith, top, highest)) a in
    omega (arith, within)

-- point i of a leaf's grid, which is near where the patch has it, lies at each time in the box of the leaf's part when that is widened
pub place_inside : (o : Option AnyPatch) (l : Leaf) (points : List Vec3) (i t : ℕ) → IfSome o IsSmallPatch → IsRect (rect_of l.part) → IsAt (rect_of l.part) (own_u l i) (own_v l i) → t ≤ 65536 → i < point_count l
    → IsNear l.prim.bound (point_at l i) (get_or points i origin)
    → Holds (widened l.prim.bound (box_by o l.prim.patch (rect_of l.part))) (point_when (option_map (λ last. over (point_count l) (closing_at l points last)) o) points i t)
place_inside None l points i t small hr at' time low near =
    let b = patch_box l.prim.patch (rect_of l.part) in
    near_widened l.prim.bound b (get_or points i origin) (near_box l.prim.bound b (point_at l i) (get_or points i origin) (patch_inside l.prim.patch (rect_of l.part) (own_u l i) (own_v l i) hr at') near)
place_inside (Some last) l points i t small hr at' time low near =
    let b = moving_box patch_box l.prim.patch last (rect_of l.part) in
    let after = get_or points i origin in
    let q = closing_at l points last i in
    let there : get_or (over (point_count l) (closing_at l points last)) i origin ≡ q = get_or-map-range_with_len (closing_at l points last) 0 (point_count l) i i origin low (omega arith) in
    subst (λ (k : Vec3). Holds (widened l.prim.bound b) (place_on_way t after k)) (sym there)
    (near_widened l.prim.bound b (place_on_way t after q)
    (stays_near patch_point patch_box patch_inside l.prim.patch last (rect_of l.part) (own_u l i) (own_v l i) t l.prim.bound after hr at' time (in_range last (rect_of l.part) (own_u l i) (own_v l i) small hr at') near))
