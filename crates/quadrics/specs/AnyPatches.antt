-- Patches of a scene: by their control points, or of quadrics.
use Rattle.std.specs.Prelude.{ℕ, ◌≤◌, ◌^◌, ℤ, List}
use Rattle.fixed_math.specs.declared.vec3.Vec3.{Vec3}
use Rattle.patches.specs.Rects.{Rect}
use Rattle.patches.specs.Boxes.{Box, IsWithin, PointsLieInBoxes, PartsLieInBoxes, NetsHaveRows}
use Rattle.patches.specs.Patches.{patch_point as plain_point, patch_du as plain_du, patch_dv as plain_dv, patch_net as plain_net, patch_width as plain_width, patch_box as plain_box, patch_inside as plain_inside, patch_parts as plain_parts, patch_rows as plain_rows, IsSmallPatch as IsSmallPlain, patch_point-within as plain_point-within}
use Rattle.quadrics.specs.declared.any_patch.AnyPatch.{AnyPatch}
use Rattle.quadrics.specs.declared.any_patch.AnyPatch.TheVariants.{Plain, Quadric}
use Rattle.quadrics.specs.Quadrics.{quadric_point, quadric_du, quadric_dv, quadric_net, quadric_box, quadric_inside, quadric_parts, quadric_rows, IsSmallQuadric, quadric_point-within}

-- the point of any patch of a scene, a plain one or one of a quadric
abbrev pub patch_point : AnyPatch → ℕ → ℕ → Vec3
patch_point (Plain p) u v = plain_point p u v
patch_point (Quadric q) u v = quadric_point q u v

-- its derivative along u
abbrev pub patch_du : AnyPatch → ℕ → ℕ → List ℤ
patch_du (Plain p) u v = plain_du p u v
patch_du (Quadric q) u v = quadric_du q u v

-- its derivative along v
abbrev pub patch_dv : AnyPatch → ℕ → ℕ → List ℤ
patch_dv (Plain p) u v = plain_dv p u v
patch_dv (Quadric q) u v = quadric_dv q u v

-- its control net over a rectangle
abbrev pub patch_net : AnyPatch → Rect → List Vec3
patch_net (Plain p) r = plain_net p r
patch_net (Quadric q) r = quadric_net q r

-- the number of points in a row of the net
abbrev pub patch_width : AnyPatch → ℕ
patch_width (Plain p) = plain_width p
patch_width (Quadric q) = 3

-- the least box of that net
abbrev pub patch_box : AnyPatch → Rect → Box
patch_box (Plain p) r = plain_box p r
patch_box (Quadric q) r = quadric_box q r

pub patch_inside : PointsLieInBoxes patch_point patch_box
patch_inside (Plain p) r u v h k = plain_inside p r u v h k
patch_inside (Quadric q) r u v h k = quadric_inside q r u v h k

pub patch_parts : PartsLieInBoxes patch_box
patch_parts (Plain p) q r hq hr k = plain_parts p q r hq hr k
patch_parts (Quadric p) q r hq hr k = quadric_parts p q r hq hr k

pub patch_rows : NetsHaveRows patch_width patch_net
patch_rows (Plain p) r = plain_rows p r
patch_rows (Quadric q) r = quadric_rows q r

-- each coordinate of each control point has a magnitude of at most 2 ^ 30
abbrev pub IsSmallPatch : AnyPatch → Type 0
IsSmallPatch (Plain p) = IsSmallPlain p
IsSmallPatch (Quadric q) = IsSmallQuadric q

-- and so has each coordinate of each point of the surface
pub patch_point-within : (p : AnyPatch) (u v : ℕ) → IsSmallPatch p → u ≤ 4096 → v ≤ 4096 → IsWithin (2 ^ 30) (patch_point p u v)
patch_point-within (Plain p) u v h hu hv = plain_point-within p u v h hu hv
patch_point-within (Quadric q) u v h hu hv = quadric_point-within q u v h hu hv
