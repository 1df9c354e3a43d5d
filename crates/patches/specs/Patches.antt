-- Patches, by their kinds.
use Rattle.std.proofs.Common.{ℕ, ◌≤◌, ◌^◌, ℤ, List, [], ◌∷◌, refl, arith, lit<}
use Rattle.fixed_math.specs.declared.vec3.Vec3.{Vec3}
use Rattle.fixed_math.specs.Axes.{AreWithin}
use Rattle.fixed_math.specs.Blossom.{denominator}
use Rattle.patches.specs.declared.patch.Patch.{Patch}
use Rattle.patches.specs.declared.patch.Patch.TheVariants.{Bilinear, Bicubic}
use Rattle.patches.specs.Rects.{Rect}
use Rattle.patches.specs.Boxes.{Box, IsWithin, PointsLieInBoxes, PartsLieInBoxes, NetsHaveRows}
use Rattle.patches.specs.Nets.{bilinear_point, bilinear_net, bicubic_point, bicubic_net}
use Rattle.patches.specs.Slopes.{bilinear_du, bilinear_dv, bicubic_du, bicubic_dv}
use Rattle.patches.specs.BoxLaws.{blossom_point-within, bilinear_point-blossom, bilinear_box, bilinear_inside, bilinear_parts, bilinear_rows, bicubic_point-blossom, bicubic_box, bicubic_inside, bicubic_parts, bicubic_rows}

-- the point of a patch at u, v
abbrev pub patch_point : Patch → ℕ → ℕ → Vec3
patch_point (Bilinear ps) u v = bilinear_point ps u v
patch_point (Bicubic ps) u v = bicubic_point ps u v

-- its derivative along u
abbrev pub patch_du : Patch → ℕ → ℕ → List ℤ
patch_du (Bilinear ps) u v = bilinear_du ps u v
patch_du (Bicubic ps) u v = bicubic_du ps u v

-- its derivative along v
abbrev pub patch_dv : Patch → ℕ → ℕ → List ℤ
patch_dv (Bilinear ps) u v = bilinear_dv ps u v
patch_dv (Bicubic ps) u v = bicubic_dv ps u v

-- its control net over a rectangle
abbrev pub patch_net : Patch → Rect → List Vec3
patch_net (Bilinear ps) r = bilinear_net ps r
patch_net (Bicubic ps) r = bicubic_net ps r

-- the number of points in a row of the net
abbrev pub patch_width : Patch → ℕ
patch_width (Bilinear ps) = 2
patch_width (Bicubic ps) = 4

-- the least box of that net
abbrev pub patch_box : Patch → Rect → Box
patch_box (Bilinear ps) r = bilinear_box ps r
patch_box (Bicubic ps) r = bicubic_box ps r

pub patch_inside : PointsLieInBoxes patch_point patch_box
patch_inside (Bilinear ps) r u v h k = bilinear_inside ps r u v h k
patch_inside (Bicubic ps) r u v h k = bicubic_inside ps r u v h k

pub patch_parts : PartsLieInBoxes patch_box
patch_parts (Bilinear ps) q r hq hr k = bilinear_parts ps q r hq hr k
patch_parts (Bicubic ps) q r hq hr k = bicubic_parts ps q r hq hr k

pub patch_rows : NetsHaveRows patch_width patch_net
patch_rows (Bilinear ps) r = bilinear_rows ps r
patch_rows (Bicubic ps) r = bicubic_rows ps r

-- each coordinate of each control point has a magnitude of at most 2 ^ 30
abbrev pub IsSmallPatch : Patch → Type 0
IsSmallPatch (Bilinear ps) = AreWithin (2 ^ 30) ps
IsSmallPatch (Bicubic ps) = AreWithin (2 ^ 30) ps

-- and so has each coordinate of each point of the surface
pub patch_point-within : (p : Patch) (u v : ℕ) → IsSmallPatch p → u ≤ 4096 → v ≤ 4096 → IsWithin (2 ^ 30) (patch_point p u v)
patch_point-within (Bilinear ps) u v h hu hv =
    rw (bilinear_point-blossom ps u v)
    (blossom_point-within 1 2 (denominator ^ 2) (2 ^ 30) ps (u ∷ []) (v ∷ []) (lit< tt) refl refl refl (omega arith, hu, tt) (omega arith, hv, tt) h)
patch_point-within (Bicubic ps) u v h hu hv =
    rw (bicubic_point-blossom ps u v)
    (blossom_point-within 3 4 (denominator ^ 6) (2 ^ 30) ps (u ∷ u ∷ u ∷ []) (v ∷ v ∷ v ∷ []) (lit< tt) refl refl refl
    (omega arith, hu, (omega arith, hu, (omega arith, hu, tt))) (omega arith, hv, (omega arith, hv, (omega arith, hv, tt))) h)
