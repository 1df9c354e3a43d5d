-- The patches of primitives that move: their control points at a first and at a last time, and on the way between them where the
-- shutter opens and closes (RenderMan Interface 3.2, section 6, on motion).
use Rattle.std.specs.Prelude.{◌≡◌, refl, ℕ, ◌==◌, ℤ, pos, List, [], ◌∷◌, length, map, zip, Option, Some, None, option_map, Ok, Err, if◌then◌else◌}
use Rattle.fixed_math.specs.declared.vec3.Vec3.{Vec3}
use Rattle.transforms.specs.Map.{Map}
use Rattle.patches.specs.declared.patch.Patch.{Patch}
use Rattle.patches.specs.declared.patch.Patch.TheVariants as plain
use Rattle.quadrics.specs.declared.quadric.Quadric.{Quadric}
use Rattle.quadrics.specs.declared.quadric.Quadric.TheVariants as round
use Rattle.quadrics.specs.declared.any_patch.AnyPatch.{AnyPatch}
use Rattle.quadrics.specs.declared.any_patch.AnyPatch.TheVariants as kinds
use Rattle.moving.specs.Ways.{place_on_way}
use Rattle.rib_reader.specs.declared.req.Req.{Req}
use Rattle.rib_reader.specs.declared.req.Req.TheVariants as reqs
use Rattle.rib_reader.specs.Lists.{points_in}
use Rattle.rib_reader.specs.Reading.{Read}
use Rattle.mesh_basis.specs.Polygons.{flat_normal}
use Rattle.scene_parts.specs.Bases.{BasisValues}
use Rattle.scene_parts.specs.declared.code.StateCode.TheVariants.{G5}
use Rattle.primitives.specs.Variables.{variables_in, face_seat, whole_place}
use Rattle.primitives.specs.Points.{placed_points}
use Rattle.primitives.specs.Quadrics.{form_of}
use Rattle.primitives.specs.Patches.{PatchValue, Made, seated, quadric_patches, face_patches, patches_over, over_points, over_form}
use Rattle.primitives.specs.Shifts.{ShiftValue}

-- ---- control points

-- points that have made n of 65536 steps to as many others
abbrev pub points_on_way : ℕ → List Vec3 → List Vec3 → List Vec3
points_on_way n ps qs = map (λ ends. place_on_way n ends.0 ends.1) (zip ps qs)

-- the patch whose control points have made so many steps from those of one patch to those of another of its kind
abbrev pub plain_on_way : ℕ → Patch → Patch → Option Patch
plain_on_way n (plain.Bilinear p) (plain.Bilinear q) = Some (plain.Bilinear (points_on_way n p q))
plain_on_way n (plain.Bicubic p) (plain.Bicubic q) = Some (plain.Bicubic (points_on_way n p q))
plain_on_way n _ _ = None

-- a patch of a quadric that has made n steps from one to another of its kind
abbrev pub quadric_on_way : ℕ → Quadric → Quadric → Option Quadric
quadric_on_way n (round.Round p) (round.Round q) = Some (round.Round (points_on_way n p q))
quadric_on_way n (round.Ruled p) (round.Ruled q) = Some (round.Ruled (points_on_way n p q))
quadric_on_way n _ _ = None

-- a patch of any kind that has made n steps
abbrev pub patch_on_way : ℕ → AnyPatch → AnyPatch → Option AnyPatch
patch_on_way n (kinds.Plain p) (kinds.Plain q) = option_map (λ k. kinds.Plain k) (plain_on_way n p q)
patch_on_way n (kinds.Quadric p) (kinds.Quadric q) = option_map (λ k. kinds.Quadric k) (quadric_on_way n p q)
patch_on_way n _ _ = None

-- ---- patches

-- the patch at the closing of the shutter, where that is later than its opening
abbrev pub closing_on_way : Option ℕ → AnyPatch → AnyPatch → Option AnyPatch
closing_on_way None p q = None
closing_on_way (Some n) p q = patch_on_way n p q

-- with these surfaces; patches of one kind have an opening one
abbrev pub with_surfaces : Option AnyPatch → Option AnyPatch → PatchValue → PatchValue
with_surfaces None closing p = p
with_surfaces (Some opening) closing p = record p { patch = opening; closing = closing }

-- a patch that moves to another one: all but its surfaces is the first one's
abbrev pub moved_patch : ShiftValue → PatchValue → PatchValue → PatchValue
moved_patch s p q = with_surfaces (patch_on_way s.opening p.patch q.patch) (closing_on_way s.closing p.patch q.patch) p

-- patches that move to as many others
abbrev pub moved : ShiftValue → List PatchValue → List PatchValue → List PatchValue
moved s ps qs = map (λ ends. moved_patch s ends.0 ends.1) (zip ps qs)

-- patches whose surfaces are those of as many others when the shutter closes
abbrev pub closed_by : List PatchValue → List PatchValue → List PatchValue
closed_by ps qs = map (λ (ends : PatchValue × PatchValue). record ends.0 { closing = Some ends.1.patch }) (zip ps qs)

-- ---- primitives

-- what two lists of patches give together, or the first fault
abbrev pub of_both : Made → Made → (List PatchValue → List PatchValue → Made) → Made
of_both (Err e) last go = Err e
of_both (Ok ps) (Err e) go = Err e
of_both (Ok ps) (Ok qs) go = go ps qs

-- what the patches of both times give together, or the first fault
abbrev pub both_moved : ShiftValue → Made → Made → Made
both_moved s first last = of_both first last (λ ps qs. Ok (moved s ps qs))

-- where the shutter closes later than it opens
abbrev pub faces_closed : Option Made → Made → Made
faces_closed None opening = opening
faces_closed (Some closing) opening = of_both opening closing (λ ps qs. Ok (closed_by ps qs))

-- faces over points that are in range at both times: those of the points at the opening of the shutter, with their flat normals, and at its
-- closing the surfaces of those of the points then
abbrev pub moving_faces : ShiftValue → (List Vec3 → Made) → List Vec3 → List Vec3 → Made
moving_faces s over first last =
    of_both (over first) (over last) λ _ _. faces_closed (option_map (λ n. over (points_on_way n first last)) s.closing) (over (points_on_way s.opening first last))

-- what has faces moves with its points; a patch or a mesh with its control points, which its basis gives
abbrev pub moving_over : Req → ShiftValue → (List Vec3 → Made) → List Vec3 → List Vec3 → Made
moving_over reqs.Polygon s over first last = moving_faces s over first last
moving_over reqs.PointsPolygons s over first last = moving_faces s over first last
moving_over _ s over first last = both_moved s (over first) (over last)

-- a primitive has as many points at both times
abbrev pub over_both : List Vec3 → List Vec3 → Made → Made
over_both first last made = if length first == length last then made else Err G5

-- a primitive's patches over its points at both times
abbrev pub moving_points : Read → BasisValues → Map → ℕ → Read → Map → ShiftValue → Made
moving_points r bases object room last end s =
    over_points (placed_points object (points_in r.params)) λ first.
    over_points (placed_points end (points_in last.params)) λ ends.
    over_both first ends (moving_over r.name s (patches_over r.name r.args bases (variables_in r.params) room) first ends)

-- the patches of a primitive that moves: of its request under the map of its first time, and with the points of another one, which is
-- the same outside of motion blocks, under the map of its last time
abbrev pub moving_patches_of : Read → BasisValues → Map → ℕ → Read → Map → ShiftValue → Made
moving_patches_of r bases object room last end s =
    over_form (form_of r.name r.args)
    (λ form. both_moved s (quadric_patches (variables_in r.params) form object room) (quadric_patches (variables_in r.params) form end room))
    (moving_points r bases object room last end s)

-- ---- worked values: a square that moves by 3 along x, and is seen from a third of its way on, for a moment and to its end
abbrev point : ℤ → ℤ → ℤ → Vec3
point x y z = record { x = x; y = y; z = z }

abbrev square : ℤ → AnyPatch
square x = kinds.Plain (plain.Bilinear (point x (pos 0) (pos 9) ∷ point (pos 60000) (pos 0) (pos 9) ∷ point x (pos 5) (pos 9) ∷ point (pos 60000) (pos 5) (pos 9) ∷ []))

abbrev of_square : ℤ → Option AnyPatch → PatchValue
of_square x closing = record { patch = square x; closing = closing; flat = None; place = whole_place; vars = [] }

at_once : moved (record { opening = 21846; closing = None }) (of_square (pos 0) None ∷ []) (of_square (pos 3) None ∷ []) ≡ of_square (pos 1) None ∷ []
at_once = refl

to_its_end : moved (record { opening = 21846; closing = Some 65536 }) (of_square (pos 0) None ∷ []) (of_square (pos 3) None ∷ [])
    ≡ of_square (pos 1) (Some (square (pos 3))) ∷ []
to_its_end = refl

-- a triangle that turns, and is half on its way when the shutter opens: its flat normal is that of its points then
abbrev triangle : ℤ → ℤ → List Vec3
triangle y z = point (pos 0) (pos 0) (pos 0) ∷ point (pos 65536) (pos 0) (pos 0) ∷ point (pos 0) y z ∷ []

abbrev of_triangle : List Vec3 → List PatchValue
of_triangle ps = face_patches [] (face_seat 0 0 (0 ∷ 1 ∷ 2 ∷ [])) ps

abbrev flats : Made → List (Option Vec3)
flats (Ok ps) = map (λ (p : PatchValue). p.flat) ps
flats (Err e) = []

half_turned : flats (moving_faces (record { opening = 32768; closing = Some 65536 }) (λ ps. Ok (of_triangle ps)) (triangle (pos 65536) (pos 0)) (triangle (pos 0) (pos 65536)))
    ≡ Some (flat_normal (triangle (pos 32768) (pos 32768))) ∷ []
unfolding seated
half_turned = refl
