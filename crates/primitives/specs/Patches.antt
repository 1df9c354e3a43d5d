-- The patches of a primitive by its request, its bases, its map to camera space, and the room that its frame has left
-- (RenderMan Interface 3.2, sections 5.1 and 5.2).
use Rattle.std.specs.Prelude.{ℕ, ◌+◌, ◌*◌, nat_lt, not, List, [], ◌∷◌, ◌++◌, length, take, drop, Option, Some, None, Result, Ok, Err, if◌then◌else◌}
use Rattle.std.specs.List.{sum_by}
use Rattle.fixed_math.specs.declared.vec3.Vec3.{Vec3}
use Rattle.transforms.specs.Map.{Map}
use Rattle.quadrics.specs.declared.any_patch.AnyPatch.{AnyPatch}
use Rattle.quadrics.specs.declared.any_patch.AnyPatch.TheVariants.{Plain, Quadric}
use Rattle.scene.specs.declared.params.Param.{Param}
use Rattle.scene.specs.Scene.{VariableValue}
use Rattle.rib_reader.specs.declared.args.Arg.{Arg}
use Rattle.rib_reader.specs.declared.req.Req.{Req}
use Rattle.rib_reader.specs.declared.req.Req.TheVariants as reqs
use Rattle.rib_reader.specs.Lists.{points_in}
use Rattle.rib_reader.specs.Reading.{Read}
use Rattle.mesh_basis.specs.declared.shape.Shape.{Shape}
use Rattle.mesh_basis.specs.declared.counts.Counts.{Counts}
use Rattle.mesh_basis.specs.Ranges.{are_in_range}
use Rattle.mesh_basis.specs.Counts.{counts_of}
use Rattle.mesh_basis.specs.Meshes.{all_from, patches_in}
use Rattle.mesh_basis.specs.Polygons.{piece_count, pieces_of, flat_normal}
use Rattle.scene_parts.specs.Bases.{BasisValues, patch_shape, mesh_shape}
use Rattle.scene_parts.specs.Faces.{FaceValues, one_face, faces_in}
use Rattle.scene_parts.specs.declared.code.StateCode.{StateCode}
use Rattle.scene_parts.specs.declared.code.StateCode.TheVariants.{G5, M3, M7}
use Rattle.scene.specs.declared.seat.Seat.{Seat}
use Rattle.scene.specs.Seats.{variables_of}
use Rattle.primitives.specs.Variables.{variables_in, are_counted, mesh_extent, mesh_seat, quadric_extent, quadric_seat, faces_extent, face_seat}
use Rattle.primitives.specs.Points.{placed_points, face_points}
use Rattle.primitives.specs.declared.forms.Form.{Form}
use Rattle.primitives.specs.Quadrics.{form_of, halves, patch_at}
use Rattle.primitives.specs.Spread.{spread}

-- a patch of a primitive: its surface in camera space, where it moves that when the shutter opens, and then that when it closes; the
-- normal of the flat face that it is a piece of, its place in its mesh as column, columns, row and rows, and its values of the
-- primitive's variables
pub record PatchValue : Type 0 where
  pub patch : AnyPatch
  pub closing : Option AnyPatch
  pub flat : Option Vec3
  pub place : List ℕ
  pub vars : List VariableValue

-- the patch that stands there in its primitive, with its values of these variables
abbrev pub patch_with : List Param → Option Vec3 → Seat → AnyPatch → PatchValue
patch_with params flat seat patch = record { patch = patch; closing = None; flat = flat; place = seat.place; vars = variables_of seat params }

-- patches of one kind one after another, the first of these being patch k of those that stand so in their primitive
unfoldable pub seated : {A : Type 0} → (A → AnyPatch) → List Param → Option Vec3 → (ℕ → Seat) → ℕ → List A → List PatchValue
seated kind params flat seats k [] = []
seated kind params flat seats k (p ∷ ps) = patch_with params flat (seats k) (kind p) ∷ seated kind params flat seats (k + 1) ps

-- all patches of a primitive, or its first fault
abbrev pub Made : Type 0
Made = Result (List PatchValue) StateCode

-- ---- patches and meshes

-- where each control point is in range
abbrev pub all_seated : {A : Type 0} → (A → AnyPatch) → List Param → (ℕ → Seat) → Option (List A) → Made
all_seated kind params seats None = Err M7
all_seated kind params seats (Some ps) = Ok (seated kind params None seats 0 ps)

-- as many points as the shape has, as many values of each variable as its class has, room in the frame, and then each point in
-- range
abbrev pub mesh_counted : List Param → Shape → ℕ → List Vec3 → Option Counts → Made
mesh_counted params shape room ps None = Err G5
mesh_counted params shape room ps (Some c) =
    if not (are_counted (mesh_extent shape c) params) then Err G5
    else if nat_lt room (c.along_u * c.along_v) then Err M3
    else all_seated Plain params (mesh_seat shape c) (patches_in ps shape c)

-- the patches of a mesh of these points, or what is refused first
abbrev pub mesh_patches : List Param → Shape → ℕ → List Vec3 → Made
mesh_patches params shape room ps = mesh_counted params shape room ps (counts_of shape (length ps))

-- ---- quadrics

-- as many values of each variable as its class has, room in the frame, and then each point in range
abbrev pub quadric_patches : List Param → Form → Map → ℕ → Made
quadric_patches params form object room =
    if not (are_counted quadric_extent params) then Err G5
    else if nat_lt room (4 * halves form) then Err M3
    else all_seated Quadric (spread (halves form) params) (quadric_seat (halves form)) (all_from (patch_at object form) 0 (4 * halves form))

-- ---- polygons

-- a face is taken apart; each of its pieces has the normal of the face
abbrev pub face_patches : List Param → (ℕ → Seat) → List Vec3 → List PatchValue
face_patches params seats ps = seated Plain params (Some (flat_normal ps)) seats 0 (pieces_of ps)

-- the pieces of a face whose points stand at these places
abbrev pub pieces_at : List Param → List Vec3 → ℕ → ℕ → List ℕ → List PatchValue
pieces_at params ps face first places = face_patches params (face_seat face first places) (face_points ps places)

-- faces one after another, the first of these being that face of its primitive, and its first corner that one of all corners
unfoldable pub faces_from : List Param → List Vec3 → ℕ → ℕ → List ℕ → List ℕ → List PatchValue
faces_from params ps face first [] corners = []
faces_from params ps face first (n ∷ ns) corners =
    pieces_at params ps face first (take n corners) ++ faces_from params ps (face + 1) (first + n) ns (drop n corners)

-- as many values of each variable as its class has, room in the frame, and then each point in range, those that no face has too
abbrev pub faces_patches : List Param → ℕ → List Vec3 → Option FaceValues → Made
faces_patches params room ps None = Err G5
faces_patches params room ps (Some f) =
    if not (are_counted (faces_extent (length ps) f) params) then Err G5
    else if nat_lt room (sum_by piece_count f.sizes) then Err M3
    else if are_in_range ps then Ok (faces_from params ps 0 0 f.sizes f.corners)
    else Err M7

-- ---- primitives by their requests

-- the patches over these points; other requests than those of primitives have none
abbrev pub patches_over : Req → List Arg → BasisValues → List Param → ℕ → List Vec3 → Made
patches_over reqs.Patch args bases params room ps = mesh_patches params (patch_shape args bases) room ps
patches_over reqs.PatchMesh args bases params room ps = mesh_patches params (mesh_shape args bases) room ps
patches_over reqs.Polygon args bases params room ps = faces_patches params room ps (one_face (length ps))
patches_over reqs.PointsPolygons args bases params room ps = faces_patches params room ps (faces_in (length ps) args)
patches_over _ args bases params room ps = Ok []

abbrev pub over_points : Option (List Vec3) → (List Vec3 → Made) → Made
over_points None form = Err G5
over_points (Some ps) form = form ps

-- those of a quadric, where it is one, else these others
abbrev pub over_form : Option Form → (Form → Made) → Made → Made
over_form (Some form) quadric others = quadric form
over_form None quadric others = others

-- the patches of a primitive with points P
abbrev pub points_patches : Read → BasisValues → Map → ℕ → Made
points_patches r bases object room =
    over_points (placed_points object (points_in r.params)) (patches_over r.name r.args bases (variables_in r.params) room)

-- the patches of a primitive under this map, of which its frame may take so many more, or its first fault: of the points, then of the
-- variables, then of the room, then of the range
abbrev pub patches_of : Read → BasisValues → Map → ℕ → Made
patches_of r bases object room =
    over_form (form_of r.name r.args) (λ form. quadric_patches (variables_in r.params) form object room) (points_patches r bases object room)
