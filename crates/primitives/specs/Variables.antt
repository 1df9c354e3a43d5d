-- The variables of primitives: how many values each has by its storage class, and where patches stand among them (RenderMan
-- Interface 3.2, section 5).
use Rattle.std.specs.Prelude.{◌≡◌, refl, ℕ, ◌+◌, ◌*◌, ◌/◌, ◌%◌, ◌^◌, ◌==◌, ◌<◌, pos, Bool, true, false, not, List, [], ◌∷◌, length, map, filter, All, slice_index_or, codes}
use Rattle.std.specs.List.{list_all}
use Rattle.scene.specs.declared.params.Class.{Class}
use Rattle.scene.specs.declared.params.Class.TheVariants.{Constant, Uniform, Varying, Vertex, FaceVarying}
use Rattle.scene.specs.declared.params.Kind.TheVariants as kinds
use Rattle.scene.specs.declared.params.Values.TheVariants.{Numbers}
use Rattle.scene.specs.declared.params.Param.{Param}
use Rattle.rib_reader.specs.Holding.{holding}
use Rattle.rib_reader.specs.Lists.{is_points}
use Rattle.scene.specs.Kinds.{width, count}
use Rattle.mesh_basis.specs.declared.basis.Basis.TheVariants.{Bezier}
use Rattle.mesh_basis.specs.declared.shape.Shape.{Shape}
use Rattle.mesh_basis.specs.declared.counts.Counts.{Counts}
use Rattle.mesh_basis.specs.Polygons.{piece_corners}
use Rattle.scene_parts.specs.Faces.{FaceValues}
use Rattle.primitives.specs.declared.seat.Extent.{Extent}
use Rattle.scene.specs.declared.seat.Seat.{Seat}
use Rattle.scene.specs.Seats.{variable_of}

-- the variables that a primitive has: those of its list that hold, without its points P
abbrev pub variables_in : List Param → List Param
variables_in ps = filter (λ p. not (is_points p.name)) (holding ps)

-- how many values a variable of that class has
abbrev pub values_in : Class → Extent → ℕ
values_in Constant e = 1
values_in Uniform e = e.faces
values_in Varying e = e.points
values_in Vertex e = e.points
values_in FaceVarying e = e.corners

-- it has as many numbers or strings as these values take
abbrev pub is_counted : Extent → Param → Bool
is_counted e p = count p.values == width p.kind * values_in p.class e

-- each variable has as many values as its class asks for
abbrev pub are_counted : Extent → List Param → Bool
are_counted e ps = list_all (is_counted e) ps

-- ---- where a patch stands

abbrev pub IsBelow : ℕ → ℕ → Type 0
IsBelow most n = n < most

-- the patch stands in a primitive of that extent
pub record IsSeat (e : Extent) (seat : Seat) : Type 0 where
  pub face : seat.face < e.faces
  pub points : All (IsBelow e.points) seat.points
  pub corners : All (IsBelow e.corners) seat.corners

-- ---- meshes

-- the corners along a side on which so many patches stand: a periodic one ends where it begins
abbrev pub corners_along : Bool → ℕ → ℕ
corners_along true m = m
corners_along false m = m + 1

-- the corners along each side are less than 2^32
pub record HasSides (s : Shape) (c : Counts) : Type 0 where
  pub u : corners_along s.periodic_u c.along_u < 2 ^ 32
  pub v : corners_along s.periodic_v c.along_v < 2 ^ 32

-- a mesh has a value a patch, and one at each corner of its patches
abbrev pub mesh_extent : Shape → Counts → Extent
mesh_extent s c =
    let corners = corners_along s.periodic_u c.along_u * corners_along s.periodic_v c.along_v in
    record { faces = c.along_u * c.along_v; points = corners; corners = corners }

-- the place of the corner in column x and row y; behind its end a periodic mesh goes on at its start
abbrev pub corner_in : ℕ → ℕ → ℕ → ℕ → ℕ
corner_in side_u side_v x y = side_u * (y % side_v) + x % side_u

-- those of the patch in column c and row d
abbrev pub patch_corners : ℕ → ℕ → ℕ → ℕ → List ℕ
patch_corners side_u side_v c d = corner_in side_u side_v c d ∷ corner_in side_u side_v (c + 1) d ∷ corner_in side_u side_v c (d + 1) ∷ corner_in side_u side_v (c + 1) (d + 1) ∷ []

-- the column and the row of patch k of a mesh, each before how many there are
abbrev pub mesh_place : Counts → ℕ → List ℕ
mesh_place c k = (k % c.along_u) ∷ c.along_u ∷ (k / c.along_u) ∷ c.along_v ∷ []

abbrev pub mesh_corners : Shape → Counts → ℕ → List ℕ
mesh_corners s c k = patch_corners (corners_along s.periodic_u c.along_u) (corners_along s.periodic_v c.along_v) (k % c.along_u) (k / c.along_u)

-- patch k of a mesh
abbrev pub mesh_seat : Shape → Counts → ℕ → Seat
mesh_seat s c k = record { place = mesh_place c k; face = k; points = mesh_corners s c k; corners = mesh_corners s c k }

-- ---- quadrics

-- a quadric has one value of a uniform variable, and four of one that varies
abbrev pub quadric_extent : Extent
quadric_extent = record { faces = 1; points = 4; corners = 4 }

-- patch k of a quadric of so many halves: by halves, the quarter fastest; the corners are five in a row
abbrev pub quadric_corners : ℕ → ℕ → List ℕ
quadric_corners halves k = patch_corners 5 (halves + 1) (k % 4) (k / 4)

-- where patch k of a quadric stands among its corners
abbrev pub quadric_seat : ℕ → ℕ → Seat
quadric_seat halves k = record { place = (k % 4) ∷ 4 ∷ (k / 4) ∷ halves ∷ []; face = 0; points = quadric_corners halves k; corners = quadric_corners halves k }

-- ---- faces

-- the place of a patch that is no mesh's
abbrev pub whole_place : List ℕ
whole_place = 0 ∷ 1 ∷ 0 ∷ 1 ∷ []

-- faces over n points
abbrev pub faces_extent : ℕ → FaceValues → Extent
faces_extent n f = record { faces = length f.sizes; points = n; corners = length f.corners }

-- piece i of a face with these points, whose first corner is that one of all corners
abbrev pub face_seat : ℕ → ℕ → List ℕ → ℕ → Seat
face_seat face first points i = record {
  place = whole_place;
  face = face;
  points = map (λ k. slice_index_or points k 0) (piece_corners (length points) i);
  corners = map (λ k. first + k) (piece_corners (length points) i);
}

-- ---- worked values: a ring of three by one bilinear patches, and two faces over five points
abbrev ring : Shape
ring = record { bicubic = false; nu = 3; nv = 2; periodic_u = true; periodic_v = false; basis_u = Bezier; basis_v = Bezier; step_u = 3; step_v = 3 }

abbrev three : Counts
three = record { along_u = 3; along_v = 1 }

ring_extent : mesh_extent ring three ≡ record { faces = 3; points = 6; corners = 6 }
ring_extent = refl

abbrev number : Class → List ℕ → Param
number class ns = record { name = codes "x"; class = class; kind = kinds.Float; values = Numbers (map (λ n. pos n) ns) }

ring_constant : is_counted (mesh_extent ring three) (number Constant (7 ∷ [])) ≡ true
ring_constant = refl

ring_uniform : is_counted (mesh_extent ring three) (number Uniform (0 ∷ 1 ∷ 2 ∷ [])) ≡ true
ring_uniform = refl

ring_varying : is_counted (mesh_extent ring three) (number Varying (0 ∷ 1 ∷ 2 ∷ 3 ∷ 4 ∷ 5 ∷ [])) ≡ true
ring_varying = refl

ring_vertex : is_counted (mesh_extent ring three) (number Vertex (0 ∷ 1 ∷ 2 ∷ [])) ≡ false
ring_vertex = refl

ring_facevarying : is_counted (mesh_extent ring three) (number FaceVarying (0 ∷ 1 ∷ 2 ∷ 3 ∷ 4 ∷ 5 ∷ [])) ≡ true
ring_facevarying = refl

-- the last patch goes back to the first column
last_of_ring : (mesh_seat ring three 2).points ≡ 2 ∷ 0 ∷ 5 ∷ 3 ∷ []
last_of_ring = refl

value_of_last : (variable_of (mesh_seat ring three 2) (number Uniform (7 ∷ 8 ∷ 9 ∷ []))).values ≡ Numbers (pos 9 ∷ [])
value_of_last = refl

-- a square and a triangle: the triangle is face 1, and its first corner is corner 4
second_face : face_seat 1 4 (1 ∷ 4 ∷ 2 ∷ []) 0 ≡ record { place = whole_place; face = 1; points = 1 ∷ 4 ∷ 2 ∷ 2 ∷ []; corners = 4 ∷ 5 ∷ 6 ∷ 6 ∷ [] }
second_face = refl

values_of_second : (variable_of (face_seat 1 4 (1 ∷ 4 ∷ 2 ∷ []) 0) (number FaceVarying (0 ∷ 1 ∷ 2 ∷ 3 ∷ 40 ∷ 50 ∷ 60 ∷ []))).values ≡ Numbers (pos 40 ∷ pos 50 ∷ pos 60 ∷ pos 60 ∷ [])
values_of_second = refl
