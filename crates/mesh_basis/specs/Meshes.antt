-- Meshes as lists of patches (RenderMan Interface 3.2, section 5.2, PatchMesh): by rows, u fastest, each in Bezier form.
use Rattle.std.specs.Prelude.{ℕ, zero, suc, ◌+◌, ◌*◌, ◌/◌, ◌%◌, pos, true, false, List, [], ◌∷◌, ◌++◌, length, Option, Some, None, option_map, Result, Ok, Err, if◌then◌else◌, slice_index_or, ◌≡◌, refl}
use Rattle.fixed_math.specs.declared.vec3.Vec3.{Vec3}
use Rattle.fixed_math.specs.Axes.{by_axes, origin}
use Rattle.patches.specs.declared.patch.Patch.{Patch}
use Rattle.patches.specs.declared.patch.Patch.TheVariants.{Bilinear, Bicubic}
use Rattle.patches.specs.Nets.{control}
use Rattle.mesh_basis.specs.Bases.{bezier}
use Rattle.mesh_basis.specs.Counts.{counts_of}
use Rattle.mesh_basis.specs.Ranges.{with_next, points_in_range, are_in_range}
use Rattle.mesh_basis.specs.declared.basis.Basis.{Basis}
use Rattle.mesh_basis.specs.declared.basis.Basis.TheVariants as bases
use Rattle.mesh_basis.specs.declared.shape.Shape.{Shape}
use Rattle.mesh_basis.specs.declared.counts.Counts.{Counts}
use Rattle.mesh_basis.specs.declared.fault.MeshFault.{MeshFault}
use Rattle.mesh_basis.specs.declared.fault.MeshFault.TheVariants.{G5, M7}

-- the place of the point in column x and row y; behind its end a periodic mesh goes on at its start, and the patches of any other
-- never pass its end
abbrev pub place_in : Shape → ℕ → ℕ → ℕ
place_in s x y = s.nu * (y % s.nv) + x % s.nu

-- the point of a mesh in a column and a row
abbrev pub point_in : List Vec3 → Shape → ℕ → ℕ → Vec3
point_in ps s x y = slice_index_or ps (place_in s x y) origin

-- the control points of the bilinear patch in column c and row d
abbrev pub corners_in : List Vec3 → Shape → ℕ → ℕ → List Vec3
corners_in ps s c d = point_in ps s c d ∷ point_in ps s (c + 1) d ∷ point_in ps s c (d + 1) ∷ point_in ps s (c + 1) (d + 1) ∷ []

-- four points along u, and four such rows along v
abbrev pub row_in : List Vec3 → Shape → ℕ → ℕ → List Vec3
row_in ps s x y = point_in ps s x y ∷ point_in ps s (x + 1) y ∷ point_in ps s (x + 2) y ∷ point_in ps s (x + 3) y ∷ []

abbrev pub rows_in : List Vec3 → Shape → ℕ → ℕ → List Vec3
rows_in ps s x y = row_in ps s x y ++ (row_in ps s x (y + 1) ++ (row_in ps s x (y + 2) ++ (row_in ps s x (y + 3) ++ [])))

-- the sixteen points of the bicubic patch in column c and row d
abbrev pub net_in : List Vec3 → Shape → ℕ → ℕ → List Vec3
net_in ps s c d = rows_in ps s (s.step_u * c) (s.step_v * d)

-- sixteen points in Bezier form
abbrev pub bezier_point : Basis → Basis → List Vec3 → ℕ → ℕ → Vec3
bezier_point bu bv net x y = by_axes (λ a. bezier bu bv (control 4 net a) x y)

abbrev pub bezier_row : Basis → Basis → List Vec3 → ℕ → List Vec3
bezier_row bu bv net y = bezier_point bu bv net 0 y ∷ bezier_point bu bv net 1 y ∷ bezier_point bu bv net 2 y ∷ bezier_point bu bv net 3 y ∷ []

-- the sixteen Bezier points of a net in the bases of both directions
abbrev pub bezier_points : Basis → Basis → List Vec3 → List Vec3
bezier_points bu bv net = bezier_row bu bv net 0 ++ (bezier_row bu bv net 1 ++ (bezier_row bu bv net 2 ++ (bezier_row bu bv net 3 ++ [])))

-- the bicubic patch of sixteen points, where its control points are in range
unfoldable pub bicubic_of : Basis → Basis → List Vec3 → Option Patch
bicubic_of bu bv net = option_map (λ ps. Bicubic ps) (points_in_range (bezier_points bu bv net))

-- the patch in column c and row d
abbrev pub patch_in : List Vec3 → Shape → ℕ → ℕ → Option Patch
patch_in ps s c d = if s.bicubic then bicubic_of s.basis_u s.basis_v (net_in ps s c d) else Some (Bilinear (corners_in ps s c d))

-- f of the n numbers from k on, where all are there
unfoldable pub all_from : {A : Type 0} → (ℕ → Option A) → ℕ → ℕ → Option (List A)
all_from f k zero = Some []
all_from f k (suc n) = with_next (f k) (all_from f (k + 1) n)

-- patch k of all, of which m stand in a row
abbrev pub patch_at : List Vec3 → Shape → ℕ → ℕ → Option Patch
patch_at ps s m k = patch_in ps s (k % m) (k / m)

-- all patches of a mesh, by rows, u fastest, or none where a point is out of range
abbrev pub patches_in : List Vec3 → Shape → Counts → Option (List Patch)
patches_in ps s c = if are_in_range ps then all_from (patch_at ps s c.along_u) 0 (c.along_u * c.along_v) else None

abbrev pub or_far : {A : Type 0} → Option A → Result A MeshFault
or_far (Some x) = Ok x
or_far None = Err M7

abbrev pub mesh_with : List Vec3 → Shape → Option Counts → Result (List Patch) MeshFault
mesh_with ps s None = Err G5
mesh_with ps s (Some c) = or_far (patches_in ps s c)

-- the patches of a mesh of these points, or the first fault: of the counts, then of the range
abbrev pub mesh_of : List Vec3 → Shape → Result (List Patch) MeshFault
mesh_of ps s = mesh_with ps s (counts_of s (length ps))

-- worked values: a bilinear ring of three points along u has its last patch from the last column to the first
abbrev at_x : ℕ → Vec3
at_x x = record { x = pos x; y = pos 0; z = pos 0 }

abbrev ring : Shape
ring = record { bicubic = false; nu = 3; nv = 2; periodic_u = true; periodic_v = false; basis_u = bases.Bezier; basis_v = bases.Bezier; step_u = 3; step_v = 3 }

last_of_ring : patch_in (at_x 0 ∷ at_x 1 ∷ at_x 2 ∷ at_x 10 ∷ at_x 11 ∷ at_x 12 ∷ []) ring 2 0 ≡ Some (Bilinear (at_x 2 ∷ at_x 0 ∷ at_x 12 ∷ at_x 10 ∷ []))
last_of_ring = refl

one_point_short : mesh_of (at_x 0 ∷ at_x 1 ∷ at_x 2 ∷ at_x 10 ∷ at_x 11 ∷ []) ring ≡ Err G5
one_point_short = refl
