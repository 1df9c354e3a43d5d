-- The bases of bicubic patches, and the shapes of patches and meshes (RenderMan Interface 3.2, section 5.2).
use Rattle.std.specs.Prelude.{ℕ, ◌≤◌, ℤ, unsigned_abs, Bool, true, false, List, Option, Some, None, if◌then◌else◌, codes}
use Rattle.std.specs.Str.{bytes_eq}
use Rattle.rib_reader.specs.declared.args.Arg.{Arg}
use Rattle.rib_reader.specs.Rules.{word_at, whole_at}
use Rattle.mesh_basis.specs.declared.basis.Basis.{Basis}
use Rattle.mesh_basis.specs.declared.basis.Basis.TheVariants.{Bezier, BSpline, CatmullRom, Hermite, Power}
use Rattle.mesh_basis.specs.declared.shape.Shape.{Shape}
use Rattle.scene_parts.specs.Choices.{is_word}

-- the bases along u and along v, and the steps from patch to patch
pub record BasisValues : Type 0 where
  pub basis_u : Basis
  pub basis_v : Basis
  pub step_u : ℕ
  pub step_v : ℕ

pub record AreBases (b : BasisValues) : Type 0 where
  pub some_u : 1 ≤ b.step_u
  pub some_v : 1 ≤ b.step_v

-- the bases at the start
abbrev pub first_bases : BasisValues
first_bases = record { basis_u = Bezier; basis_v = Bezier; step_u = 3; step_v = 3 }

-- the basis of a name
abbrev pub basis_named : List ℕ → Basis
basis_named name =
    if bytes_eq name (codes "b-spline") then BSpline
    else if bytes_eq name (codes "catmull-rom") then CatmullRom
    else if bytes_eq name (codes "hermite") then Hermite
    else if bytes_eq name (codes "power") then Power
    else Bezier

abbrev pub with_bases : Option (List ℕ) → Option ℤ → Option (List ℕ) → Option ℤ → BasisValues → BasisValues
with_bases (Some u) (Some i) (Some v) (Some j) b = record { basis_u = basis_named u; basis_v = basis_named v; step_u = unsigned_abs i; step_v = unsigned_abs j }
with_bases _ _ _ _ b = b

-- Basis: a basis and a step along u, and along v
abbrev pub bases_after : List Arg → BasisValues → BasisValues
bases_after args b = with_bases (word_at args 0) (whole_at args 1) (word_at args 2) (whole_at args 3) b

-- ---- shapes

abbrev pub shape_with : Bool → ℕ → Bool → ℕ → Bool → BasisValues → Shape
shape_with bicubic nu periodic_u nv periodic_v b = record {
  bicubic = bicubic;
  nu = nu;
  nv = nv;
  periodic_u = periodic_u;
  periodic_v = periodic_v;
  basis_u = b.basis_u;
  basis_v = b.basis_v;
  step_u = b.step_u;
  step_v = b.step_v;
}

abbrev pub says_bicubic : List Arg → Bool
says_bicubic args = is_word (word_at args 0) (codes "bicubic")

-- the points along a side of a single patch
abbrev pub side_of : Bool → ℕ
side_of true = 4
side_of false = 2

-- a Patch is the mesh of one patch
abbrev pub patch_shape : List Arg → BasisValues → Shape
patch_shape args b = shape_with (says_bicubic args) (side_of (says_bicubic args)) false (side_of (says_bicubic args)) false b

abbrev pub size_in : Option ℤ → ℕ
size_in (Some n) = unsigned_abs n
size_in None = 0

abbrev pub says_periodic : List Arg → ℕ → Bool
says_periodic args place = is_word (word_at args place) (codes "periodic")

-- PatchMesh: its kind, and the number of its points and whether it is periodic along u, and along v
abbrev pub mesh_shape : List Arg → BasisValues → Shape
mesh_shape args b = shape_with (says_bicubic args) (size_in (whole_at args 1)) (says_periodic args 2) (size_in (whole_at args 3)) (says_periodic args 4) b
