-- What is known of the points of a leaf's grid before any shader runs (RenderMan Interface 3.2, section 11, predefined shader variables).
use Rattle.std.specs.Prelude.{◌≡◌, ℕ, ◌/◌, ◌%◌, ℤ, pos, neg_ℤ, refl, Bool, true, false, cond, Option, Some, None, slice_index_or}
use Rattle.fixed_math.specs.declared.vec3.Vec3.{Vec3}
use Rattle.patches.specs.Parts.{Part}
use Rattle.quadrics.specs.AnyPatches.{patch_point, patch_du, patch_dv}
use Rattle.transforms.specs.Map.{Map}
use Rattle.transforms.specs.declared.view.View.{View}
use Rattle.dice.specs.Grids.{line_count, line_at}
use Rattle.dice.specs.Normals.{normal}
use Rattle.dice.specs.Placed.{parameter_of, step_of, derivative_of}
use Rattle.scene.specs.Scene.{PrimValue}
use Rattle.builtins.specs.Triples.{negated}
use Rattle.builtins.specs.Differences.{Lines}

-- a part of a primitive of a frame, in 2 ^ p + 1 columns and 2 ^ q + 1 rows
pub record Leaf : Type 0 where
  pub camera : View
  pub world : Map
  pub prim : PrimValue
  pub part : Part
  pub p : ℕ
  pub q : ℕ

-- how many columns of points
abbrev pub columns : Leaf → ℕ
columns l = line_count l.p

-- how many rows of points
abbrev pub rows : Leaf → ℕ
rows l = line_count l.q

-- the column and row of the primitive's patch in its mesh, and how many columns and rows that has
abbrev pub patch_column : PrimValue → ℕ
patch_column prim = slice_index_or prim.place 0 0

abbrev pub patch_columns : PrimValue → ℕ
patch_columns prim = slice_index_or prim.place 1 0

abbrev pub patch_row : PrimValue → ℕ
patch_row prim = slice_index_or prim.place 2 0

abbrev pub patch_rows : PrimValue → ℕ
patch_rows prim = slice_index_or prim.place 3 0

-- the patch's own parameters at place i, over 4096; places go by rows
abbrev pub own_u : Leaf → ℕ → ℕ
own_u l i = line_at l.part.a l.part.i l.p (i % columns l)

-- the v of place i on its patch, as a numerator
abbrev pub own_v : Leaf → ℕ → ℕ
own_v l i = line_at l.part.b l.part.j l.q (i / columns l)

-- the point of the patch at place i
abbrev pub point_at : Leaf → ℕ → Vec3
point_at l i = patch_point l.prim.patch (own_u l i) (own_v l i)

-- the flat normal of a polygon, else the surface's own
abbrev pub flat_or : Option Vec3 → Vec3 → Vec3
flat_or (Some flat) n = flat
flat_or None n = n

-- a normal, turned over where it is flipped
abbrev pub turned : Bool → Vec3 → Vec3
turned flip n = cond flip (negated n) n

-- the geometric normal: that of a flat primitive, else that of the patch, turned over where the primitive is
abbrev pub normal_of : Leaf → ℕ → Vec3
normal_of l i = turned l.prim.flip (flat_or l.prim.flat (normal (patch_du l.prim.patch) (patch_dv l.prim.patch) (own_u l i) (own_v l i)))

-- the direction in which a point is seen
abbrev pub sight_by : Option ℤ → Vec3 → Vec3
sight_by (Some fov) p = p
sight_by None p = record { x = pos 0; y = pos 0; z = pos 65536 }

-- the direction from the eye to a point; (0, 0, 1) without perspective
abbrev pub sight : View → Vec3 → Vec3
sight v p = sight_by v.fov p

-- the shader's u at place i, which runs over the whole primitive
abbrev pub u_at : Leaf → ℕ → ℤ
u_at l i = parameter_of (patch_column l.prim) (patch_columns l.prim) (own_u l i)

-- the shader's v there
abbrev pub v_at : Leaf → ℕ → ℤ
v_at l i = parameter_of (patch_row l.prim) (patch_rows l.prim) (own_v l i)

-- the columns and rows of the grid with their steps of u and v, as differences between neighbours take them
abbrev pub lines : Leaf → Lines
lines l = record {
  columns = columns l;
  rows = rows l;
  du = step_of (patch_columns l.prim) l.part.a l.p;
  dv = step_of (patch_rows l.prim) l.part.b l.q;
}

-- the derivative of the place by the shader's u
abbrev pub dpdu : Leaf → ℕ → Vec3
dpdu l i = derivative_of (patch_columns l.prim) (patch_du l.prim.patch (own_u l i) (own_v l i))

-- that by the shader's v
abbrev pub dpdv : Leaf → ℕ → Vec3
dpdv l i = derivative_of (patch_rows l.prim) (patch_dv l.prim.patch (own_u l i) (own_v l i))

-- worked: the normal of a patch turned over, and that of a flat primitive; what a camera without perspective sees
abbrev a_normal : Vec3
a_normal = record { x = pos 65536; y = pos 0; z = pos 0 }

abbrev another : Vec3
another = record { x = pos 0; y = pos 65536; z = pos 0 }

abbrev turned_over : turned true (flat_or None a_normal) ≡ record { x = neg_ℤ (pos 65536); y = pos 0; z = pos 0 }
turned_over = refl

abbrev of_flat : turned false (flat_or (Some another) a_normal) ≡ another
of_flat = refl

abbrev straight_on : sight_by None a_normal ≡ record { x = pos 0; y = pos 0; z = pos 65536 }
straight_on = refl
