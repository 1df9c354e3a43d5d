-- The points of a leaf as slices: what its primitive gives at each, and what shaders change there.
use Rattle.std.specs.Prelude.{◌≡◌, ◌≤◌, ℕ, ◌*◌, ℤ, List, length, map, Option, Some, None}
use Rattle.std.specs.Borrow.{Bor}
use Rattle.std.specs.List.{range_with_len}
use Rattle.fixed_math.specs.declared.vec3.Vec3.{Vec3}
use Rattle.grid_variables.specs.Points.{Leaf, columns, rows, u_at, v_at, dpdu, dpdv}
use Rattle.grid_variables.specs.Variables.{n_at}
use Rattle.grid_variables.specs.declared.leaf.Along.{Along}
use Rattle.grid_variables.specs.declared.leaf.Along.TheVariants.{U, V}
use Rattle.grid_variables.specs.declared.variables.Variables.{Variables}

-- how many points a leaf's grid has
abbrev pub point_count : Leaf → ℕ
point_count l = columns l * rows l

-- what a function gives at the first c places
abbrev pub over : {A : Type 0} → ℕ → (ℕ → A) → List A
over c f = map f (range_with_len 0 c)

-- the parameter and the derivative along one of both directions
abbrev pub parameter_at : Along → Leaf → ℕ → ℤ
parameter_at U l i = u_at l i
parameter_at V l i = v_at l i

abbrev pub derivative_at : Along → Leaf → ℕ → Vec3
derivative_at U l i = dpdu l i
derivative_at V l i = dpdv l i

-- the normals at all points: those that a displacement has left, else those that the primitive gives
abbrev pub normals_of : Leaf → Option (Bor (List Vec3)) → List Vec3
normals_of l None = over (point_count l) (n_at l)
normals_of l (Some ns) = ns.now

-- one of each for each place, and no more colours and opacities
pub record IsSized (l : Leaf) (d : Variables) : Type 0 where
  pub points : length d.points.now ≡ point_count l
  pub normals : length (normals_of l d.normals) ≡ point_count l
  pub sights : length d.sights.now ≡ point_count l
  pub colours : length d.colours.now ≤ point_count l
  pub opacities : length d.opacities.now ≤ point_count l

pub record IsColoured (l : Leaf) (d : Variables) : Type 0 where
  pub colours : length d.colours.now ≡ point_count l
  pub opacities : length d.opacities.now ≡ point_count l
