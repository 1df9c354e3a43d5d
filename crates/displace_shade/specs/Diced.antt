-- The variables at the points of a leaf, by those that shaders change.
use Rattle.std.specs.Prelude.{◌≡◌, ℕ, ◌<◌, get_or}
use Rattle.fixed_math.specs.Axes.{origin}
use Rattle.sl_ast.specs.declared.kinds.Predefined.TheVariants as names
use Rattle.sl_ast.specs.declared.typed.Value.TheVariants.{Triple}
use Rattle.sl_meaning.specs.Runs.{Names}
use Rattle.grid_variables.specs.Points.{Leaf}
use Rattle.grid_variables.specs.Places.{point_count, normals_of}
use Rattle.displace_shade.specs.Shaded.{diced_names, GridValue}
use Rattle.grid_variables.specs.declared.variables.Variables.{Variables}
use Rattle.dice.specs.declared.diced.GridRef.{GridRef}

-- the variables at place i, by those that shaders change
abbrev pub names_of : Leaf → Variables → ℕ → Names
names_of l d i names.P = Triple (get_or d.points.now i origin)
names_of l d i names.N = Triple (get_or (normals_of l d.normals) i origin)
names_of l d i names.I = Triple (get_or d.sights.now i origin)
names_of l d i names.Ci = Triple (get_or d.colours.now i origin)
names_of l d i names.Oi = Triple (get_or d.opacities.now i origin)
names_of l d i name = diced_names l i name

-- they hold what a function gives at each place
pub record Hold (l : Leaf) (d : Variables) (f : ℕ → Names) : Type 0 where
  pub at : (i : ℕ) (name : _) → i < point_count l → f i name ≡ names_of l d i name

-- the grid that they make, with opacities put into their range
abbrev pub grid_value : GridRef → GridValue
grid_value g = record { columns = g.columns; rows = g.rows; points = g.p.now; colours = g.ci.now; opacities = g.oi.now }
