-- The rows that shaders are given, one block behind another.
use Rattle.std.specs.Prelude.{◌≡◌, ℤ, true, cond, List, [], ◌∷◌, ◌++◌, map, Option, Some, None}
use Rattle.fixed_math.specs.Axes.{part_of}
use Rattle.fixed_math.specs.declared.vec3.Axis.TheVariants as axes
use Rattle.fixed_math.specs.declared.vec3.Vec3.{Vec3}
use Rattle.scene.specs.declared.params.Kind.{Kind}
use Rattle.scene.specs.declared.params.Kind.TheVariants as kinds
use Rattle.scene.specs.Scene.{VariableValue}
use Rattle.sl_ast.specs.declared.typed.Value.{Value}
use Rattle.sl_ast.specs.declared.typed.Value.TheVariants.{Number}
use Rattle.sl_ast.specs.Typed.{Local}
use Rattle.grid_code.specs.declared.slot.Slot.{Slot}
use Rattle.grid_code.specs.declared.register_set.RegisterSet.{RegisterSet}
use Rattle.sl_ast.specs.declared.kinds.SlKind.{SlKind}
use Rattle.sl_ast.specs.declared.kinds.Predefined.{Predefined}
use Rattle.sl_ast.specs.declared.kinds.Predefined.TheVariants as names
use Rattle.grid_variables.specs.Points.{Leaf, lines, normal_of, u_at, v_at, dpdu, dpdv}
use Rattle.grid_variables.specs.Variables.{s_at, t_at, cs_at, os_at, spread, bound_variable, values_at}
use Rattle.grid_variables.specs.Places.{point_count, over, normals_of}
use Rattle.grid_variables.specs.declared.variables.Variables.{Variables}
use Rattle.grid_rows.specs.Parameters.{ParameterValues}
use Rattle.grid_rows.specs.Rows.{row_of, triple_rows, value_rows, values_of}
use Rattle.grid_rows.specs.Wanted.{given_order, wanted, zero_of_name}

-- a variable's value at all points
abbrev pub rows_by : Kind → List Vec3 → List ℤ
rows_by kinds.Float ts = row_of (map (part_of axes.X) ts)
rows_by kinds.Pair ts = row_of (map (part_of axes.X) ts)
rows_by kinds.Str ts = []
rows_by kind ts = triple_rows ts

abbrev pub variable_rows : Leaf → VariableValue → List ℤ
variable_rows l x = rows_by x.kind (over (point_count l) (spread l x))

-- a parameter's value at all points: that of a variable, else the same one
abbrev pub rows_or : Leaf → Option VariableValue → Value → List ℤ
rows_or l None v = value_rows (point_count l) v
rows_or l (Some x) v = variable_rows l x

-- the parameters that vary, by their names, classes and bound values
abbrev pub param_rows : Leaf → List Local → List Slot → List Value → List ℤ
param_rows l (p ∷ ps) (s ∷ ss) (v ∷ vs) = cond s.uniform (param_rows l ps ss vs) (rows_or l (bound_variable p.name l.prim.vars) v ++ param_rows l ps ss vs)
param_rows l _ _ _ = []

-- the values of the parameters that don't vary, and those with the steps of u and v, as a surface's shader is given them
abbrev pub steady_values : Leaf → ParameterValues → List Value
steady_values l ps = values_of true ps.slots (values_at l ps.locals ps.values 0)

-- the uniform values of a surface: its parameters', and the steps of u and v
abbrev pub surface_values : Leaf → ParameterValues → List Value
surface_values l ps = steady_values l ps ++ Number (lines l).du ∷ Number (lines l).dv ∷ []

-- a variable at all points
abbrev pub name_rows : Leaf → Variables → Predefined → List ℤ
name_rows l d names.P = triple_rows d.points.now
name_rows l d names.N = triple_rows (normals_of l d.normals)
name_rows l d names.Ng = triple_rows (over (point_count l) (normal_of l))
name_rows l d names.I = triple_rows d.sights.now
name_rows l d names.U = row_of (over (point_count l) (u_at l))
name_rows l d names.V = row_of (over (point_count l) (v_at l))
name_rows l d names.S = row_of (over (point_count l) (s_at l))
name_rows l d names.T = row_of (over (point_count l) (t_at l))
name_rows l d names.Cs = triple_rows (over (point_count l) (cs_at l))
name_rows l d names.Os = triple_rows (over (point_count l) (os_at l))
name_rows l d names.DPdu = triple_rows (over (point_count l) (dpdu l))
name_rows l d names.DPdv = triple_rows (over (point_count l) (dpdv l))
name_rows l d names.Ci = triple_rows d.colours.now
name_rows l d names.Oi = triple_rows d.opacities.now
name_rows l d name = []

-- the same as a shader whose code names some registers is given it
abbrev pub wanted_rows : SlKind → RegisterSet → Leaf → Variables → Predefined → List ℤ
wanted_rows kind named l d p = cond (wanted kind named p) (name_rows l d p) (value_rows (point_count l) (zero_of_name p))

abbrev pub all_rows : (Predefined → List ℤ) → List Predefined → List ℤ
all_rows rows [] = []
all_rows rows (p ∷ ps) = rows p ++ all_rows rows ps

-- what such a shader is given: its parameters that vary, and the variables of its kind
abbrev pub given_rows : Leaf → ParameterValues → SlKind → RegisterSet → Variables → List ℤ
given_rows l ps kind named d = param_rows l ps.locals ps.slots ps.values ++ all_rows (wanted_rows kind named l d) (given_order kind)

-- these are the geometric normals of a leaf, where a variable is a normal, and where a shader is given a normal as it is
abbrev pub AreGeometric : Leaf → List Vec3 → Type 0
AreGeometric l ns = ns ≡ over (point_count l) (normal_of l)

abbrev pub AreNamed : Predefined → Leaf → List Vec3 → Type 0
AreNamed p l ns = (p ≡ names.N → AreGeometric l ns) × (p ≡ names.Ng → AreGeometric l ns)

abbrev pub AreSeen : SlKind → RegisterSet → Leaf → List Vec3 → Type 0
AreSeen kind named l ns = (wanted kind named names.N ≡ true → AreGeometric l ns) × (wanted kind named names.Ng ≡ true → AreGeometric l ns)
