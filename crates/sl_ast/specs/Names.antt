-- The predefined variables, spaces, operations and statements that each kind of shader has.
use Rattle.std.specs.Prelude.{ℕ, Bool, true, false, not, ◌||◌, List, Option, Some, None, codes, cond, if◌then◌else◌}
use Rattle.std.specs.Str.{bytes_eq}
use Rattle.sl_ast.specs.declared.kinds.SlKind.{SlKind}
use Rattle.sl_ast.specs.declared.kinds.SlKind.TheVariants.{Surface, Displacement, Light, Volume}
use Rattle.sl_ast.specs.declared.kinds.SlType.{SlType}
use Rattle.sl_ast.specs.declared.kinds.SlType.TheVariants as types
use Rattle.sl_ast.specs.declared.kinds.Predefined.{Predefined}
use Rattle.sl_ast.specs.declared.kinds.Predefined.TheVariants as names
use Rattle.sl_ast.specs.declared.kinds.SpaceName.{SpaceName}
use Rattle.sl_ast.specs.declared.kinds.SpaceName.TheVariants.{Current, World, Object, Shader}
use Rattle.sl_ast.specs.declared.operations.Operation.{Operation}
use Rattle.sl_ast.specs.declared.operations.Operation.TheVariants as operations
use Rattle.sl_ast.specs.declared.operations.ValueOperation.TheVariants as ops
use Rattle.sl_ast.specs.declared.kinds.LightStmt.{LightStmt}
use Rattle.sl_ast.specs.declared.kinds.LightStmt.TheVariants.{Illuminance, Illuminate, Solar}

-- the type of a predefined variable
abbrev pub name_type : Predefined → SlType
name_type names.P = types.Point
name_type names.N = types.Normal
name_type names.Ng = types.Normal
name_type names.I = types.Vector
name_type names.E = types.Point
name_type names.U = types.Float
name_type names.V = types.Float
name_type names.Du = types.Float
name_type names.Dv = types.Float
name_type names.S = types.Float
name_type names.T = types.Float
name_type names.Cs = types.Color
name_type names.Os = types.Color
name_type names.DPdu = types.Vector
name_type names.DPdv = types.Vector
name_type names.L = types.Vector
name_type names.Cl = types.Color
name_type names.Ci = types.Color
name_type names.Oi = types.Color
name_type names.Ps = types.Point
name_type names.Pi = types.Float

-- what that kind of shader reads; `lit` stands in the body of `illuminance` of a surface, of `illuminate` or `solar` of
-- a light
abbrev pub surface_reads : Bool → Predefined → Bool
surface_reads lit names.L = lit
surface_reads lit names.Cl = lit
surface_reads lit names.Ps = false
surface_reads lit _ = true

abbrev pub displacement_reads : Predefined → Bool
displacement_reads names.L = false
displacement_reads names.Cl = false
displacement_reads names.Ci = false
displacement_reads names.Oi = false
displacement_reads names.Ps = false
displacement_reads _ = true

abbrev pub light_reads : Bool → Predefined → Bool
light_reads lit names.L = lit
light_reads lit names.Ps = true
light_reads lit names.E = true
light_reads lit names.Cl = true
light_reads lit names.Pi = true
light_reads lit _ = false

abbrev pub volume_reads : Predefined → Bool
volume_reads names.P = true
volume_reads names.I = true
volume_reads names.E = true
volume_reads names.Ci = true
volume_reads names.Oi = true
volume_reads names.Pi = true
volume_reads _ = false

-- whether a kind of shader reads a predefined variable, in the body of a statement over lights or outside
abbrev pub reads : SlKind → Bool → Predefined → Bool
reads Surface lit name = surface_reads lit name
reads Displacement lit name = displacement_reads name
reads Light lit name = light_reads lit name
reads Volume lit name = volume_reads name

abbrev pub writes_colors : Predefined → Bool
writes_colors names.Ci = true
writes_colors names.Oi = true
writes_colors _ = false

abbrev pub writes_place : Predefined → Bool
writes_place names.P = true
writes_place names.N = true
writes_place _ = false

abbrev pub writes_light : Predefined → Bool
writes_light names.Cl = true
writes_light _ = false

-- whether a kind of shader sets it
abbrev pub writes : SlKind → Predefined → Bool
writes Surface name = writes_colors name
writes Displacement name = writes_place name
writes Light name = writes_light name
writes Volume name = writes_colors name

abbrev pub is_pi : Predefined → Bool
is_pi names.Pi = true
is_pi _ = false

-- a shader that runs on a grid of a surface
abbrev pub has_surface : SlKind → Bool
has_surface Surface = true
has_surface Displacement = true
has_surface Light = false
has_surface Volume = false

abbrev pub is_surface : SlKind → Bool
is_surface Surface = true
is_surface _ = false

abbrev pub is_light : SlKind → Bool
is_light Light = true
is_light _ = false

-- the operations that a kind of shader has
abbrev pub has_operation : SlKind → Operation → Bool
has_operation kind (operations.Value operation) = true
has_operation kind operations.FaceForwardNg = true
has_operation kind (operations.Difference which) = has_surface kind
has_operation kind (operations.Sum which) = is_surface kind
has_operation kind (operations.Look look) = has_surface kind

-- the operations that stand in a parameter's default too
abbrev pub is_constant : Operation → Bool
is_constant (operations.Value ops.Depth) = false
is_constant (operations.Look look) = false
is_constant _ = true

-- whether a kind of shader has a statement over lights
abbrev pub has_lights : SlKind → LightStmt → Bool
has_lights kind Illuminance = is_surface kind
has_lights kind Illuminate = is_light kind
has_lights kind Solar = is_light kind

-- the space of that name; in a light, "object" is its shader space, and a parameter's default has neither "object" nor
-- "world"
abbrev pub space_named : SlKind → Bool → List ℕ → Option SpaceName
space_named kind default name =
    if bytes_eq name (codes "current") then Some Current
    else if bytes_eq name (codes "camera") then Some Current
    else if bytes_eq name (codes "shader") then Some Shader
    else if default then None
    else if bytes_eq name (codes "world") then Some World
    else if bytes_eq name (codes "object") then Some (cond (is_light kind) Shader Object)
    else None

abbrev pub has_space : SlKind → Bool → SpaceName → Bool
has_space kind default Current = true
has_space kind default Shader = true
has_space kind default World = not default
has_space kind default Object = not (default || is_light kind)

-- a space before a value of that type
abbrev pub stands_before : SpaceName → SlType → Bool
stands_before space types.Point = true
stands_before space types.Vector = true
stands_before space types.Normal = true
stands_before Current kind = true
stands_before _ kind = false

abbrev pub is_space : SpaceName → Option SpaceName → Bool
is_space Current (Some Current) = true
is_space World (Some World) = true
is_space Object (Some Object) = true
is_space Shader (Some Shader) = true
is_space _ _ = false
