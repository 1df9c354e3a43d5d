-- How the parameters of a shader request fit the shader that it names (RenderMan Interface 3.2, section 11.3.3).
use Rattle.std.specs.Prelude.{ℕ, Bool, true, false, not, is_none, List, map, slice_get, Option, Some, None, option_map, if◌then◌else◌}
use Rattle.std.specs.List.{list_any}
use Rattle.scene.specs.declared.params.Param.{Param}
use Rattle.scene.specs.declared.params.Kind.{Kind}
use Rattle.scene.specs.declared.params.Kind.TheVariants as kinds
use Rattle.scene.specs.declared.uses.ShaderUse.{ShaderUse}
use Rattle.sl_ast.specs.declared.kinds.SlType.{SlType}
use Rattle.sl_ast.specs.declared.kinds.SlType.TheVariants as types
use Rattle.sl_ast.specs.Typed.{Local, Tree}
use Rattle.rib_reader.specs.Holding.{holding}
use Rattle.shader_binding.specs.Sets.{is_of_kind}
use Rattle.acceptance.specs.declared.code.FaultCode.{FaultCode}
use Rattle.acceptance.specs.declared.code.FaultCode.TheVariants.{B1, B2, B3}
use Rattle.acceptance.specs.declared.refusal.FileId.TheVariants.{Scene}
use Rattle.fixed_math.specs.Names.{last_place}
use Rattle.acceptance.specs.Causes.{Cause, At}

-- the kind of a request's parameter is the declared one; points, vectors and normals are told apart
abbrev pub is_of_type : SlType → Kind → Bool
is_of_type types.Float kinds.Float = true
is_of_type types.Color kinds.Color = true
is_of_type types.Point kinds.Point = true
is_of_type types.Vector kinds.Vector = true
is_of_type types.Normal kinds.Normal = true
is_of_type types.Str kinds.Str = true
is_of_type _ _ = false

-- the type of the parameter that a shader declares by that name; no two have the same
abbrev pub local_name : Local → List ℕ
local_name l = l.name

abbrev pub declared_names : Tree → List (List ℕ)
declared_names tree = map local_name tree.params

abbrev pub type_at : List Local → Option ℕ → Option SlType
type_at ls None = None
type_at ls (Some place) = option_map (λ l. l.kind) (slice_get ls place)

-- the type with which a shader declares a parameter, none where it doesn't
abbrev pub declared_type : List Local → List ℕ → Option SlType
declared_type ls name = type_at ls (last_place name (map local_name ls))

-- the shader declares no parameter of that name: B1
abbrev pub is_undeclared : List Local → Param → Bool
is_undeclared ls p = is_none (declared_type ls p.name)

abbrev pub is_other : Kind → Option SlType → Bool
is_other kind None = false
is_other kind (Some declared) = not (is_of_type declared kind)

-- the shader declares it with another type: B2
abbrev pub is_misfit : List Local → Param → Bool
is_misfit ls p = is_other p.kind (declared_type ls p.name)

abbrev pub param_name : Param → List ℕ
param_name p = p.name

-- the first fault of a request over its shader's tree, the lower code first; of two parameters of one name the later one holds
abbrev pub binding_fault : Tree → ShaderUse → Option FaultCode
binding_fault tree u =
    if list_any (is_undeclared tree.params) u.params then Some B1 else
    (if list_any (is_misfit tree.params) (holding u.params) then Some B2 else
    (if is_of_kind tree.kind u.kind then None else Some B3))

-- the same as a cause: it stands in the scene, at the line of the request
abbrev pub cause_at : ShaderUse → Option FaultCode → Option Cause
cause_at u fault = option_map (λ code. At Scene u.line code) fault
