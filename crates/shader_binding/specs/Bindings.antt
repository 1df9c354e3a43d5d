-- When a primitive's variables fit the parameters of its shaders.
use Rattle.std.specs.Prelude.{◌≡◌, ℕ, true, false, List, Option, Some, None, All}
use Rattle.std.specs.Str.{bytes_eq}
use Rattle.scene.specs.declared.params.Kind.{Kind}
use Rattle.scene.specs.declared.params.Kind.TheVariants as kinds
use Rattle.scene.specs.Scene.{PrimValue, VariableValue}
use Rattle.scene.specs.declared.uses.ShaderUse.{ShaderUse}
use Rattle.sl_ast.specs.declared.kinds.SlType.{SlType}
use Rattle.sl_ast.specs.declared.kinds.SlType.TheVariants as types
use Rattle.sl_ast.specs.Typed.{Local}
use Rattle.sl_look_ups.specs.Naming.{binding_params}
use Rattle.shader_binding.specs.Sets.{SetValue, Bound, bound_at}
use Rattle.shader_binding.specs.Predefined.{sets_predefined}

-- the kind of a variable that a parameter of that type takes
abbrev pub kind_of : SlType → Kind
kind_of types.Float = kinds.Float
kind_of types.Color = kinds.Color
kind_of types.Point = kinds.Point
kind_of types.Vector = kinds.Vector
kind_of types.Normal = kinds.Normal
kind_of types.Str = kinds.Str

-- a variable of the parameter's kind, which varies only where the parameter does
pub record Binds (p : Local) (x : VariableValue) : Type 0 where
  pub kind : x.kind ≡ kind_of p.kind
  pub steady : p.uniform ≡ true → x.varying ≡ false

-- each variable that has the name of a parameter binds to it, but those that set predefined variables alone
abbrev pub FitVariables : List Local → List VariableValue → Type 0
FitVariables ps xs = All (λ p. All (λ x. bytes_eq x.name p.name ≡ true → sets_predefined p.name ≡ false → Binds p x) xs) ps

abbrev pub FitUseVariables : SetValue → List ShaderUse → ℕ → List VariableValue → Type 0
FitUseVariables s uses n xs = (b : Bound) → bound_at s uses n ≡ Some b → FitVariables (binding_params b.tree) xs

abbrev pub FitSomeVariables : SetValue → List ShaderUse → Option ℕ → List VariableValue → Type 0
FitSomeVariables s uses None xs = Unit {0}
FitSomeVariables s uses (Some n) xs = FitUseVariables s uses n xs

-- a primitive's variables fit its surface, displacement and volume
pub record FitsPrim (s : SetValue) (uses : List ShaderUse) (p : PrimValue) : Type 0 where
  pub surface : FitUseVariables s uses p.surface p.vars
  pub displacement : FitSomeVariables s uses p.displacement p.vars
  pub atmosphere : FitSomeVariables s uses p.atmosphere p.vars
