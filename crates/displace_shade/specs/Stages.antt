-- What the stages of shading a leaf need of its shaders, and what each makes of the variables at its points.
use Rattle.std.specs.Prelude.{◌≡◌, ℕ, List, Option, Some}
use Rattle.fixed_math.specs.declared.vec3.Vec3.{Vec3}
use Rattle.scene.specs.Scene.{IsUse, IsSomeUse, HasUses}
use Rattle.scene.specs.declared.uses.ShaderKind.{ShaderKind}
use Rattle.scene.specs.declared.uses.ShaderUse.{ShaderUse}
use Rattle.sl_ast.specs.declared.kinds.SlKind.{SlKind}
use Rattle.sl_ast.specs.TreeView.{tree_of}
use Rattle.builtins.specs.Lights.{Light}
use Rattle.sl_look_ups.specs.Naming.{binding_params}
use Rattle.mask_codegen.specs.Compiled.{IsCodeOf}
use Rattle.sl_meaning.specs.Runs.{Names}
use Rattle.grid_rows.specs.Parameters.{ParameterValues}
use Rattle.shader_binding.specs.Sets.{SetValue, AreValuesOf, Fits, bound_at, bound_for}
use Rattle.shader_binding.specs.Bindings.{FitVariables, FitUseVariables, FitSomeVariables, FitsPrim}
use Rattle.grid_variables.specs.Points.{Leaf}
use Rattle.grid_variables.specs.declared.variables.Variables.{Variables}
use Rattle.displace_shade.specs.Diced.{Hold}
use Rattle.displace_shade.specs.Shaded.{shaded_by, displaced, lights_from}
use Rattle.displace_shade.specs.Shop.{set_value, bound_value}
use Rattle.displace_shade.specs.declared.bound.BoundShader.{BoundShader}
use Rattle.displace_shade.specs.declared.leaves.Shaders.{Shaders}

-- the parameters of a shader, as the rows of a run are made from them
abbrev pub parameters_of : BoundShader → ParameterValues
parameters_of b = record { locals = binding_params (tree_of b.compiled.now.tree); slots = b.compiled.now.code.params; values = b.values.now }

-- a shader with values of its parameters
pub record Runs (b : BoundShader) : Type 0 where
  pub code : IsCodeOf (tree_of b.compiled.now.tree) b.compiled.now.code
  pub values : AreValuesOf (tree_of b.compiled.now.tree).params b.values.now

-- the set and the uses of shaders that are run
abbrev pub set_in : Shaders → SetValue
set_in s = set_value s.set.now s.textures.now

abbrev pub uses_in : Shaders → List ShaderUse
uses_in s = s.uses.now

-- use n is a shader of that kind, which the variables of the leaf's primitive fit
pub record Serves (s : Shaders) (l : Leaf) (kind : ShaderKind) (n : ℕ) : Type 0 where
  pub fits : Fits (set_in s) (uses_in s)
  pub use_of : IsUse (uses_in s) kind n
  pub variables : FitUseVariables (set_in s) (uses_in s) n l.prim.vars

-- the same of a use that may not be there
pub record ServesIf (s : Shaders) (l : Leaf) (kind : ShaderKind) (n : Option ℕ) : Type 0 where
  pub fits : Fits (set_in s) (uses_in s)
  pub use_of : IsSomeUse (uses_in s) kind n
  pub variables : FitSomeVariables (set_in s) (uses_in s) n l.prim.vars

-- and of all shaders of the leaf's primitive
pub record ServesPrim (s : Shaders) (l : Leaf) : Type 0 where
  pub fits : Fits (set_in s) (uses_in s)
  pub uses : HasUses (uses_in s) l.prim
  pub variables : FitsPrim (set_in s) (uses_in s) l.prim

-- whatever the old variables hold, the new ones hold what a run makes of that
abbrev pub Makes : Leaf → ((ℕ → Names) → ℕ → Names) → Variables → Variables → Type 0
Makes l run old new = (f : ℕ → Names) → Hold l old f → Hold l new (run f)

-- a shader runs as one of that kind, and the variables of the leaf's primitive fit it
pub record RunsOn (b : BoundShader) (l : Leaf) (k : SlKind) : Type 0 where
  pub runs : Runs b
  pub variables : FitVariables (binding_params (tree_of b.compiled.now.tree)) l.prim.vars
  pub kind : (tree_of b.compiled.now.tree).kind ≡ k

-- the variables behind the displacement of the leaf's primitive
abbrev pub placed_by : Shaders → Leaf → ℕ → Names
placed_by s l = displaced l (bound_for (set_in s) (uses_in s) l.prim.displacement)

-- a run of a shader that is bound, and of the surface of the leaf's primitive under its lights
abbrev pub run_by : Leaf → BoundShader → List (Vec3 → Light) → (ℕ → Names) → ℕ → Names
run_by l b lights = shaded_by l (Some (bound_value b)) lights

-- the variables after the surface, under the primitive's lights
abbrev pub lit_by : Shaders → Leaf → (ℕ → Names) → ℕ → Names
lit_by s l = shaded_by l (bound_at (set_in s) (uses_in s) l.prim.surface) (lights_from l (set_in s) (uses_in s) l.prim.lights)
