-- What a leaf under the stock shader `constant` holds at each point.
use Rattle.std.proofs.Common.{◌≡◌, ℕ, cond, List, [], ◌∷◌, Option, Some, None, refl, ap, ◌∙◌}
use Rattle.fixed_math.specs.Fixed.{mul}
use Rattle.fixed_math.specs.declared.vec3.Vec3.{Vec3}
use Rattle.scene.specs.declared.uses.ShaderUse.{ShaderUse}
use Rattle.sl_ast.specs.Names.{writes}
use Rattle.sl_ast.specs.declared.kinds.Predefined.TheVariants as names
use Rattle.sl_ast.specs.declared.kinds.SlKind.{SlKind}
use Rattle.sl_ast.specs.declared.kinds.SlKind.TheVariants.{Surface, Displacement, Light, Volume}
use Rattle.sl_ast.specs.declared.typed.Value.{Value}
use Rattle.sl_ast.specs.declared.typed.Value.TheVariants.{Triple}
use Rattle.builtins.specs.Triples.{each_two}
use Rattle.builtins.specs.Values.{triple_of, as_kind}
use Rattle.builtins.specs.Table.{applied}
use Rattle.sl_ast.specs.declared.kinds.SlType.TheVariants.{Color}
use Rattle.sl_ast.specs.declared.operations.ValueOperation.TheVariants.{Multiply}
use Rattle.sl_meaning.specs.Environment.{Around}
use Rattle.sl_meaning.specs.Runs.{Names, ran}
use Rattle.shader_binding.specs.Sets.{SetValue, Bound, bound_at, bound_for}
use Rattle.grid_variables.specs.Points.{Leaf}
use Rattle.sl_look_ups.specs.Naming.{binding_params}
use Rattle.grid_variables.specs.Variables.{cs_at, os_at, values_at}
use Rattle.displace_shade.specs.Shaded.{displaced, shaded_by, around, lights_from}
use Rattle.grid_variables.specs.Kept.{opacity}
use Rattle.displace_shade.specs.Constant.{constant_tree, ConstantLaw}

-- a run of it
colour_of : (a : Around) (values : ℕ → List Value) (before : ℕ → Names) (i : ℕ) → ran constant_tree a values before i names.Ci ≡ as_kind Color (applied Multiply a.spaces (before i names.Os ∷ before i names.Cs ∷ []))
colour_of a values before i = refl

opacity_of : (a : Around) (values : ℕ → List Value) (before : ℕ → Names) (i : ℕ) → ran constant_tree a values before i names.Oi ≡ as_kind Color (before i names.Os)
opacity_of a values before i = refl

-- no shader writes the primitive's colour and opacity
os_kept : (k : SlKind) (x y : Value) → cond (writes k names.Os) x y ≡ y
os_kept Surface x y = refl
os_kept Displacement x y = refl
os_kept Light x y = refl
os_kept Volume x y = refl

cs_kept : (k : SlKind) (x y : Value) → cond (writes k names.Cs) x y ≡ y
cs_kept Surface x y = refl
cs_kept Displacement x y = refl
cs_kept Light x y = refl
cs_kept Volume x y = refl

os_displaced : (l : Leaf) (d : Option Bound) (i : ℕ) → displaced l d i names.Os ≡ Triple (os_at l i)
os_displaced l None i = refl
os_displaced l (Some d) i = os_kept d.tree.kind _ (Triple (os_at l i))

cs_displaced : (l : Leaf) (d : Option Bound) (i : ℕ) → displaced l d i names.Cs ≡ Triple (cs_at l i)
cs_displaced l None i = refl
cs_displaced l (Some d) i = cs_kept d.tree.kind _ (Triple (cs_at l i))

multiplied : (a : Around) (x y : Value) (p q : Vec3) → x ≡ Triple p → y ≡ Triple q → triple_of (as_kind Color (applied Multiply a.spaces (x ∷ y ∷ []))) ≡ each_two mul p q
unfolding Rattle.builtins.specs.Table.of_two
multiplied a x y p q e h = ap (λ v. triple_of (as_kind Color (applied Multiply a.spaces (v ∷ y ∷ [])))) e ∙ ap (λ v. triple_of (as_kind Color (applied Multiply a.spaces (Triple p ∷ v ∷ [])))) h

module _ (l : Leaf) (s : SetValue) (uses : List ShaderUse) (b : Bound) (is : b.tree ≡ constant_tree) where
  abbrev before : ℕ → Names
  before = displaced l (bound_for s uses l.prim.displacement)

  abbrev with_lights : Around
  with_lights = around l b (lights_from l s uses l.prim.lights)

  abbrev values : ℕ → List Value
  values = values_at l (binding_params b.tree) b.values

  colour_at : (i : ℕ) → triple_of (ran b.tree with_lights values before i names.Ci) ≡ each_two mul (os_at l i) (cs_at l i)
  colour_at i =
      ap (λ t. triple_of (ran t with_lights values before i names.Ci)) is
      ∙ ap triple_of (colour_of with_lights values before i)
      ∙ multiplied with_lights (before i names.Os) (before i names.Cs) (os_at l i) (cs_at l i) (os_displaced l (bound_for s uses l.prim.displacement) i) (cs_displaced l (bound_for s uses l.prim.displacement) i)

  opacity_at : (i : ℕ) → opacity (triple_of (ran b.tree with_lights values before i names.Oi)) ≡ opacity (os_at l i)
  opacity_at i =
      ap (λ t. opacity (triple_of (ran t with_lights values before i names.Oi))) is
      ∙ ap (λ v. opacity (triple_of v)) (opacity_of with_lights values before i)
      ∙ ap (λ v. opacity (triple_of (as_kind Color v))) (os_displaced l (bound_for s uses l.prim.displacement) i)

pub constant_law : ConstantLaw
constant_law l s uses b bound is none =
    record {
      colour = λ i. ap (λ m. triple_of (shaded_by l (bound_for s uses m) [] (shaded_by l (bound_at s uses l.prim.surface) (lights_from l s uses l.prim.lights) (displaced l (bound_for s uses l.prim.displacement))) i names.Ci)) none
          ∙ ap (λ m. triple_of (shaded_by l m (lights_from l s uses l.prim.lights) (displaced l (bound_for s uses l.prim.displacement)) i names.Ci)) bound
          ∙ colour_at l s uses b is i;
      opacity = λ i. ap (λ m. opacity (triple_of (shaded_by l (bound_for s uses m) [] (shaded_by l (bound_at s uses l.prim.surface) (lights_from l s uses l.prim.lights) (displaced l (bound_for s uses l.prim.displacement))) i names.Oi))) none
          ∙ ap (λ m. opacity (triple_of (shaded_by l m (lights_from l s uses l.prim.lights) (displaced l (bound_for s uses l.prim.displacement)) i names.Oi))) bound
          ∙ opacity_at l s uses b is i;
    }
