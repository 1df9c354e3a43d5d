-- The shaded grid of a leaf: displacement, surface and volume, one after another, each over all points (Cook, Carpenter, Catmull 1987).
use Rattle.std.specs.Prelude.{ℕ, ◌*◌, List, [], ◌∷◌, map, Option, Some, None}
use Rattle.std.specs.List.{range_with_len}
use Rattle.fixed_math.specs.declared.vec3.Vec3.{Vec3}
use Rattle.texture.specs.Images.{Image}
use Rattle.transforms.specs.Map.{Map}
use Rattle.transforms.specs.declared.spaces.Spaces.{Spaces}
use Rattle.scene.specs.declared.uses.ShaderUse.{ShaderUse}
use Rattle.sl_ast.specs.declared.kinds.Predefined.TheVariants as names
use Rattle.sl_ast.specs.declared.typed.Value.TheVariants.{Number, Triple}
use Rattle.builtins.specs.Lights.{Light}
use Rattle.builtins.specs.Textures.{image_named, entry_of}
use Rattle.builtins.specs.Values.{triple_of}
use Rattle.sl_ast.specs.Textures.{texture_nodes}
use Rattle.sl_look_ups.specs.Naming.{binding_params}
use Rattle.sl_meaning.specs.Environment.{Around}
use Rattle.sl_meaning.specs.Runs.{Names, nothing, ran, light_answer}
use Rattle.shader_binding.specs.Sets.{SetValue, Bound, bound_at, bound_for}
use Rattle.grid_variables.specs.Points.{Leaf, columns, rows, point_at, u_at, v_at, normal_of, sight, lines, dpdu, dpdv}
use Rattle.grid_variables.specs.Variables.{s_at, t_at, cs_at, os_at, n_at, values_at}
use Rattle.grid_variables.specs.Kept.{moved, opacity}

-- the variables at place i before any shader runs
abbrev pub diced_names : Leaf → ℕ → Names
diced_names l i names.P = Triple (point_at l i)
diced_names l i names.N = Triple (n_at l i)
diced_names l i names.Ng = Triple (normal_of l i)
diced_names l i names.I = Triple (sight l.camera (point_at l i))
diced_names l i names.U = Number (u_at l i)
diced_names l i names.V = Number (v_at l i)
diced_names l i names.Du = Number (lines l).du
diced_names l i names.Dv = Number (lines l).dv
diced_names l i names.S = Number (s_at l i)
diced_names l i names.T = Number (t_at l i)
diced_names l i names.Cs = Triple (cs_at l i)
diced_names l i names.Os = Triple (os_at l i)
diced_names l i names.DPdu = Triple (dpdu l i)
diced_names l i names.DPdv = Triple (dpdv l i)
diced_names l i name = nothing name

-- the maps to camera space for a shader of a primitive, and for a light, whose object space is its own
abbrev pub spaces_with : Leaf → Map → Map → Spaces
spaces_with l object shader = record { world = l.world; object = object; shader = shader; near = l.camera.near; far = l.camera.far; flip = l.prim.flip }

-- the spaces of a shader of a primitive
abbrev pub spaces_of : Leaf → Bound → Spaces
spaces_of l b = spaces_with l l.prim.object b.space

-- the spaces of a light, whose object space is its own shader space
abbrev pub light_spaces : Leaf → Bound → Spaces
light_spaces l b = spaces_with l b.space b.space

-- the lights of the primitive, in their order
abbrev pub light_of : Leaf → Bound → Vec3 → Light
light_of l b q = light_answer b.tree (light_spaces l b) b.values q

abbrev pub with_light : Leaf → Option Bound → List (Vec3 → Light) → List (Vec3 → Light)
with_light l None rest = rest
with_light l (Some b) rest = light_of l b ∷ rest

-- the lights of a list of uses, in its order
abbrev pub lights_from : Leaf → SetValue → List ShaderUse → List ℕ → List (Vec3 → Light)
lights_from l s uses [] = []
lights_from l s uses (n ∷ ns) = with_light l (bound_at s uses n) (lights_from l s uses ns)

-- the image that the look-up of that number of a use's tree names
abbrev pub image_at : Bound → ℕ → Option Image
image_at b k = image_named b.textures (entry_of (map (λ n. n.number) (texture_nodes b.tree)) b.look_ups k)

-- what nothing changes while a shader runs over a leaf: lines, spaces, lights and images
abbrev pub around : Leaf → Bound → List (Vec3 → Light) → Around
around l b lights = record { lines = lines l; spaces = spaces_of l b; lights = lights; images = image_at b }

-- a run of one shader over the grid, its parameters by places; where there is none, nothing changes
abbrev pub shaded_by : Leaf → Option Bound → List (Vec3 → Light) → (ℕ → Names) → ℕ → Names
shaded_by l None lights before = before
shaded_by l (Some b) lights before = ran b.tree (around l b lights) (values_at l (binding_params b.tree) b.values) before

-- behind the displacement: points within the bound of their old places, and seen from there
abbrev pub placed : Leaf → Names → Names → Names
placed l old new names.P = Triple (moved l.prim.bound (triple_of (old names.P)) (triple_of (new names.P)))
placed l old new names.I = Triple (sight l.camera (moved l.prim.bound (triple_of (old names.P)) (triple_of (new names.P))))
placed l old new name = new name

-- the variables at place i after the displacement
abbrev pub displaced : Leaf → Option Bound → ℕ → Names
displaced l b i = placed l (diced_names l i) (shaded_by l b [] (diced_names l) i)

-- the variables behind all three
abbrev pub shaded_names : Leaf → SetValue → List ShaderUse → ℕ → Names
shaded_names l s uses =
    let lights = lights_from l s uses l.prim.lights in
    shaded_by l (bound_for s uses l.prim.atmosphere) []
    (shaded_by l (bound_at s uses l.prim.surface) lights
    (displaced l (bound_for s uses l.prim.displacement)))

-- the grid: points, colours and opacities, by rows
pub record GridValue : Type 0 where
  pub columns : ℕ
  pub rows : ℕ
  pub points : List Vec3
  pub colours : List Vec3
  pub opacities : List Vec3

abbrev pub at_points : Leaf → (ℕ → Vec3) → List Vec3
at_points l f = map f (range_with_len 0 (columns l * rows l))

-- the shaded grid of a leaf: at each point the displaced place, and the colour and opacity that surface and volume leave
unfoldable pub shaded : Leaf → SetValue → List ShaderUse → GridValue
shaded l s uses =
    let behind = shaded_names l s uses in
    record {
      columns = columns l;
      rows = rows l;
      points = at_points l (λ i. triple_of (behind i names.P));
      colours = at_points l (λ i. triple_of (behind i names.Ci));
      opacities = at_points l (λ i. opacity (triple_of (behind i names.Oi)));
    }
