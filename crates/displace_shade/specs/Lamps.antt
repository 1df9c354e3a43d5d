-- The lights of a primitive as they are run: each with its shader and its spaces.
use Rattle.std.specs.Prelude.{◌≡◌, ℕ, ◌*◌, ℤ, false, List, All, length, map}
use Rattle.fixed_math.specs.declared.vec3.Vec3.{Vec3}
use Rattle.sl_ast.specs.declared.kinds.SlKind.TheVariants as kinds
use Rattle.sl_ast.specs.Names.{is_light}
use Rattle.sl_ast.specs.TreeView.{tree_of}
use Rattle.builtins.specs.Differences.{Lines}
use Rattle.builtins.specs.Lights.{Light}
use Rattle.sl_ast.specs.declared.typed.Value.{Value}
use Rattle.grid_code.specs.Masked.{Asked, Ground, masked}
use Rattle.grid_code.specs.View.{block_of}
use Rattle.grid_code.specs.Shapes.{register_shape}
use Rattle.builtins.specs.Shapes.{shape}
use Rattle.grid_machine.specs.Run.{rows_of, uniform_inputs, varying_inputs, written_names, lines_given, begun, Leaves}
use Rattle.grid_machine.specs.Asked.{asked}
use Rattle.grid_variables.specs.Points.{Leaf, columns, rows as row_count}
use Rattle.grid_variables.specs.Places.{point_count, over}
use Rattle.place_rows.specs.Layout.{row_length}
use Rattle.grid_rows.specs.Rows.{triple_in}
use Rattle.displace_shade.specs.Shaded.{spaces_of, light_spaces, light_of, image_at}
use Rattle.displace_shade.specs.Shop.{bound_value}
use Rattle.displace_shade.specs.Stages.{Runs}
use Rattle.displace_shade.specs.declared.bound.BoundShader.{BoundShader}
use Rattle.displace_shade.specs.declared.lamps.Lamp.{Lamp}

-- a shader of a light, in the spaces of a light
pub record IsLamp (l : Leaf) (x : Lamp) : Type 0 where
  pub runs : Runs x.shader
  pub kind : (tree_of x.shader.compiled.now.tree).kind ≡ kinds.Light
  pub spaces : x.spaces.now ≡ light_spaces l (bound_value x.shader)

-- what its shader answers at a point
abbrev pub lamp_light : Leaf → Lamp → Vec3 → Light
lamp_light l x = light_of l (bound_value x.shader)

-- what its code answers at all places of a grid at once
abbrev pub lamp_asked : Lines → ℕ → Lamp → Asked
lamp_asked lines c x = asked lines c x.spaces.now x.shader.compiled.now.code x.shader.values.now

-- what a run of a shader with these uniform values and rows leaves under lights that are asked so
abbrev pub lines_by : Leaf → BoundShader → List Value → Lines
lines_by l b uniforms = lines_given (columns l) (row_count l) b.compiled.now.code.params uniforms

abbrev pub ground_by : Leaf → BoundShader → List Value → List Asked → Ground
ground_by l b uniforms lights = record { lines = lines_by l b uniforms; spaces = spaces_of l (bound_value b); lights = lights; images = image_at (bound_value b) }

abbrev pub IsLeftUnder : Leaf → BoundShader → List Asked → List Value → List ℤ → List ℤ → Type 0
IsLeftUnder l b lights uniforms rows out =
    let code = b.compiled.now.code in
    let c = point_count l in
    Leaves code.kind c out (masked (block_of code.nodes) (ground_by l b uniforms lights) c 65536 (begun code.kind code.params c uniforms rows))

-- the same under these lamps
abbrev pub IsLeft : Leaf → BoundShader → List Lamp → List Value → List ℤ → List ℤ → Type 0
IsLeft l b lamps uniforms rows out = IsLeftUnder l b (map (lamp_asked (lines_by l b uniforms) (point_count l)) lamps) uniforms rows out

-- such a run has left these triples in its first three rows and in the three behind them
pub record AreLeft (l : Leaf) (b : BoundShader) (lamps : List Lamp) (uniforms : List Value) (rows : List ℤ) (first second : List Vec3) : Type 0 where
  pub out : List ℤ
  pub left : IsLeft l b lamps uniforms rows out
  pub in_first : first ≡ over (point_count l) (triple_in out (row_length (point_count l)) 0)
  pub in_second : second ≡ over (point_count l) (triple_in out (row_length (point_count l)) 3)

-- a shader that writes six rows is given lights, values of the shapes of its uniform inputs, and its varying rows
pub record IsGiven (l : Leaf) (b : BoundShader) (xs : List Lamp) (us : List Value) (given : List ℤ) : Type 0 where
  pub kind : is_light b.compiled.now.code.kind ≡ false
  pub written : rows_of (written_names b.compiled.now.code.kind) ≡ 6
  pub lamps : All (IsLamp l) xs
  pub uniforms : map shape us ≡ map register_shape (uniform_inputs b.compiled.now.code.kind b.compiled.now.code.params)
  pub rows : length given ≡ rows_of (varying_inputs b.compiled.now.code.kind b.compiled.now.code.params) * row_length (point_count l)
