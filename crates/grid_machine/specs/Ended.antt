-- The state that a run of code ends with.
use Rattle.std.specs.Prelude.{ℕ, ℤ, ◌*◌, List, Option}
use Rattle.texture.specs.Images.{Image}
use Rattle.builtins.specs.Textures.{image_named, entry_of}
use Rattle.transforms.specs.declared.spaces.Spaces.{Spaces}
use Rattle.sl_ast.specs.declared.typed.Value.{Value}
use Rattle.grid_code.specs.declared.shader_code.Code.{Code}
use Rattle.grid_code.specs.Masked.{Asked, State, masked}
use Rattle.grid_code.specs.View.{block_of}
use Rattle.grid_machine.specs.declared.inputs.Inputs.{Inputs}
use Rattle.grid_machine.specs.Asked.{asked_all}
use Rattle.grid_machine.specs.Run.{Leaves, lines_given, begun}

-- the image that each look-up of the code names, among these
abbrev pub given_images : List Image → Code → Inputs → ℕ → Option Image
given_images images code inputs k = image_named images (entry_of code.look_ups.nodes inputs.look_ups.now k)

-- by lights as they are asked, and textures
abbrev pub ended_under : List Asked → List Image → Code → Inputs → State
ended_under lights images code inputs =
    let c = inputs.columns * inputs.rows in
    masked (block_of code.nodes) record { lines = lines_given inputs.columns inputs.rows code.params inputs.uniforms.now; spaces = inputs.spaces.now; lights = lights; images = given_images images code inputs } c 65536 (begun code.kind code.params c inputs.uniforms.now inputs.varyings.now)

-- by textures and so many lights, each with its spaces, its code and the values of its parameters
abbrev pub ended : List Image → Code → Inputs → ℕ → (ℕ → Spaces) → (ℕ → Code) → (ℕ → List Value) → State
ended images code inputs many spaces codes values =
    ended_under (asked_all (lines_given inputs.columns inputs.rows code.params inputs.uniforms.now) (inputs.columns * inputs.rows) many spaces codes values) images code inputs

-- the rows of what the code's kind of shader writes hold, at each place, what such a run ends with
abbrev pub LeavesEnded : List Image → Code → Inputs → List ℤ → ℕ → (ℕ → Spaces) → (ℕ → Code) → (ℕ → List Value) → Type 0
LeavesEnded images code inputs out many spaces codes values = Leaves code.kind (inputs.columns * inputs.rows) out (ended images code inputs many spaces codes values)
