-- For private contracts alone: the lines of a frame, where its code stands, and the code that it is for.
use Rattle.std.specs.Prelude.{◌≡◌, ℕ, ℤ, List, [], map, ◌++◌, Option, None}
use Rattle.texture.specs.Images.{Image}
use Rattle.sl_ast.specs.declared.typed.Value.{Value}
use Rattle.builtins.specs.Differences.{Lines}
use Rattle.builtins.specs.Textures.{image_named, entry_of, looked_up}
use Rattle.grid_code.specs.Masked.{Ground}
use Rattle.grid_code.specs.Texts.{texts_in, texts_of_all}
use Rattle.grid_code.specs.View.{block_of}
use Rattle.grid_code.specs.declared.shader_code.Code.{Code}
use Rattle.grid_registers.specs.declared.frame.Frame.{Frame}

-- the grid's lines and steps, as a frame has them
abbrev pub lines_of : Frame → Lines
lines_of f = record { columns = f.columns; rows = f.rows; du = f.steps.du; dv = f.steps.dv }

-- what nothing changes while a frame's code runs
abbrev pub ground_of : Frame → Ground
ground_of f = record { lines = lines_of f; spaces = f.setting.spaces.now; lights = []; images = λ k. None }

-- the image that each look-up of the frame's code names, among these
abbrev pub images_of : Frame → List Image → ℕ → Option Image
images_of f ps k = image_named ps (entry_of f.look_ups.now.nodes f.entries.now k)

-- what the look-up of a node gives at each place, by the coordinates that it has there
abbrev pub look_up_of : Frame → List Image → ℕ → (ℕ → ℤ) → (ℕ → ℤ) → ℕ → Value
look_up_of f images k s t = looked_up (lines_of f) (images_of f images k) s t

-- a frame's registers and look-ups are those of code, and its texts those of values and of the code's constants
pub record OfCode (f : Frame) (code : Code) (vs : List Value) : Type 0 where
  pub varying : f.varying.now ≡ code.varying
  pub uniform : f.uniform.now ≡ code.uniform
  pub look_ups : f.look_ups.now ≡ code.look_ups
  pub texts : map (λ t. t.now) f.setting.texts.now ≡ texts_of_all vs ++ texts_in (block_of code.nodes)
