-- For private contracts alone: what frames have of the code that runs in them, and the machine of a light of its own.
use Rattle.std.specs.Prelude.{true, List, ◌≡◌}
use Rattle.std.specs.List.{list_all}
use Rattle.sl_ast.specs.declared.typed.Value.{Value}
use Rattle.grid_code.specs.declared.code.Register.{Register}
use Rattle.grid_code.specs.declared.shader_code.Code.{Code}
use Rattle.grid_code.specs.Names.{first_free}
use Rattle.grid_code.specs.Uses.{has, registers_from, given_registers, within}
use Rattle.grid_code.specs.View.{block_of}
pub use Rattle.grid_registers.specs.Frames.{OfCode}
use Rattle.grid_registers.specs.declared.frame.Frame.{Frame}
use Rattle.grid_machine.specs.Asked.{IsLight}
use Rattle.place_values.specs.Cells.{is_known}
use Rattle.grid_code.specs.Texts.{HasTexts, texts_in}

-- a frame has the registers that a light's code names, and the texts of its constants and its values
pub record Fits (f : Frame) (code : Code) (rs : List Register) (vs : List Value) : Type 0 where
  pub light : IsLight code vs
  pub registers : rs ≡ registers_from first_free code.params
  pub given : list_all (has f.varying.now f.uniform.now) (given_registers code.kind code.params) ≡ true
  pub named : within (has f.varying.now f.uniform.now) (block_of code.nodes) ≡ true
  pub known : list_all (is_known f.setting.texts.now) vs ≡ true
  pub texts : HasTexts f.setting.texts.now (texts_in (block_of code.nodes))
