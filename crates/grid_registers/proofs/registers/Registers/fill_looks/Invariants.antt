use Rattle.std.proofs.Common.{◌≡◌, Some}
use Rattle.builtins.specs.declared.shape.Shape.{Shape}
use Rattle.builtins.specs.Textures.{looked_up, image_named}
use Rattle.place_rows.specs.Banks.{size}
use Rattle.grid_registers.specs.Held.{texts_of}
use Rattle.grid_registers.specs.Frames.{lines_of}
use Rattle.grid_registers.specs.Operands.{operand_number}
use Rattle.grid_registers.proofs.Filled.{Filled}
use Rattle.grid_registers.proofs.registers.Registers.fill_looks.Given as goal

abbrev pub invariant-loop-place : goal.invariant-loop-place
invariant-loop-place t l =
    let ps = t.T.Textures.images l.initial.textures in
    ((s : Shape) → size l.row s ≡ size l.initial.row s)
    × (Filled (texts_of l.self) l.row (looked_up (lines_of l.self.frame.now) (image_named ps (Some l.which)) (operand_number l.self l.fn.of.s) (operand_number l.self l.fn.of.t)) l.place × (t.T.Textures.images l.textures ≡ ps))
