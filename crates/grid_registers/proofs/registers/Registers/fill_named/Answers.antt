use Rattle.std.proofs.Common.{◌≤◌, length, Some, arith}
use Rattle.fixed_math.specs.Axes.{origin}
use Rattle.sl_ast.specs.declared.typed.Value.TheVariants.{Triple}
use Rattle.builtins.specs.Textures.{looked_up, image_named}
use Rattle.grid_registers.specs.Held.{texts_of}
use Rattle.grid_registers.specs.Frames.{lines_of}
use Rattle.grid_registers.specs.Operands.{operand_number}
use Rattle.grid_registers.proofs.LookUps.{looked_past, holds_same}
use Rattle.grid_registers.proofs.registers.Registers.fill_named.Goals as goal

pub returns-else-which-count-clause-each : goal.returns-else-which-count-clause-each
returns-else-which-count-clause-each g c =
    let r = c.args.self.now in
    let ps = g.T.Textures.images c.args.textures.now in
    let s = operand_number r c.args.of.s in
    let t = operand_number r c.args.of.t in
    let far = c.if-which-count.false in
    let many = c.count.ensures in
    let past : length ps ≤ c.args.which = omega (arith, far, many) in
    holds_same (texts_of r) c.blacken.new.row c.args.count (λ i. Triple origin) (looked_up (lines_of r.frame.now) (image_named ps (Some c.args.which)) s t)
    (λ i. looked_past (lines_of r.frame.now) ps c.args.which s t i past) (c.blacken.ensures.each (texts_of r))
