use Rattle.std.proofs.Common.{sym, ap, ◌∙◌, Some}
use Rattle.fixed_math.specs.Axes.{origin}
use Rattle.sl_ast.specs.declared.typed.Value.TheVariants.{Triple}
use Rattle.builtins.specs.Textures.{looked_up, image_named}
use Rattle.grid_registers.specs.Held.{texts_of}
use Rattle.grid_registers.specs.Frames.{lines_of, look_up_of}
use Rattle.grid_registers.specs.Operands.{operand_number}
use Rattle.grid_registers.proofs.LookUps.{looked_nowhere, holds_same}
use Rattle.grid_registers.proofs.registers.Registers.fill_look_ups.Goals as goal

pub returns-in-Some-clause-each : goal.returns-in-Some-clause-each
returns-in-Some-clause-each g c =
    let r = c.args.self.now in
    let lines = lines_of r.frame.now in
    let ps = g.T.Textures.images c.args.textures.now in
    let s = operand_number r c.args.of.s in
    let t = operand_number r c.args.of.t in
    holds_same (texts_of r) c.fill_named.new.row c.args.count (looked_up lines (image_named ps (Some c.in-Some.which)) s t) (look_up_of r.frame.now ps c.args.node s t)
    (λ i. ap (λ e. looked_up lines (image_named ps e) s t i) (sym c.in-Some.is ∙ c.entry.ensures)) c.fill_named.ensures.each

pub returns-in-None-clause-each : goal.returns-in-None-clause-each
returns-in-None-clause-each g c =
    let r = c.args.self.now in
    let lines = lines_of r.frame.now in
    let ps = g.T.Textures.images c.args.textures.now in
    let s = operand_number r c.args.of.s in
    let t = operand_number r c.args.of.t in
    holds_same (texts_of r) c.blacken.new.row c.args.count (λ i. Triple origin) (look_up_of r.frame.now ps c.args.node s t)
    (λ i. looked_nowhere lines ps s t i ∙ ap (λ e. looked_up lines (image_named ps e) s t i) (sym c.in-None.is ∙ c.entry.ensures)) (c.blacken.ensures.each (texts_of r))
