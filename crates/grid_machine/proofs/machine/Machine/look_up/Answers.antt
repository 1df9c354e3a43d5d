use Rattle.std.proofs.Common.{◌<◌, sym, ap, ◌∙◌, subst, arith}
use Rattle.builtins.specs.Textures.{textured}
use Rattle.builtins.specs.Values.{number_of}
use Rattle.builtins.specs.declared.shape.Shape.TheVariants as shapes
use Rattle.grid_code.specs.declared.code.Register.TheVariants.{Uniform}
use Rattle.grid_code.specs.Masked.{reads}
use Rattle.grid_code.specs.Uses.{has}
use Rattle.grid_registers.proofs.Operands.{item_passes}
use Rattle.grid_registers.specs.Operands.{operand_number}
use Rattle.place_rows.specs.Banks.{held}
use Rattle.place_values.specs.Cells.{value_of}
use Rattle.grid_machine.specs.State.{state_of, lines_of, images_of, texts_of}
use Rattle.grid_machine.proofs.LookUps.{three_long, look_up_reads, look_up_shape}
use Rattle.grid_machine.proofs.Shapes.{read_held}
use Rattle.grid_machine.proofs.machine.Machine.look_up.Goals as goal

pub operand-s-requires-clause-has : goal.operand-s-requires-clause-has
operand-s-requires-clause-has t c =
    let f = c.args.self.now.registers.frame.now in
    item_passes (has f.varying.now f.uniform.now) c.args.args.now 1 (Uniform shapes.Number 0) (let l = three_long c.args.args.now c.requires.three in omega arith) c.requires.args

pub operand-t-requires-clause-has : goal.operand-t-requires-clause-has
operand-t-requires-clause-has t c =
    let f = c.args.self.now.registers.frame.now in
    item_passes (has f.varying.now f.uniform.now) c.args.args.now 2 (Uniform shapes.Number 0) (let l = three_long c.args.args.now c.requires.three in omega arith) c.requires.args

pub returns-clause-near : goal.returns-clause-near
returns-clause-near t c =
    let m = c.args.self.now in
    let r = m.registers in
    let frame = r.frame.now in
    let lines = lines_of frame in
    let p = images_of frame (t.T.Textures.images c.args.textures.now) c.args.node in
    let qs = c.args.args.now in
    let s = operand_number r c.operand-s.result in
    let q = operand_number r c.operand-t.result in
    let is = look_up_reads lines p (state_of m) qs _ _ s q c.requires.three
    (λ i. ap number_of (c.operand-s.ensures.same i ∙ read_held m _ i)) (λ i. ap number_of (c.operand-t.ensures.same i ∙ read_held m _ i)) in
    c.commit.ensures.near (textured lines p (reads (state_of m) qs)) (λ j l.
    let at = look_up_shape lines p s q j ∙ c.requires.shape in
    ap (λ k. value_of (texts_of r) (held c.fill_look_ups.new.row k j)) (sym at) ∙ c.fill_look_ups.ensures.each j (subst (λ n. j < n) (sym c.reach-count.ensures) l) ∙ is j)
