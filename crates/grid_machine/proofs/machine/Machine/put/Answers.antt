use Rattle.std.proofs.Common.{sym, ap, ◌∙◌}
use Rattle.builtins.specs.Shapes.{shape}
use Rattle.grid_code.specs.Masked.{result_of}
use Rattle.place_rows.specs.Banks.{held}
use Rattle.place_values.specs.Cells.{value_of}
use Rattle.grid_machine.specs.State.{state_of, ground_of, texts_of}
use Rattle.grid_machine.proofs.Shapes.{result_shape, result_held}
use Rattle.grid_machine.proofs.machine.Machine.put.Goals as goal

pub returns-clause-near : goal.returns-clause-near
returns-clause-near c =
    let m = c.args.self.now in
    let w = ground_of m.registers.frame.now in
    let o = c.args.source.now in
    c.commit.ensures.near (result_of o w (state_of m)) (λ j l.
    let is = c.work-work.ensures.same j ∙ result_held m w o j in
    let at = ap shape is ∙ result_shape m w o j ∙ c.requires.shape in
    ap (λ s. value_of (texts_of m.registers) (held c.compute.new.row s j)) (sym at) ∙ c.compute.ensures.each j l ∙ is)
