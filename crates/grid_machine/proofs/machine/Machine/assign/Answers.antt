use Rattle.std.proofs.Common.{sym, ap, ◌∙◌}
use Rattle.builtins.specs.Shapes.{shape}
use Rattle.place_rows.specs.Banks.{held}
use Rattle.place_values.specs.Cells.{value_of}
use Rattle.grid_machine.specs.State.{texts_of}
use Rattle.grid_machine.proofs.machine.Machine.assign.Goals as goal

pub returns-clause-near : goal.returns-clause-near
returns-clause-near c =
    let m = c.args.self.now in
    let v = c.args.value.now in
    c.commit.ensures.near (λ i. v) (λ j l.
    let is = c.cell.ensures in
    let at = ap shape is ∙ c.requires.shape in
    ap (λ s. value_of (texts_of m.registers) (held c.compute.new.row s j)) (sym at) ∙ c.compute.ensures.each j l ∙ is)
