use Rattle.std.proofs.Common.{◌≡◌, ◌+◌, ◌<◌, sym, ap, ◌∙◌, subst}
use Rattle.builtins.specs.Shapes.{shape}
use Rattle.grid_code.specs.Shapes.{register_shape}
use Rattle.place_rows.specs.Banks.{held}
use Rattle.place_values.specs.Cells.{value_of}
use Rattle.grid_machine.specs.Run.{value_in}
use Rattle.grid_machine.specs.State.{texts_of}
use Rattle.grid_machine.proofs.Loads.{value_in_shape}
use Rattle.grid_machine.proofs.machine.Machine.load.Goals as goal

pub returns-clause-near : goal.returns-clause-near
returns-clause-near c =
    let ts = texts_of c.args.self.now.registers in
    let rows = c.args.rows.now in
    let w = c.args.width in
    let row = c.fill.new.row in
    c.commit.ensures.near (λ i. value_in (register_shape c.args.to) rows w (c.args.start + i)) (λ j l.
    let at = c.args.start + j in
    let h = c.fill.ensures.each ts j (subst (λ n. j < n) (sym c.reach-count.ensures) l) in
    ap (λ s. value_of ts (held row s j)) (sym (value_in_shape (register_shape c.args.to) rows w at))
    ∙ subst (λ s. value_of ts (held row (shape (value_in s rows w at)) j) ≡ value_in s rows w at) c.shape_of.ensures h)
