use Rattle.hider.proofs.Moves.{enclosing_order}
use Rattle.hider.proofs.moving_cell.MovingCell.is_beside.Goals as goal

pub is_over-requires-clause-order : goal.is_over-requires-clause-order
is_over-requires-clause-order g c =
    let m = c.args.self.now in
    enclosing_order (g.C.Cells.values m.cells.now) m.cell m.round m.held

pub is_aside-requires-clause-order : goal.is_aside-requires-clause-order
is_aside-requires-clause-order g c =
    let m = c.args.self.now in
    enclosing_order (g.C.Cells.values m.cells.now) m.cell m.round m.held

pub is_aside-requires-else-self-clause-order : goal.is_aside-requires-else-self-clause-order
is_aside-requires-else-self-clause-order g c =
    let m = c.args.self.now in
    enclosing_order (g.C.Cells.values m.cells.now) m.cell m.round m.held

pub is_over-requires-else-is_aside-clause-order : goal.is_over-requires-else-is_aside-clause-order
is_over-requires-else-is_aside-clause-order g c =
    let m = c.args.self.now in
    enclosing_order (g.C.Cells.values m.cells.now) m.cell m.round m.held
