use Rattle.hider.proofs.Grids.{grid_cells_are}
use Rattle.hider.proofs.grid_cells.grid_cells_law.Goals as goal

pub returns : goal.returns
returns c =
    let g = c.args.cells.now.grid in
    grid_cells_are c.args.cells.now.smooth g.columns g.rows g.p.now g.ci.now g.oi.now c.args.one_sided c.args.flip
