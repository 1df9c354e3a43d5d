use Rattle.hider.proofs.Grids.{shade_number_below, shade_read}
use Rattle.hider.proofs.grid_cells.GridCellsCells.colour.Goals as goal

pub bounds-self-shade_of : goal.bounds-self-shade_of
bounds-self-shade_of c =
    let s = c.args.self.now in
    let g = s.grid in
    shade_number_below s.smooth g.columns g.rows c.args.cell c.args.k c.shade_of.result g.ci.now g.columns_from g.rows_from c.requires.cell g.colours c.shade_of.ensures

pub returns : goal.returns
returns c =
    let s = c.args.self.now in
    let g = s.grid in
    shade_read s.smooth g.columns g.rows c.args.cell c.args.k c.shade_of.result g.ci.now c.index-self-shade_of.result g.columns_from g.rows_from c.requires.cell g.colours c.shade_of.ensures
    c.index-self-shade_of.is
