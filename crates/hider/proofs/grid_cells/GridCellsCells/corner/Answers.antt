use Rattle.std.proofs.Common.{ap, ◌∙◌}
use Rattle.hider.specs.CellValues.{corner_number}
use Rattle.hider.proofs.Grids.{corner_number_below, corner_read}
use Rattle.hider.proofs.grid_cells.GridCellsCells.corner.Goals as goal

pub bounds-self-corner_of : goal.bounds-self-corner_of
bounds-self-corner_of c =
    let g = c.args.self.now.grid in
    corner_number_below g.columns g.rows c.args.cell c.args.k c.corner_of.result g.p.now g.columns_from g.rows_from c.requires.cell g.points
    (c.corner_of.ensures ∙ ap (λ n. corner_number g.columns n c.args.k) c.first_of.ensures)

pub returns : goal.returns
returns c =
    let g = c.args.self.now.grid in
    corner_read g.columns g.rows c.args.cell c.args.k c.corner_of.result g.p.now c.index-self-corner_of.result g.columns_from g.rows_from c.requires.cell g.points
    (c.corner_of.ensures ∙ ap (λ n. corner_number g.columns n c.args.k) c.first_of.ensures) c.index-self-corner_of.is
