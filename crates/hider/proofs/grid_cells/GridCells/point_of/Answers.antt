use Rattle.std.proofs.Common.{◌∙◌, ap, arith}
use Rattle.hider.specs.CellValues.{corner_number}
use Rattle.hider.proofs.Grids.{corner_number_below}
use Rattle.hider.proofs.grid_cells.GridCells.point_of.Goals as goal

pub returns-clause-inside : goal.returns-clause-inside
returns-clause-inside c =
    let g = c.args.self.now.grid in
    let inside = corner_number_below g.columns g.rows c.args.cell c.args.k c.corner_of.result g.p.now g.columns_from g.rows_from c.requires.cell g.points
    (c.corner_of.ensures ∙ ap (λ n. corner_number g.columns n c.args.k) c.first_of.ensures) in
    omega (arith, inside, g.points)
