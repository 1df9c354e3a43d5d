use Rattle.pixel_account.specs.Grids.{leaf_in}
use Rattle.pixel_account.proofs.cells.put_cell.Given as goal

abbrev pub ghost-cell_of : goal.ghost-cell_of
ghost-cell_of g a = leaf_in g.at.frame a.shaded.now
