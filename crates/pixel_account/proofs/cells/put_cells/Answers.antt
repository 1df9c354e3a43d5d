use Rattle.pixel_account.specs.Stacks.{cell_in_grid}
use Rattle.pixel_account.proofs.Puts.{put_more}
use Rattle.pixel_account.proofs.cells.put_cells.Goals as goal

pub loop-cell-preserved : goal.loop-cell-preserved
loop-cell-preserved g c =
    put_more g.at.accepted g.at.frame (cell_in_grid c.args.shaded.now) c.loop-cell.cell c.args.stack.now c.loop-cell.stack c.put_cell.new.stack c.loop-cell.invariant c.in_ok-put_cell.ensures
