use Rattle.pixel_account.specs.Stacks.{PutInFirst, cells_in_grid}
use Rattle.pixel_account.proofs.cells.put_grid.Given as goal

abbrev pub invariant-loop-k : goal.invariant-loop-k
invariant-loop-k g l = PutInFirst g.at.accepted g.at.frame (cells_in_grid l.shaded) l.k l.initial.stacks l.stacks

abbrev pub ghost-put_cells : goal.ghost-put_cells
ghost-put_cells g a = g.at
