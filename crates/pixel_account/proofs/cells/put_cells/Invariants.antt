use Rattle.std.specs.Prelude.{map}
use Rattle.std.specs.List.{range_with_len}
use Rattle.pixel_account.specs.Stacks.{PutIn, cell_in_grid}
use Rattle.pixel_account.proofs.cells.put_cells.Given as goal

abbrev pub invariant-loop-cell : goal.invariant-loop-cell
invariant-loop-cell g l = PutIn g.at.accepted g.at.frame (map (cell_in_grid l.shaded) (range_with_len 0 l.cell)) l.initial.stack l.stack

abbrev pub ghost-put_cell : goal.ghost-put_cell
ghost-put_cell g a = g.at
