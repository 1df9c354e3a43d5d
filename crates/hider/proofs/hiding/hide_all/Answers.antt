use Rattle.hider.specs.CellValues.{micropolygon_of}
use Rattle.hider.proofs.Puts.{have_put_next}
use Rattle.hider.proofs.hiding.hide_all.Goals as goal

pub loop-cell-preserved : goal.loop-cell-preserved
loop-cell-preserved g c =
    have_put_next c.args.camera.now c.args.timed.now.places.grid (micropolygon_of (g.C.Cells.values c.args.cells.now) c.args.one_sided c.args.flip) c.loop-cell.cell c.args.lists.now c.loop-cell.lists c.hide_cell.new.lists
    c.loop-cell.invariant c.in_ok-hide_cell.ensures
