use Rattle.std.proofs.Common.{sym, subst, false}
use Rattle.hider.specs.CellValues.{values_of}
use Rattle.hider.specs.Flat.{AreBoxes, AreOnRaster}
use Rattle.hider.proofs.hiding.hide_grid_cells.Goals as goal

pub returns : goal.returns
returns c =
    let v = c.args.camera.now in
    let grid = c.args.still.now.grid in
    let p = grid.p.now in
    let points = c.in_ok-fill_points.ensures in
    let boxes = c.in_ok-fill_boxes.ensures.boxes v (subst (AreOnRaster v p) (sym c.as_slice.ensures.value) points) in
    c.in_ok-hide_seen_grid.ensures v (record {
      points = subst (AreOnRaster v p) (sym c.as_slice-2.ensures.value) points;
      boxes = subst (AreBoxes v (values_of false grid)) (sym c.as_slice-3.ensures.value) boxes;
    })
