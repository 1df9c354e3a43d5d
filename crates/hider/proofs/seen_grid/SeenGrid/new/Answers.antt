use Rattle.std.proofs.Common.{sym, subst, false}
use Rattle.hider.specs.CellValues.{values_of}
use Rattle.hider.specs.Flat.{AreBoxes, AreOnRaster}
use Rattle.hider.proofs.seen_grid.SeenGrid.new.Goals as goal

pub returns-clause-seen : goal.returns-clause-seen
returns-clause-seen c =
    let v = c.args.camera.now in
    let p = c.args.grid.p.now in
    let points = c.in_ok-fill_points.ensures in
    record {
      points = subst (AreOnRaster v p) (sym c.into_bump_slice.ensures) points;
      boxes = subst (AreBoxes v (values_of false c.args.grid)) (sym c.into_bump_slice-2.ensures) (c.in_ok-fill_boxes.ensures.boxes v (subst (AreOnRaster v p) (sym c.as_slice.ensures.value) points));
    }
