use Rattle.std.proofs.Common.{◌≡◌, get_or, pos, w32, w64, to_z, of_z}
use Rattle.transforms.specs.Raster.{raster_x, raster_y}
use Rattle.bound_split.proofs.Readings.{one_more, read_small}
use Rattle.bound_split.proofs.lengths.places_of.Goals as goal

pub loop-point-preserved : goal.loop-point-preserved
loop-point-preserved c =
    let v = c.args.camera.now in
    let p = c.point-item.result in
    let at_x : to_z w32 (of_z w32 (to_z w64 (of_z w64 (get_or c.raster.result 0 (pos 0))))) ≡ raster_x v p = rw c.raster.ensures.value (read_small (raster_x v p) c.raster.ensures.x_bound) in
    let at_y : to_z w32 (of_z w32 (to_z w64 (of_z w64 (get_or c.raster.result 1 (pos 0))))) ≡ raster_y v p = rw c.raster.ensures.value (read_small (raster_y v p) c.raster.ensures.y_bound) in
    one_more v c.args.points.now c.loop-point.point-index p _ _ c.loop-point.places.items c.push.new.self.items c.loop-point-test.true c.point-item.is c.loop-point.invariant at_x at_y c.push.ensures.items
