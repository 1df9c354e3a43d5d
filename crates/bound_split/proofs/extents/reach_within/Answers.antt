use Rattle.bound_split.proofs.Meetings.{box_read}
use Rattle.bound_split.proofs.extents.reach_within.Goals as goal

pub returns : goal.returns
returns c = box_read c.args.camera.now c.args.low c.args.high c.raster_box.result c.requires.ordered c.raster_box.ensures.holds c.raster_box.ensures.value
