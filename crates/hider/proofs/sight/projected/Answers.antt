use Rattle.hider.proofs.Sights.{all_in_depth}
use Rattle.hider.proofs.sight.projected.Goals as goal

pub corner_of-requires : goal.corner_of-requires
corner_of-requires c = (all_in_depth c.args.camera.now c.args.cell.now c.requires).0

pub corner_of-requires-2 : goal.corner_of-requires-2
corner_of-requires-2 c = (all_in_depth c.args.camera.now c.args.cell.now c.requires).1

pub corner_of-requires-3 : goal.corner_of-requires-3
corner_of-requires-3 c = (all_in_depth c.args.camera.now c.args.cell.now c.requires).2

pub corner_of-requires-4 : goal.corner_of-requires-4
corner_of-requires-4 c = (all_in_depth c.args.camera.now c.args.cell.now c.requires).3
