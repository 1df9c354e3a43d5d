use Rattle.transforms.proofs.Orders.{right_at_depth, up_at_depth, right_when_flat, up_when_flat}
use Rattle.transforms.proofs.camera.Camera.raster.Goals as goal

pub returns-clause-right : goal.returns-clause-right
returns-clause-right c = λ q. right_when_flat c.args.self.now c.recall.ensures c.args.p q

pub returns-clause-up : goal.returns-clause-up
returns-clause-up c = λ q. up_when_flat c.args.self.now c.recall.ensures c.args.p q

pub returns-clause-right_at_depth : goal.returns-clause-right_at_depth
returns-clause-right_at_depth c = λ q. right_at_depth c.args.self.now c.recall.ensures c.args.p q c.requires

pub returns-clause-up_at_depth : goal.returns-clause-up_at_depth
returns-clause-up_at_depth c = λ q. up_at_depth c.args.self.now c.recall.ensures c.args.p q c.requires
