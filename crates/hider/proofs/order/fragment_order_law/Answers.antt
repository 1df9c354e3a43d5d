use Rattle.hider.proofs.Orders.{by_depth_only}
use Rattle.hider.proofs.order.fragment_order_law.Goals as goal

pub returns : goal.returns
returns c = by_depth_only c.args.fragments.now
