use Rattle.lanes.proofs.Inverses.{fine_shifted}
use Rattle.lanes.proofs.fine.Fine.serves.Goals as goal

pub returns : goal.returns
returns c low =
    fine_shifted c.args.n c.args.self.zeros c.args.self.factor c.requires c.args.self.few c.if-length-ge4294967296.false c.if-product-ne524288.false low
