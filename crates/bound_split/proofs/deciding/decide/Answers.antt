use Rattle.bound_split.proofs.Fitting.{decision-fits}
use Rattle.bound_split.proofs.deciding.decide.Goals as goal

pub returns-clause-fits : goal.returns-clause-fits
returns-clause-fits g c =
    rw c.by_net.ensures (decision-fits c.args.camera.now c.args.rate c.args.bound c.net_width.result c.as_slice.result.now c.args.piece.now)
