use Rattle.hider.proofs.Cuts.{composite-cut}
use Rattle.hider.proofs.compositing.cut_law.Goals as goal

pub returns : goal.returns
returns c = composite-cut c.args.fragments.now
