use Rattle.acceptance.proofs.Fetched.{told_pushed}
use Rattle.acceptance.proofs.shaders.read_next.Goals as goal

pub returns-clause-reads : goal.returns-clause-reads
returns-clause-reads g c =
    told_pushed (g.L.Library.held c.args.library.now) c.args.shaders.now.items c.push-2.new.self.items c.in_ok-read.read c.in_ok-read.ensures.reads c.in_ok-push-2.ensures.items
