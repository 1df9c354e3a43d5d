use Rattle.moving.specs.WayLaws.{way-raw}
use Rattle.moving.proofs.ways.reached.Goals as goal

pub returns-clause-raw : goal.returns-clause-raw
returns-clause-raw c = way-raw c.args.steps c.args.p c.args.q c.requires c.step.ensures.start c.step.ensures.end
