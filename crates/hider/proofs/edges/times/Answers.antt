use Rattle.hider.proofs.Small.{times_value, times_bound}
use Rattle.hider.proofs.edges.times.Goals as goal

pub returns-clause-value : goal.returns-clause-value
returns-clause-value c = times_value c.args.a c.args.b c.requires.small_a c.requires.small_b

pub returns-clause-bound : goal.returns-clause-bound
returns-clause-bound c = rw (times_value c.args.a c.args.b c.requires.small_a c.requires.small_b) (times_bound c.args.a c.args.b c.requires.small_a c.requires.small_b)
