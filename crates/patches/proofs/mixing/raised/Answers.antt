use Rattle.patches.proofs.Fractions.{term_fits, raised_fits, raised_value, raised_below}
use Rattle.patches.proofs.mixing.raised.Goals as goal

pub overflow_mul-result : goal.overflow_mul-result
overflow_mul-result c = term_fits c.args.s c.args.a c.requires.from_zero c.requires.small_a

pub overflow_add-result : goal.overflow_add-result
overflow_add-result c = raised_fits c.args.s c.args.a c.args.b c.requires.from_zero c.requires.small_a c.requires.small_b

pub returns-clause-value : goal.returns-clause-value
returns-clause-value c = raised_value c.args.s c.args.a c.args.b c.requires.from_zero c.requires.small_a c.requires.small_b

pub returns-clause-bound : goal.returns-clause-bound
returns-clause-bound c = raised_below c.args.s c.args.a c.args.b c.requires.from_zero c.requires.small_a c.requires.small_b
