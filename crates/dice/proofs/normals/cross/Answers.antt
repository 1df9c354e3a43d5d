use Rattle.dice.proofs.Directions.{factor_below, cross_below, cross_read}
use Rattle.dice.proofs.normals.cross.Goals as goal

pub minor-x-requires-clause-small_a : goal.minor-x-requires-clause-small_a
minor-x-requires-clause-small_a c = factor_below c.args.a 1 c.requires.small_a

pub minor-x-requires-clause-small_b : goal.minor-x-requires-clause-small_b
minor-x-requires-clause-small_b c = factor_below c.args.a 2 c.requires.small_a

pub minor-x-requires-clause-small_c : goal.minor-x-requires-clause-small_c
minor-x-requires-clause-small_c c = factor_below c.args.b 1 c.requires.small_b

pub minor-x-requires-clause-small_d : goal.minor-x-requires-clause-small_d
minor-x-requires-clause-small_d c = factor_below c.args.b 2 c.requires.small_b

pub minor-y-requires-clause-small_a : goal.minor-y-requires-clause-small_a
minor-y-requires-clause-small_a c = factor_below c.args.a 2 c.requires.small_a

pub minor-y-requires-clause-small_b : goal.minor-y-requires-clause-small_b
minor-y-requires-clause-small_b c = factor_below c.args.a 0 c.requires.small_a

pub minor-y-requires-clause-small_c : goal.minor-y-requires-clause-small_c
minor-y-requires-clause-small_c c = factor_below c.args.b 2 c.requires.small_b

pub minor-y-requires-clause-small_d : goal.minor-y-requires-clause-small_d
minor-y-requires-clause-small_d c = factor_below c.args.b 0 c.requires.small_b

pub minor-z-requires-clause-small_a : goal.minor-z-requires-clause-small_a
minor-z-requires-clause-small_a c = factor_below c.args.a 0 c.requires.small_a

pub minor-z-requires-clause-small_b : goal.minor-z-requires-clause-small_b
minor-z-requires-clause-small_b c = factor_below c.args.a 1 c.requires.small_a

pub minor-z-requires-clause-small_c : goal.minor-z-requires-clause-small_c
minor-z-requires-clause-small_c c = factor_below c.args.b 0 c.requires.small_b

pub minor-z-requires-clause-small_d : goal.minor-z-requires-clause-small_d
minor-z-requires-clause-small_d c = factor_below c.args.b 1 c.requires.small_b

pub returns-clause-value : goal.returns-clause-value
returns-clause-value c =
    cross_read c.args.a c.args.b c.requires.small_a c.requires.small_b c.minor-x.result c.minor-y.result c.minor-z.result c.minor-x.ensures.bound c.minor-y.ensures.bound c.minor-z.ensures.bound
    c.minor-x.ensures.value c.minor-y.ensures.value c.minor-z.ensures.value

pub returns-clause-small : goal.returns-clause-small
returns-clause-small c = cross_below c.minor-x.result c.minor-y.result c.minor-z.result c.minor-x.ensures.bound c.minor-y.ensures.bound c.minor-z.ensures.bound
