use Rattle.std.proofs.Common.{arith}
use Rattle.dice.proofs.Directions.{short_factor, short_cross_below, short_cross_read}
use Rattle.dice.proofs.normals.short_cross.Goals as goal

pub short_minor-x-requires-clause-small_a : goal.short_minor-x-requires-clause-small_a
short_minor-x-requires-clause-small_a c = short_factor c.args.a 1 (omega arith) c.requires.short_a

pub short_minor-x-requires-clause-small_b : goal.short_minor-x-requires-clause-small_b
short_minor-x-requires-clause-small_b c = short_factor c.args.a 2 (omega arith) c.requires.short_a

pub short_minor-x-requires-clause-small_c : goal.short_minor-x-requires-clause-small_c
short_minor-x-requires-clause-small_c c = short_factor c.args.b 1 (omega arith) c.requires.short_b

pub short_minor-x-requires-clause-small_d : goal.short_minor-x-requires-clause-small_d
short_minor-x-requires-clause-small_d c = short_factor c.args.b 2 (omega arith) c.requires.short_b

pub short_minor-y-requires-clause-small_a : goal.short_minor-y-requires-clause-small_a
short_minor-y-requires-clause-small_a c = short_factor c.args.a 2 (omega arith) c.requires.short_a

pub short_minor-y-requires-clause-small_b : goal.short_minor-y-requires-clause-small_b
short_minor-y-requires-clause-small_b c = short_factor c.args.a 0 (omega arith) c.requires.short_a

pub short_minor-y-requires-clause-small_c : goal.short_minor-y-requires-clause-small_c
short_minor-y-requires-clause-small_c c = short_factor c.args.b 2 (omega arith) c.requires.short_b

pub short_minor-y-requires-clause-small_d : goal.short_minor-y-requires-clause-small_d
short_minor-y-requires-clause-small_d c = short_factor c.args.b 0 (omega arith) c.requires.short_b

pub short_minor-z-requires-clause-small_a : goal.short_minor-z-requires-clause-small_a
short_minor-z-requires-clause-small_a c = short_factor c.args.a 0 (omega arith) c.requires.short_a

pub short_minor-z-requires-clause-small_b : goal.short_minor-z-requires-clause-small_b
short_minor-z-requires-clause-small_b c = short_factor c.args.a 1 (omega arith) c.requires.short_a

pub short_minor-z-requires-clause-small_c : goal.short_minor-z-requires-clause-small_c
short_minor-z-requires-clause-small_c c = short_factor c.args.b 0 (omega arith) c.requires.short_b

pub short_minor-z-requires-clause-small_d : goal.short_minor-z-requires-clause-small_d
short_minor-z-requires-clause-small_d c = short_factor c.args.b 1 (omega arith) c.requires.short_b

pub returns-clause-value : goal.returns-clause-value
returns-clause-value c =
    short_cross_read c.args.a c.args.b c.requires.short_a c.requires.short_b c.short_minor-x.result c.short_minor-y.result c.short_minor-z.result c.short_minor-x.ensures.bound c.short_minor-y.ensures.bound c.short_minor-z.ensures.bound
    c.short_minor-x.ensures.value c.short_minor-y.ensures.value c.short_minor-z.ensures.value

pub returns-clause-small : goal.returns-clause-small
returns-clause-small c = short_cross_below c.short_minor-x.result c.short_minor-y.result c.short_minor-z.result c.short_minor-x.ensures.bound c.short_minor-y.ensures.bound c.short_minor-z.ensures.bound
