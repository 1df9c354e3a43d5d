use Rattle.std.proofs.Common.{◌∙◌, pos, ◌-ℤ◌, arith}
use Rattle.std.proofs.lemmas.Int.{ints}
use Rattle.fixed_math.proofs.Exps.{with_exponent_above, with_exponent_below}
use Rattle.fixed_math.proofs.power.with_exponent.Goals as goal

pub returns-then-w-ge15 : goal.returns-then-w-ge15
returns-then-w-ge15 c = c.from_raw.ensures ∙ with_exponent_above c.args.m (c.args.w -ℤ pos 14) c.requires.low (omega (arith, ints))

pub returns-then-w-ltminus40 : goal.returns-then-w-ltminus40
returns-then-w-ltminus40 c =
    c.from_raw-then-w-ltminus40.ensures ∙ with_exponent_below c.args.m (c.args.w -ℤ pos 14) (omega arith) (omega (arith, ints))
