use Rattle.std.proofs.Common.{arith, ℕ, ◌-◌, ◌≤◌}
use Rattle.fixed_math.proofs.Fits.{mix_abs}
use Rattle.patches.proofs.Fractions.{short_term_fits, short_mix_fits, short_mix_value}
use Rattle.patches.proofs.mixing.mix_short.Goals as goal

rest_below : (s : ℕ) → 4096 - s ≤ 4096
rest_below s = omega arith

pub overflow_sub-result : goal.overflow_sub-result
overflow_sub-result c = c.requires.from_zero

pub overflow_mul-result : goal.overflow_mul-result
overflow_mul-result c = short_term_fits (4096 - c.args.s) c.args.a (rest_below c.args.s) c.requires.small_a

pub overflow_mul-result-2 : goal.overflow_mul-result-2
overflow_mul-result-2 c = short_term_fits c.args.s c.args.b c.requires.from_zero c.requires.small_b

pub overflow_add-result : goal.overflow_add-result
overflow_add-result c = short_mix_fits (4096 - c.args.s) c.args.s c.args.a c.args.b (rest_below c.args.s) c.requires.from_zero c.requires.small_a c.requires.small_b

pub returns-clause-value : goal.returns-clause-value
returns-clause-value c = short_mix_value (4096 - c.args.s) c.args.s c.args.a c.args.b (rest_below c.args.s) c.requires.from_zero c.requires.small_a c.requires.small_b

pub returns-clause-bound : goal.returns-clause-bound
returns-clause-bound c r h k =
    rw (short_mix_value (4096 - c.args.s) c.args.s c.args.a c.args.b (rest_below c.args.s) c.requires.from_zero c.requires.small_a c.requires.small_b)
    (mix_abs (4096 - c.args.s) c.args.s c.args.a c.args.b r (omega arith) h k)
