use Rattle.fixed_math.proofs.Fits.{scaled_size, scaled_fits, scaled_value}
use Rattle.std.proofs.Common.{◌∙◌, ap, unsigned_abs}
use Rattle.fixed_math.proofs.exact.scaled.Goals as goal

pub overflow_mul-result : goal.overflow_mul-result
overflow_mul-result c = scaled_fits c.args.p c.args.a c.requires.small c.ranges.a.sfits c.requires.fits

pub returns-clause-value : goal.returns-clause-value
returns-clause-value c = scaled_value c.args.p c.args.a c.requires.small c.ranges.a.sfits c.requires.fits

pub returns-clause-size : goal.returns-clause-size
returns-clause-size c = ap unsigned_abs (scaled_value c.args.p c.args.a c.requires.small c.ranges.a.sfits c.requires.fits) ∙ scaled_size c.args.p c.args.a
