use Rattle.patches.proofs.Rationals.{square_least}
use Rattle.patches.proofs.quadratic.RationalCurve.du.Goals as goal

pub slope-requires-clause-from : goal.slope-requires-clause-from
slope-requires-clause-from c =
    rw (c.product-under.ensures.value, c.product-square.ensures.value)
    (square_least c.factor_at-factor.result c.factor_at-factor.result c.args.self.now.across_under c.factor_at-factor.ensures.from c.factor_at-factor.ensures.from c.args.self.now.across_from)

pub slope-requires-2-clause-from : goal.slope-requires-2-clause-from
slope-requires-2-clause-from c =
    rw (c.product-under.ensures.value, c.product-square.ensures.value)
    (square_least c.factor_at-factor.result c.factor_at-factor.result c.args.self.now.across_under c.factor_at-factor.ensures.from c.factor_at-factor.ensures.from c.args.self.now.across_from)

pub slope-requires-3-clause-from : goal.slope-requires-3-clause-from
slope-requires-3-clause-from c =
    rw (c.product-under.ensures.value, c.product-square.ensures.value)
    (square_least c.factor_at-factor.result c.factor_at-factor.result c.args.self.now.across_under c.factor_at-factor.ensures.from c.factor_at-factor.ensures.from c.args.self.now.across_from)
