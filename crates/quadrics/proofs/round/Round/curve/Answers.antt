use Rattle.std.proofs.Common.{◌≡◌, ◌∙◌, ap, arith, ◌*◌, ◌^◌, ◌≤◌}
use Rattle.std.proofs.Math.Nat.{mul-le-mul}
use Rattle.patches.specs.RationalCurves.{factor_at}
use Rattle.patches.proofs.Isolines.{by_axis}
use Rattle.quadrics.proofs.QuadricCurves.{round_curve, renamed_round}
use Rattle.quadrics.proofs.round.Round.curve.Goals as goal

pub overflow_mul-square : goal.overflow_mul-square
overflow_mul-square c =
    let h = c.factor_at-under.ensures.to in
    let e : c.factor_at-under.result * c.factor_at-under.result ≤ 2 ^ 25 * 2 ^ 25 = mul-le-mul h h in omega (arith, e)

pub returns : goal.returns
returns c =
    let is : c.factor_at-under.result ≡ factor_at c.numerator-v.result = c.factor_at-under.ensures.value in
    renamed_round _ _ _ _ _ c.self.view_is c.numerator-v.ensures.value
    (round_curve _ c.self.inside.points c.numerator-v.result c.off_pole-off.result c.numerator-v.ensures.bound c.off_pole-off.ensures.bound c.off_pole-off.ensures.value c.self.invariant
    is c.factor_at.ensures.value (ap (λ n. n * c.factor_at-under.result) is ∙ ap (λ n. factor_at c.numerator-v.result * n) is)
    (by_axis _ c.coordinate.ensures.place c.coordinate-2.ensures.place c.coordinate-3.ensures.place)
    (by_axis _ c.coordinate.ensures.across c.coordinate-2.ensures.across c.coordinate-3.ensures.across)
    (by_axis _ c.coordinate.ensures.up c.coordinate-2.ensures.up c.coordinate-3.ensures.up))
