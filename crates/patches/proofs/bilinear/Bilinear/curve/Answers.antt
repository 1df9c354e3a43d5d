use Rattle.std.proofs.Common.{subst}
use Rattle.patches.specs.Curves.{IsCurve}
use Rattle.patches.specs.declared.curve.PolynomialCurve.{PolynomialCurve}
use Rattle.patches.specs.declared.curve.Curve.TheVariants.{Polynomial}
use Rattle.patches.specs.Nets.{bilinear_point}
use Rattle.patches.specs.Slopes.{bilinear_du, bilinear_dv}
use Rattle.patches.proofs.Isolines.{by_axis, bilinear_curve}
use Rattle.patches.proofs.bilinear.Bilinear.curve.Goals as goal

pub returns : goal.returns
returns c =
    let curve : PolynomialCurve = record { x = c.coordinate_along.result; y = c.coordinate_along-2.result; z = c.coordinate_along-3.result } in
    subst (λ ps. IsCurve (Polynomial curve) (λ u. bilinear_point ps u c.args.v) (λ u. bilinear_du ps u c.args.v) (λ u. bilinear_dv ps u c.args.v)) c.self.view_is
    (subst (λ v. IsCurve (Polynomial curve) (λ u. bilinear_point c.self.inside.points u v) (λ u. bilinear_du c.self.inside.points u v) (λ u. bilinear_dv c.self.inside.points u v)) c.numerator-v.ensures.value
    (bilinear_curve curve c.self.inside.points c.numerator-v.result c.numerator-v.ensures.bound c.self.invariant
    (by_axis _ c.coordinate_along.ensures.place c.coordinate_along-2.ensures.place c.coordinate_along-3.ensures.place)
    (by_axis _ c.coordinate_along.ensures.across c.coordinate_along-2.ensures.across c.coordinate_along-3.ensures.across)
    (by_axis _ c.coordinate_along.ensures.up c.coordinate_along-2.ensures.up c.coordinate_along-3.ensures.up)))
