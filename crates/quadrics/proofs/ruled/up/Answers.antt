use Rattle.std.proofs.Common.{◌∙◌, ◌^◌, pos, ◌*ℤ◌}
use Rattle.fixed_math.proofs.Fits.{read_back}
use Rattle.patches.specs.Nets.{control}
use Rattle.quadrics.specs.Rational.{quarter, even}
use Rattle.quadrics.specs.RationalLaws.{gap}
use Rattle.quadrics.proofs.Columns.{ruled_up_is}
use Rattle.quadrics.proofs.Quadratics.{once, product_through}
use Rattle.quadrics.proofs.ruled.up.Goals as goal

pub returns : goal.returns
returns c u v h k =
    let P = control 3 c.args.points.now c.args.axis in
    let a = read_back c.rise-a.result c.rise-a.type_inv ∙ c.rise-a.ensures.value ∙ once (pos (2 ^ 48) *ℤ gap even (P 0) 0) in
    let b = read_back c.rise-b.result c.rise-b.type_inv ∙ c.rise-b.ensures.value ∙ once (pos (2 ^ 48) *ℤ gap even (P 1) 0) in
    let d = read_back c.scaled-twice.result c.scaled-twice.type_inv ∙ product_through 2 c.rise-c.result _ c.scaled-twice.result c.rise-c.type_inv c.scaled-twice.ensures.value c.rise-c.ensures.value in
    c.of_control.ensures (λ x. pos (quarter x) *ℤ (pos (2 ^ 48) *ℤ gap even (P x) 0)) a b d u h ∙ ruled_up_is c.args.points.now u v c.args.axis k
