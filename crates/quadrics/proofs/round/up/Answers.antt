use Rattle.std.proofs.Common.{◌∙◌, ◌^◌, pos, ◌*ℤ◌}
use Rattle.fixed_math.proofs.Fits.{read_back}
use Rattle.patches.specs.Nets.{control}
use Rattle.patches.specs.RationalCurves.{turn_at}
use Rattle.quadrics.specs.Rational.{quarter}
use Rattle.quadrics.proofs.Columns.{round_up_is}
use Rattle.quadrics.proofs.Quadratics.{once, product_through}
use Rattle.quadrics.proofs.round.up.Goals as goal

pub returns : goal.returns
returns c u h =
    let P = control 3 c.args.points.now c.args.axis in
    let v = c.args.v in
    let a = read_back c.turn-a.result c.turn-a.type_inv ∙ c.turn-a.ensures.value ∙ once (pos (2 ^ 24) *ℤ turn_at v (λ y. pos (quarter y) *ℤ P 0 y)) in
    let b = read_back c.turn-b.result c.turn-b.type_inv ∙ c.turn-b.ensures.value ∙ once (pos (2 ^ 24) *ℤ turn_at v (λ y. pos (quarter y) *ℤ P 1 y)) in
    let d = read_back c.scaled-twice.result c.scaled-twice.type_inv ∙ product_through 2 c.turn-c.result _ c.scaled-twice.result c.turn-c.type_inv c.scaled-twice.ensures.value c.turn-c.ensures.value in
    c.of_control.ensures (λ x. pos (quarter x) *ℤ (pos (2 ^ 24) *ℤ turn_at v (λ y. pos (quarter y) *ℤ P x y))) a b d u h ∙ round_up_is c.args.points.now u v c.args.axis c.requires
