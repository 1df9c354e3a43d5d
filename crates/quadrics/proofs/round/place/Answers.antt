use Rattle.std.proofs.Common.{◌∙◌, [], ◌∷◌, pos, ◌*ℤ◌}
use Rattle.fixed_math.specs.Blossom.{blossom}
use Rattle.fixed_math.proofs.Fits.{read_back}
use Rattle.patches.specs.Nets.{control}
use Rattle.quadrics.specs.Rational.{quarter}
use Rattle.quadrics.proofs.Columns.{round_place_is}
use Rattle.quadrics.proofs.Quadratics.{once, product_through}
use Rattle.quadrics.proofs.round.place.Goals as goal

pub returns : goal.returns
returns c u h =
    let P = control 3 c.args.points.now c.args.axis in
    let v = c.args.v in
    let a = read_back c.column-a.result c.column-a.type_inv ∙ c.column-a.ensures.value ∙ once (blossom (v ∷ v ∷ []) (λ y. pos (quarter y) *ℤ P 0 y) 0) in
    let b = read_back c.column-b.result c.column-b.type_inv ∙ c.column-b.ensures.value ∙ once (blossom (v ∷ v ∷ []) (λ y. pos (quarter y) *ℤ P 1 y) 0) in
    let d = read_back c.scaled-twice.result c.scaled-twice.type_inv ∙ product_through 2 c.column-c.result _ c.scaled-twice.result c.column-c.type_inv c.scaled-twice.ensures.value c.column-c.ensures.value in
    c.of_control.ensures (λ x. pos (quarter x) *ℤ blossom (v ∷ v ∷ []) (λ y. pos (quarter y) *ℤ P x y) 0) a b d u h ∙ round_place_is c.args.points.now u v c.args.axis
