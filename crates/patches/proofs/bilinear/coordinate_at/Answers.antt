use Rattle.std.proofs.Common.{◌∙◌, to_z, of_z, arith, lit<, [], ◌∷◌, ◌^◌, ◌*◌, ◌+◌}
use Rattle.fixed_math.specs.Tensor.{blossom_net}
use Rattle.fixed_math.proofs.Fits.{floor_through, floor_abs, blossom_net_abs}
use Rattle.std.specs.Int.{w64}
use Rattle.patches.specs.Nets.{control}
use Rattle.patches.proofs.Fractions.{same_64, short_fits}
use Rattle.patches.proofs.bilinear.coordinate_at.Goals as goal

pub returns : goal.returns
returns c =
    let u = c.args.u in
    let v = c.args.v in
    let z = blossom_net (u ∷ []) (v ∷ []) (control 2 c.args.points.now c.args.axis) in
    let b = blossom_net_abs (u ∷ []) (v ∷ []) (control 2 c.args.points.now c.args.axis) (2 ^ 30) (omega arith, c.requires.across, tt) (omega arith, c.requires.up, tt) (λ x y. c.requires.small (2 * y + x) c.args.axis) in
    let f = floor_abs z (2 ^ 24) (2 ^ 30) (lit< tt) (omega (arith, b)) in
    floor_through z c.sat.result (to_z w64 (of_z w64 c.exact.result)) c.floor_by.result (2 ^ 24) (omega (arith, f)) (short_fits c.exact.result (omega (arith, c.exact.ensures.bound))) c.floor_by.type_inv
    (same_64 c.exact.result (omega (arith, c.exact.ensures.bound)) ∙ c.exact.ensures.value) c.floor_by.ensures.value c.sat.ensures
