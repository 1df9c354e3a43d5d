use Rattle.std.proofs.Common.{lit<, [], ◌∷◌, ◌^◌, ◌*◌, ◌≤◌, subst, unsigned_abs}
use Rattle.fixed_math.specs.Tensor.{blossom_net}
use Rattle.fixed_math.proofs.Fits.{floor_through, floor_abs}
use Rattle.patches.specs.Nets.{control}
use Rattle.grid_variables.proofs.bilinear.coordinate_at.Goals as goal

pub returns : goal.returns
returns c =
    let u = c.args.u in
    let v = c.args.v in
    let z = blossom_net (u ∷ []) (v ∷ []) (control 2 c.args.points.now c.args.axis) in
    let b : unsigned_abs z ≤ 2 ^ 24 * 2147483647 = subst (λ x. unsigned_abs x ≤ 2 ^ 24 * 2147483647) c.exact.ensures.value c.exact.ensures.bound in
    let f = floor_abs z (2 ^ 24) 2147483647 (lit< tt) b in
    floor_through z c.sat.result c.exact.result c.floor_by.result (2 ^ 24) f c.exact.type_inv c.floor_by.type_inv c.exact.ensures.value c.floor_by.ensures.value c.sat.ensures
