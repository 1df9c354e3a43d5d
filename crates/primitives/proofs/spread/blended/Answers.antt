use Rattle.std.proofs.Common.{lit<, ◌^◌, ◌*◌, ◌≤◌, subst, unsigned_abs}
use Rattle.fixed_math.specs.Blossom.{mix}
use Rattle.fixed_math.proofs.Fits.{floor_through, floor_abs}
use Rattle.primitives.proofs.spread.blended.Goals as goal

pub returns : goal.returns
returns c =
    let z = mix c.args.v (mix c.args.u c.args.a c.args.b) (mix c.args.u c.args.c c.args.d) in
    let b : unsigned_abs z ≤ 2 ^ 24 * 2147483647 = subst (λ x. unsigned_abs x ≤ 2 ^ 24 * 2147483647) c.exact.ensures.value c.exact.ensures.bound in
    let f = floor_abs z (2 ^ 24) 2147483647 (lit< tt) b in
    floor_through z c.sat.result c.exact.result c.floor_by.result (2 ^ 24) f c.exact.type_inv c.floor_by.type_inv c.exact.ensures.value c.floor_by.ensures.value c.sat.ensures
