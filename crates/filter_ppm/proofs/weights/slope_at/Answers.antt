use Rattle.std.proofs.Common.{◌≡◌, ◌∙◌, ap, to_z, of_z, arith, refl, ◌*◌}
use Rattle.std.specs.Int.{w128}
use Rattle.std.specs.Prelude.{pos, ◌*ℤ◌, ◌-ℤ◌, unsigned_abs}
use Rattle.std.proofs.lemmas.Int.{ints}
use Rattle.fixed_math.specs.Fixed.{sat}
use Rattle.fixed_math.proofs.Fits.{read_back}
use Rattle.filter_ppm.specs.Weight.{slope}
use Rattle.filter_ppm.proofs.Filters.{slope_raw, slope_range, read_whole}
use Rattle.filter_ppm.proofs.weights.slope_at.Goals as goal

value_is : goal.returns-clause-value
unfolding slope
value_is c =
    let d = c.args.d in
    let w = c.args.width in
    let u : c.unsigned_abs.result ≡ unsigned_abs d = c.unsigned_abs.ensures.value ∙ ap unsigned_abs (read_whole d c.ranges.d.sfits) in
    let b = c.unsigned_abs.ensures.bound in
    let f = c.ranges.width in
    let e : to_z w128 (of_z w128 (pos 2 *ℤ to_z w128 c.unsigned_abs.result)) ≡ pos (2 * unsigned_abs d) = omega (arith, ints, u, b) in
    let e2 : to_z w128 w ≡ pos w = omega (arith, ints, f) in
    let left : c.minus.result ≡ pos w -ℤ pos (2 * unsigned_abs d) = c.minus.ensures.value ∙ rw (e, e2) refl in
    let product : c.times.result ≡ pos 65536 *ℤ (pos w -ℤ pos (2 * unsigned_abs d)) =
    c.times.ensures.value ∙ rw (read_back c.minus.result c.minus.type_inv, left) refl in
    let value : c.floor_by.result ≡ slope w d = c.floor_by.ensures.value ∙ rw (read_back c.times.result c.times.type_inv, product) refl in
    c.sat.ensures ∙ ap sat (read_back c.floor_by.result c.floor_by.type_inv ∙ value) ∙ slope_raw w d c.requires.some c.requires.within

pub returns-clause-value : goal.returns-clause-value
returns-clause-value c = value_is c

pub returns-clause-low : goal.returns-clause-low
returns-clause-low c = rw (value_is c) (slope_range c.args.width c.args.d c.requires.some c.requires.within).0
