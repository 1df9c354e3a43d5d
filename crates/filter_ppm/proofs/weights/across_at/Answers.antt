use Rattle.std.proofs.Common.{◌≡◌, ◌∙◌, ap, to_z, of_z, arith, refl}
use Rattle.std.specs.Int.{w64, w128}
use Rattle.std.specs.Prelude.{pos, ◌*ℤ◌}
use Rattle.std.proofs.lemmas.Int.{ints}
use Rattle.fixed_math.specs.Fixed.{sat}
use Rattle.fixed_math.proofs.Fits.{read_back}
use Rattle.filter_ppm.specs.Weight.{across}
use Rattle.filter_ppm.proofs.Filters.{across_raw}
use Rattle.filter_ppm.proofs.weights.across_at.Goals as goal

pub returns : goal.returns
unfolding across
returns c =
    let d = c.args.d in
    let e : to_z w128 (of_z w128 (to_z w64 (of_z w64 d))) ≡ d = omega (arith, ints, c.ranges.d.sfits) in
    let product : c.times.result ≡ pos 131072 *ℤ d = c.times.ensures.value ∙ rw e refl in
    let value : c.floor_by.result ≡ across c.args.width d = c.floor_by.ensures.value ∙ rw (read_back c.times.result c.times.type_inv, product) refl in
    c.sat.ensures ∙ ap sat (read_back c.floor_by.result c.floor_by.type_inv ∙ value) ∙ across_raw c.args.width d c.requires.some c.requires.within
