use Rattle.std.proofs.Common.{◌≡◌, ◌∙◌, to_z, of_z, arith, refl}
use Rattle.std.specs.Int.{w128}
use Rattle.std.specs.Prelude.{◌+ℤ◌, ◌*ℤ◌}
use Rattle.std.proofs.lemmas.Int.{ints}
use Rattle.fixed_math.proofs.Fits.{read_back}
use Rattle.filter_ppm.proofs.Means.{part_size}
use Rattle.pixel_account.proofs.sums.with_part.Goals as goal

pub returns-clause-size : goal.returns-clause-size
returns-clause-size c =
    let e : to_z w128 (of_z w128 c.args.w) ≡ c.args.w = omega (arith, ints, c.requires.weight) in
    let f : to_z w128 (of_z w128 c.args.sum) ≡ c.args.sum = omega (arith, ints, c.requires.sum) in
    let g = read_back c.raw_of.result c.raw_of.type_inv in
    let h = read_back c.times.result c.times.type_inv in
    let product : c.times.result ≡ c.args.w *ℤ c.raw_of.result = c.times.ensures.value ∙ rw (e, g) refl in
    let sum : c.plus.result ≡ c.args.sum +ℤ c.args.w *ℤ c.raw_of.result = c.plus.ensures.value ∙ rw (f, h, product) refl in
    rw (read_back c.plus.result c.plus.type_inv, sum) (part_size c.args.sum c.args.w c.raw_of.result c.raw_of.ensures.size)
