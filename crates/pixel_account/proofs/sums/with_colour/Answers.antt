use Rattle.std.proofs.Common.{◌≡◌, ◌≤◌, ◌+◌, ◌*◌, FitsSigned, ◌+ℤ◌, ◌*ℤ◌, unsigned_abs}
use Rattle.std.specs.Int.{w128}
use Rattle.std.proofs.lemmas.Int.{to_z-of_z}
use Rattle.filter_ppm.proofs.Totals.{same_total}
use Rattle.pixel_account.specs.Summing.{as_total}
use Rattle.pixel_account.proofs.Summed.{over_next, fits_weight, fits_part}
use Rattle.pixel_account.proofs.sums.with_colour.Goals as goal

pub returns-clause-value : goal.returns-clause-value
returns-clause-value c =
    let over = c.requires.over in
    let t = as_total c.args.sums.now in
    let n = c.args.n in
    let few = c.ranges.n.fits in
    let tw : FitsSigned w128 t.weight = fits_weight n t few over in
    let tx : FitsSigned w128 t.x = fits_part n t t.x few over over.x_high in
    let ty : FitsSigned w128 t.y = fits_part n t t.y few over over.y_high in
    let tz : FitsSigned w128 t.z = fits_part n t t.z few over over.z_high in
    let fv : FitsSigned w128 c.raw_of-weight.result = record { sfits = c.raw_of-weight.type_inv } in
    let fw : FitsSigned w128 c.plus.result = record { sfits = c.plus.type_inv } in
    let fx : FitsSigned w128 c.with_part.result = record { sfits = c.with_part.type_inv } in
    let fy : FitsSigned w128 c.with_part-2.result = record { sfits = c.with_part-2.type_inv } in
    let fz : FitsSigned w128 c.with_part-3.result = record { sfits = c.with_part-3.type_inv } in
    let v : c.raw_of-weight.result ≡ c.args.w = c.raw_of-weight.ensures.value in
    let w : c.plus.result ≡ t.weight +ℤ c.raw_of-weight.result = simp to_z-of_z at c.plus.ensures.value in
    let x : c.with_part.result ≡ t.x +ℤ c.raw_of-weight.result *ℤ c.args.colour.now.x = simp to_z-of_z at c.with_part.ensures.value in
    let y : c.with_part-2.result ≡ t.y +ℤ c.raw_of-weight.result *ℤ c.args.colour.now.y = simp to_z-of_z at c.with_part-2.ensures.value in
    let z : c.with_part-3.result ≡ t.z +ℤ c.raw_of-weight.result *ℤ c.args.colour.now.z = simp to_z-of_z at c.with_part-3.ensures.value in
    simp to_z-of_z (same_total t c.args.w c.args.colour.now _ _ _ _ (rw v at w) (rw v at x) (rw v at y) (rw v at z))

pub returns-clause-over : goal.returns-clause-over
returns-clause-over c =
    let over = c.requires.over in
    let t = as_total c.args.sums.now in
    let n = c.args.n in
    let few = c.ranges.n.fits in
    let tw : FitsSigned w128 t.weight = fits_weight n t few over in
    let tx : FitsSigned w128 t.x = fits_part n t t.x few over over.x_high in
    let ty : FitsSigned w128 t.y = fits_part n t t.y few over over.y_high in
    let tz : FitsSigned w128 t.z = fits_part n t t.z few over over.z_high in
    let fv : FitsSigned w128 c.raw_of-weight.result = record { sfits = c.raw_of-weight.type_inv } in
    let fw : FitsSigned w128 c.plus.result = record { sfits = c.plus.type_inv } in
    let fx : FitsSigned w128 c.with_part.result = record { sfits = c.with_part.type_inv } in
    let fy : FitsSigned w128 c.with_part-2.result = record { sfits = c.with_part-2.type_inv } in
    let fz : FitsSigned w128 c.with_part-3.result = record { sfits = c.with_part-3.type_inv } in
    let v : c.raw_of-weight.result ≡ c.args.w = c.raw_of-weight.ensures.value in
    let w : c.plus.result ≡ t.weight +ℤ c.raw_of-weight.result = simp to_z-of_z at c.plus.ensures.value in
    let x : unsigned_abs c.with_part.result ≤ unsigned_abs t.x + unsigned_abs c.raw_of-weight.result * 2147483647 = simp to_z-of_z at c.with_part.ensures.size in
    let y : unsigned_abs c.with_part-2.result ≤ unsigned_abs t.y + unsigned_abs c.raw_of-weight.result * 2147483647 = simp to_z-of_z at c.with_part-2.ensures.size in
    let z : unsigned_abs c.with_part-3.result ≤ unsigned_abs t.z + unsigned_abs c.raw_of-weight.result * 2147483647 = simp to_z-of_z at c.with_part-3.ensures.size in
    simp to_z-of_z (over_next n t _ c.raw_of-weight.result over (rw v c.requires.weight) c.raw_of-weight.ensures.size w x y z)
