use Rattle.std.proofs.Common.{arith, ◌∙◌, w32, w64, FitsSigned}
use Rattle.std.proofs.lemmas.Int.{ints, to_z-of_z, fits_signed_from_abs}
use Rattle.dice.specs.Normals.{item}
use Rattle.dice.proofs.Directions.{unit_is}
use Rattle.dice.proofs.normals.narrow_unit.Goals as goal

pub returns : goal.returns
returns c =
    let first_small = c.requires 0 (omega arith) in
    let second_small = c.requires 1 (omega arith) in
    let third_small = c.requires 2 (omega arith) in
    let first : FitsSigned w32 (item c.args.c 0) = fits_signed_from_abs w32 (item c.args.c 0) (omega (arith, first_small)) in
    let first_wide : FitsSigned w64 (item c.args.c 0) = fits_signed_from_abs w64 (item c.args.c 0) (omega (arith, first_small)) in
    let second : FitsSigned w32 (item c.args.c 1) = fits_signed_from_abs w32 (item c.args.c 1) (omega (arith, second_small)) in
    let second_wide : FitsSigned w64 (item c.args.c 1) = fits_signed_from_abs w64 (item c.args.c 1) (omega (arith, second_small)) in
    let third : FitsSigned w32 (item c.args.c 2) = fits_signed_from_abs w32 (item c.args.c 2) (omega (arith, third_small)) in
    let third_wide : FitsSigned w64 (item c.args.c 2) = fits_signed_from_abs w64 (item c.args.c 2) (omega (arith, third_small)) in
    let fits_x : FitsSigned w32 c.unit-u.result.x = omega (arith, ints, c.unit-u.ensures.raws.0.0, c.unit-u.ensures.raws.0.1) in
    let fits_y : FitsSigned w32 c.unit-u.result.y = omega (arith, ints, c.unit-u.ensures.raws.1.0, c.unit-u.ensures.raws.1.1) in
    let fits_z : FitsSigned w32 c.unit-u.result.z = omega (arith, ints, c.unit-u.ensures.raws.2.0, c.unit-u.ensures.raws.2.1) in
    let x_of = simp to_z-of_z at c.unit-u.ensures.x in
    let y_of = simp to_z-of_z at c.unit-u.ensures.y in
    let z_of = simp to_z-of_z at c.unit-u.ensures.z in
    let x_is = simp to_z-of_z at c.number.ensures in
    let y_is = simp to_z-of_z at c.number-2.ensures in
    let z_is = simp to_z-of_z at c.number-3.ensures in
    unit_is (record { x = c.number.result; y = c.number-2.result; z = c.number-3.result }) c.args.c (x_is ∙ x_of) (y_is ∙ y_of) (z_is ∙ z_of)
