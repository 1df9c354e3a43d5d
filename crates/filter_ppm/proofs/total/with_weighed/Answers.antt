use Rattle.std.proofs.Common.{◌≡◌, ◌≤◌, ◌+◌, ◌*◌, arith, w64, FitsSigned, ◌+ℤ◌, ◌*ℤ◌, unsigned_abs}
use Rattle.std.specs.Int.{w128}
use Rattle.std.proofs.lemmas.Int.{ints, to_z-of_z}
use Rattle.filter_ppm.proofs.Totals.{same_total, over_next}
use Rattle.filter_ppm.proofs.total.with_weighed.Goals as goal

pub returns-clause-value : goal.returns-clause-value
returns-clause-value c =
    let few = c.requires.n in
    let over = c.requires.over in
    let t = c.args.t.now in
    let tw : FitsSigned w64 t.weight = omega (arith, ints, few, over.high) in
    let tx : FitsSigned w128 t.x = omega (arith, ints, few, over.high, over.x_high) in
    let ty : FitsSigned w128 t.y = omega (arith, ints, few, over.high, over.y_high) in
    let tz : FitsSigned w128 t.z = omega (arith, ints, few, over.high, over.z_high) in
    let fv : FitsSigned w64 c.raw-weight.result = record { sfits = c.raw-weight.type_inv } in
    let fw : FitsSigned w64 c.weights_with.result = record { sfits = c.weights_with.type_inv } in
    let fx : FitsSigned w128 c.with_part.result = record { sfits = c.with_part.type_inv } in
    let fy : FitsSigned w128 c.with_part-2.result = record { sfits = c.with_part-2.type_inv } in
    let fz : FitsSigned w128 c.with_part-3.result = record { sfits = c.with_part-3.type_inv } in
    let v : c.raw-weight.result ≡ c.args.w = c.raw-weight.ensures.value in
    let w : c.weights_with.result ≡ t.weight +ℤ c.raw-weight.result = simp to_z-of_z at c.weights_with.ensures.value in
    let x : c.with_part.result ≡ t.x +ℤ c.raw-weight.result *ℤ c.args.c.now.x = simp to_z-of_z at c.with_part.ensures.value in
    let y : c.with_part-2.result ≡ t.y +ℤ c.raw-weight.result *ℤ c.args.c.now.y = simp to_z-of_z at c.with_part-2.ensures.value in
    let z : c.with_part-3.result ≡ t.z +ℤ c.raw-weight.result *ℤ c.args.c.now.z = simp to_z-of_z at c.with_part-3.ensures.value in
    simp to_z-of_z (same_total t c.args.w c.args.c.now _ _ _ _ (rw v at w) (rw v at x) (rw v at y) (rw v at z))

pub returns-clause-over : goal.returns-clause-over
returns-clause-over c =
    let few = c.requires.n in
    let over = c.requires.over in
    let t = c.args.t.now in
    let tw : FitsSigned w64 t.weight = omega (arith, ints, few, over.high) in
    let tx : FitsSigned w128 t.x = omega (arith, ints, few, over.high, over.x_high) in
    let ty : FitsSigned w128 t.y = omega (arith, ints, few, over.high, over.y_high) in
    let tz : FitsSigned w128 t.z = omega (arith, ints, few, over.high, over.z_high) in
    let fv : FitsSigned w64 c.raw-weight.result = record { sfits = c.raw-weight.type_inv } in
    let fw : FitsSigned w64 c.weights_with.result = record { sfits = c.weights_with.type_inv } in
    let fx : FitsSigned w128 c.with_part.result = record { sfits = c.with_part.type_inv } in
    let fy : FitsSigned w128 c.with_part-2.result = record { sfits = c.with_part-2.type_inv } in
    let fz : FitsSigned w128 c.with_part-3.result = record { sfits = c.with_part-3.type_inv } in
    let v : c.raw-weight.result ≡ c.args.w = c.raw-weight.ensures.value in
    let w : c.weights_with.result ≡ t.weight +ℤ c.raw-weight.result = simp to_z-of_z at c.weights_with.ensures.value in
    let x : unsigned_abs c.with_part.result ≤ unsigned_abs t.x + unsigned_abs c.raw-weight.result * 2147483647 = simp to_z-of_z at c.with_part.ensures.size in
    let y : unsigned_abs c.with_part-2.result ≤ unsigned_abs t.y + unsigned_abs c.raw-weight.result * 2147483647 = simp to_z-of_z at c.with_part-2.ensures.size in
    let z : unsigned_abs c.with_part-3.result ≤ unsigned_abs t.z + unsigned_abs c.raw-weight.result * 2147483647 = simp to_z-of_z at c.with_part-3.ensures.size in
    simp to_z-of_z (over_next c.args.n t _ c.raw-weight.result over (rw v c.requires.weight) c.raw-weight.ensures.size w x y z)
