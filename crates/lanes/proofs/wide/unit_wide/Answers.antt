use Rattle.std.proofs.Common.{arith, ◌∙◌, sym, ◌<◌, ◌≡◌, w32, w64, FitsSigned, ap}
use Rattle.std.specs.Int.RustNames.{unsigned_abs}
use Rattle.std.proofs.lemmas.Int.{ints, to_z-of_z}
use Rattle.fixed_math.specs.Unit.{norm, part}
use Rattle.fixed_math.proofs.Units.{norm_ge, part_none, unit_part_is}
use Rattle.lanes.proofs.wide.unit_wide.Goals as goal

pub returns-then-n-eq0-clause-x : goal.returns-then-n-eq0-clause-x
returns-then-n-eq0-clause-x c =
    let x_is : FitsSigned w64 c.args.x = c.ranges.x in
    let y_is : FitsSigned w64 c.args.y = c.ranges.y in
    let z_is : FitsSigned w64 c.args.z = c.ranges.z in
    let x_small : unsigned_abs c.args.x < 4611686018427387904 = omega (arith, c.requires.x) in
    let y_small : unsigned_abs c.args.y < 4611686018427387904 = omega (arith, c.requires.y) in
    let z_small : unsigned_abs c.args.z < 4611686018427387904 = omega (arith, c.requires.z) in
    let is = simp to_z-of_z at c.norm-n.ensures.value in
    let none : norm c.args.x c.args.y c.args.z ≡ 0 = sym is ∙ c.if-n-eq0.true in
    part_none c.args.x (norm c.args.x c.args.y c.args.z) none ∙ unit_part_is c.args.x c.args.x c.args.y c.args.z x_small y_small z_small

pub returns-then-n-eq0-clause-y : goal.returns-then-n-eq0-clause-y
returns-then-n-eq0-clause-y c =
    let x_is : FitsSigned w64 c.args.x = c.ranges.x in
    let y_is : FitsSigned w64 c.args.y = c.ranges.y in
    let z_is : FitsSigned w64 c.args.z = c.ranges.z in
    let x_small : unsigned_abs c.args.x < 4611686018427387904 = omega (arith, c.requires.x) in
    let y_small : unsigned_abs c.args.y < 4611686018427387904 = omega (arith, c.requires.y) in
    let z_small : unsigned_abs c.args.z < 4611686018427387904 = omega (arith, c.requires.z) in
    let is = simp to_z-of_z at c.norm-n.ensures.value in
    let none : norm c.args.x c.args.y c.args.z ≡ 0 = sym is ∙ c.if-n-eq0.true in
    part_none c.args.y (norm c.args.x c.args.y c.args.z) none ∙ unit_part_is c.args.y c.args.x c.args.y c.args.z x_small y_small z_small

pub returns-then-n-eq0-clause-z : goal.returns-then-n-eq0-clause-z
returns-then-n-eq0-clause-z c =
    let x_is : FitsSigned w64 c.args.x = c.ranges.x in
    let y_is : FitsSigned w64 c.args.y = c.ranges.y in
    let z_is : FitsSigned w64 c.args.z = c.ranges.z in
    let x_small : unsigned_abs c.args.x < 4611686018427387904 = omega (arith, c.requires.x) in
    let y_small : unsigned_abs c.args.y < 4611686018427387904 = omega (arith, c.requires.y) in
    let z_small : unsigned_abs c.args.z < 4611686018427387904 = omega (arith, c.requires.z) in
    let is = simp to_z-of_z at c.norm-n.ensures.value in
    let none : norm c.args.x c.args.y c.args.z ≡ 0 = sym is ∙ c.if-n-eq0.true in
    part_none c.args.z (norm c.args.x c.args.y c.args.z) none ∙ unit_part_is c.args.z c.args.x c.args.y c.args.z x_small y_small z_small

pub part-requires-clause-le : goal.part-requires-clause-le
part-requires-clause-le c =
    let x_is : FitsSigned w64 c.args.x = c.ranges.x in
    let y_is : FitsSigned w64 c.args.y = c.ranges.y in
    let z_is : FitsSigned w64 c.args.z = c.ranges.z in
    let x_small : unsigned_abs c.args.x < 4611686018427387904 = omega (arith, c.requires.x) in
    let y_small : unsigned_abs c.args.y < 4611686018427387904 = omega (arith, c.requires.y) in
    let z_small : unsigned_abs c.args.z < 4611686018427387904 = omega (arith, c.requires.z) in
    let is = simp to_z-of_z at c.norm-n.ensures.value in
    let le = (norm_ge c.args.x c.args.y c.args.z x_small y_small z_small).0 in
    simp (to_z-of_z, is) le

pub part-requires-2-clause-le : goal.part-requires-2-clause-le
part-requires-2-clause-le c =
    let x_is : FitsSigned w64 c.args.x = c.ranges.x in
    let y_is : FitsSigned w64 c.args.y = c.ranges.y in
    let z_is : FitsSigned w64 c.args.z = c.ranges.z in
    let x_small : unsigned_abs c.args.x < 4611686018427387904 = omega (arith, c.requires.x) in
    let y_small : unsigned_abs c.args.y < 4611686018427387904 = omega (arith, c.requires.y) in
    let z_small : unsigned_abs c.args.z < 4611686018427387904 = omega (arith, c.requires.z) in
    let is = simp to_z-of_z at c.norm-n.ensures.value in
    let le = (norm_ge c.args.x c.args.y c.args.z x_small y_small z_small).1 in
    simp (to_z-of_z, is) le

pub part-requires-3-clause-le : goal.part-requires-3-clause-le
part-requires-3-clause-le c =
    let x_is : FitsSigned w64 c.args.x = c.ranges.x in
    let y_is : FitsSigned w64 c.args.y = c.ranges.y in
    let z_is : FitsSigned w64 c.args.z = c.ranges.z in
    let x_small : unsigned_abs c.args.x < 4611686018427387904 = omega (arith, c.requires.x) in
    let y_small : unsigned_abs c.args.y < 4611686018427387904 = omega (arith, c.requires.y) in
    let z_small : unsigned_abs c.args.z < 4611686018427387904 = omega (arith, c.requires.z) in
    let is = simp to_z-of_z at c.norm-n.ensures.value in
    let le = (norm_ge c.args.x c.args.y c.args.z x_small y_small z_small).2 in
    simp (to_z-of_z, is) le

pub returns-clause-x : goal.returns-clause-x
returns-clause-x c =
    let x_is : FitsSigned w64 c.args.x = c.ranges.x in
    let y_is : FitsSigned w64 c.args.y = c.ranges.y in
    let z_is : FitsSigned w64 c.args.z = c.ranges.z in
    let x_small : unsigned_abs c.args.x < 4611686018427387904 = omega (arith, c.requires.x) in
    let y_small : unsigned_abs c.args.y < 4611686018427387904 = omega (arith, c.requires.y) in
    let z_small : unsigned_abs c.args.z < 4611686018427387904 = omega (arith, c.requires.z) in
    let is = simp to_z-of_z at c.norm-n.ensures.value in
    let part_fits : FitsSigned w32 c.part.result = omega (arith, ints, c.part.ensures.raw.0, c.part.ensures.raw.1) in
    let value = simp to_z-of_z at c.part.ensures.value in
    simp to_z-of_z (value ∙ ap (part c.args.x) is ∙ unit_part_is c.args.x c.args.x c.args.y c.args.z x_small y_small z_small)

pub returns-clause-y : goal.returns-clause-y
returns-clause-y c =
    let x_is : FitsSigned w64 c.args.x = c.ranges.x in
    let y_is : FitsSigned w64 c.args.y = c.ranges.y in
    let z_is : FitsSigned w64 c.args.z = c.ranges.z in
    let x_small : unsigned_abs c.args.x < 4611686018427387904 = omega (arith, c.requires.x) in
    let y_small : unsigned_abs c.args.y < 4611686018427387904 = omega (arith, c.requires.y) in
    let z_small : unsigned_abs c.args.z < 4611686018427387904 = omega (arith, c.requires.z) in
    let is = simp to_z-of_z at c.norm-n.ensures.value in
    let part_fits : FitsSigned w32 c.part-2.result = omega (arith, ints, c.part-2.ensures.raw.0, c.part-2.ensures.raw.1) in
    let value = simp to_z-of_z at c.part-2.ensures.value in
    simp to_z-of_z (value ∙ ap (part c.args.y) is ∙ unit_part_is c.args.y c.args.x c.args.y c.args.z x_small y_small z_small)

pub returns-clause-z : goal.returns-clause-z
returns-clause-z c =
    let x_is : FitsSigned w64 c.args.x = c.ranges.x in
    let y_is : FitsSigned w64 c.args.y = c.ranges.y in
    let z_is : FitsSigned w64 c.args.z = c.ranges.z in
    let x_small : unsigned_abs c.args.x < 4611686018427387904 = omega (arith, c.requires.x) in
    let y_small : unsigned_abs c.args.y < 4611686018427387904 = omega (arith, c.requires.y) in
    let z_small : unsigned_abs c.args.z < 4611686018427387904 = omega (arith, c.requires.z) in
    let is = simp to_z-of_z at c.norm-n.ensures.value in
    let part_fits : FitsSigned w32 c.part-3.result = omega (arith, ints, c.part-3.ensures.raw.0, c.part-3.ensures.raw.1) in
    let value = simp to_z-of_z at c.part-3.ensures.value in
    simp to_z-of_z (value ∙ ap (part c.args.z) is ∙ unit_part_is c.args.z c.args.x c.args.y c.args.z x_small y_small z_small)
