use Rattle.std.proofs.Common.{arith, ◌∙◌, ◌≡◌, w32, FitsSigned}
use Rattle.std.proofs.lemmas.Int.{ints, to_z-of_z}
use Rattle.fixed_math.specs.Unit.{norm}
use Rattle.lanes.proofs.NearUnits.{parts_within, unit_is}
use Rattle.lanes.proofs.near.near_unit.Goals as goal

pub part-requires-clause-le : goal.part-requires-clause-le
part-requires-clause-le c =
    let x_is : FitsSigned w32 c.args.x = c.ranges.x in
    let y_is : FitsSigned w32 c.args.y = c.ranges.y in
    let z_is : FitsSigned w32 c.args.z = c.ranges.z in
    let is : c.norm-n.result ≡ norm c.args.x c.args.y c.args.z = simp to_z-of_z at c.norm-n.ensures.value in
    let within = parts_within c.args.x c.args.y c.args.z c.norm-n.result x_is y_is z_is is in simp to_z-of_z within.0

pub part-requires-2-clause-le : goal.part-requires-2-clause-le
part-requires-2-clause-le c =
    let x_is : FitsSigned w32 c.args.x = c.ranges.x in
    let y_is : FitsSigned w32 c.args.y = c.ranges.y in
    let z_is : FitsSigned w32 c.args.z = c.ranges.z in
    let is : c.norm-n.result ≡ norm c.args.x c.args.y c.args.z = simp to_z-of_z at c.norm-n.ensures.value in
    let within = parts_within c.args.x c.args.y c.args.z c.norm-n.result x_is y_is z_is is in simp to_z-of_z within.1

pub part-requires-3-clause-le : goal.part-requires-3-clause-le
part-requires-3-clause-le c =
    let x_is : FitsSigned w32 c.args.x = c.ranges.x in
    let y_is : FitsSigned w32 c.args.y = c.ranges.y in
    let z_is : FitsSigned w32 c.args.z = c.ranges.z in
    let is : c.norm-n.result ≡ norm c.args.x c.args.y c.args.z = simp to_z-of_z at c.norm-n.ensures.value in
    let within = parts_within c.args.x c.args.y c.args.z c.norm-n.result x_is y_is z_is is in simp to_z-of_z within.2

pub returns-clause-x : goal.returns-clause-x
returns-clause-x c =
    let x_is : FitsSigned w32 c.args.x = c.ranges.x in
    let y_is : FitsSigned w32 c.args.y = c.ranges.y in
    let z_is : FitsSigned w32 c.args.z = c.ranges.z in
    let is : c.norm-n.result ≡ norm c.args.x c.args.y c.args.z = simp to_z-of_z at c.norm-n.ensures.value in
    let fits : FitsSigned w32 c.part.result = omega (arith, ints, c.part.ensures.raw.0, c.part.ensures.raw.1) in
    let value = simp to_z-of_z at c.part.ensures.value in
    simp to_z-of_z (value ∙ unit_is c.args.x c.args.x c.args.y c.args.z c.norm-n.result x_is y_is z_is is)

pub returns-clause-y : goal.returns-clause-y
returns-clause-y c =
    let x_is : FitsSigned w32 c.args.x = c.ranges.x in
    let y_is : FitsSigned w32 c.args.y = c.ranges.y in
    let z_is : FitsSigned w32 c.args.z = c.ranges.z in
    let is : c.norm-n.result ≡ norm c.args.x c.args.y c.args.z = simp to_z-of_z at c.norm-n.ensures.value in
    let fits : FitsSigned w32 c.part-2.result = omega (arith, ints, c.part-2.ensures.raw.0, c.part-2.ensures.raw.1) in
    let value = simp to_z-of_z at c.part-2.ensures.value in
    simp to_z-of_z (value ∙ unit_is c.args.y c.args.x c.args.y c.args.z c.norm-n.result x_is y_is z_is is)

pub returns-clause-z : goal.returns-clause-z
returns-clause-z c =
    let x_is : FitsSigned w32 c.args.x = c.ranges.x in
    let y_is : FitsSigned w32 c.args.y = c.ranges.y in
    let z_is : FitsSigned w32 c.args.z = c.ranges.z in
    let is : c.norm-n.result ≡ norm c.args.x c.args.y c.args.z = simp to_z-of_z at c.norm-n.ensures.value in
    let fits : FitsSigned w32 c.part-3.result = omega (arith, ints, c.part-3.ensures.raw.0, c.part-3.ensures.raw.1) in
    let value = simp to_z-of_z at c.part-3.ensures.value in
    simp to_z-of_z (value ∙ unit_is c.args.z c.args.x c.args.y c.args.z c.norm-n.result x_is y_is z_is is)
