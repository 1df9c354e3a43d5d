use Rattle.std.proofs.Common.{arith, w64, FitsSigned}
use Rattle.std.proofs.lemmas.Int.{to_z-of_z}
use Rattle.fixed_math.proofs.Units.{norm_ge}
use Rattle.fixed_math.proofs.direction.unit_short.Goals as goal

pub part_short-requires-clause-le : goal.part_short-requires-clause-le
part_short-requires-clause-le c =
    let x_is : FitsSigned w64 c.args.x = c.ranges.x in
    let y_is : FitsSigned w64 c.args.y = c.ranges.y in
    let z_is : FitsSigned w64 c.args.z = c.ranges.z in
    let is = simp to_z-of_z at c.norm_short-n.ensures.value in
    let le = (norm_ge c.args.x c.args.y c.args.z (omega arith) (omega arith) (omega arith)).0 in
    simp (to_z-of_z, is) le

pub part_short-requires-2-clause-le : goal.part_short-requires-2-clause-le
part_short-requires-2-clause-le c =
    let x_is : FitsSigned w64 c.args.x = c.ranges.x in
    let y_is : FitsSigned w64 c.args.y = c.ranges.y in
    let z_is : FitsSigned w64 c.args.z = c.ranges.z in
    let is = simp to_z-of_z at c.norm_short-n.ensures.value in
    let le = (norm_ge c.args.x c.args.y c.args.z (omega arith) (omega arith) (omega arith)).1 in
    simp (to_z-of_z, is) le

pub part_short-requires-3-clause-le : goal.part_short-requires-3-clause-le
part_short-requires-3-clause-le c =
    let x_is : FitsSigned w64 c.args.x = c.ranges.x in
    let y_is : FitsSigned w64 c.args.y = c.ranges.y in
    let z_is : FitsSigned w64 c.args.z = c.ranges.z in
    let is = simp to_z-of_z at c.norm_short-n.ensures.value in
    let le = (norm_ge c.args.x c.args.y c.args.z (omega arith) (omega arith) (omega arith)).2 in
    simp (to_z-of_z, is) le
