use Rattle.std.proofs.Common.{arith, ◌≡◌, ◌≤◌, pos, ◌-ℤ◌, ◌+ℤ◌, ◌*ℤ◌, w32, FitsSigned, to_z}
use Rattle.std.specs.Int.RustNames.{unsigned_abs}
use Rattle.std.proofs.lemmas.Int.{ints, to_z-of_z}
use Rattle.lanes.proofs.NearUnits.{little_more, part_near}
use Rattle.lanes.proofs.near.part.Goals as goal

pub quotient-requires-clause-near : goal.quotient-requires-clause-near
quotient-requires-clause-near c =
    let c_is : FitsSigned w32 c.args.c = c.ranges.c in
    let n_is : to_z w32 c.args.n ≡ pos c.args.n = omega (arith, ints, c.requires.high) in
    let few : unsigned_abs (pos 65536 -ℤ pos c.args.n) ≤ 2 = omega (arith, ints, c.requires.low, c.requires.high) in
    let few_fits : FitsSigned w32 (pos 65536 -ℤ pos c.args.n) = omega (arith, ints, few) in
    let little = little_more c.args.c (pos 65536 -ℤ pos c.args.n) c.args.n c.requires.le few in
    let fits : FitsSigned w32 (c.args.c *ℤ (pos 65536 -ℤ pos c.args.n)) = omega (arith, ints, little, c.requires.high) in
    simp (to_z-of_z, n_is) little

pub returns-clause-value : goal.returns-clause-value
returns-clause-value c =
    let c_is : FitsSigned w32 c.args.c = c.ranges.c in
    let n_is : to_z w32 c.args.n ≡ pos c.args.n = omega (arith, ints, c.requires.high) in
    let few : unsigned_abs (pos 65536 -ℤ pos c.args.n) ≤ 2 = omega (arith, ints, c.requires.low, c.requires.high) in
    let few_fits : FitsSigned w32 (pos 65536 -ℤ pos c.args.n) = omega (arith, ints, few) in
    let little = little_more c.args.c (pos 65536 -ℤ pos c.args.n) c.args.n c.requires.le few in
    let fits : FitsSigned w32 (c.args.c *ℤ (pos 65536 -ℤ pos c.args.n)) = omega (arith, ints, little, c.requires.high) in
    let q_fits : FitsSigned w32 c.quotient.result = omega (arith, ints, c.quotient.ensures.few) in
    let sum_fits : FitsSigned w32 (c.args.c +ℤ c.quotient.result) = omega (arith, ints, c.requires.le, c.requires.high, c.quotient.ensures.few) in
    let value = simp (to_z-of_z, n_is) at c.quotient.ensures.value in
    simp to_z-of_z (part_near c.args.c c.quotient.result c.args.n (omega (arith, c.requires.low)) value)
