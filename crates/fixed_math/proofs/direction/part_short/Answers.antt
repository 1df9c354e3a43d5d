use Rattle.std.proofs.Common.{arith, ◌≡◌, ◌∙◌, ◌<◌, pos, ◌*ℤ◌, w64, FitsSigned, to_z, of_z}
use Rattle.std.proofs.lemmas.Int.{ints, to_z-of_z, to_z_pos}
use Rattle.fixed_math.specs.Unit.{part}
use Rattle.fixed_math.proofs.Floor.{div_euclid_is}
use Rattle.fixed_math.proofs.Units.{part_is, part_in_range}
use Rattle.fixed_math.proofs.direction.part_short.Goals as goal

module _ (c : goal.After-div_euclid) where
  quotient : c.div_euclid.result ≡ part c.args.c c.args.n
  quotient =
      let c_fits : FitsSigned w64 c.args.c = c.ranges.c in
      let top_fits : FitsSigned w64 (c.args.c *ℤ pos 65536) = omega (arith, ints) in
      let n_small : c.args.n < 9223372036854775808 = omega arith in
      let n_is = to_z_pos w64 c.args.n n_small in
      let is = simp (to_z-of_z, n_is) at c.div_euclid.ensures in
      is ∙ div_euclid_is (c.args.c *ℤ pos 65536) c.args.n ∙ part_is c.args.c c.args.n (omega arith)

pub from_raw-requires-else-n-eq0 : goal.from_raw-requires-else-n-eq0
from_raw-requires-else-n-eq0 c =
    let bounds = rw (← quotient c) at (part_in_range c.args.c c.args.n c.requires.le) in
    (omega (arith, ints, bounds.0, bounds.1), omega (arith, ints, bounds.0, bounds.1))

pub returns-else-n-eq0 : goal.returns-else-n-eq0
returns-else-n-eq0 c =
    let bounds = rw (← quotient c.before) at (part_in_range c.args.c c.args.n c.requires.le) in
    let back : to_z w64 (of_z w64 c.div_euclid.result) ≡ c.div_euclid.result = omega (arith, ints, bounds.0, bounds.1) in
    c.from_raw-else-n-eq0.ensures ∙ back ∙ quotient c.before
