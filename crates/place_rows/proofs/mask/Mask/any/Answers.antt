use Rattle.std.proofs.Common.{arith, get_or, false, sym}
use Rattle.grid_code.proofs.Asleep.{any_false}
use Rattle.place_rows.proofs.Sets.{any_true}
use Rattle.place_rows.proofs.mask.Mask.any.Goals as goal

pub returns-then-self-place : goal.returns-then-self-place
returns-then-self-place c = sym (any_true c.args.count c.loop-place.place (λ i. get_or c.args.self.now.places i false) (omega arith) c.if-self-place.true)

pub returns : goal.returns
returns c = sym (any_false c.args.count (λ i. get_or c.args.self.now.places i false) (λ i l. c.loop-place.invariant i (omega arith)))
