use Rattle.std.proofs.Common.{pos}
use Rattle.std.specs.Prelude.{neg_ℤ, ◌≤ℤ◌}
use Rattle.hider.proofs.Cuts.{all_passes}
use Rattle.hider.proofs.compositing.whole.Goals as goal

pub returns : goal.returns
returns c =
    let e = c.raw-raw.ensures.value in
    let low : neg_ℤ (pos 2147483647) ≤ℤ c.args.v = rw e at c.raw-raw.ensures.low in
    let high : c.args.v ≤ℤ pos 2147483647 = rw e at c.raw-raw.ensures.high in
    all_passes c.args.v low high
