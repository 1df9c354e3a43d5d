use Rattle.pixel_account.specs.Summing.{as_total}
use Rattle.pixel_account.proofs.Summed.{sums_more}
use Rattle.pixel_account.proofs.sums.sums_of.Goals as goal

pub loop-k-preserved : goal.loop-k-preserved
loop-k-preserved c =
    let s = c.index-samples-k.result in
    record {
      value = sums_more c.args.samples.now s c.loop-k.k (as_total c.loop-k.sums) (as_total c.with_colour-sums.result) c.loop-k-test.true c.index-samples-k.is c.with_colour-sums.ensures.value c.loop-k.invariant.value;
      over = c.with_colour-sums.ensures.over;
    }
