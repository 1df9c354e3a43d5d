use Rattle.std.proofs.Common.{◌≡◌, ◌∙◌, ℕ, arith, subst}
use Rattle.hider.specs.declared.sample.Sample.{Sample}
use Rattle.hider.specs.Composite.{composite}
use Rattle.hider.specs.Tiles.{sample_count}
use Rattle.filter_ppm.specs.Sums.{AreTotals}
use Rattle.filter_ppm.proofs.Rows.{totals_none, all_over_none, totals_more, few_samples}
use Rattle.filter_ppm.proofs.adding.add_tile.Goals as goal

pub loop-n-init : goal.loop-n-init
loop-n-init c = record {
  long = c.requires.totals;
  over = all_over_none c.args.r.now c.args.totals.now c.requires.empty;
  totals = λ f s. totals_none c.args.weights.now (λ (t : Sample). composite (f t)) c.args.tile.now.grid c.args.r.now c.args.totals.now c.requires.empty;
}

pub add_sample-requires-clause-n : goal.add_sample-requires-clause-n
add_sample-requires-clause-n c =
    let few = few_samples c.args.tile.now.grid c.requires.grid in
    let end = c.samples-n-end.ensures in
    let more = c.loop-n-test.true in
    omega (arith, few, end, more)

pub loop-n-preserved : goal.loop-n-preserved
loop-n-preserved c = record {
  long = c.add_sample.ensures.long ∙ c.loop-n.invariant.long;
  over = c.add_sample.ensures.over;
  totals = λ f s.
      totals_more c.args.weights.now (λ (t : Sample). composite (f t)) c.args.tile.now.grid c.loop-n.n c.args.r.now c.sample_at.result c.loop-n.totals c.add_sample.new.totals
      (c.sample_at.ensures f s) c.add_sample.ensures.sample (c.loop-n.invariant.totals f s);
}

pub returns-clause-totals : goal.returns-clause-totals
returns-clause-totals c = λ f s.
    let end = c.samples-n-end.ensures in
    let last = c.loop-n.auto.n-end in
    let past = c.loop-n-test.false in
    let all : c.loop-n.n ≡ sample_count c.args.tile.now.grid = omega (arith, end, last, past) in
    subst (λ (k : ℕ). AreTotals c.args.weights.now (λ (t : Sample). composite (f t)) c.args.tile.now.grid k c.args.r.now c.loop-n.totals) all (c.loop-n.invariant.totals f s)
