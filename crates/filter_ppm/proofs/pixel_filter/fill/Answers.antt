use Rattle.std.proofs.Common.{◌≡◌, length, arith, subst}
use Rattle.scene.specs.Settings.{OptionValues}
use Rattle.hider.specs.declared.sample.Sample.{Sample}
use Rattle.hider.specs.Composite.{composite}
use Rattle.hider.specs.Tiles.{sample_count}
use Rattle.filter_ppm.specs.Sums.{AreTotals, first_samples, total_at}
use Rattle.filter_ppm.proofs.AllBlack.{black_means}
use Rattle.filter_ppm.proofs.Rows.{mean_is}
use Rattle.filter_ppm.proofs.Totals.{written_back}
use Rattle.filter_ppm.proofs.pixel_filter.fill.Goals as goal

pub returns-then-not-all_black-clause-means : goal.returns-then-not-all_black-clause-means
returns-then-not-all_black-clause-means c = λ f s x y left right top bottom.
    let colour = λ (t : Sample). composite (f t) in
    let g = c.args.tile.now.grid in
    let r = c.args.r.now in
    let same : length c.add_tile.new.totals ≡ length c.clear.new.totals.items = omega arith in
    let count : c.clear.new.totals.len ≡ length c.clear.new.totals.items = omega arith in
    let sums = subst (λ (o : OptionValues). AreTotals o colour g (sample_count g) r c.add_tile.new.totals) c.at_hand-tables.ensures (c.add_tile.ensures.totals f s) in
    rw (written_back c.clear.new.totals.len c.add_tile.new.totals c.clear.new.totals.items same count)
    (mean_is c.args.weights.now colour x y (first_samples g (sample_count g)) (total_at r c.add_tile.new.totals x y) (sums x y left right top bottom))

pub returns-else-not-all_black-clause-means : goal.returns-else-not-all_black-clause-means
returns-else-not-all_black-clause-means c = λ f s.
    black_means c.args.weights.now (λ (t : Sample). composite (f t)) c.args.tile.now.grid c.args.r.now c.clear.new.totals.items c.in_ok-clear.ensures.empty (c.all_black.ensures c.if-not-all_black.false f s)
