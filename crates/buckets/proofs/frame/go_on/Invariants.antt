use Rattle.std.proofs.Common.{◌≡◌, ◌≤◌, ◌-◌, true}
use Rattle.buckets.specs.Progress.{Stands}
use Rattle.buckets.specs.Rows.{PutsTo}
use Rattle.buckets.proofs.frame.go_on.Given as goal

abbrev pub invariant-loop-progress : goal.invariant-loop-progress
invariant-loop-progress g l = record {
  stands : Stands g.at_epoch l.progress l.epoch.kept l.shop.count;
  limit : l.epoch.limit ≡ l.initial.epoch.limit;
  set : l.shop.set ≡ l.initial.shop.set;
  textures : l.shop.cache.textures ≡ l.initial.shop.cache.textures;
  epochs : l.progress.report.epochs ≡ l.initial.progress.report.epochs;
  points : l.progress.report.most_points ≡ l.initial.progress.report.most_points;
  open' : g.O.FrameSink.is_open l.sink ≡ true;
  put : PutsTo g.at_epoch.begun l.progress.drawing.at (g.O.FrameSink.written l.sink);
  later : g.O.FrameSink.faults l.initial.sink ≤ g.O.FrameSink.faults l.sink;
}

abbrev pub decreases-loop-progress : goal.decreases-loop-progress
decreases-loop-progress g l = l.shown.tiles - l.progress.drawing.at

abbrev pub ghost-fill : goal.ghost-fill
ghost-fill g a = g.at_epoch

abbrev pub ghost-finish_tile : goal.ghost-finish_tile
ghost-finish_tile g a = g.at_epoch
