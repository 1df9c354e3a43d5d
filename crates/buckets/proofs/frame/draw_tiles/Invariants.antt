use Rattle.std.proofs.Common.{◌≡◌, ◌≤◌, ◌<◌, ◌+◌, ◌-◌, [], true}
use Rattle.buckets.specs.TileWalk.{tile_count, tile_walk}
use Rattle.buckets.specs.Progress.{Stands, Done, next_of, report_before}
use Rattle.buckets.specs.Rows.{PutsTo}
use Rattle.buckets.proofs.frame.draw_tiles.Given as goal

abbrev pub invariant-loop-progress : goal.invariant-loop-progress
invariant-loop-progress g l = record {
  within : l.progress.drawing.at ≤ tile_count g.begun.drawing;
  same : l.report ≡ l.progress.report;
  full : l.progress.drawing.at < tile_count g.begun.drawing → Stands (next_of g.begun l.progress.report) l.progress [] l.shop.count;
  ended : l.progress.drawing.at ≡ tile_count g.begun.drawing → Done g.begun.drawing g.begun.count l.shop.count (report_before g.begun) l.progress.report;
  set : l.shop.set ≡ l.initial.shop.set;
  textures : l.shop.cache.textures ≡ l.initial.shop.cache.textures;
  open' : g.O.FrameSink.is_open l.sink ≡ true;
  put : PutsTo g.begun l.progress.drawing.at (g.O.FrameSink.written l.sink);
  later : g.O.FrameSink.faults l.initial.sink ≤ g.O.FrameSink.faults l.sink;
}

abbrev pub decreases-loop-progress : goal.decreases-loop-progress
decreases-loop-progress g l = g.begun.epochs + (tile_walk g.begun.drawing).epochs - l.progress.report.epochs

abbrev pub ghost-started : goal.ghost-started
ghost-started g a = g.begun

abbrev pub ghost-run_epoch : goal.ghost-run_epoch
ghost-run_epoch g a = g.begun
