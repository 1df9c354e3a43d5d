use Rattle.std.proofs.Common.{◌≡◌, ◌≤◌, ◌+◌, ◌*◌, ◌^◌, false, map, take}
use Rattle.std.specs.Prelude.{filter_map}
use Rattle.outside.specs.Frames.{whole, Adds}
use Rattle.outside.specs.NoteLines.{Says}
use Rattle.render.specs.Summary.{summary_of}
use Rattle.buckets.specs.Pictures.{picture_of}
use Rattle.buckets.specs.Shopped.{shaded_by}
use Rattle.displace_shade.specs.Shop.{shop_set}
use Rattle.render.proofs.write.write_frames.Given as goal

abbrev pub invariant-loop-index : goal.invariant-loop-index
invariant-loop-index g l = record {
  closed : g.O.FrameSink.is_open l.sink ≡ false;
  added : Adds (map whole (map (picture_of (shaded_by l.scene l.initial.shop)) (take l.index l.frames))) (g.O.FrameSink.written l.initial.sink) (g.O.FrameSink.written l.sink);
  says : Says (filter_map (summary_of l.options (shaded_by l.scene l.initial.shop)) (take l.index l.frames)) (g.N.Notes.lines l.initial.notes) (g.N.Notes.lines l.notes) (g.N.Notes.faults l.initial.notes) (g.N.Notes.faults l.notes);
  later : g.O.FrameSink.faults l.initial.sink ≤ g.O.FrameSink.faults l.sink;
  set : shop_set l.shop ≡ shop_set l.initial.shop;
  count : l.shop.count ≤ 2 ^ 52 * l.index;
  epochs : l.report.epochs ≤ (2 ^ 52 + 1) * l.index;
}
