use Rattle.std.proofs.Common.{◌≡◌, ◌≤◌, ◌*◌, ◌^◌, false, map, take}
use Rattle.outside.specs.Frames.{whole, Adds}
use Rattle.render.specs.Parts.{part_picture, placed_from}
use Rattle.buckets.specs.Shopped.{shaded_by}
use Rattle.displace_shade.specs.Shop.{shop_set}
use Rattle.render.proofs.write_parts.write_each.Given as goal

abbrev pub invariant-loop-index : goal.invariant-loop-index
invariant-loop-index g l = record {
  closed : g.O.FrameSink.is_open l.sink ≡ false;
  added : Adds (map whole (map (part_picture l.task (shaded_by l.scene l.initial.shop)) (take l.index (placed_from 0 l.frames)))) (g.O.FrameSink.written l.initial.sink) (g.O.FrameSink.written l.sink);
  later : g.O.FrameSink.faults l.initial.sink ≤ g.O.FrameSink.faults l.sink;
  set : shop_set l.shop ≡ shop_set l.initial.shop;
  count : l.shop.count ≤ 2 ^ 52 * l.index;
}
