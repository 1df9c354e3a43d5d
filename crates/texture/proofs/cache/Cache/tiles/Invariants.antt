use Rattle.std.proofs.Common.{◌≡◌, ◌≤◌, take}
use Rattle.std.specs.Prelude.{is_some}
use Rattle.std.specs.List.{count_by}
use Rattle.texture.specs.Slots.{keys_of}
use Rattle.texture.proofs.cache.Cache.tiles.Given as goal

abbrev pub invariant-loop-i : goal.invariant-loop-i
invariant-loop-i l = record {
  value : l.count ≡ count_by is_some (take l.i (keys_of l.self-inside.slots.items));
  most : l.count ≤ l.i;
}
