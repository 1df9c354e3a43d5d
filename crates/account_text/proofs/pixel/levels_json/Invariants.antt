use Rattle.std.proofs.Common.{◌≡◌, map, take}
use Rattle.serde_json.specs.View.{view}
use Rattle.account_text.specs.Numbers.{count}
use Rattle.account_text.proofs.pixel.levels_json.Given as goal

abbrev pub invariant-loop-level : goal.invariant-loop-level
invariant-loop-level l = map view l.list.items ≡ map count (take l.level-index l.levels)
