use Rattle.std.proofs.Common.{◌≡◌, map, take}
use Rattle.serde_json.specs.View.{view}
use Rattle.account_text.specs.Numbers.{count}
use Rattle.account_text.proofs.pixel.bytes_json.Given as goal

abbrev pub invariant-loop-byte : goal.invariant-loop-byte
invariant-loop-byte l = map view l.list.items ≡ map count (take l.byte-index l.bytes)
