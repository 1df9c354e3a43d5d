use Rattle.std.proofs.Common.{◌≡◌, map, take}
use Rattle.serde_json.specs.View.{view}
use Rattle.account_text.specs.Account.{whole}
use Rattle.account_text.proofs.pixel.rounded_json.Given as goal

abbrev pub invariant-loop-number : goal.invariant-loop-number
invariant-loop-number l = map view l.list.items ≡ map whole (take l.number-index l.numbers)
