use Rattle.std.proofs.Common.{◌≡◌, map, take}
use Rattle.serde_json.specs.View.{view}
use Rattle.account_text.specs.Account.{sample_json}
use Rattle.account_text.proofs.pixel.samples_json.Given as goal

abbrev pub invariant-loop-sample : goal.invariant-loop-sample
invariant-loop-sample l = map view l.list.items ≡ map (sample_json l.points) (take l.sample-index l.samples)
