use Rattle.std.proofs.Common.{◌≡◌, map, take}
use Rattle.serde_json.specs.View.{view}
use Rattle.account_text.specs.Fragments.{fragment_json}
use Rattle.account_text.proofs.fragments.fragments_json.Given as goal

abbrev pub invariant-loop-fragment : goal.invariant-loop-fragment
invariant-loop-fragment l = map view l.list.items ≡ map (fragment_json l.points) (take l.fragment-index l.fragments)
