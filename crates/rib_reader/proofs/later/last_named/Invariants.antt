use Rattle.std.proofs.Common.{◌≡◌, drop, option_map}
use Rattle.std.specs.Option.{option_or}
use Rattle.rib_reader.specs.Holding.{last_named}
use Rattle.rib_reader.proofs.later.last_named.Given as goal

abbrev pub invariant-loop-param : goal.invariant-loop-param
invariant-loop-param l = option_or (last_named l.name (drop l.param-index l.params)) (option_map (λ p. p.now) l.found) ≡ last_named l.name l.params
