use Rattle.std.proofs.Common.{◌≡◌, map, take}
use Rattle.primitives.specs.Spread.{spread_param}
use Rattle.primitives.proofs.spread.spread_params.Given as goal

abbrev pub invariant-loop-param : goal.invariant-loop-param
invariant-loop-param l = l.spread.items ≡ map (spread_param l.halves) (take l.param-index l.params)
