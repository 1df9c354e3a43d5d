use Rattle.std.proofs.Common.{◌≡◌, map, take}
use Rattle.grid_variables.specs.Kept.{opacity}
use Rattle.grid_variables.proofs.kept.kept_opacities.Given as goal

abbrev pub invariant-loop-each : goal.invariant-loop-each
invariant-loop-each l = l.shares.items ≡ map opacity (take l.each-index l.opacities)
