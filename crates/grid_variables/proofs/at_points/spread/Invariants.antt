use Rattle.std.proofs.Common.{◌≡◌}
use Rattle.grid_variables.specs.Variables.{spread_by}
use Rattle.grid_variables.specs.Places.{over}
use Rattle.grid_variables.proofs.at_points.spread.Given as goal

abbrev pub invariant-loop-i : goal.invariant-loop-i
invariant-loop-i l = l.values.items ≡ over l.i (spread_by l.turn l.leaf l.variable)
