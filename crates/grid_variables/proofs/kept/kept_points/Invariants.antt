use Rattle.std.proofs.Common.{◌≡◌, get_or}
use Rattle.fixed_math.specs.Axes.{origin}
use Rattle.grid_variables.specs.Kept.{moved}
use Rattle.grid_variables.specs.Places.{over}
use Rattle.grid_variables.proofs.kept.kept_points.Given as goal

abbrev pub invariant-loop-i : goal.invariant-loop-i
invariant-loop-i l = l.points.items ≡ over l.i (λ i. moved l.bound (get_or l.old i origin) (get_or l.new i origin))
