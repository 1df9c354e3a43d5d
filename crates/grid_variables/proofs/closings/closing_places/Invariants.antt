use Rattle.std.proofs.Common.{◌≡◌, get_or}
use Rattle.fixed_math.specs.Axes.{origin}
use Rattle.moving.specs.Closing.{closing_place}
use Rattle.grid_variables.specs.Places.{over}
use Rattle.grid_variables.proofs.closings.closing_places.Given as goal

abbrev pub invariant-loop-i : goal.invariant-loop-i
invariant-loop-i l = l.places.items ≡ over l.i (λ i. closing_place (get_or l.last i origin) (get_or l.before i origin) (get_or l.after i origin))
