use Rattle.std.proofs.Common.{◌≡◌, map, take}
use Rattle.fixed_math.specs.Axes.{part_of}
use Rattle.grid_variables.proofs.at_points.parts.Given as goal

abbrev pub invariant-loop-triple : goal.invariant-loop-triple
invariant-loop-triple l = l.numbers.items ≡ map (part_of l.axis) (take l.triple-index l.triples)
