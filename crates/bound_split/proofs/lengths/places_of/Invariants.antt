use Rattle.std.proofs.Common.{◌≡◌, map, take}
use Rattle.bound_split.specs.Lengths.{place_of}
use Rattle.bound_split.proofs.lengths.places_of.Given as goal

abbrev pub invariant-loop-point : goal.invariant-loop-point
invariant-loop-point l = l.places.items ≡ map (place_of l.camera) (take l.point-index l.points)
