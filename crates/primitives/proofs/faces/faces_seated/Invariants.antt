use Rattle.std.proofs.Common.{◌≡◌, ◌+◌, ◌++◌, true, length, drop}
use Rattle.scene_parts.specs.Faces.{are_places}
use Rattle.primitives.specs.Patches.{faces_from}
use Rattle.primitives.proofs.Seating.{Left}
use Rattle.primitives.proofs.faces.faces_seated.Given as goal

abbrev pub invariant-loop-size : goal.invariant-loop-size
invariant-loop-size l =
    (l.all.items ++ faces_from l.variables l.points l.index l.first (drop l.size-index l.sizes) l.rest ≡ faces_from l.variables l.points 0 0 l.sizes l.corners)
    × (Left (drop l.size-index l.sizes) (length l.rest)
    × ((l.index ≡ l.size-index) × ((l.first + length l.rest ≡ length l.corners) × (are_places (length l.points) l.rest ≡ true))))
