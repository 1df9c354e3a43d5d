use Rattle.std.proofs.Common.{map, take, drop}
use Rattle.acceptance.proofs.Images.{ImagesSoFar}
use Rattle.acceptance.proofs.textures.fetch_all.Given as goal

abbrev pub invariant-loop-name : goal.invariant-loop-name
invariant-loop-name g l =
    ImagesSoFar (map (λ t. t.now) l.names) (map (λ t. t.now) (take l.name-index l.names)) (map (λ t. t.now) (drop l.name-index l.names)) l.all.textures.items
    (g.L.Library.held l.initial.library) (g.L.Library.held l.library) (g.L.Library.asked l.initial.library) (g.L.Library.asked l.library)
    (g.L.Library.faults l.initial.library) (g.L.Library.faults l.library)
