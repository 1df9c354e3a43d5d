use Rattle.std.proofs.Common.{◌≡◌, drop}
use Rattle.scene_parts.specs.Faces.{use_up}
use Rattle.scene_parts.proofs.faces.use_up.Given as goal

abbrev pub invariant-loop-size : goal.invariant-loop-size
invariant-loop-size l = use_up (drop l.size-index l.sizes) l.left ≡ use_up l.sizes l.corners
