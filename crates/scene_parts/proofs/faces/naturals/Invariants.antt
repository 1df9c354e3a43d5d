use Rattle.std.proofs.Common.{◌≡◌, drop}
use Rattle.mesh_basis.proofs.Runs.{with_front}
use Rattle.scene_parts.specs.Faces.{naturals}
use Rattle.scene_parts.proofs.faces.naturals.Given as goal

abbrev pub invariant-loop-number : goal.invariant-loop-number
invariant-loop-number l = with_front l.all.items (naturals (drop l.number-index l.numbers)) ≡ naturals l.numbers
